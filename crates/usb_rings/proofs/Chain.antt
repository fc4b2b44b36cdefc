-- The chain bit of a ring's Link.
use Rattle.std.proofs.Common.{◌≡◌, ℕ, ◌-◌, ◌<◌, ◌≤◌, Bool, false, ap, ◌∙◌, length, List, inl, inr, ◌⊎◌}
use Rattle.std.specs.Prelude.{not}
use Rattle.std.proofs.lemmas.Bool.{cases_eq}
use Rattle.usb_trb.specs.declared.kind.TrbKind.{TrbKind}
use Rattle.usb_trb.specs.Words.{trb_bytes, IsKind}
use Rattle.usb_trb.specs.Read.{kind_of}
use Rattle.usb_rings.specs.Places.{index_of, cycle_of}
use Rattle.usb_rings.specs.Memory.{Memory, chain_of, link_at, put}
use Rattle.usb_rings.proofs.Cells.{kind-put, cell-put-other}
use Rattle.usb_rings.proofs.Fresh.{cell-cleared, zeros-chain}
use Rattle.usb_rings.specs.Chain.{IsUnchained, LinkStaysUnchained}

-- a TRB without CH, put at any place
kept : (w : ℕ) (m : Memory) (p : ℕ) (k : TrbKind) → 0 < w → w ≤ length m.cells → IsKind k → chain_of k ≡ false → IsUnchained w m → IsUnchained w (put w m p k)
kept w m p k z size h none old = by_index (cases_eq (index_of w (w - 1)) (index_of w p))
  where
    by_index : (index_of w (w - 1) ≡ index_of w p) ⊎ (index_of w (w - 1) ≡ index_of w p → ⊥) → IsUnchained w (put w m p k)
    by_index (inl same) = ap chain_of (kind-put w m p (w - 1) k z size h same) ∙ none
    by_index (inr other) = ap (λ (c : List ℕ). chain_of (kind_of c)) (cell-put-other w m p (w - 1) k z other) ∙ old

-- the law
pub link-stays-unchained : LinkStaysUnchained
link-stays-unchained = record {
  made = λ w size base z h. ap (λ (c : List ℕ). chain_of (kind_of c)) (cell-cleared w size base (w - 1) z h) ∙ zeros-chain;
  kept = kept;
  link = λ w r s none long. s.link long ∙ ap (λ (b : Bool). trb_bytes (link_at r.memory.base b (not (cycle_of w r.posted)))) none;
}
