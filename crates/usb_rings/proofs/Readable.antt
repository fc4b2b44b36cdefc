-- What the controller reads from memory.
use Rattle.std.proofs.Common.{◌≡◌, ℕ, ◌+◌, ◌%◌, refl, ap, sym, ◌∙◌, subst, arith, List}
use Rattle.std.specs.Prelude.{not}
use Rattle.usb_trb.specs.Words.{trb_bytes}
use Rattle.usb_trb.specs.Read.{cycle_in}
use Rattle.usb_rings.specs.Places.{cycle_of}
use Rattle.usb_rings.specs.Memory.{Memory, cell, kind_at, chain_of, link_at}
use Rattle.usb_rings.specs.Written.{kinds}
use Rattle.usb_rings.proofs.Lists.{window-read}
use Rattle.usb_rings.specs.Line.{places, all_of, contents, place_of}
use Rattle.usb_rings.specs.View.{IsRing, split, back, line_in, IsSound}
use Rattle.usb_rings.proofs.ItemsTrbs.{some-places, all_of-split}
use Rattle.usb_rings.proofs.Views.{contents-are, enqueue-is}
use Rattle.usb_rings.proofs.Changes.{place-is}

-- a ring is read from its bytes
pub ring-is : (m : Memory) (e left held : ℕ) (ns : List ℕ) → IsSound m e left held ns → IsRing (record { line = line_in m e left held ns; memory = m })
ring-is m e left held ns s =
    let at = enqueue-is m e left held ns s.place s.left_fits s.held_fits s.counted in
    record {
      base = refl;
      size = s.size;
      taken = window-read places m (back e left) left (back e left % 254) (contents (line_in m e left held ns)) some-places s.left_written
          (contents-are m e left held ns s.left_fits s.held_fits s.counted) (omega arith);
      items = window-read places m (back e held) held (place_of (line_in m e left held ns) 0) (all_of (split m (back e held) ns)) some-places s.held_written
          (all_of-split m (back e held) ns ∙ ap (kinds places m (back e held)) s.counted)
          (ap (λ (q : ℕ). q % 254) (place-is m e left held ns 0 s.place s.left_fits s.held_fits s.counted) ∙ twice);
      next = subst (λ (q : ℕ). cycle_in (cell places m q) ≡ not (cycle_of places q)) (sym at) (s.memory.turned e (omega arith) (omega arith));
      link = s.memory.linked s.size ∙ ap (λ (q : ℕ). trb_bytes (link_at m.base (chain_of (kind_at places m 126)) (not (cycle_of places q)))) (sym at);
    }
  where
    twice : (back e held + 0) % 254 % 254 ≡ back e held % 254
    twice = omega arith
