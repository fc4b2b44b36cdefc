-- Endpoints of which one is another.
use Rattle.std.proofs.Common.{◌≡◌, ℕ, refl, ap, ap₂, Bool, eq-eqb, ne_eqb}
use Rattle.std.specs.Prelude.{◌==◌, ◌&&◌, if◌then◌else◌}
use Rattle.std.proofs.lemmas.Bool.{and_right}
use Rattle.usb_model.specs.Kept.{KeptEndpoint}
use Rattle.refine_rings.specs.Holds.{with_end}

-- there it is the other
pub here : (endpoints : ℕ → ℕ → KeptEndpoint) (d e : ℕ) (b : KeptEndpoint) → with_end endpoints d e b d e ≡ b
here endpoints d e b = ap₂ (λ (x y : Bool). if x && y then b else endpoints d e) (eq-eqb d d refl) (eq-eqb e e refl)

-- other devices' endpoints stay
pub at_other : (endpoints : ℕ → ℕ → KeptEndpoint) (d e : ℕ) (b : KeptEndpoint) (dev ep : ℕ) → (d ≡ dev → ⊥) → with_end endpoints d e b dev ep ≡ endpoints dev ep
at_other endpoints d e b dev ep other = ap (λ (x : Bool). if x && (e == ep) then b else endpoints dev ep) (ne_eqb d dev other)

-- and other endpoints
pub beside : (endpoints : ℕ → ℕ → KeptEndpoint) (d e : ℕ) (b : KeptEndpoint) (dev ep : ℕ) → (e ≡ ep → ⊥) → with_end endpoints d e b dev ep ≡ endpoints dev ep
beside endpoints d e b dev ep other = ap (λ (x : Bool). if x then b else endpoints dev ep) (and_right (d == dev) (e == ep) (ne_eqb e ep other))
