-- A transfer in between: with the bytes that it had after some of the packets in a row.
use Rattle.std.proofs.Common.{◌≡◌, ℕ, zero, suc, ◌<◌, refl, ap, sym, ◌∙◌, List, [], ◌∷◌, length, Option, None}
use Rattle.std.specs.Prelude.{slice_set, slice_index_or}
use Rattle.usb_model.specs.declared.request.Body.{Body}
use Rattle.usb_model.specs.declared.request.Body.TheVariants.{In, Out}
use Rattle.usb_xhc.specs.Controller.{Controller}
use Rattle.usb_xhc.specs.Skims.{controller_read, controller_skimmed}
use Rattle.usb_tables.specs.ByEndpoint.{lane_at}
use Rattle.usb_tables.specs.TransfersInFlight.{TransfersInFlight, item_at, line_at, with_item, with_line}
use Rattle.refine_core.specs.Packets.{bytes_for, bytes_skimmed, out_of}
use Rattle.refine_core.proofs.EndpointQueues.{line_here}

-- one packet more
pub skimmed_next : (k : Controller) (d e i : ℕ) (body : Body) (bytes : List ℕ) → bytes_skimmed k d e (suc i) body bytes ≡ bytes_for (controller_skimmed d e (out_of e body) i k) d e body (bytes_skimmed k d e i body bytes)
unfolding controller_read
skimmed_next k d e i (In n) bytes = refl
skimmed_next k d e i (Out sent) bytes = refl

pub skimmed_none : (k : Controller) (d e : ℕ) (body : Body) (bytes : List ℕ) → bytes_skimmed k d e 0 body bytes ≡ bytes
unfolding controller_read
skimmed_none k d e (In n) bytes = refl
skimmed_none k d e (Out sent) bytes = refl

-- what is set twice is set once
pub set_twice : {A : Type 0} (xs : List A) (i : ℕ) (x y : A) → slice_set (slice_set xs i x) i y ≡ slice_set xs i y
set_twice [] i x y = refl
set_twice (z ∷ zs) zero x y = refl
set_twice (z ∷ zs) (suc i) x y = ap (λ (ys : List _). z ∷ ys) (set_twice zs i x y)

-- what is read is what may be set
pub set_read : {A : Type 0} (xs : List A) (i : ℕ) (z : A) → slice_set xs i (slice_index_or xs i z) ≡ xs
set_read [] i z = refl
set_read (x ∷ xs) zero z = refl
set_read (x ∷ xs) (suc i) z = ap (λ (ys : List _). x ∷ ys) (set_read xs i z)

module _ {T : Type 0} where
  -- an item that is put twice is put once
  pub put_twice : (f : TransfersInFlight T) (d e item : ℕ) (x y : Option T) → length f.lines ≡ 128 → lane_at d e < 128 → with_item (with_item f d e item x) d e item y ≡ with_item f d e item y
  put_twice f d e item x y all lane =
      ap (λ (l : List (Option T)). with_line (with_item f d e item x) d e (slice_set l item y)) (line_here f d e (slice_set (line_at f d e) item x) all lane)
      ∙ ap (λ (l : List (Option T)). with_line (with_item f d e item x) d e l) (set_twice (line_at f d e) item x y)
      ∙ ap (λ (ls : List (List (Option T))). record f { lines = ls }) (set_twice f.lines (lane_at d e) (slice_set (line_at f d e) item x) (slice_set (line_at f d e) item y))

  -- and the one that is there may be put
  pub put_read : (f : TransfersInFlight T) (d e item : ℕ) (x : Option T) → item_at f d e item ≡ x → with_item f d e item x ≡ f
  put_read f d e item x there =
      ap (λ (y : Option T). with_line f d e (slice_set (line_at f d e) item y)) (sym there)
      ∙ ap (λ (l : List (Option T)). with_line f d e l) (set_read (line_at f d e) item None)
      ∙ ap (λ (ls : List (List (Option T))). record f { lines = ls }) (set_read f.lines (lane_at d e) [])
