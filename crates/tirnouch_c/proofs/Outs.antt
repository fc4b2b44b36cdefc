-- A result that goes out, and whose callback ends.
use Rattle.std.proofs.Common.{◌≡◌, ◌∷◌, ℕ, false, List, Option, Some, None, is_some, refl, sym}
use Rattle.usb_core.specs.Public.{Carries, CarriesOut, Kept, State, TakesAndStops}
use Rattle.usb_core.specs.declared.results.Taken.{Taken}
use Rattle.usb_model.specs.World.{world_from}
use Rattle.usb_model.specs.World.Journal.{journal_from}
use Rattle.tirnouch_c.specs.declared.session.Session.{Session}
use Rattle.tirnouch_c.specs.Results.{GoesOut}

-- of lists that are the same the first are
first_is : {A : Type 0} (x y : A) (xs ys : List A) → x ∷ xs ≡ y ∷ ys → x ≡ y
first_is x y xs ys is = cc

-- a result that goes out, and whose callback ends at once
pub out_at_once : (x : Taken ℕ) (old new : State ℕ) → TakesAndStops old (Some x) new → ((kept : Kept ℕ) → Carries kept old → CarriesOut kept (Some x) × Carries kept new) → GoesOut x old new
unfolding world_from journal_from
out_at_once x old new turned carries = record {
  oldest = λ setup w shows. sym (first_is _ _ _ _ (turned setup w shows).0);
  shows = λ setup w shows. (turned setup w shows).1;
  its = λ kept carried. (carries kept carried).0;
  carries = λ kept carried. (carries kept carried).1;
}

-- where there is no session
pub empty : (o : Option Session) → is_some o ≡ false → o ≡ None
empty None is = refl
empty (Some s) is = absurd cc
