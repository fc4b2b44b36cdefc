-- What is ordered when a transfer is asked to end, and when its end is told.
use Rattle.std.proofs.Common.{Bool, None, Option, Some, [], ap, false, refl, subst, sym, true, ℕ, ◌∙◌, ◌∷◌, ◌≡◌}
use Rattle.std.specs.Prelude.{if◌then◌else◌, is_some}
use Rattle.usb_model.specs.declared.errand.Errand.{Errand}
use Rattle.usb_model.specs.declared.errand.Errand.TheVariants.{Reset, Stop}
use Rattle.usb_model.specs.declared.item.Ask.{Ask}
use Rattle.usb_model.specs.declared.reply.Reply.TheVariants.{Done, Finished}
use Rattle.usb_model.specs.Endpoint.Deliver.{needs_reset}
use Rattle.usb_model.specs.Kept.{KeptEndpoint, SentErrand}
use Rattle.usb_model.specs.Events.{Handled, Reading, errand_of, finish, kept_result, posts}
use Rattle.usb_model.specs.Joins.{asked}
use Rattle.usb_tables.specs.Orders.{ordered, with_ask, without_ended}

-- there is an order of the errand just where there is an errand
some_errand : (s : Option SentErrand) (o : Option Errand) → errand_of s ≡ o → is_some s ≡ is_some o
some_errand None o e = ap is_some e
some_errand (Some s) o e = ap is_some e

-- an ask orders Stop where no errand is outstanding
pub asks_by : (outstanding : Option Errand) (t : Bool) → is_some outstanding ≡ t → (next n : ℕ) (why : Ask) (b : KeptEndpoint) → errand_of b.errand ≡ outstanding
    → asked next b n why ≡ ordered (if t then None else Some Stop) next (with_ask n why b) Done []
asks_by outstanding true there next n why b e =
    subst
    (λ u. (if u then ordered None next (with_ask n why b) Done [] else posts (with_ask n why b) Stop next Done []) ≡ ordered None next (with_ask n why b) Done [])
    (sym (some_errand b.errand outstanding e ∙ there)) refl
asks_by outstanding false there next n why b e =
    subst
    (λ u. (if u then ordered None next (with_ask n why b) Done [] else posts (with_ask n why b) Stop next Done []) ≡ posts (with_ask n why b) Stop next Done [])
    (sym (some_errand b.errand outstanding e ∙ there)) refl

-- a told end orders Reset where that is needed
pub ends_by : (outstanding : Option Errand) (code : ℕ) (t : Bool) → needs_reset code outstanding ≡ t → (gone : Bool) (next p : ℕ) (b : KeptEndpoint) (found : Reading) → errand_of b.errand ≡ outstanding
    → finish gone next b p code found ≡ ordered (if t then Some Reset else None) next (without_ended p code b) (Finished found.kept.n) (kept_result gone code found.kept found.actual ∷ [])
unfolding finish
ends_by outstanding code t needs gone next p b found e = by_test t (ap (needs_reset code) e ∙ needs)
  where
    done : Option Errand → Handled
    done o = ordered o next (without_ended p code b) (Finished found.kept.n) (kept_result gone code found.kept found.actual ∷ [])

    by_test : (t : Bool) → needs_reset code (errand_of b.errand) ≡ t → (if needs_reset code (errand_of b.errand) then done (Some Reset) else done None) ≡ done (if t then Some Reset else None)
    by_test true q = subst (λ u. (if u then done (Some Reset) else done None) ≡ done (Some Reset)) (sym q) refl
    by_test false q = subst (λ u. (if u then done (Some Reset) else done None) ≡ done None) (sym q) refl
