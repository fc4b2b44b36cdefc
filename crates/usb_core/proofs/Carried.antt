-- What is kept with transfers stays with them where the parts are these.
use Rattle.std.proofs.Common.{◌≡◌, ℕ, refl, sym, subst, List, Option, Some, None}
use Rattle.std.specs.Prelude.{IsSome}
use Rattle.usb_tables.specs.HandleState.{Kept as HandleState}
use Rattle.usb_tables.specs.HandleStates.{SameNumbers}
use Rattle.usb_tables.specs.declared.transfer.Transfer.{Transfer as InFlight}
use Rattle.usb_tables.specs.TransfersInFlight.{TransfersInFlight, item_at}
use Rattle.usb_tables.specs.declared.ending.Ending.{Ending}
use Rattle.refine_core.specs.Payloads.{StillCarries}
use Rattle.refine_core.specs.Deliveries.{asked_ending}
use Rattle.refine_core.specs.State.{State}
use Rattle.refine_core.proofs.Payloads.{Follows, still_by}

module _ {P : Type 0} where
  -- nothing of it changed
  pub same_parts : (old seen : State P) → seen ≡ old → StillCarries old seen
  same_parts old seen is = subst (λ (s : State P). StillCarries s seen) is (λ kept carried. carried)

  -- the transfers in flight follow those before, and the numbers stay
  pub parts_follow : (old seen : State P) → seen ≡ old → (f : TransfersInFlight (InFlight P)) (callers : List HandleState) → Follows seen.flights f → SameNumbers seen.callers callers → StillCarries old (record seen { flights = f; callers = callers })
  parts_follow old seen is f callers follows numbers = still_by old seen (record seen { flights = f; callers = callers }) is follows numbers

  -- only callers changed, and not their numbers
  pub callers_follow : (old seen : State P) → seen ≡ old → (callers : List HandleState) → SameNumbers seen.callers callers → StillCarries old (record seen { callers = callers })
  callers_follow old seen is callers numbers = parts_follow old seen is seen.flights callers (λ R each. each) numbers

  -- only transfers
  pub flights_follow : (old seen : State P) → seen ≡ old → (f : TransfersInFlight (InFlight P)) → Follows seen.flights f → StillCarries old (record seen { flights = f })
  flights_follow old seen is f follows = parts_follow old seen is f seen.callers follows (λ g. refl)

  -- a transfer of the parts is one as they are seen
  pub live_seen : (old seen : State P) → seen ≡ old → (d e item : ℕ) → IsSome (item_at old.flights d e item) → IsSome (item_at seen.flights d e item)
  live_seen old seen is d e item = subst (λ (s : State P). IsSome (item_at s.flights d e item)) (sym is)

  -- one that is withdrawn is a transfer
  pub live_asked : (o : Option (InFlight P)) (x : Ending) → Some x ≡ asked_ending o → IsSome o
  live_asked None x asked = absurd cc
  live_asked (Some t) x asked = refl
