-- Whose a step is.
use Rattle.std.proofs.Common.{◌≡◌, ℕ, Bool, true, false, List, [], ◌∷◌, Option, Some, None, refl, ap, sym, ◌∙◌, subst}
use Rattle.std.specs.Prelude.{◌≢◌}
use Rattle.usb_model.specs.declared.reply.Reply.TheVariants as reply
use Rattle.usb_model.specs.declared.step.Step.{Step}
use Rattle.usb_model.specs.declared.step.Step.TheVariants.{Serve, Command, Deliver, Take, Unplug}
use Rattle.usb_model.specs.declared.shared.Tagged.{Tagged}
use Rattle.usb_model.specs.Setup.{Setup}
use Rattle.usb_model.specs.World.{World, owner_of, is_blocked, turn_of_nobody, turn_by, turn}
use Rattle.usb_model.specs.World.Shared.{first_name}
use Rattle.proof_model.proofs.Handles.Isolation.{effect_to, turn_blocked, turn_free}
use Rattle.proof_laws.specs.Whose.{BeginsWith, IsOf, IsNobodys}
use Rattle.proof_laws.specs.Isolation.{NamesOwner, NamesNobody, IdlesForNobody}
use Rattle.proof_laws.proofs.Endpoints.{holder_is, holds_it, nobody_holds, no_holder}

-- the entry of a turn has the step's owner
entry_owner : (setup : Setup) (w : World) (step : Step) → (turn setup w step).entry.owner ≡ owner_of setup w step
unfolding turn turn_of_nobody
entry_owner setup w step = by_owner (owner_of setup w step)
  where
    nobodys : (step : Step) → (turn_of_nobody setup w step).entry.owner ≡ None
    nobodys (Unplug dev) = refl
    nobodys _ = refl

    by_test : (h : ℕ) (b : Bool) → is_blocked setup h w (effect_to setup h w step).change ≡ b → (turn_by setup (Some h) w step).entry.owner ≡ Some h
    by_test h true is = ap (λ t. t.entry.owner) (turn_blocked setup h w step is)
    by_test h false is = ap (λ t. t.entry.owner) (turn_free setup h w step is)

    by_owner : (o : Option ℕ) → (turn_by setup o w step).entry.owner ≡ o
    by_owner None = nobodys step
    by_owner (Some h) = by_test h (is_blocked setup h w (effect_to setup h w step).change) refl

-- a list whose first piece is the name's begins with one
begins_with : {A : Type 0} (h : ℕ) (xs : List (Tagged A)) → first_name xs ≡ Some h → BeginsWith h xs
begins_with h [] e = absurd cc
begins_with h (x ∷ xs) e = let its : x.name ≡ h = cc in (x.piece, xs, ap (λ k. record { name = k; piece = x.piece } ∷ xs) its)

-- and the other way round
first_is : {A : Type 0} (h : ℕ) (xs : List (Tagged A)) → BeginsWith h xs → first_name xs ≡ Some h
first_is h xs (piece, rest, is) = ap first_name is

-- a list without a first piece is empty
is_empty : {A : Type 0} (xs : List (Tagged A)) → first_name xs ≡ None → xs ≡ []
is_empty [] e = refl
is_empty (x ∷ xs) e = absurd cc

-- the step is its owner's
owned_of : (setup : Setup) (w : World) (h : ℕ) (step : Step) → owner_of setup w step ≡ Some h → IsOf setup w h step
owned_of setup w h (Serve dev ep) e = holds_it setup w h dev ep e
owned_of setup w h Command e = begins_with h w.orders e
owned_of setup w h Deliver e = begins_with h w.news e
owned_of setup w h Take e = begins_with h w.results e
owned_of setup w h _ e = cc

-- and the other way round
of_owned : (setup : Setup) (w : World) (h : ℕ) (step : Step) → IsOf setup w h step → owner_of setup w step ≡ Some h
of_owned setup w h (Serve dev ep) x = holder_is setup w h dev ep x
of_owned setup w h Command x = first_is h w.orders x
of_owned setup w h Deliver x = first_is h w.news x
of_owned setup w h Take x = first_is h w.results x
of_owned setup w h (Unplug dev) x = absurd x
of_owned setup w h _ x = ap (λ k. Some k) x

-- a step without an owner is nobody's
unowned : (setup : Setup) (w : World) (step : Step) → owner_of setup w step ≡ None → IsNobodys setup w step
unowned setup w (Serve dev ep) e = nobody_holds setup w dev ep e
unowned setup w Command e = is_empty w.orders e
unowned setup w Deliver e = is_empty w.news e
unowned setup w Take e = is_empty w.results e
unowned setup w (Unplug dev) e = tt
unowned setup w _ e = cc

-- and the other way round
nobodys_none : (setup : Setup) (w : World) (step : Step) → IsNobodys setup w step → owner_of setup w step ≡ None
nobodys_none setup w (Serve dev ep) x = no_holder setup w dev ep x
nobodys_none setup w Command x = ap first_name x
nobodys_none setup w Deliver x = ap first_name x
nobodys_none setup w Take x = ap first_name x
nobodys_none setup w (Unplug dev) x = refl
nobodys_none setup w _ x = absurd x

-- a step is its owner's
pub names_owner : (setup : Setup) (w : World) (step : Step) (h : ℕ) → NamesOwner setup w step h
names_owner setup w step h = (
  λ e. owned_of setup w h step (sym (entry_owner setup w step) ∙ e),
  λ x. entry_owner setup w step ∙ of_owned setup w h step x,
)

-- or nobody's
pub names_nobody : (setup : Setup) (w : World) (step : Step) → NamesNobody setup w step
names_nobody setup w step = (
  λ e. unowned setup w step (sym (entry_owner setup w step) ∙ e),
  λ x. entry_owner setup w step ∙ nobodys_none setup w step x,
)

-- nobody's step rests, but for an Unplug
nobody_rests : (setup : Setup) (w : World) (step : Step) → ((dev : ℕ) → step ≢ Unplug dev)
    → ((turn_of_nobody setup w step).entry.reply ≡ reply.Idle) × ((turn_of_nobody setup w step).world ≡ w)
unfolding turn_of_nobody
nobody_rests setup w (Unplug dev) other = absurd (other dev refl)
nobody_rests setup w _ other = (refl, refl)

-- so it is in the world
pub idles_for_nobody : (setup : Setup) (w : World) (step : Step) → IdlesForNobody setup w step
unfolding turn
idles_for_nobody setup w step x other =
    subst (λ o. ((turn_by setup o w step).entry.reply ≡ reply.Idle) × ((turn_by setup o w step).world ≡ w)) (sym (nobodys_none setup w step x)) (nobody_rests setup w step other)
