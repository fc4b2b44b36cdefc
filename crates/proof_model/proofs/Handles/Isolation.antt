-- What a handle sees of the world is what it sees alone.
use Rattle.std.proofs.Common.{append-nil, ◌≡◌, ℕ, ◌==◌, Bool, true, false, List, [], ◌∷◌, ◌⊎◌, inl, inr, Option, Some, None, refl, ap, ap₂, sym, ◌∙◌, subst}
use Rattle.std.specs.Prelude.{if◌then◌else◌}
use Rattle.std.specs.Option.{option_and_then}
use Rattle.std.proofs.lemmas.Bool.{cond-false, cond-true, eqb-true, and_right}
use Rattle.usb_model.specs.declared.refused.Refused.TheVariants.{HeldElsewhere}
use Rattle.usb_model.specs.declared.reply.Reply.{Reply}
use Rattle.usb_model.specs.declared.reply.Reply.TheVariants.{Refused}
use Rattle.usb_model.specs.declared.entry.Entry.{Entry}
use Rattle.usb_model.specs.declared.step.Step.{Step}
use Rattle.usb_model.specs.declared.step.Step.TheVariants.{Command, Deliver, Take, Unplug}
use Rattle.usb_model.specs.declared.handle.Handle.{Handle}
use Rattle.usb_model.specs.World.Shared.{pieces_of, first_name}
use Rattle.usb_model.specs.Setup.{Setup, interface_of}
use Rattle.usb_model.specs.Endpoint.{fresh}
use Rattle.usb_model.specs.Machine.{unused, new_machine}
use Rattle.usb_model.specs.declared.effect.Effect.{Effect}
use Rattle.usb_model.specs.Machine.Turns.{effect, takes_order, takes_news, takes_result, gone_after, machine_after, maker, alone_from, alone}
use Rattle.usb_model.specs.World.{World, new_world, is_its, machine_of, owner_of, world_after, is_blocked, Turn, turn_of, turn_of_nobody, turn_by, turn}
use Rattle.usb_model.specs.World.Journal.{Place, journal_from, journal, entries_in, steps_in, is_held_elsewhere, is_unplug, is_own, own_places, own, entries}
use Rattle.proof_model.proofs.Lists.Pieces.{same_name, pieces_kept, pieces_untouched}
use Rattle.proof_model.proofs.Handles.Fair.{effect_is_fair}
use Rattle.proof_model.proofs.Handles.Changes.{held_same, held_other, ends_same, seen_other}

-- the owner of a step that takes a piece has the first piece
pub takes_its_order : (setup : Setup) (h : ℕ) (w : World) (step : Step) → owner_of setup w step ≡ Some h → takes_order step ≡ true → first_name w.orders ≡ Some h
takes_its_order setup h w Command own takes = own
takes_its_order setup h w _ own takes = absurd cc

-- of the news
pub takes_its_news : (setup : Setup) (h : ℕ) (w : World) (step : Step) → owner_of setup w step ≡ Some h → takes_news step ≡ true → first_name w.news ≡ Some h
takes_its_news setup h w Deliver own takes = own
takes_its_news setup h w _ own takes = absurd cc

-- of the results
pub takes_its_result : (setup : Setup) (h : ℕ) (w : World) (step : Step) → owner_of setup w step ≡ Some h → takes_result step ≡ true → first_name w.results ≡ Some h
takes_its_result setup h w Take own takes = own
takes_its_result setup h w _ own takes = absurd cc

-- a step with an owner is no Unplug
owned_is_no_unplug : (setup : Setup) (h : ℕ) (w : World) (step : Step) → owner_of setup w step ≡ Some h → is_unplug step ≡ false
owned_is_no_unplug setup h w (Unplug dev) own = absurd cc
owned_is_no_unplug setup h w _ own = refl

-- so its maker is its owner
pub made_by_owner : (setup : Setup) (h : ℕ) (w : World) (step : Step) → owner_of setup w step ≡ Some h → maker h step ≡ Some h
made_by_owner setup h w (Unplug dev) own = absurd cc
made_by_owner setup h w _ own = refl

-- and so no device goes by it
pub gone_stays : (setup : Setup) (gone : ℕ → Bool) (step : Step) (d : ℕ) → is_unplug step ≡ false → gone_after setup gone step d ≡ gone d
gone_stays setup gone (Unplug dev) d owned = absurd cc
gone_stays setup gone _ d owned = refl

-- a name's own handle is put in its place
own_handle : (h : ℕ) (x y : Handle) → (if h == h then x else y) ≡ x
own_handle h x y = rw (same_name h)

-- to its owner, a step of the world is the same step of the owner's machine
pub owner_steps : (setup : Setup) (h : ℕ) (w : World) (step : Step) (done : Effect) → owner_of setup w step ≡ Some h
    → machine_of setup h (world_after setup h w step done) ≡ machine_after setup (machine_of setup h w) step done
unfolding machine_of world_after machine_after
owner_steps setup h w step done own =
    λ i. record {
      handle = own_handle h done.handle (w.names h) i;
      held = λ d k. held_same h w.claims done.change d k i;
      endpoints = λ d e. ends_same setup h w.claims w.endpoints done.change d e i;
      gone = λ d. gone_after setup w.gone step d;
      orders = pieces_kept h (takes_order step) w.orders done.orders (takes_its_order setup h w step own) i;
      news = pieces_kept h (takes_news step) w.news done.news (takes_its_news setup h w step own) i;
      results = pieces_kept h (takes_result step) w.results done.results (takes_its_result setup h w step own) i;
    }

-- to each other name it is nothing
pub others_stay : (setup : Setup) (g h : ℕ) (w : World) (step : Step) (done : Effect) → owner_of setup w step ≡ Some h → (h == g) ≡ false → is_blocked setup h w done.change ≡ false
    → machine_of setup g (world_after setup h w step done) ≡ machine_of setup g w
unfolding machine_of world_after
others_stay setup g h w step done own differ free =
    λ i. record {
      handle = other_handle differ i;
      held = λ d k. held_other setup g h w done.change d k differ free i;
      endpoints = λ d e. seen_other setup g h w done.change d e differ free i;
      gone = λ d. gone_stays setup w.gone step d (owned_is_no_unplug setup h w step own) i;
      orders = pieces_untouched g h (takes_order step) w.orders done.orders differ (takes_its_order setup h w step own) i;
      news = pieces_untouched g h (takes_news step) w.news done.news differ (takes_its_news setup h w step own) i;
      results = pieces_untouched g h (takes_result step) w.results done.results differ (takes_its_result setup h w step own) i;
    }
  where
    other_handle : (h == g) ≡ false → (if h == g then done.handle else w.names g) ≡ w.names g
    other_handle e = rw e

-- what a step does to the name's machine
abbrev pub effect_to : Setup → ℕ → World → Step → Effect
effect_to setup h w step = effect setup h (machine_of setup h w) step

-- whether a step with this entry is the name's own
abbrev pub is_own_step : ℕ → Step → Entry → Bool
is_own_step h step entry = is_own h (record { step = step; entry = entry })

-- a turn is the name's own, and its machine's
abbrev pub IsOwnTurn : Setup → ℕ → World → Step → Turn → Type 0
IsOwnTurn setup h w step t =
    (is_unplug step ≡ false → owner_of setup w step ≡ Some h)
    × (t.entry ≡ record { owner = maker h step; reply = (effect_to setup h w step).reply })
    × (is_own_step h step t.entry ≡ true)
    × (machine_of setup h t.world ≡ machine_after setup (machine_of setup h w) step (effect_to setup h w step))

-- or it is nothing to the name
abbrev pub IsNothing : Setup → ℕ → World → Step → Turn → Type 0
IsNothing setup h w step t = (is_own_step h step t.entry ≡ false) × (machine_of setup h t.world ≡ machine_of setup h w)

-- one of the two
abbrev pub IsEither : Setup → ℕ → World → Step → Turn → Type 0
IsEither setup h w step t = IsOwnTurn setup h w step t ⊎ IsNothing setup h w step t

-- an entry of the name that nobody was in the way of is its own
pub its_own : (h : ℕ) (step : Step) (r : Reply) → is_unplug step ≡ false → is_held_elsewhere r ≡ false → is_own_step h step (record { owner = Some h; reply = r }) ≡ true
its_own h step r owned e = rw (owned, same_name h, e)

-- another's is not
not_its : (g h : ℕ) (step : Step) (r : Reply) → is_unplug step ≡ false → (h == g) ≡ false → is_own_step g step (record { owner = Some h; reply = r }) ≡ false
not_its g h step r owned e = rw (owned, e)

-- nor one that says that another held an interface
pub blocked_is_not : (g h : ℕ) (step : Step) → is_unplug step ≡ false → is_own_step g step (record { owner = Some h; reply = Refused HeldElsewhere }) ≡ false
blocked_is_not g h step owned = rw owned (and_right (h == g) false refl)

-- another is in the way of a step: nothing changes
abbrev pub blocked_turn : ℕ → World → Turn
blocked_turn h w = record { entry = record { owner = Some h; reply = Refused HeldElsewhere }; world = w }

-- nobody is: the step is made
abbrev pub free_turn : Setup → ℕ → World → Step → Turn
free_turn setup h w step = record { entry = record { owner = Some h; reply = (effect_to setup h w step).reply }; world = world_after setup h w step (effect_to setup h w step) }

-- the turn of a name where another is in the way
pub turn_blocked : (setup : Setup) (h : ℕ) (w : World) (step : Step) → is_blocked setup h w (effect_to setup h w step).change ≡ true → turn_of setup h w step ≡ blocked_turn h w
unfolding turn_of
turn_blocked setup h w step e = cond-true (is_blocked setup h w (effect_to setup h w step).change) _ _ e

-- and where none is
pub turn_free : (setup : Setup) (h : ℕ) (w : World) (step : Step) → is_blocked setup h w (effect_to setup h w step).change ≡ false → turn_of setup h w step ≡ free_turn setup h w step
unfolding turn_of
turn_free setup h w step e = cond-false (is_blocked setup h w (effect_to setup h w step).change) _ _ e

-- a step that nobody is in the way of is its owner's own
pub free_own : (setup : Setup) (h : ℕ) (w : World) (step : Step) → owner_of setup w step ≡ Some h → IsOwnTurn setup h w step (free_turn setup h w step)
free_own setup h w step own = (
  λ owned. own,
  ap (λ o. record { owner = o; reply = (effect_to setup h w step).reply }) (sym (made_by_owner setup h w step own)),
  its_own h step (effect_to setup h w step).reply (owned_is_no_unplug setup h w step own) (effect_is_fair setup h (machine_of setup h w) step),
  owner_steps setup h w step (effect_to setup h w step) own,
)

-- the turn of one name, to any name
pub turn_of_to : (setup : Setup) (g h : ℕ) (w : World) (step : Step) → owner_of setup w step ≡ Some h → IsEither setup g w step (turn_of setup h w step)
turn_of_to setup g h w step own = by_test (is_blocked setup h w (effect_to setup h w step).change) refl (h == g) refl
  where
    by_test : (b : Bool) → is_blocked setup h w (effect_to setup h w step).change ≡ b → (same : Bool) → (h == g) ≡ same → IsEither setup g w step (turn_of setup h w step)
    by_test true blocked same is =
        subst (IsEither setup g w step) (sym (turn_blocked setup h w step blocked)) (inr (blocked_is_not g h step (owned_is_no_unplug setup h w step own), refl))
    by_test false free true is =
        subst (IsEither setup g w step) (sym (turn_free setup h w step free))
        (subst (λ k. IsEither setup k w step (free_turn setup h w step)) (eqb-true h g is) (inl (free_own setup h w step own)))
    by_test false free false is =
        subst (IsEither setup g w step) (sym (turn_free setup h w step free))
        (inr (not_its g h step (effect_to setup h w step).reply (owned_is_no_unplug setup h w step own) is, others_stay setup g h w step (effect_to setup h w step) own is free))

-- an Unplug is a turn of every name
pub unplug_own : (setup : Setup) (h : ℕ) (w : World) (dev : ℕ) → IsOwnTurn setup h w (Unplug dev) (turn_of_nobody setup w (Unplug dev))
unfolding turn_of_nobody machine_of machine_after effect
unplug_own setup h w dev = (
  λ owned. absurd cc,
  refl,
  refl,
  rw (append-nil (pieces_of h w.orders), append-nil (pieces_of h w.news), append-nil (pieces_of h w.results)) refl,
)

-- a turn of nobody, to any name
turn_of_nobody_to : (setup : Setup) (g : ℕ) (w : World) (step : Step) → owner_of setup w step ≡ None → IsEither setup g w step (turn_of_nobody setup w step)
unfolding turn_of_nobody
turn_of_nobody_to setup g w (Unplug dev) none = inl (unplug_own setup g w dev)
turn_of_nobody_to setup g w _ none = inr (refl, refl)

-- each turn of the world is a turn of the name's machine, or nothing to the name
pub turn_to : (setup : Setup) (g : ℕ) (w : World) (step : Step) → IsEither setup g w step (turn setup w step)
unfolding turn
turn_to setup g w step = by_owner (owner_of setup w step) refl
  where
    by_owner : (o : Option ℕ) → owner_of setup w step ≡ o → IsEither setup g w step (turn_by setup (owner_of setup w step) w step)
    by_owner None e = subst (λ o. IsEither setup g w step (turn_by setup o w step)) (sym e) (turn_of_nobody_to setup g w step e)
    by_owner (Some h) e = subst (λ o. IsEither setup g w step (turn_by setup o w step)) (sym e) (turn_of_to setup g h w step e)

-- the name's own places of a run from a world on, its steps there, and its entries
abbrev pub places_from : Setup → ℕ → World → List Step → List Place
places_from setup h w steps = own_places h (journal_from setup w steps)

-- the steps at these places
abbrev pub own_from : Setup → ℕ → World → List Step → List Step
own_from setup h w steps = steps_in (places_from setup h w steps)

-- and the entries
abbrev pub entries_from : Setup → ℕ → World → List Step → List Entry
entries_from setup h w steps = entries_in (places_from setup h w steps)

-- a run's first step is the name's own
pub places_more : (setup : Setup) (h : ℕ) (w : World) (step : Step) (steps : List Step) → is_own_step h step (turn setup w step).entry ≡ true
    → places_from setup h w (step ∷ steps) ≡ record { step = step; entry = (turn setup w step).entry } ∷ places_from setup h (turn setup w step).world steps
unfolding journal_from
places_more setup h w step steps e = rw e

-- its steps then begin with that step
pub own_more : (setup : Setup) (h : ℕ) (w : World) (step : Step) (steps : List Step) → is_own_step h step (turn setup w step).entry ≡ true
    → own_from setup h w (step ∷ steps) ≡ step ∷ own_from setup h (turn setup w step).world steps
own_more setup h w step steps e = ap steps_in (places_more setup h w step steps e)

-- and its entries with that entry
pub entries_more : (setup : Setup) (h : ℕ) (w : World) (step : Step) (steps : List Step) → is_own_step h step (turn setup w step).entry ≡ true
    → entries_from setup h w (step ∷ steps) ≡ (turn setup w step).entry ∷ entries_from setup h (turn setup w step).world steps
entries_more setup h w step steps e = ap entries_in (places_more setup h w step steps e)

-- or it is not
pub places_less : (setup : Setup) (h : ℕ) (w : World) (step : Step) (steps : List Step) → is_own_step h step (turn setup w step).entry ≡ false
    → places_from setup h w (step ∷ steps) ≡ places_from setup h (turn setup w step).world steps
unfolding journal_from
places_less setup h w step steps e = rw e

-- its steps are those that follow
pub own_less : (setup : Setup) (h : ℕ) (w : World) (step : Step) (steps : List Step) → is_own_step h step (turn setup w step).entry ≡ false
    → own_from setup h w (step ∷ steps) ≡ own_from setup h (turn setup w step).world steps
own_less setup h w step steps e = ap steps_in (places_less setup h w step steps e)

-- and its entries
pub entries_less : (setup : Setup) (h : ℕ) (w : World) (step : Step) (steps : List Step) → is_own_step h step (turn setup w step).entry ≡ false
    → entries_from setup h w (step ∷ steps) ≡ entries_from setup h (turn setup w step).world steps
entries_less setup h w step steps e = ap entries_in (places_less setup h w step steps e)

-- over any run, the name's entries are those of its machine over its own steps
pub sees_alone_from : (setup : Setup) (h : ℕ) (w : World) (steps : List Step)
    → entries_from setup h w steps ≡ alone_from setup h (machine_of setup h w) (own_from setup h w steps)
unfolding journal_from alone_from
sees_alone_from setup h w [] = refl
sees_alone_from setup h w (step ∷ steps) = by_turn (turn_to setup h w step) (sees_alone_from setup h (turn setup w step).world steps)
  where
    later : World
    later = (turn setup w step).world

    by_turn : IsEither setup h w step (turn setup w step)
        → entries_from setup h later steps ≡ alone_from setup h (machine_of setup h later) (own_from setup h later steps)
        → entries_from setup h w (step ∷ steps) ≡ alone_from setup h (machine_of setup h w) (own_from setup h w (step ∷ steps))
    by_turn (inl o) rest =
        entries_more setup h w step steps o.2
        ∙ ap₂ (λ x xs. x ∷ xs) o.1 (rest ∙ ap (λ m. alone_from setup h m (own_from setup h later steps)) o.3)
        ∙ sym (ap (alone_from setup h (machine_of setup h w)) (own_more setup h w step steps o.2))
    by_turn (inr n) rest =
        entries_less setup h w step steps n.0
        ∙ rest
        ∙ ap (λ m. alone_from setup h m (own_from setup h later steps)) n.1
        ∙ sym (ap (alone_from setup h (machine_of setup h w)) (own_less setup h w step steps n.0))

-- in a new world each name's machine is new
pub new_machine_of : (setup : Setup) (h : ℕ) → machine_of setup h (new_world setup) ≡ new_machine
unfolding machine_of new_world new_machine
new_machine_of setup h =
    λ i. record {
      handle = unused;
      held = λ d k. false;
      endpoints = λ d e. unseen d e (interface_of setup d e) i;
      gone = λ d. false;
      orders = [];
      news = [];
      results = [];
    }
  where
    unseen : (d e : ℕ) (o : Option ℕ) → (if is_its h (option_and_then (λ k. None) o) then Some (fresh setup d e) else None) ≡ None
    unseen d e None = refl
    unseen d e (Some k) = refl

-- what a handle sees amid the others is what it sees alone over its own steps
pub sees_alone : (setup : Setup) (steps : List Step) (h : ℕ) → entries setup steps h ≡ alone setup (own setup steps h) h
unfolding journal alone
sees_alone setup steps h =
    sees_alone_from setup h (new_world setup) steps
    ∙ ap (λ m. alone_from setup h m (own_from setup h (new_world setup) steps)) (new_machine_of setup h)
