-- In each run: an accepted ask is never lost, and ends its transfer within a bound.
use Rattle.std.proofs.Common.{Bool, List, None, Option, Some, [], ap, arith, false, inl, inr, refl, subst, sym, true, ℕ, ◌&&◌, ◌++◌, ◌+◌, ◌<◌, ◌==◌, ◌||◌, ◌∙◌, ◌∷◌, ◌≡◌, ◌⊎◌}
use Rattle.std.specs.Prelude.{if◌then◌else◌}
use Rattle.std.proofs.lemmas.Bool.{and_parts, eqb-true, or_parts, or_right, true_from_ne_false}
use Rattle.std.specs.List.{list_any}
use Rattle.usb_model.specs.declared.shared.Tagged.{Tagged}
use Rattle.usb_model.specs.declared.reply.Reply.TheVariants.{Done}
use Rattle.usb_model.specs.declared.step.Step.TheVariants.{Cancel, Command, Deliver, Expire, Unplug}
use Rattle.usb_model.specs.declared.step.Step.{Step}
use Rattle.usb_model.specs.Endpoint.{has_in_progress}
use Rattle.usb_model.specs.Laws.Bound.{AskedEnds, IsAccepted, IsBounded, asked_world, commands_by, commands_in, delivers_by, delivers_in, first_counts, is_ask, is_in_progress, is_news_at, is_order_at, results_of, something_waits_at, world_at}
use Rattle.usb_model.specs.Laws.Cut.{times}
use Rattle.usb_model.specs.World.Journal.{entries, is_unplug, own}
use Rattle.usb_model.specs.declared.effect.Effect.{Effect}
use Rattle.usb_model.specs.Machine.{Machine, at_endpoint, endpoint_at}
use Rattle.usb_model.specs.Laws.Places.{InOnePlace, numbers_called}
use Rattle.usb_model.specs.Setup.{Setup}
use Rattle.usb_model.specs.World.Shared.{first_name, pieces_of}
use Rattle.usb_model.specs.Machine.Turns.{effect, machine_after, take_effect, takes_news, takes_order}
use Rattle.usb_model.specs.World.{World, is_blocked, machine_of, new_world, owner_of, turn, turn_by, turn_of, turn_of_nobody, world_from}
use Rattle.proof_model.proofs.Machines.Acts.{acts, acts_at}
use Rattle.proof_model.proofs.Machines.Deeds.{IsDone, claims, only_rests, resets, stays, works}
use Rattle.usb_model.specs.Fitness.{IsWell, posts_of}
use Rattle.proof_model.proofs.Machines.Done.{is_done}
use Rattle.proof_model.proofs.Bound.Due.{something_waits}
use Rattle.proof_model.proofs.Bound.Steps.{IsDueAt, Opens, StaysDue, ask_opens, due_acts, due_lives}
use Rattle.proof_model.proofs.Bound.Gone.{IsGone, dead_times, gone_elsewhere, gone_from, gone_is_dead, live_behind, live_once, next_from, next_rises}
use Rattle.proof_model.proofs.Bound.Opens.{one_left}
use Rattle.proof_model.proofs.Places.Placed.{called_by}
use Rattle.proof_model.proofs.Coherence.Posts.{commands_now, delivers_now}
use Rattle.proof_model.proofs.Places.Runs.{IsKept, kept_at, kept_step}
use Rattle.proof_model.proofs.Handles.Isolation.{IsEither, effect_to, free_own, free_turn, is_own_step, turn_blocked, turn_free, turn_to}
use Rattle.proof_model.proofs.Work.Lines.{result_numbers}
use Rattle.proof_model.proofs.Work.Moves.{lives_at}
use Rattle.proof_model.proofs.Lists.Pieces.{same_name}

-- the first piece of a shared list, as its name has it
first_is_its : {A : Type 0} (h : ℕ) (test : A → Bool) (xs : List (Tagged A)) → first_name xs ≡ Some h → first_counts (λ x. (x.name == h) && test x.piece) xs ≡ first_counts test (pieces_of h xs)
first_is_its h test [] first = absurd cc
first_is_its h test (x ∷ xs) first = let is : x.name ≡ h = cc in rw (is, same_name h) refl

-- a first piece of another's name counts for nothing
first_is_others : {A : Type 0} (h : ℕ) (test : A → Bool) (xs : List (Tagged A)) → (first_name xs ≡ Some h → ⊥) → first_counts (λ x. (x.name == h) && test x.piece) xs ≡ 0
first_is_others h test [] other = refl
first_is_others h test (x ∷ xs) other = by_name (x.name == h) refl
  where
    by_name : (b : Bool) → (x.name == h) ≡ b → ◌≡◌ {A = ℕ} (if b && test x.piece then 1 else 0) 0
    by_name true is = absurd (other (ap (λ k. Some k) (eqb-true x.name h is)))
    by_name false is = refl

-- the commands and deliveries of the handle's endpoint, as its machine counts them
own_commands : (setup : Setup) (h ep : ℕ) (w : World) (step : Step) → (is_unplug step ≡ false → owner_of setup w step ≡ Some h) → commands_by h ep w step ≡ commands_now ep (machine_of setup h w) step
unfolding machine_of
own_commands setup h ep w Command own = first_is_its h (λ x. x.ep == ep) w.orders (own refl)
own_commands setup h ep w _ own = refl

-- in a turn of the handle's own the Delivers counted are its machine's
own_delivers : (setup : Setup) (h ep : ℕ) (w : World) (step : Step) → (is_unplug step ≡ false → owner_of setup w step ≡ Some h) → delivers_by h ep w step ≡ delivers_now ep (machine_of setup h w) step
unfolding machine_of
own_delivers setup h ep w Deliver own = first_is_its h (λ x. x.ep == ep) w.news (own refl)
own_delivers setup h ep w _ own = refl

-- nobody is in the way of a Command or a Deliver
never_blocked : (setup : Setup) (h : ℕ) (w : World) (m : Machine) (step : Step) (done : Effect) → (takes_order step || takes_news step) ≡ true → IsDone setup h m step done → is_blocked setup h w done.change ≡ false
unfolding is_blocked at_endpoint take_effect
never_blocked setup h w m step done list (works ep e here work) = refl
never_blocked setup h w m step done list (only_rests (stays bare t)) = refl
never_blocked setup h w m step done list (only_rests (claims g i opened free)) = absurd cc
never_blocked setup h w m step done list (only_rests (resets g idle)) = absurd cc
never_blocked setup h w m step done list (only_rests _) = refl

-- so such a step is its owner's own
own_turn : (setup : Setup) (h : ℕ) (w : World) (step : Step) → IsWell setup (machine_of setup h w) → (takes_order step || takes_news step) ≡ true → owner_of setup w step ≡ Some h → is_own_step h step (turn setup w step).entry ≡ true
unfolding turn
own_turn setup h w step well list own =
    let done : Effect = effect_to setup h w step in
    let free : is_blocked setup h w done.change ≡ false = never_blocked setup h w (machine_of setup h w) step done list (is_done setup h (machine_of setup h w) step well) in
    let t : turn_by setup (owner_of setup w step) w step ≡ free_turn setup h w step = ap (λ o. turn_by setup o w step) own ∙ turn_free setup h w step free in
    ap (λ u. is_own_step h step u.entry) t ∙ (free_own setup h w step own).2

-- and another's step takes none of the endpoint's
no_commands : (setup : Setup) (h ep : ℕ) (w : World) (step : Step) → IsWell setup (machine_of setup h w) → is_own_step h step (turn setup w step).entry ≡ false → commands_by h ep w step ≡ 0
no_commands setup h ep w Command well e = first_is_others h (λ x. x.ep == ep) w.orders (λ own. cc (e, own_turn setup h w Command well refl own))
no_commands setup h ep w _ well e = refl

-- in a turn that is not the handle's no Deliver is counted for it
no_delivers : (setup : Setup) (h ep : ℕ) (w : World) (step : Step) → IsWell setup (machine_of setup h w) → is_own_step h step (turn setup w step).entry ≡ false → delivers_by h ep w step ≡ 0
no_delivers setup h ep w Deliver well e = first_is_others h (λ x. x.ep == ep) w.news (λ own. cc (e, own_turn setup h w Deliver well refl own))
no_delivers setup h ep w _ well e = refl

-- what holds of the handle's machine, whatever was called
abbrev IsKeptAt : Setup → ℕ → World → Type 0
IsKeptAt setup h w = (called : List ℕ) × IsKept setup (machine_of setup h w) called

-- each turn keeps what holds of the handle's machine
kept_turn : (setup : Setup) (h : ℕ) (w : World) (step : Step) → IsKeptAt setup h w → IsKeptAt setup h (turn setup w step).world
kept_turn setup h w step (called, k) = by_turn (turn_to setup h w step)
  where
    by_turn : IsEither setup h w step (turn setup w step) → IsKeptAt setup h (turn setup w step).world
    by_turn (inl own) = (called ++ called_by (effect_to setup h w step).reply, subst (λ m. IsKept setup m (called ++ called_by (effect_to setup h w step).reply)) (sym own.3) (kept_step setup h (machine_of setup h w) step called k))
    by_turn (inr nothing) = (called, subst (λ m. IsKept setup m called) (sym nothing.1) k)

-- a turn of the world keeps the bound, or ends the transfer
abbrev DueTurn : Setup → ℕ → ℕ → ℕ → ℕ → ℕ → World → Step → Type 0
DueTurn setup h n ep c d w step =
    StaysDue n ep c d (commands_by h ep w step) (delivers_by h ep w step) (machine_of setup h (turn setup w step).world) ⊎ IsGone n ep (machine_of setup h (turn setup w step).world)

-- a step of the handle's own leaves the transfer due within the bound, or gone
due_own : (setup : Setup) (h n ep c d : ℕ) (m : Machine) (step : Step) (called : List ℕ) → IsKept setup m called → IsDueAt n ep c d m
    → StaysDue n ep c d (commands_now ep m step) (delivers_now ep m step) (machine_after setup m step (effect setup h m step)) ⊎ IsGone n ep (machine_after setup m step (effect setup h m step))
due_own setup h n ep c d m step called k due = by_live (has_in_progress n (endpoint_at m' ep)) refl
  where
    m' : Machine
    m' = machine_after setup m step (effect setup h m step)

    by_live : (b : Bool) → has_in_progress n (endpoint_at m' ep) ≡ b → StaysDue n ep c d (commands_now ep m step) (delivers_now ep m step) m' ⊎ IsGone n ep m'
    by_live true live =
        inl (due_acts setup n ep c d m m' step (acts_at setup m m' step (acts setup h m step (effect setup h m step) k.well (is_done setup h m step k.well)) ep) (live_once n ep m called k.placed) due live)
    by_live false dead = inr (record {
      behind = next_rises setup h n m step (live_behind n ep m called k.placed (due_lives n ep c d m due));
      none = dead_times n (endpoint_at m' ep) dead;
    })

-- a turn of anyone leaves the transfer due within the bound, or gone
due_turn : (setup : Setup) (h n ep c d : ℕ) (w : World) (step : Step) → IsKeptAt setup h w → IsDueAt n ep c d (machine_of setup h w) → DueTurn setup h n ep c d w step
due_turn setup h n ep c d w step (called, k) due = by_turn (turn_to setup h w step)
  where
    by_turn : IsEither setup h w step (turn setup w step) → DueTurn setup h n ep c d w step
    by_turn (inl own) =
        subst (λ m. StaysDue n ep c d (commands_by h ep w step) (delivers_by h ep w step) m ⊎ IsGone n ep m) (sym own.3)
        (rw (own_commands setup h ep w step own.0, own_delivers setup h ep w step own.0) (due_own setup h n ep c d (machine_of setup h w) step called k due))
    by_turn (inr nothing) = inl (record {
      commands = c;
      delivers = d;
      less = omega (arith, no_commands setup h ep w step k.well nothing.0);
      fewer = omega (arith, no_delivers setup h ep w step k.well nothing.0);
      due = subst (IsDueAt n ep c d) (sym nothing.1) due;
    })

-- from an ask on
due_from : (setup : Setup) (h n ep c d : ℕ) (w : World) (steps : List Step) → IsKeptAt setup h w → IsDueAt n ep c d (machine_of setup h w) → is_in_progress setup h ep n (world_from setup w steps) ≡ true
    → StaysDue n ep c d (commands_in setup h ep w steps) (delivers_in setup h ep w steps) (machine_of setup h (world_from setup w steps))
unfolding world_from commands_in delivers_in
due_from setup h n ep c d w [] k due live = record { commands = c; delivers = d; less = omega arith; fewer = omega arith; due = due }
due_from setup h n ep c d w (step ∷ steps) k due live =
    by_turn (due_turn setup h n ep c d w step k due) (λ c' d' next. due_from setup h n ep c' d' (turn setup w step).world steps (kept_turn setup h w step k) next live)
  where
    later : World
    later = (turn setup w step).world

    end : Machine
    end = machine_of setup h (world_from setup later steps)

    by_turn : DueTurn setup h n ep c d w step → ((c' d' : ℕ) → IsDueAt n ep c' d' (machine_of setup h later) → StaysDue n ep c' d' (commands_in setup h ep later steps) (delivers_in setup h ep later steps) end)
        → StaysDue n ep c d (commands_by h ep w step + commands_in setup h ep later steps) (delivers_by h ep w step + delivers_in setup h ep later steps) end
    by_turn (inl s) rest = let r = rest s.commands s.delivers s.due in record { commands = r.commands; delivers = r.delivers; less = omega (arith, s.less, r.less); fewer = omega (arith, s.fewer, r.fewer); due = r.due }
    by_turn (inr g) rest = absurd (gone_is_dead n ep end (gone_from setup h n ep later steps g) live)

-- a turn is its owner's
nobodys_entry : (setup : Setup) (w : World) (step : Step) → (turn_of_nobody setup w step).entry.owner ≡ None
unfolding turn_of_nobody
nobodys_entry setup w (Unplug dev) = refl
nobodys_entry setup w _ = refl

-- the entry of a turn of a name has that name as its owner
somebodys_entry : (setup : Setup) (g : ℕ) (w : World) (step : Step) → (turn_of setup g w step).entry.owner ≡ Some g
somebodys_entry setup g w step = by_test (is_blocked setup g w (effect_to setup g w step).change) refl
  where
    by_test : (b : Bool) → is_blocked setup g w (effect_to setup g w step).change ≡ b → (turn_of setup g w step).entry.owner ≡ Some g
    by_test true blocked = ap (λ t. t.entry.owner) (turn_blocked setup g w step blocked)
    by_test false free = ap (λ t. t.entry.owner) (turn_free setup g w step free)

-- the entry of a turn has the step's owner
entry_owner : (setup : Setup) (w : World) (step : Step) → (turn setup w step).entry.owner ≡ owner_of setup w step
unfolding turn
entry_owner setup w step = by_owner (owner_of setup w step)
  where
    by_owner : (o : Option ℕ) → (turn_by setup o w step).entry.owner ≡ o
    by_owner None = nobodys_entry setup w step
    by_owner (Some g) = somebodys_entry setup g w step

-- an ask of a handle is its own step
asks_own : (setup : Setup) (h n : ℕ) (w : World) (step : Step) → is_ask h n step ≡ true → owner_of setup w step ≡ Some h
asks_own setup h n w (Cancel g k) asked = ap (λ x. Some x) (eqb-true g h (and_parts (g == h) (k == n) asked).0)
asks_own setup h n w (Expire g k) asked = ap (λ x. Some x) (eqb-true g h (and_parts (g == h) (k == n) asked).0)
asks_own setup h n w _ asked = absurd cc

-- an accepted ask: where the transfer is, and the bound that is opened
asked_turn : (setup : Setup) (h n : ℕ) (w : World) (step : Step) → IsKeptAt setup h w → is_ask h n step ≡ true → IsAccepted setup w step → Opens setup n (machine_of setup h w) (machine_of setup h (turn setup w step).world)
asked_turn setup h n w step (called, k) asked accepted = by_turn (turn_to setup h w step)
  where
    own_entry : is_own_step h step (turn setup w step).entry ≡ true
    own_entry = rw (entry_owner setup w step, asks_own setup h n w step asked, accepted, same_name h) (or_right (is_unplug step) true refl)

    by_turn : IsEither setup h w step (turn setup w step) → Opens setup n (machine_of setup h w) (machine_of setup h (turn setup w step).world)
    by_turn (inl own) =
        let m : Machine = machine_of setup h w in
        let reply : (effect_to setup h w step).reply ≡ Done = ap (λ e. e.reply) (sym own.1) ∙ accepted in
        subst (Opens setup n m) (sym own.3) (ask_opens setup h n m step (effect_to setup h w step) k.well (is_done setup h m step k.well) asked reply)
    by_turn (inr nothing) = absurd (cc (own_entry, nothing.0))

-- while it is in progress, something of its endpoint waits
none_waits : {A B : Type 0} (h ep : ℕ) (place : A → ℕ) (what : A → B) (xs : List (Tagged A)) → list_any (λ x. (x.name == h) && (place x.piece == ep)) xs ≡ false → posts_of place what ep (pieces_of h xs) ≡ []
none_waits h ep place what [] e = refl
none_waits h ep place what (x ∷ xs) e = by_name (x.name == h) p.0 (none_waits h ep place what xs p.1)
  where
    p : (((x.name == h) && (place x.piece == ep)) ≡ false) × (list_any (λ x. (x.name == h) && (place x.piece == ep)) xs ≡ false)
    p = or_parts ((x.name == h) && (place x.piece == ep)) (list_any (λ x. (x.name == h) && (place x.piece == ep)) xs) e

    by_name : (b : Bool) → (b && (place x.piece == ep)) ≡ false → posts_of place what ep (pieces_of h xs) ≡ [] → posts_of place what ep (if b then x.piece ∷ pieces_of h xs else pieces_of h xs) ≡ []
    by_name true q rest = rw q rest
    by_name false q rest = rest

-- while a transfer is due something waits at its endpoint
due_waits : (setup : Setup) (h n ep c d : ℕ) (w : World) → IsDueAt n ep c d (machine_of setup h w) → something_waits_at h ep w ≡ true
unfolding machine_of
due_waits setup h n ep c d w due = true_from_ne_false (something_waits_at h ep w) none
  where
    none : something_waits_at h ep w ≡ false → ⊥
    none e =
        let p = or_parts (list_any (is_order_at h ep) w.orders) (list_any (is_news_at h ep) w.news) e in
        something_waits n c d due.e _ _ due.due (none_waits h ep (λ x. x.ep) (λ x. x.errand) w.orders p.0) (none_waits h ep (λ x. x.ep) (λ x. x.event) w.news p.1)

-- a run over a step in its midst is the run from the world after that step
world_behind : (setup : Setup) (w : World) (before after : List Step) (step : Step) → world_from setup w (before ++ step ∷ after) ≡ world_from setup (turn setup (world_from setup w before) step).world after
unfolding world_from
world_behind setup w [] after step = refl
world_behind setup w (x ∷ before) after step = world_behind setup (turn setup w x).world before after step

-- where a number was in progress at an endpoint, and no more is, its one result was made
made_once : (setup : Setup) (h n ep : ℕ) (u : World) (steps : List Step) (called : List ℕ) → IsKeptAt setup h u → is_in_progress setup h ep n u ≡ true → IsKept setup (machine_of setup h (world_from setup u steps)) called
    → is_in_progress setup h ep n (world_from setup u steps) ≡ false → times n (result_numbers (machine_of setup h (world_from setup u steps)).results) + times n called ≡ 1
made_once setup h n ep u steps called (before, k) live kept dead = by_place (kept.placed.given n given)
  where
    m : Machine
    m = machine_of setup h (world_from setup u steps)

    -- it was given, and is at no other endpoint
    other : (at : ℕ) → (ep == at) ≡ false → IsGone n at m
    other at differ = gone_from setup h n at u steps (gone_elsewhere n ep at (machine_of setup h u) before k.placed live differ)

    given : n < m.handle.next_number
    given = next_from setup h n u steps (live_behind n ep (machine_of setup h u) before k.placed live)

    none : (at : ℕ) (b : Bool) → (ep == at) ≡ b → times n (lives_at m at) ≡ 0
    none at true same = subst (λ k. times n (lives_at m k) ≡ 0) (eqb-true ep at same) (dead_times n (endpoint_at m ep) dead)
    none at false differ = (other at differ).none

    by_place : InOnePlace n m called → times n (result_numbers m.results) + times n called ≡ 1
    by_place p = omega (arith, p.once, none p.home (ep == p.home) refl)

-- an accepted ask ends its transfer within the bound, and its one result is made
pub asked_ends : (setup : Setup) (steps : List Step) (h : ℕ) → AskedEnds setup steps h
asked_ends setup steps h before after ask n is asked accepted = record { ep = ep; was_there = opens.was_there; bounded = bounded; made = made; by_then = by_then }
  where
    w : World
    w = world_at setup before

    u : World
    u = asked_world setup before ask

    kept : IsKeptAt setup h w
    kept = (numbers_called (entries setup before h), kept_at setup h before)

    opens : Opens setup n (machine_of setup h w) (machine_of setup h u)
    opens = asked_turn setup h n w ask kept asked accepted

    ep : ℕ
    ep = opens.ep

    all : List Step
    all = before ++ ask ∷ after

    ends : world_at setup all ≡ world_from setup u after
    ends = world_behind setup (new_world setup) before after ask

    bounded : is_in_progress setup h ep n (world_at setup all) ≡ true → IsBounded setup h ep n before after ask
    bounded live =
        let r = due_from setup h n ep 2 17 u after (kept_turn setup h w ask kept) opens.due (subst (λ v. is_in_progress setup h ep n v ≡ true) ends live) in
        let left = one_left n r.commands r.delivers r.due.e _ _ r.due.due in
        record {
          waits = subst (λ v. something_waits_at h ep v ≡ true) (sym ends) (due_waits setup h n ep r.commands r.delivers (world_from setup u after) r.due);
          commands = omega (arith, r.less);
          delivers = omega (arith, r.fewer, left);
        }

    made : is_in_progress setup h ep n (world_at setup all) ≡ false → results_of setup all h n ≡ 1
    made dead =
        let kept_now : IsKept setup (machine_of setup h (world_from setup u after)) (numbers_called (entries setup all h)) = subst (λ v. IsKept setup (machine_of setup h v) (numbers_called (entries setup all h))) ends (kept_at setup h all) in
        subst (λ v. times n (result_numbers (machine_of setup h v).results) + times n (numbers_called (entries setup all h)) ≡ 1) (sym ends)
        (made_once setup h n ep u after (numbers_called (entries setup all h)) (kept_turn setup h w ask kept) (due_lives n ep 2 17 (machine_of setup h u) opens.due) kept_now
        (subst (λ v. is_in_progress setup h ep n v ≡ false) ends dead))

    by_then : 16 < delivers_in setup h ep u after → results_of setup all h n ≡ 1
    by_then many = by_live (is_in_progress setup h ep n (world_at setup all)) refl
      where
        by_live : (b : Bool) → is_in_progress setup h ep n (world_at setup all) ≡ b → results_of setup all h n ≡ 1
        by_live true live = absurd (omega (arith, many, (bounded live).delivers))
        by_live false dead = made dead
