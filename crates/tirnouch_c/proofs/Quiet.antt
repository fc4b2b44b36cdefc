-- Where no order and no event waits, each transfer that was asked to end has ended.
use Rattle.std.proofs.Common.{◌≡◌, ℕ, Bool, true, false, List, [], ◌∷◌, ◌++◌, Option, Some, None, inl, inr, refl, sym, ap, ◌∙◌, subst}
use Rattle.std.specs.Prelude.{if◌then◌else◌}
use Rattle.usb_model.specs.declared.endpoint.Endpoint.{Endpoint}
use Rattle.usb_model.specs.declared.endpoint.EndpointState.{EndpointState}
use Rattle.usb_model.specs.declared.endpoint.EndpointState.TheVariants.{Halted, Running, Stopped}
use Rattle.usb_model.specs.declared.endpoint_effect.EndpointEffect.{EndpointEffect}
use Rattle.usb_model.specs.declared.errand.Errand.{Errand}
use Rattle.usb_model.specs.declared.errand.Errand.TheVariants as errand
use Rattle.usb_model.specs.declared.item.Item.{Item}
use Rattle.usb_model.specs.declared.news.Event.{Event}
use Rattle.usb_model.specs.declared.news.Event.TheVariants.{Finished, Paused, Settled}
use Rattle.usb_model.specs.declared.news.News.{News}
use Rattle.usb_model.specs.declared.order.Order.{Order}
use Rattle.usb_model.specs.declared.reply.Reply.{Reply}
use Rattle.usb_model.specs.declared.reply.Reply.TheVariants as reply
use Rattle.usb_model.specs.declared.shared.Tagged.{Tagged}
use Rattle.usb_model.specs.declared.step.Step.{Step}
use Rattle.usb_model.specs.declared.step.Step.TheVariants.{Command, Deliver}
use Rattle.usb_model.specs.Coherence.{IsCoherent, IsPhase, ended, has_asked, move_ran, move_waits, reset_ran, reset_waits, runs, served_events, stop_failed, stop_ran, stop_ran_paused, stop_waits, stop_waits_halted}
use Rattle.usb_model.specs.Endpoint.Command.{command}
use Rattle.usb_model.specs.Endpoint.Deliver.{deliver, leads_blank, needs_reset, resume}
use Rattle.usb_model.specs.Fitness.{Fits, IsWell, errands_of, events_of}
use Rattle.usb_model.specs.Laws.Bounds.{line_at}
use Rattle.usb_model.specs.Machine.{Machine, at_endpoint, endpoint_at}
use Rattle.usb_model.specs.Machine.Turns.{command_effect, command_order, deliver_effect, deliver_news, effect}
use Rattle.usb_model.specs.Setup.{Setup}
use Rattle.usb_model.specs.World.{World, is_blocked, machine_of, new_world, turn, turn_of, world_from}
use Rattle.usb_model.specs.World.Shared.{pieces_of}
use Rattle.usb_core.specs.Pending.{tells_work}
use Rattle.usb_core.specs.Public.{ShowsWorld, State, does_something}
use Rattle.proof_model.proofs.Handles.Isolation.{IsEither, new_machine_of, turn_to}
use Rattle.proof_model.proofs.Lists.Pieces.{same_name}
use Rattle.proof_model.proofs.Machines.Well.{fit_at, well_kept, well_new}
use Rattle.tirnouch_c.specs.Settling.{NoneAsked, next_step}

-- an endpoint without orders and events has no errand, and so none that was asked to end
no_errand : (s : EndpointState) (er : Option Errand) (os : List Errand) (es tail : List Event) → IsPhase s er os es tail → os ≡ [] → tail ≡ [] → er ≡ None
no_errand s er os es tail (runs g) none over = refl
no_errand s er os es tail (ended g) none over = refl
no_errand s er os es tail (stop_waits g) none over = absurd cc
no_errand s er os es tail (stop_waits_halted g) none over = absurd cc
no_errand s er os es tail (stop_ran g) none over = absurd cc
no_errand s er os es tail (stop_ran_paused g) none over = absurd cc
no_errand s er os es tail (stop_failed g) none over = absurd cc
no_errand s er os es tail reset_waits none over = absurd cc
no_errand s er os es tail reset_ran none over = absurd cc
no_errand s er os es tail move_waits none over = absurd cc
no_errand s er os es tail move_ran none over = absurd cc

nothing_behind : {A : Type 0} (xs ys : List A) → xs ++ ys ≡ [] → ys ≡ []
nothing_behind [] ys is = is
nothing_behind (x ∷ xs) ys is = absurd cc

none_asked_at : (e : Endpoint) (os : List Errand) (ns : List Event) → IsCoherent e os ns → os ≡ [] → ns ≡ [] → has_asked e.line ≡ false
none_asked_at e os ns c none over = c.answered (no_errand e.state e.errand os (served_events e.line) c.tail c.phase none (nothing_behind (served_events e.line) c.tail (sym c.news ∙ over)))

-- every machine is well in each world that is reached
well_from : (setup : Setup) (steps : List Step) (w : World) → ((h : ℕ) → IsWell setup (machine_of setup h w)) → (h : ℕ) → IsWell setup (machine_of setup h (world_from setup w steps))
unfolding world_from
well_from setup [] w well h = well h
well_from setup (x ∷ xs) w well h = well_from setup xs (turn setup w x).world behind h
  where
    behind : (g : ℕ) → IsWell setup (machine_of setup g (turn setup w x).world)
    behind g = by_turn (turn_to setup g w x)
      where
        by_turn : IsEither setup g w x (turn setup w x) → IsWell setup (machine_of setup g (turn setup w x).world)
        by_turn (inl own) = subst (IsWell setup) (sym own.3) (well_kept setup g (machine_of setup g w) x (well g))
        by_turn (inr nothing) = subst (IsWell setup) (sym nothing.1) (well g)

all_well : (setup : Setup) (steps : List Step) (h : ℕ) → IsWell setup (machine_of setup h (world_from setup (new_world setup) steps))
all_well setup steps h = well_from setup steps (new_world setup) (λ g. subst (IsWell setup) (sym (new_machine_of setup g)) (well_new setup)) h

-- an event that is handled does something
either : (b : Bool) (x y : EndpointEffect) (r : Reply) → x.reply ≡ r → y.reply ≡ r → (if b then x else y).reply ≡ r
either true x y r p q = p
either false x y r p q = q

resumed : (size : ℕ) (e : Endpoint) (r : Reply) (line : List Item) → (resume size e r line).reply ≡ r
unfolding resume
resumed size e r line = either (leads_blank _) _ _ r refl refl

handled : (size ep : ℕ) (gone : Bool) (e : Endpoint) (event : Event) → tells_work false (deliver size ep gone e event).reply ≡ true
unfolding deliver
handled size ep gone e (Paused n) = refl
handled size ep gone e (Finished n code) = ap (tells_work false) (either (needs_reset code e.errand) _ _ (reply.Finished n) refl refl)
handled size ep gone e (Settled errand.Stop false) = refl
handled size ep gone e (Settled errand.Stop true) = ap (tells_work false) (resumed size e (reply.Settled ep errand.Stop true) e.line)
handled size ep gone e (Settled errand.Reset ok) = refl
handled size ep gone e (Settled errand.Move ok) = ap (tells_work false) (resumed size e (reply.Settled ep errand.Move ok) _)

-- so does an order that runs
ran : (size ep : ℕ) (e : Endpoint) (o : Errand) (state : EndpointState) → tells_work false (command size ep e o state).reply ≡ true
unfolding command
ran size ep e errand.Stop Running = refl
ran size ep e errand.Stop Stopped = refl
ran size ep e errand.Stop Halted = refl
ran size ep e errand.Reset Running = refl
ran size ep e errand.Reset Stopped = refl
ran size ep e errand.Reset Halted = refl
ran size ep e errand.Move Running = refl
ran size ep e errand.Move Stopped = refl
ran size ep e errand.Move Halted = refl

module _ (setup : Setup) (m : Machine) (well : IsWell setup m) where
  -- the machine's first event is of an endpoint that it has
  handles : (x : News) (xs : List News) → m.news ≡ x ∷ xs → tells_work false (deliver_effect setup m m.news).reply ≡ true
  unfolding deliver_effect deliver_news at_endpoint
  handles x xs first = ap (λ (l : List News). tells_work false (deliver_effect setup m l).reply) first ∙ by_end (endpoint_at m x.ep) (well.fits x.ep)
    where
      there : events_of x.ep (x ∷ xs) ≡ [] → ⊥
      there none =
          let its : events_of x.ep (x ∷ xs) ≡ x.event ∷ events_of x.ep xs = rw (same_name x.ep) in
          cc (its, none)

      by_end : (o : Option Endpoint) → Fits o (errands_of x.ep m.orders) (events_of x.ep m.news) → tells_work false (deliver_news setup m x o).reply ≡ true
      by_end None fits = absurd (there (ap (events_of x.ep) (sym first) ∙ fits.1))
      by_end (Some e) fits = handled _ x.ep _ e x.event

  -- and so is its first order
  runs_order : (x : Order) (xs : List Order) → m.orders ≡ x ∷ xs → tells_work false (command_effect setup m m.orders).reply ≡ true
  unfolding command_effect command_order at_endpoint
  runs_order x xs first = ap (λ (l : List Order). tells_work false (command_effect setup m l).reply) first ∙ by_end (endpoint_at m x.ep) (well.fits x.ep)
    where
      there : errands_of x.ep (x ∷ xs) ≡ [] → ⊥
      there none =
          let its : errands_of x.ep (x ∷ xs) ≡ x.errand ∷ errands_of x.ep xs = rw (same_name x.ep) in
          cc (its, none)

      by_end : (o : Option Endpoint) → Fits o (errands_of x.ep m.orders) (events_of x.ep m.news) → tells_work false (command_order setup m x o).reply ≡ true
      by_end None fits = absurd (there (ap (errands_of x.ep) (sym first) ∙ fits.0))
      by_end (Some e) fits = ran _ x.ep e x.errand e.state

-- a name's first piece is its own
own_first : {A : Type 0} (x : Tagged A) (xs : List (Tagged A)) → pieces_of x.name (x ∷ xs) ≡ x.piece ∷ pieces_of x.name xs
own_first x xs = rw (same_name x.name)

-- a step that does something tells so, whoever is in the way
told_work : (setup : Setup) (h : ℕ) (w : World) (step : Step) → tells_work false (effect setup h (machine_of setup h w) step).reply ≡ true → tells_work false (turn_of setup h w step).entry.reply ≡ true
unfolding turn_of
told_work setup h w step works = by_test (is_blocked setup h w (effect setup h (machine_of setup h w) step).change) refl
  where
    by_test : (b : Bool) → is_blocked setup h w (effect setup h (machine_of setup h w) step).change ≡ b → tells_work false (turn_of setup h w step).entry.reply ≡ true
    by_test true is = cc
    by_test false is = cc

module _ (setup : Setup) (w : World) (well : (h : ℕ) → IsWell setup (machine_of setup h w)) where
  -- no event waits where none can be handled
  no_news : does_something setup w Deliver ≡ false → w.news ≡ []
  unfolding turn machine_of effect
  no_news nothing = by_news w.news refl
    where
      by_news : (l : List (Tagged News)) → w.news ≡ l → w.news ≡ []
      by_news [] is = is
      by_news (x ∷ xs) is =
          let first : (machine_of setup x.name w).news ≡ x.piece ∷ pieces_of x.name xs = ap (pieces_of x.name) is ∙ own_first x xs in
          let works : tells_work false (turn_of setup x.name w Deliver).entry.reply ≡ true = told_work setup x.name w Deliver (handles setup (machine_of setup x.name w) (well x.name) x.piece (pieces_of x.name xs) first) in
          absurd cc

  no_orders : does_something setup w Command ≡ false → w.orders ≡ []
  unfolding turn machine_of effect
  no_orders nothing = by_orders w.orders refl
    where
      by_orders : (l : List (Tagged Order)) → w.orders ≡ l → w.orders ≡ []
      by_orders [] is = is
      by_orders (x ∷ xs) is =
          let first : (machine_of setup x.name w).orders ≡ x.piece ∷ pieces_of x.name xs = ap (pieces_of x.name) is ∙ own_first x xs in
          let works : tells_work false (turn_of setup x.name w Command).entry.reply ≡ true = told_work setup x.name w Command (runs_order setup (machine_of setup x.name w) (well x.name) x.piece (pieces_of x.name xs) first) in
          absurd cc

  -- so none that was asked to end is in progress
  none_asked : does_something setup w Deliver ≡ false → does_something setup w Command ≡ false → NoneAsked setup w
  unfolding machine_of
  none_asked no_event no_order h ep = by_end (endpoint_at (machine_of setup h w) ep) refl
    where
      by_end : (o : Option Endpoint) → endpoint_at (machine_of setup h w) ep ≡ o → has_asked (line_at o) ≡ false
      by_end None is = refl
      by_end (Some e) is =
          let fit = fit_at setup (machine_of setup h w) ep e (well h) is in
          none_asked_at e _ _ fit.coherent (ap (λ (l : List (Tagged Order)). errands_of ep (pieces_of h l)) (no_orders no_order)) (ap (λ (l : List (Tagged News)). events_of ep (pieces_of h l)) (no_news no_event))

-- where nothing is to be done next
pub quiet_ends : {P : Type 0} (setup : Setup) (s : State P) (w : World) (packets : Bool) → ShowsWorld setup s w → next_step setup packets w ≡ None → NoneAsked setup w
quiet_ends setup s w packets (core, keeps, shows) none =
    by_tests (does_something setup w Deliver) (does_something setup w Command) refl refl
  where
    well : (h : ℕ) → IsWell setup (machine_of setup h w)
    well h = subst (λ (x : World). IsWell setup (machine_of setup h x)) (sym shows.reached) (all_well setup shows.steps h)

    by_tests : (a b : Bool) → does_something setup w Deliver ≡ a → does_something setup w Command ≡ b → NoneAsked setup w
    by_tests false false no_event no_order = none_asked setup w well no_event no_order
    by_tests true b event order = absurd cc
    by_tests false true event order = absurd cc
