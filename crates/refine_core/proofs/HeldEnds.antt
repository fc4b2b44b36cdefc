-- A held endpoint in the world that the parts show: its line, its state at the controller, and what its device keeps of it.
use Rattle.std.proofs.Common.{List, None, Option, Some, [], ap, length, refl, subst, suc, sym, ℕ, ◌∙◌, ◌∷◌, ◌≡◌}
use Rattle.std.specs.Option.{option_map}
use Rattle.usb_model.specs.declared.endpoint.Endpoint.{Endpoint}
use Rattle.usb_model.specs.declared.endpoint.EndpointState.{EndpointState}
use Rattle.usb_model.specs.declared.endpoint.EndpointState.TheVariants.{Running}
use Rattle.usb_model.specs.declared.errand.Errand.{Errand}
use Rattle.usb_model.specs.declared.item.Item.{Item}
use Rattle.usb_model.specs.declared.news.Event.{Event}
use Rattle.usb_model.specs.Coherence.{EndsStop, IsCoherent, IsPhase, ended, runs, served_events}
use Rattle.usb_model.specs.Setup.{Setup, interface_of, packet_size_of}
use Rattle.usb_model.specs.World.{World, holder}
use Rattle.usb_model.specs.Kept.{KeptTransfer, SentErrand}
use Rattle.usb_device.specs.Pipe.{pipe_at}
use Rattle.usb_tables.specs.TransfersInFlight.{line_at}
use Rattle.usb_xhc.specs.Context.{Context}
use Rattle.refine_rings.specs.Holds.{HasNone, HasRing, RingIs}
use Rattle.refine_world.specs.ShownEndpoint.{AllKept, ShowsEnd}
use Rattle.refine_world.specs.Shows.{at, errands, events, tellings}
use Rattle.refine_world.proofs.Links.{known}
use Rattle.refine_core.specs.State.{AllItems, ShowsWorld, State}
use Rattle.refine_core.specs.Works.{context_in}
use Rattle.refine_core.proofs.Held.{held_interface}
use Rattle.refine_core.proofs.Lines.{as_many}
use Rattle.refine_core.proofs.Rings.{IsSlotOf, slot_of}

-- without an errand, and where no end is told, an endpoint runs
phase_runs : (st : EndpointState) (er : Option Errand) (os : List Errand) (es tail : List Event) → er ≡ None → es ≡ [] → IsPhase st er os es tail → st ≡ Running
phase_runs st er os es tail no_errand none (runs g) = refl
phase_runs st er os es tail no_errand none (ended g) = absurd (subst EndsStop none g)
phase_runs st er os es tail no_errand none _ = absurd cc

-- so one without transfers and errands
idle_runs : (e : Endpoint) (os : List Errand) (ns : List Event) → IsCoherent e os ns → e.line ≡ [] → e.errand ≡ None → e.state ≡ Running
unfolding served_events
idle_runs e os ns c line errand = phase_runs e.state e.errand os (served_events e.line) c.tail errand (ap served_events line) c.phase

-- a line is empty where nothing is kept of it
kept_none : (size : ℕ) (xs : List Item) → AllKept size xs [] → xs ≡ []
kept_none size [] all = refl
kept_none size (x ∷ xs) all = absurd all

-- as many items as are kept
kept_many : (size : ℕ) (xs : List Item) (ys : List KeptTransfer) → AllKept size xs ys → length ys ≡ length xs
kept_many size [] [] all = refl
kept_many size [] (y ∷ ys) all = absurd all
kept_many size (x ∷ xs) [] all = absurd all
kept_many size (x ∷ xs) (y ∷ ys) all = ap suc (kept_many size xs ys all.1)

module _ {P : Type 0} (setup : Setup) (s : State P) (w : World) (shown : ShowsWorld setup s w) (h d e : ℕ) (held : holder setup w.claims d e ≡ Some h) where
  -- its interface
  pub interface : (i : ℕ) × (interface_of setup d e ≡ Some i)
  interface = held_interface setup w.claims d e h held

  -- as the core keeps it
  pub shows_end : ShowsEnd (packet_size_of setup d e) (w.endpoints d e) (errands (at d e shown.2.orders)) (events (at d e shown.2.news)) (shown.0.endpoints d e) (at d e shown.2.orders) (tellings (at d e shown.2.news))
  shows_end = shown.2.endpoints h d e held

  -- its slot
  pub slot : IsSlotOf setup s.controller shown.0 d e (context_in s.controller d e)
  slot = slot_of setup s.controller shown.0 d e interface.0 shown.1.held interface.1

  -- its transfers
  pub items : AllItems (holder setup shown.0.claims d e) e (line_at s.flights d e) (shown.0.endpoints d e).line
  items = (shown.1.ends d e interface.0 interface.1).line

  -- as many as the world has
  pub line_shown : length (line_at s.flights d e) ≡ length (w.endpoints d e).line
  line_shown =
      as_many (holder setup shown.0.claims d e) e (line_at s.flights d e) (shown.0.endpoints d e).line items
      ∙ kept_many (packet_size_of setup d e) (w.endpoints d e).line (shown.0.endpoints d e).line shows_end.kept

  -- its state, where it has a ring
  pub ring_state : (x : Context) → context_in s.controller d e ≡ Some x → x.state ≡ (w.endpoints d e).state
  ring_state x there =
      let ring : HasRing setup d e (pipe_at slot.slot.pipes e) (shown.0.endpoints d e) x = subst (λ (o : Option Context). RingIs setup d e (pipe_at slot.slot.pipes e) (shown.0.endpoints d e) o) there slot.ring in
      ring.context.runs ∙ shows_end.state

  -- and where it has none: no transfer ever joined its line
  pub bare_state : context_in s.controller d e ≡ None → (w.endpoints d e).state ≡ Running
  bare_state none =
      let bare : HasNone setup d e (pipe_at slot.slot.pipes e) (shown.0.endpoints d e) = subst (λ (o : Option Context). RingIs setup d e (pipe_at slot.slot.pipes e) (shown.0.endpoints d e) o) none slot.ring in
      idle_runs (w.endpoints d e) (errands (at d e shown.2.orders)) (events (at d e shown.2.news)) (known setup w shown.0 shown.2 shown.1.fine h d e held).fit.coherent
      (kept_none (packet_size_of setup d e) (w.endpoints d e).line (subst (AllKept (packet_size_of setup d e) (w.endpoints d e).line) bare.line shows_end.kept))
      (sym shows_end.errand ∙ ap (option_map (λ (x : SentErrand). x.errand)) bare.errand)
