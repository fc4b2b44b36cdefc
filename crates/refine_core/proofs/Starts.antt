-- A transfer joins a line.
use Rattle.std.proofs.Common.{◌≡◌, ℕ, ◌+◌, ◌<◌, ◌≤◌, ◌==◌, refl, ap, ap₂, sym, subst, ◌∙◌, arith, List, [], ◌∷◌, ◌++◌, length, map, Option, Some, Bool, true, false, eqb-true}
use Rattle.std.specs.Prelude.{count_by, slice_get, if◌then◌else◌}
use Rattle.std.specs.List.{AllByRecursion}
use Rattle.std.proofs.lemmas.Option.{same_Some}
use Rattle.usb_model.specs.declared.handle.Handle.{Handle}
use Rattle.usb_model.specs.declared.request.Request.{Request}
use Rattle.usb_model.specs.declared.result.TransferResult.{TransferResult}
use Rattle.usb_model.specs.Machine.{is_callback_at}
use Rattle.usb_model.specs.Machine.Calls.{callback_of}
use Rattle.usb_model.specs.Setup.{endpoint_id, packet_size_of}
use Rattle.usb_model.specs.World.Shared.{pieces_of}
use Rattle.usb_tables.specs.Holders.{Holding, device_of}
use Rattle.usb_tables.specs.Tables.{is_plain}
use Rattle.usb_model.specs.Kept.{KeptEndpoint, trbs_of}
use Rattle.usb_model.specs.Joins.{joined, new_kept}
use Rattle.usb_device.specs.Pipe.{pipe_at}
use Rattle.usb_tables.specs.declared.transfer.Transfer.{Transfer as InFlight}
use Rattle.usb_tables.specs.Tds.{tds_of}
use Rattle.usb_tables.specs.Trbs.{normals_of}
use Rattle.usb_rings.specs.Line.{capacity, normals, used}
use Rattle.usb_xhc.specs.Context.{Context}
use Rattle.usb_xhc.specs.Host.{with_pushed, with_ring}
use Rattle.usb_xhc.specs.Controller.{Controller, slot_changed}
use Rattle.usb_xhc.specs.Slots.{DeviceSlot, changed, context_of}
use Rattle.usb_tables.specs.HandleState.{Kept as HandleState}
use Rattle.usb_tables.specs.HandleStates.{SameCallbacks, SameCounts, SameResults, number_of}
use Rattle.usb_tables.specs.ByEndpoint.{lane_at}
use Rattle.usb_tables.specs.TransfersInFlight.{TransfersInFlight, keys_at, line_at, with_last}
use Rattle.refine_world.specs.Shows.{Core}
use Rattle.refine_rings.specs.Holds.{HasRing, HoldsCore}
use Rattle.refine_rings.proofs.Ends.{here}
use Rattle.refine_rings.proofs.Renews.{hosts}
use Rattle.refine_core.specs.State.{AllItems, AllNameBuffers, IsFlight, KeepsEnd, KeepsName, State, result_of}
use Rattle.refine_core.specs.Works.{IsUnstarted, Starts, context_in, with_kept}
use Rattle.refine_core.proofs.Buffers.{buffers_put, join_named}
use Rattle.refine_core.proofs.Changed.{keeps_with}
use Rattle.refine_core.proofs.EndpointQueues.{has_lane, with_other}
use Rattle.refine_core.proofs.Lines.{index_set, join_item, set_length}
use Rattle.refine_core.proofs.Rings.{ring_of}
use Rattle.refine_core.proofs.Transfers.{but_line, end_at, line_is}

module _ {P : Type 0} where
  -- a transfer in flight that was made just now is the kept one that joins
  new_flight : (h e size place : ℕ) (t : InFlight P) (n : ℕ) (request : Request) (round : ℕ) → IsUnstarted h t n request round → request.ep ≡ e → IsFlight (Some h) e t (new_kept size place n request round)
  new_flight h e size place t n request round is at = record {
    live = refl;
    number = is.number;
    asks_for = is.asks_for;
    again = is.again;
    asked = is.asked;
    told = is.told;
    read = is.read;
    room = omega (arith, is.room);
    at = at;
    whose = ap Some (sym is.whose);
  }

  -- a name whose next number is one more
  name_counted : (old new : State P) (h g : ℕ) (x y : Handle) (results : List TransferResult) → new.claims ≡ old.claims → ((k : ℕ) → number_of new.callers k ≡ (if h == k then number_of old.callers k + 1 else number_of old.callers k))
      → SameCallbacks old.callers new.callers → SameResults old.callers new.callers → SameCounts old.callers new.callers
      → ((h == g) ≡ true → y ≡ x) → KeepsName old g x results → KeepsName new g (if h == g then record y { next_number = y.next_number + 1 } else x) results
  name_counted old new h g x y results claims numbers callbacks made counts own is = by_test (h == g) refl
    where
      by_test : (b : Bool) → (h == g) ≡ b → KeepsName new g (if b then record y { next_number = y.next_number + 1 } else x) results
      by_test true test =
          let same : y ≡ x = own test in
          record {
            device = ap (λ (v : Handle). v.device) same ∙ is.device ∙ ap (λ (v : Holding). device_of v g) (sym claims);
            number = ap (λ (v : Handle). v.next_number + 1) same ∙ ap (λ (n : ℕ). n + 1) is.number ∙ sym (numbers g ∙ ap (λ (b : Bool). if b then number_of old.callers g + 1 else number_of old.callers g) test);
            callback = λ n. ap (λ (v : Handle). callback_of n v.in_callbacks) same ∙ is.callback n ∙ sym (callbacks g n);
            called = λ ep plain. ap (λ (v : Handle). count_by (is_callback_at ep) v.in_callbacks) same ∙ is.called ep plain ∙ sym (counts g (endpoint_id ep));
            waiting = λ ep plain. is.waiting ep plain ∙ sym (made g (endpoint_id ep));
            plain = subst (λ (v : Handle). AllByRecursion (λ z. is_plain z.request.ep ≡ true) v.in_callbacks) (sym same) is.plain;
          }
      by_test false test = record {
        device = is.device ∙ ap (λ (v : Holding). device_of v g) (sym claims);
        number = is.number ∙ sym (numbers g ∙ ap (λ (b : Bool). if b then number_of old.callers g + 1 else number_of old.callers g) test);
        callback = λ n. is.callback n ∙ sym (callbacks g n);
        called = λ ep plain. is.called ep plain ∙ sym (counts g (endpoint_id ep));
        waiting = λ ep plain. is.waiting ep plain ∙ sym (made g (endpoint_id ep));
        plain = is.plain;
      }

  -- a transfer joins the line under the name's next number
  pub starts : (old : State P) (k : Controller) (f : TransfersInFlight (InFlight P)) (callers : List HandleState) (h d e : ℕ) (x : Context) (t : InFlight P) (key : ℕ) (request : Request) (round : ℕ) → context_in old.controller d e ≡ Some x
      → used x.ring.line + length (trbs_of x.size request) ≤ capacity → request.ep ≡ e → IsUnstarted h t (number_of old.callers h) request round
      → f.lines ≡ (with_last old.flights d e key t).lines → f.keys ≡ (with_last old.flights d e key t).keys → f.ended ≡ old.flights.ended
      → k ≡ slot_changed old.controller d (λ s. changed s (endpoint_id e) (λ c. with_ring c (with_pushed c.ring (normals (normals_of key (tds_of x.size request))))))
      → ((g : ℕ) → number_of callers g ≡ (if h == g then number_of old.callers g + 1 else number_of old.callers g)) → SameCallbacks old.callers callers → SameResults old.callers callers → SameCounts old.callers callers
      → Starts old (record old { controller = k; flights = f; callers = callers }) h d e request round
  starts old k f callers h d e x t key request round there fits is_at is lines keyed ended is_k numbers callbacks made counts setup c at few = keeps_with setup old new c after h d e at
      (but_line old new d e line at.keeps.lanes (ap length keyed ∙ set_length old.flights.keys (lane_at d e) keys ∙ at.keeps.keyed) at.keeps.cells refl refl lines)
      (record {
        same = refl;
        others = λ dev ep other. with_other c.endpoints d e b dev ep other;
        mine = subst (λ (y : KeptEndpoint). KeepsEnd new (Some h) d e y) (sym (here c.endpoints d e b))
            (record { line = subst (λ (l : List (Option (InFlight P))). AllItems (Some h) e l b.line) (sym (line_is setup old new c h d e line at lines)) all; errand = end.errand });
        buffers = buffers_put old new d e line keys (λ v. with_ring v (with_pushed v.ring (normals (normals_of key (tds_of x.size request))))) lines (line_is setup old new c h d e line at lines) keyed
            (ap (λ (v : List (List (Option ℕ))). keys_at v d e) keyed ∙ index_set old.flights.keys (lane_at d e) [] keys lane) is_k joins at.keeps.buffers;
        held = subst (λ (v : Controller). HoldsCore setup v after) (sym (is_k ∙ ap (λ (n : ℕ). slot_changed old.controller d (λ s. changed s (endpoint_id e) (λ v. with_ring v (with_pushed v.ring (normals (normals_of key (tds_of n request))))))) ring.size))
            ((hosts setup old.controller c.gone c.endpoints c.orders c.events c.posted d e at.interface at.keeps.plain at.keeps.held at.there).pushes found.0 x key n request round found.1 found.2 few
            (subst (λ (v : ℕ). used x.ring.line + length (trbs_of v request) ≤ capacity) ring.size fits));
        named = λ g. name_counted old new h g (c.names g) (c.names h) (pieces_of g c.results) refl numbers callbacks made counts (λ same. ap c.names (eqb-true h g same)) (at.keeps.named g);
        ended = at.keeps.ended ∙ ap (map result_of) (sym ended);
        ended_plain = at.keeps.ended_plain;
      })
    where
      new : State P
      new = record old { controller = k; flights = f; callers = callers }

      n : ℕ
      n = (c.names h).next_number

      b : KeptEndpoint
      b = joined (packet_size_of setup d e) (c.endpoints d e) n request round

      after : Core
      after = record (with_kept d e b c) { names = λ g. if h == g then record (c.names h) { next_number = n + 1 } else c.names g }

      line : List (Option (InFlight P))
      line = line_at old.flights d e ++ Some t ∷ []

      lane : lane_at d e < length old.flights.keys
      lane = omega (arith, has_lane setup d e at.interface at.keeps.few at.there, at.keeps.keyed)

      keys : List (Option ℕ)
      keys = keys_at old.flights.keys d e ++ Some key ∷ []

      joins : (v : Context) → context_in old.controller d e ≡ Some v → AllNameBuffers v.size (keys_at old.flights.keys d e) (line_at old.flights d e) v.ring.line.items
          → AllNameBuffers v.size keys line (v.ring.line.items ++ normals (normals_of key (tds_of x.size request)) ∷ [])
      joins v found all =
          let one : x ≡ v = same_Some x v (sym there ∙ found) in
          join_named v.size (keys_at old.flights.keys d e) (line_at old.flights d e) v.ring.line.items (Some key) (Some t) (normals (normals_of key (tds_of x.size request))) all
          (ap₂ (λ (y : Context) (r : Request). normals (normals_of key (tds_of y.size r))) one (sym is.asks_for))

      end : KeepsEnd old (Some h) d e (c.endpoints d e)
      end = end_at setup old c h d e at

      is_new : IsUnstarted h t n request round
      is_new = subst (λ (v : ℕ). IsUnstarted h t v request round) (sym (at.keeps.named h).number) is

      all : AllItems (Some h) e line b.line
      all = join_item (Some h) e (line_at old.flights d e) (c.endpoints d e).line (Some t) (new_kept (packet_size_of setup d e) (c.endpoints d e).end n request round) end.line
          (new_flight h e (packet_size_of setup d e) (c.endpoints d e).end t n request round is_new is_at)

      found : (s : DeviceSlot) × (slice_get old.controller.slots d ≡ Some s) × (context_of s e ≡ Some x) × HasRing setup d e (pipe_at s.pipes e) (c.endpoints d e) x
      found = ring_of setup old.controller c d e at.interface x at.keeps.held at.there there

      ring : HasRing setup d e (pipe_at found.0.pipes e) (c.endpoints d e) x
      ring = found.3
