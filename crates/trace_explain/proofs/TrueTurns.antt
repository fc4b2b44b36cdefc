-- What is told of the steps of device, controller and event loop is true.
use Rattle.std.proofs.Common.{◌≡◌, ℕ, Bool, true, false, List, [], ◌∷◌, ◌++◌, take, Option, Some, None, refl, sym, ap, subst}
use Rattle.std.specs.Prelude.{IfSome, is_some, if◌then◌else◌}
use Rattle.std.specs.Option.{option_map}
use Rattle.usb_model.specs.declared.endpoint.Endpoint.{Endpoint}
use Rattle.usb_model.specs.declared.endpoint.EndpointState.{EndpointState}
use Rattle.usb_model.specs.declared.endpoint.EndpointState.TheVariants.{Running, Stopped, Halted}
use Rattle.usb_model.specs.declared.errand.Errand.{Errand}
use Rattle.usb_model.specs.declared.errand.Errand.TheVariants as errand
use Rattle.usb_model.specs.declared.item.Item.{Item}
use Rattle.usb_model.specs.declared.news.News.{News}
use Rattle.usb_model.specs.declared.order.Order.{Order}
use Rattle.usb_model.specs.declared.refusal.Refusal.{Refusal}
use Rattle.usb_model.specs.declared.response.Response.{Response}
use Rattle.usb_model.specs.declared.response.Response.TheVariants as response
use Rattle.usb_model.specs.declared.result.TransferResult.{TransferResult}
use Rattle.usb_model.specs.declared.shared.Tagged.{Tagged}
use Rattle.usb_model.specs.declared.step.Step.{Step}
use Rattle.usb_model.specs.declared.step.Step.TheVariants.{Open, Close, Claim, Release, Reset, ClearHalt, Submit, Cancel, Expire, Serve, Command, Deliver, Take, Answer, Unplug}
use Rattle.usb_model.specs.Endpoint.{first_waiting}
use Rattle.usb_model.specs.Endpoint.Serve.{next_answer}
use Rattle.usb_model.specs.Machine.{Machine, endpoint_at}
use Rattle.usb_model.specs.Setup.{Setup, interface_of, is_device, packet_size_of}
use Rattle.usb_model.specs.World.{World, holder, machine_of}
use Rattle.trace_explain.specs.declared.ends.End.{End}
use Rattle.trace_explain.specs.declared.ends.End.TheVariants.{Babble, Broken, Short, Stall, Whole}
use Rattle.trace_explain.specs.declared.sentence.TransferEnd.TheVariants as ending
use Rattle.trace_explain.specs.declared.sentence.Reason.{Reason}
use Rattle.trace_explain.specs.declared.sentence.Reason.TheVariants as reason
use Rattle.trace_explain.specs.Endings.{answer_end, answer_reason, ending_of, unready_by}
use Rattle.trace_explain.specs.Reasons.{reason_of, refusal_told, unplug_reason}
use Rattle.trace_explain.specs.Truth.{EndedIs, EndingBy, EndsThere, FailedIs, IdleIs, ReasonIs, ending_ep}
use Rattle.trace_explain.specs.Turns.{command_reason, deliver_reason, errand_reason, first_reason, held_reason, news_reason, order_reason, serve_reason, serve_reason_by, take_reason, unheld}
use Rattle.trace_explain.proofs.TrueEnds.{ends_true}

-- what a reason says holds, where there is one
abbrev pub Holds : Setup → World → Step → Option Reason → Type 0
Holds setup w step None = Unit {0}
Holds setup w step (Some r) = ReasonIs setup w step r

module _ (setup : Setup) (w : World) where
  -- of a refused call that is said elsewhere
  refused_holds : (step : Step) (h : ℕ) (m : Machine) (o : Option Refusal) → Holds setup w step (refusal_told setup h m o)
  refused_holds step h m None = tt
  refused_holds step h m (Some r) = tt

  -- why a device gives no packet
  unready_holds : (dev ep : ℕ) (b : Bool) → (w.endpoints dev ep).device_halted ≡ b → (script : List Response) → (w.endpoints dev ep).script_left ≡ script
      → Holds setup w (Serve dev ep) (option_map (λ u. reason.Nak u) (unready_by ep b (if b then [] else take 1 script)))
  unready_holds dev ep true halted script left = (dev, refl, halted)
  unready_holds dev ep false ready [] left = (dev, refl, (ready, left))
  unready_holds dev ep false ready (response.Nak ∷ rest) left = (dev, refl, (rest, left))
  unready_holds dev ep false ready (response.Data bytes ∷ rest) left = tt
  unready_holds dev ep false ready (response.Ack ∷ rest) left = tt
  unready_holds dev ep false ready (response.Stall ∷ rest) left = tt
  unready_holds dev ep false ready (response.Broken ∷ rest) left = tt

  there_so : (dev ep : ℕ) (x : Item) → first_waiting (w.endpoints dev ep).line ≡ Some x → (end : End) → answer_end (packet_size_of setup dev ep) (w.endpoints dev ep) x ≡ Some end
      → ending_ep ep (ending_of ep (w.endpoints dev ep) x end) ≡ ep → EndsThere setup w (Serve dev ep) (ending_of ep (w.endpoints dev ep) x end)
  there_so dev ep x there end is named = record { dev = dev; ep = ep; served = refl; named = named; item = x; first = there; says = ends_true (packet_size_of setup dev ep) ep (w.endpoints dev ep) x end is }

  -- how the first transfer that waits ended
  end_holds : (dev ep : ℕ) (x : Item) → first_waiting (w.endpoints dev ep).line ≡ Some x → (end : End) → answer_end (packet_size_of setup dev ep) (w.endpoints dev ep) x ≡ Some end
      → EndedIs setup w (Serve dev ep) (ending_of ep (w.endpoints dev ep) x end)
  end_holds dev ep x there Whole is = there_so dev ep x there Whole is refl
  end_holds dev ep x there (Short moved) is = there_so dev ep x there (Short moved) is refl
  end_holds dev ep x there Stall is = by_halted (w.endpoints dev ep).device_halted (ends_true (packet_size_of setup dev ep) ep (w.endpoints dev ep) x Stall is)
    where
      by_halted : (b : Bool) → EndingBy x.request (packet_size_of setup dev ep) (x.share ++ next_answer (w.endpoints dev ep)) (w.endpoints dev ep).device_halted (if b then ending.Halted ep else ending.Stall ep)
          → EndedIs setup w (Serve dev ep) (if b then ending.Halted ep else ending.Stall ep)
      by_halted true says = record { dev = dev; ep = ep; served = refl; named = refl; item = x; first = there; says = says }
      by_halted false says = record { dev = dev; ep = ep; served = refl; named = refl; item = x; first = there; says = says }
  end_holds dev ep x there Broken is = there_so dev ep x there Broken is refl
  end_holds dev ep x there Babble is = there_so dev ep x there Babble is refl

  answer_holds : (dev ep : ℕ) (x : Item) → first_waiting (w.endpoints dev ep).line ≡ Some x → (o : Option End) → answer_end (packet_size_of setup dev ep) (w.endpoints dev ep) x ≡ o → Holds setup w (Serve dev ep) (answer_reason ep (w.endpoints dev ep) x o)
  answer_holds dev ep x there (Some end) is = end_holds dev ep x there end is
  answer_holds dev ep x there None is = unready_holds dev ep (w.endpoints dev ep).device_halted refl (w.endpoints dev ep).script_left refl

  -- a device that is asked
  served_holds : (dev ep : ℕ) (gone : Bool) → w.gone dev ≡ gone → (state : EndpointState) → (w.endpoints dev ep).state ≡ state → (o : Option Item) → first_waiting (w.endpoints dev ep).line ≡ o
      → Holds setup w (Serve dev ep) (first_reason (packet_size_of setup dev ep) dev ep gone (w.endpoints dev ep) state o)
  served_holds dev ep gone is Running stands None none = (dev, refl, none)
  served_holds dev ep true is Running stands (Some x) there = (ep, refl, is)
  served_holds dev ep false is Running stands (Some x) there = answer_holds dev ep x there (answer_end (packet_size_of setup dev ep) (w.endpoints dev ep) x) refl
  served_holds dev ep gone is Stopped stands o there = (dev, refl, stands, λ q. cc)
  served_holds dev ep gone is Halted stands o there = (dev, refl, stands, λ q. cc)

  -- where nobody holds the endpoint
  unheld_holds : (dev ep : ℕ) → holder setup w.claims dev ep ≡ None → (b : Bool) → is_device setup dev ≡ b → (o : Option ℕ) → interface_of setup dev ep ≡ o → IdleIs setup w (Serve dev ep) (unheld setup dev ep b o)
  unheld_holds dev ep none false isnt o i = isnt
  unheld_holds dev ep none true is None i = (is, i, refl)
  unheld_holds dev ep none true is (Some k) i = (ap is_some i, none)

  serve_holds : (dev ep : ℕ) → Holds setup w (Serve dev ep) (serve_reason setup w dev ep)
  unfolding serve_reason held_reason
  serve_holds dev ep = by_holder (holder setup w.claims dev ep) refl
    where
      by_holder : (o : Option ℕ) → holder setup w.claims dev ep ≡ o → Holds setup w (Serve dev ep) (serve_reason_by setup w dev ep o)
      by_holder None none = unheld_holds dev ep none (is_device setup dev) refl (interface_of setup dev ep) refl
      by_holder (Some h) its = served_holds dev ep (w.gone dev) refl (w.endpoints dev ep).state refl (first_waiting (w.endpoints dev ep).line) refl

  -- an order that fails, or is of an endpoint that is its handle's no more
  order_holds : (x : Tagged Order) (xs : List (Tagged Order)) → w.orders ≡ x ∷ xs → (o : Option Endpoint) → endpoint_at (machine_of setup x.name w) x.piece.ep ≡ o → Holds setup w Command (order_reason x.name x.piece o)
  order_holds x xs first None none = none
  order_holds x xs first (Some e) there = by_errand x.piece.errand e.state refl
    where
      fails : (state : EndpointState) → e.state ≡ state → FailedIs setup w x.piece.ep state
      fails state stands = record { order = x; rest = xs; first = first; its = refl; stands = subst (λ (p : Option Endpoint). IfSome p (λ y. y.state ≡ state)) (sym there) stands }

      by_errand : (kind : Errand) (state : EndpointState) → e.state ≡ state → Holds setup w Command (errand_reason x.piece.ep kind state)
      by_errand errand.Stop Running q = tt
      by_errand errand.Stop Stopped q = fails Stopped q
      by_errand errand.Stop Halted q = fails Halted q
      by_errand errand.Reset Running q = fails Running q
      by_errand errand.Reset Stopped q = fails Stopped q
      by_errand errand.Reset Halted q = tt
      by_errand errand.Move Running q = fails Running q
      by_errand errand.Move Stopped q = tt
      by_errand errand.Move Halted q = fails Halted q

  command_holds : (orders : List (Tagged Order)) → w.orders ≡ orders → Holds setup w Command (command_reason setup w orders)
  unfolding command_reason
  command_holds [] none = none
  command_holds (x ∷ xs) there = order_holds x xs there (endpoint_at (machine_of setup x.name w) x.piece.ep) refl

  -- an event of such an endpoint
  news_holds : (h : ℕ) (news : News) (o : Option Endpoint) → endpoint_at (machine_of setup h w) news.ep ≡ o → Holds setup w Deliver (news_reason h news o)
  news_holds h news None none = none
  news_holds h news (Some e) there = tt

  deliver_holds : (news : List (Tagged News)) → w.news ≡ news → Holds setup w Deliver (deliver_reason setup w news)
  unfolding deliver_reason
  deliver_holds [] none = none
  deliver_holds (x ∷ xs) there = news_holds x.name x.piece (endpoint_at (machine_of setup x.name w) x.piece.ep) refl

  -- a result
  take_holds : (results : List (Tagged TransferResult)) → w.results ≡ results → Holds setup w Take (take_reason results)
  unfolding take_reason
  take_holds [] none = none
  take_holds (x ∷ xs) there = record { result = x; rest = xs; first = there; status = refl; moved = refl; bytes = refl; short_not_ok = refl }

  unplug_holds : (dev : ℕ) (exists : Bool) → is_device setup dev ≡ exists → (gone : Bool) → w.gone dev ≡ gone → Holds setup w (Unplug dev) (unplug_reason exists gone dev)
  unplug_holds dev false isnt gone q = (refl, isnt)
  unplug_holds dev true is true gone = (refl, gone)
  unplug_holds dev true is false there = tt

  -- of every step
  step_holds : (step : Step) → Holds setup w step (reason_of setup w step)
  unfolding reason_of
  step_holds (Open h dev) = refused_holds (Open h dev) h (machine_of setup h w) _
  step_holds (Close h) = refused_holds (Close h) h (machine_of setup h w) _
  step_holds (Claim h i) = refused_holds (Claim h i) h (machine_of setup h w) _
  step_holds (Release h i) = refused_holds (Release h i) h (machine_of setup h w) _
  step_holds (Reset h) = refused_holds (Reset h) h (machine_of setup h w) _
  step_holds (ClearHalt h ep) = refused_holds (ClearHalt h ep) h (machine_of setup h w) _
  step_holds (Submit h request) = refused_holds (Submit h request) h (machine_of setup h w) _
  step_holds (Cancel h n) = refused_holds (Cancel h n) h (machine_of setup h w) _
  step_holds (Expire h n) = refused_holds (Expire h n) h (machine_of setup h w) _
  step_holds (Serve dev ep) = serve_holds dev ep
  step_holds Command = command_holds w.orders refl
  step_holds Deliver = deliver_holds w.news refl
  step_holds Take = take_holds w.results refl
  step_holds (Answer h n verdict) = refused_holds (Answer h n verdict) h (machine_of setup h w) _
  step_holds (Unplug dev) = unplug_holds dev (is_device setup dev) refl (w.gone dev) refl

pub others_true : (setup : Setup) (w : World) (step : Step) (r : Reason) → reason_of setup w step ≡ Some r → ReasonIs setup w step r
others_true setup w step r e = subst (Holds setup w step) e (step_holds setup w step)
