-- What is told of a refused call is true.
use Rattle.std.proofs.Common.{◌≡◌, ℕ, Bool, true, false, List, [], ◌∷◌, Option, Some, None, refl, ap, subst}
use Rattle.std.specs.Option.{option_map}
use Rattle.usb_model.specs.declared.endpoint.Endpoint.{Endpoint}
use Rattle.usb_model.specs.declared.endpoint.EndpointState.{EndpointState}
use Rattle.usb_model.specs.declared.endpoint.EndpointState.TheVariants.{Running, Stopped, Halted}
use Rattle.usb_model.specs.declared.errand.Errand.{Errand}
use Rattle.usb_model.specs.declared.errand.Errand.TheVariants as errand
use Rattle.usb_model.specs.declared.item.Item.{Item}
use Rattle.usb_model.specs.declared.news.News.{News}
use Rattle.usb_model.specs.declared.order.Order.{Order}
use Rattle.usb_model.specs.declared.result.TransferResult.{TransferResult}
use Rattle.usb_model.specs.declared.shared.Tagged.{Tagged}
use Rattle.usb_model.specs.Endpoint.{first_waiting}
use Rattle.usb_model.specs.Endpoint.Serve.{next_answer}
use Rattle.usb_model.specs.Machine.{endpoint_at}
use Rattle.trace_explain.specs.declared.ends.End.{End}
use Rattle.trace_explain.specs.declared.sentence.Unready.{Unready}
use Rattle.trace_explain.specs.Endings.{answer_end, answer_reason, unready_by}
use Rattle.trace_explain.specs.Turns.{command_reason, deliver_reason, errand_reason, first_reason, held_reason, news_reason, order_reason, serve_reason, serve_reason_by, take_reason}
use Rattle.std.proofs.lemmas.Option.{same_Some}
use Rattle.usb_model.specs.declared.refusal.Refusal.{Refusal}
use Rattle.usb_model.specs.declared.step.Step.{Step}
use Rattle.usb_model.specs.declared.step.Step.TheVariants.{Open, Close, Claim, Release, Reset, ClearHalt, Submit, Cancel, Expire, Serve, Command, Deliver, Take, Answer, Unplug}
use Rattle.usb_model.specs.Setup.{Setup, is_device, packet_size_of}
use Rattle.usb_model.specs.World.{World, holder, machine_of}
use Rattle.trace_explain.specs.declared.refusal.CallRefusal.{CallRefusal}
use Rattle.trace_explain.specs.declared.sentence.Reason.{Reason}
use Rattle.trace_explain.specs.declared.sentence.Reason.TheVariants.{Nak, Refused}
use Rattle.trace_explain.specs.Endpoints.{listed_of}
use Rattle.trace_explain.specs.Reasons.{reason_of, refusal_told, unplug_reason}
use Rattle.trace_explain.specs.Truth.{IsTrue, Says, caller_of, request_in}
use Rattle.trace_explain.specs.Own.{IsOwn}
use Rattle.trace_explain.proofs.OwnCalls.{answer_own, cancel_own, claim_own, clear_own, close_own, expire_own, open_own, release_own, reset_own, submit_own}
use Rattle.trace_explain.proofs.TrueCalls.{answer_true, ask_true, claim_true, clear_true, close_true, open_true, release_true, reset_true, submit_true}

-- of a handle's call, where what refuses it is true
told_true : (setup : Setup) (w : World) (step : Step) (h : ℕ) (o : Option Refusal) → caller_of step ≡ Some h
    → ((r : Refusal) → o ≡ Some r → Says setup h (machine_of setup h w) w.claims (request_in (machine_of setup h w) step) r)
    → ((r : Refusal) → o ≡ Some r → IsOwn setup (machine_of setup h w) step (request_in (machine_of setup h w) step) r)
    → (x : CallRefusal) → refusal_told setup h (machine_of setup h w) o ≡ Some (Refused x) → IsTrue setup w step x
unfolding machine_of
told_true setup w step h None whose says own x e = absurd cc
told_true setup w step h (Some r) whose says own x e =
    subst (IsTrue setup w step) same (record { whose = whose; endpoints = refl; refusal = says r refl; own = own r refl })
  where
    call_of : Reason → CallRefusal
    call_of (Refused y) = y
    call_of other = record { h = h; endpoints = listed_of setup (w.names h).device; refusal = r }

    same : record { h = h; endpoints = listed_of setup (w.names h).device; refusal = r } ≡ x
    same = let both = same_Some (Refused (record { h = h; endpoints = listed_of setup (w.names h).device; refusal = r })) (Refused x) e in cc

-- whether a call is refused for it
is_call : Option Reason → Bool
is_call (Some (Refused x)) = true
is_call other = false

-- for none but such a reason
never : {A : Type 0} (o : Option Reason) (x : CallRefusal) → is_call o ≡ false → o ≡ Some (Refused x) → A
unfolding is_call
never o x isnt e = absurd (let is : is_call o ≡ true = ap is_call e in cc)

-- a device that answers is refused nothing
answer_never : (ep : ℕ) (e : Endpoint) (x : Item) (o : Option End) → is_call (answer_reason ep e x o) ≡ false
unfolding is_call
answer_never ep e x (Some end) = refl
answer_never ep e x None = by_unready (unready_by ep e.device_halted (next_answer e))
  where
    by_unready : (o : Option Unready) → is_call (option_map (λ y. Nak y) o) ≡ false
    by_unready None = refl
    by_unready (Some y) = refl

served_never : (size dev ep : ℕ) (gone : Bool) (e : Endpoint) (state : EndpointState) (o : Option Item) → is_call (first_reason size dev ep gone e state o) ≡ false
unfolding is_call
served_never size dev ep gone e Running None = refl
served_never size dev ep true e Running (Some x) = refl
served_never size dev ep false e Running (Some x) = answer_never ep e x (answer_end size e x)
served_never size dev ep gone e Stopped o = refl
served_never size dev ep gone e Halted o = refl

serve_never : (setup : Setup) (w : World) (dev ep : ℕ) → is_call (serve_reason setup w dev ep) ≡ false
unfolding is_call serve_reason held_reason
serve_never setup w dev ep = by_holder (holder setup w.claims dev ep)
  where
    by_holder : (o : Option ℕ) → is_call (serve_reason_by setup w dev ep o) ≡ false
    by_holder None = refl
    by_holder (Some h) = let e : Endpoint = w.endpoints dev ep in served_never (packet_size_of setup dev ep) dev ep (w.gone dev) e e.state (first_waiting e.line)

-- nor is an order
order_never : (h : ℕ) (order : Order) (o : Option Endpoint) → is_call (order_reason h order o) ≡ false
unfolding is_call
order_never h order None = refl
order_never h order (Some e) = by_errand order.errand e.state
  where
    by_errand : (kind : Errand) (state : EndpointState) → is_call (errand_reason order.ep kind state) ≡ false
    by_errand errand.Stop Running = refl
    by_errand errand.Stop Stopped = refl
    by_errand errand.Stop Halted = refl
    by_errand errand.Reset Running = refl
    by_errand errand.Reset Stopped = refl
    by_errand errand.Reset Halted = refl
    by_errand errand.Move Running = refl
    by_errand errand.Move Stopped = refl
    by_errand errand.Move Halted = refl

command_never : (setup : Setup) (w : World) (orders : List (Tagged Order)) → is_call (command_reason setup w orders) ≡ false
unfolding is_call command_reason
command_never setup w [] = refl
command_never setup w (x ∷ xs) = order_never x.name x.piece (endpoint_at (machine_of setup x.name w) x.piece.ep)

-- nor is a piece of news, or a result
deliver_never : (setup : Setup) (w : World) (news : List (Tagged News)) → is_call (deliver_reason setup w news) ≡ false
unfolding is_call deliver_reason
deliver_never setup w [] = refl
deliver_never setup w (x ∷ xs) = by_endpoint (endpoint_at (machine_of setup x.name w) x.piece.ep)
  where
    by_endpoint : (o : Option Endpoint) → is_call (news_reason x.name x.piece o) ≡ false
    by_endpoint None = refl
    by_endpoint (Some e) = refl

take_never : (results : List (Tagged TransferResult)) → is_call (take_reason results) ≡ false
unfolding is_call take_reason
take_never [] = refl
take_never (x ∷ xs) = refl

-- an Unplug has reasons of its own
unplug_never : (exists gone : Bool) (dev : ℕ) → is_call (unplug_reason exists gone dev) ≡ false
unfolding is_call
unplug_never false gone dev = refl
unplug_never true true dev = refl
unplug_never true false dev = refl

pub reasons_true : (setup : Setup) (w : World) (step : Step) (x : CallRefusal) → reason_of setup w step ≡ Some (Refused x) → IsTrue setup w step x
unfolding reason_of
reasons_true setup w (Open h dev) x e = told_true setup w (Open h dev) h _ refl (open_true setup h (machine_of setup h w) w.claims None dev) (open_own setup h (machine_of setup h w) dev) x e
reasons_true setup w (Close h) x e = told_true setup w (Close h) h _ refl (close_true setup h (machine_of setup h w) w.claims None) (close_own setup h (machine_of setup h w)) x e
reasons_true setup w (Claim h i) x e = told_true setup w (Claim h i) h _ refl (claim_true setup h (machine_of setup h w) w.claims None i) (claim_own setup h (machine_of setup h w) w.claims i) x e
reasons_true setup w (Release h i) x e = told_true setup w (Release h i) h _ refl (release_true setup h (machine_of setup h w) w.claims None i) (release_own setup h (machine_of setup h w) i) x e
reasons_true setup w (Reset h) x e = told_true setup w (Reset h) h _ refl (reset_true setup h (machine_of setup h w) w.claims None) (reset_own setup h (machine_of setup h w) w.claims) x e
reasons_true setup w (ClearHalt h ep) x e = told_true setup w (ClearHalt h ep) h _ refl (clear_true setup h (machine_of setup h w) w.claims None ep) (clear_own setup h (machine_of setup h w) ep) x e
reasons_true setup w (Submit h request) x e = told_true setup w (Submit h request) h _ refl (submit_true setup h (machine_of setup h w) w.claims request) (submit_own setup h (machine_of setup h w) request) x e
reasons_true setup w (Cancel h n) x e = told_true setup w (Cancel h n) h _ refl (ask_true setup h (machine_of setup h w) w.claims None n false) (cancel_own setup h (machine_of setup h w) n) x e
reasons_true setup w (Expire h n) x e = told_true setup w (Expire h n) h _ refl (ask_true setup h (machine_of setup h w) w.claims None n true) (expire_own setup h (machine_of setup h w) n) x e
reasons_true setup w (Serve dev ep) x e = never (serve_reason setup w dev ep) x (serve_never setup w dev ep) e
reasons_true setup w Command x e = never (command_reason setup w w.orders) x (command_never setup w w.orders) e
reasons_true setup w Deliver x e = never (deliver_reason setup w w.news) x (deliver_never setup w w.news) e
reasons_true setup w Take x e = never (take_reason w.results) x (take_never w.results) e
reasons_true setup w (Answer h n verdict) x e = told_true setup w (Answer h n verdict) h _ refl (answer_true setup h (machine_of setup h w) w.claims n verdict) (answer_own setup h (machine_of setup h w) n verdict) x e
reasons_true setup w (Unplug dev) x e = never (unplug_reason (is_device setup dev) (w.gone dev) dev) x (unplug_never (is_device setup dev) (w.gone dev) dev) e
