-- A packet is served, or there is nothing to serve.
use Rattle.std.proofs.Common.{◌≡◌, ℕ, Bool, true, false, Some, None, Option, ap, refl, sym, subst, ◌∙◌, arith}
use Rattle.std.specs.Prelude.{IfSome, option_map, slice_get}
use Rattle.std.specs.Option.{option_and_then}
use Rattle.usb_model.specs.declared.reply.Reply.TheVariants.{Idle}
use Rattle.usb_model.specs.declared.step.Step.TheVariants.{Serve}
use Rattle.usb_device.specs.Pipe.{answer_of, pipe_at}
use Rattle.usb_xhc.specs.declared.packet.PacketResult.{PacketResult as ServedPacket}
use Rattle.usb_xhc.specs.declared.trb_at.TrbAt.{TrbAt}
use Rattle.usb_xhc.specs.Context.{Context}
use Rattle.usb_xhc.specs.Transaction.{working}
use Rattle.usb_tables.specs.declared.transfer.Transfer.{Transfer as InFlight}
use Rattle.usb_xhc.specs.Controller.{Controller, served_at, told_at}
use Rattle.usb_xhc.specs.Slots.{DeviceSlot, context_of, serving, serving_at}
use Rattle.usb_tables.specs.TransfersInFlight.{TransfersInFlight, item_at}
use Rattle.refine_core.specs.Packets.{Serves, out_of}
use Rattle.refine_rings.specs.Reports.{reply_of}
use Rattle.refine_world.specs.Calls.{step_core}
use Rattle.refine_core.specs.State.{IsState, State}
use Rattle.refine_core.specs.Steps.{DoesCoreStep}
use Rattle.refine_core.specs.Works.{CanServeItem, IsAt, IsFront, IsHolder, context_in}
use Rattle.refine_core.proofs.Fronts.{at_work, serves_safely}
use Rattle.refine_core.proofs.Held.{is_at}
use Rattle.refine_core.proofs.Packets.{serves_nobody, serves_none, serves_packet}
use Rattle.refine_core.proofs.Orders.{few_events}
use Rattle.refine_core.proofs.Serves.{moves}

-- where the controller works something is told
told_some : (k : Controller) (d e : ℕ) (x : Context) (first : TrbAt) → context_in k d e ≡ Some x → working x ≡ Some first → told_at k d e ≡ None → ⊥
told_some k d e x first there work none = by_slot (slice_get k.slots d) refl
  where
    by_gone : (gone : Bool) (s : DeviceSlot) → option_map (λ v. v.packet) (serving_at gone x (answer_of (pipe_at s.pipes e)) (Some first)) ≡ None → ⊥
    by_gone true s is = absurd cc
    by_gone false s is = absurd cc

    by_slot : (o : Option DeviceSlot) → slice_get k.slots d ≡ o → ⊥
    by_slot None is =
        let both : None ≡ Some x = sym (ap (λ (o : Option DeviceSlot). option_and_then (λ v. context_of v e) o) is) ∙ there in
        absurd cc
    by_slot (Some s) is =
        let context : context_of s e ≡ Some x = sym (ap (λ (o : Option DeviceSlot). option_and_then (λ v. context_of v e) o) is) ∙ there in
        by_gone s.gone s (
        sym (ap (λ (o : Option TrbAt). option_map (λ v. v.packet) (serving_at s.gone x (answer_of (pipe_at s.pipes e)) o)) work)
        ∙ sym (ap (λ (o : Option Context). option_map (λ v. v.packet) (option_and_then (λ c. serving_at s.gone c (answer_of (pipe_at s.pipes e)) (working c)) o)) context)
        ∙ sym (ap (λ (o : Option DeviceSlot). option_and_then (λ v. option_map (λ z. z.packet) (serving v e)) o) is) ∙ none
        )

module _ {P : Type 0} where
  -- nobody holds the endpoint
  pub nobody : (s : State P) (d e : ℕ) → IsHolder s d e None → DoesCoreStep s (Serve d e) (record { owner = None; reply = Idle }) s
  unfolding step_core
  nobody s d e none = λ setup w c keeps shows. serves_nobody setup s c d e keeps none

  -- nothing is to be served
  pub nothing : (s : State P) (h d e : ℕ) → IsHolder s d e (Some h) → IsFront s d e None → DoesCoreStep s (Serve d e) (record { owner = Some h; reply = Idle }) s
  unfolding step_core
  nothing s h d e held front = λ setup w c keeps shows. serves_none setup w s c h d e (is_at setup s c h d e keeps held) shows front

  -- one packet can be served
  pub can_serve : (s : State P) (h d e item : ℕ) → IsState s → IsHolder s d e (Some h) → IsFront s d e (Some item) → CanServeItem s d e item
  can_serve s h d e item is held front =
      let known = front.known item refl in
      serves_safely is.0 is.1 s is.2.0 h d e item known.0 known.1 (is_at is.0 s is.2.0 h d e is.2.1 held) is.2.2 known.2 known.3 front
      (omega (arith, few_events is.0 is.1 s is.2.0 is.2.1 is.2.2))

  -- one is served
  pub is_served : (s : State P) (d e item : ℕ) (o : Option (ℕ × ServedPacket)) → IsFront s d e (Some item) → option_map (λ x. x.1) o ≡ told_at s.controller d e → o ≡ None → ⊥
  is_served s d e item o front is none =
      let known = front.known item refl in
      told_some s.controller d e known.0 known.1 known.2 known.3 (sym is ∙ ap (option_map (λ (x : ℕ × ServedPacket). x.1)) none)

  -- it is the core's
  pub packet : (old : State P) (k : Controller) (f : TransfersInFlight (InFlight P)) (h d e item : ℕ) (o : Option (ℕ × ServedPacket)) (x : ℕ × ServedPacket) → IsState old → IsHolder old d e (Some h) → IsFront old d e (Some item) → o ≡ Some x
      → option_map (λ x. x.1) o ≡ told_at old.controller d e → IfSome o (λ x. (t : InFlight P) → item_at old.flights d e item ≡ Some t → t.n ≡ x.0)
      → ((t : InFlight P) → item_at old.flights d e item ≡ Some t → k ≡ served_at old.controller d e (out_of e t.request.body))
      → ((t : InFlight P) → item_at old.flights d e item ≡ Some t → Serves old.flights f old.controller d e item t)
      → DoesCoreStep old (Serve d e) (record { owner = Some h; reply = reply_of x.0 x.1 }) (record old { controller = k; flights = f })
  unfolding step_core
  packet old k f h d e item o x is held front some told number is_k is_f = λ setup w c keeps shows.
      let known = front.known item refl in
      let at : IsAt setup old c h d e = is_at setup old c h d e keeps held in
      let work = at_work setup w old c h d e item known.0 known.1 at shows known.2 known.3 front in
      serves_packet setup w old (record old { controller = k; flights = f }) c h d e item x.0 x.1 at shows front
      (moves old k f h d e item x.0 x.1 known.0 known.1 known.2 known.3 (sym (ap (option_map (λ (y : ℕ × ServedPacket). y.1)) some) ∙ told)
      (subst (λ (y : Option (ℕ × ServedPacket)). IfSome y (λ z. (t : InFlight P) → item_at old.flights d e item ≡ Some t → t.n ≡ z.0)) some number) is_k is_f
      (ap (λ (v : TransfersInFlight (InFlight P)). v.ended) (is_f work.is.t work.is.found).put))
