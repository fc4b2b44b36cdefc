-- What was found of the transfer, of its endpoint and of its device.
use Rattle.std.proofs.Common.{Some, ap, refl, subst, sym, ◌∙◌}
use Rattle.std.specs.Option.{option_copied}
use Rattle.usb_xhc.specs.Slots.{sends}
use Rattle.refine_core.specs.Offers.{IsOffered, bytes_ahead}
use Rattle.refine_core.specs.State.{State}
use Rattle.usb_core.proofs.parts.Parts.offer_at.Goals.{in-In, in-Out+in_ok-out-in-Out}
use Rattle.usb_core.proofs.parts.Parts.offer_at.Goals as goal

pub returns-clause-offered : goal.returns-clause-offered
returns-clause-offered g c = subst (λ (s : State g.row.P.Denot). IsOffered s c.args.dev c.args.ep c.args.item c.in_ok-transfer.transfer.now.n c.match-transfer.out.now c.in_ok-room.room c.asks.result) c.self.view_is (record {
  slot = c.in_ok-slot.slot.now;
  there = sym c.slot.ensures ∙ ap option_copied c.in_ok-slot.was;
  transfer = c.in_ok-transfer.transfer.now;
  found = sym c.get.ensures ∙ ap option_copied c.in_ok-transfer.was;
  number = refl;
  bytes = elim c.match-transfer.branch [
    | in-In w ↦ ap (bytes_ahead c.in_ok-slot.slot.now c.args.ep) w.in-In.is ∙ ap (λ v. Some v.now) (sym w.out-is)
    | in-Out+in_ok-out-in-Out w ↦
        ap (bytes_ahead c.in_ok-slot.slot.now c.args.ep) w.in-Out.is ∙ ap (sends c.in_ok-slot.slot.now c.args.ep) (sym w.as_slice.ensures) ∙ sym w.next_packet.ensures
        ∙ ap option_copied w.in_ok-out-in-Out.was ∙ ap (λ v. Some v.now) (sym w.out-is)
  ];
  most = sym c.packet_room.ensures.value ∙ c.in_ok-room.was;
  asked = c.asks.ensures;
})
