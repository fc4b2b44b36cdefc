-- The next step is made.
use Rattle.std.proofs.Common.{◌∙◌, Bool, subst, sym}
use Rattle.tirnouch_c.specs.Settling.{Advances, next_step}
use Rattle.usb_model.specs.declared.step.Step.TheVariants.{Command, Deliver}
use Rattle.tirnouch_c.proofs.Steps.{by_turn, event_next, order_next, packet_made, packet_next}
use Rattle.tirnouch_c.proofs.settling.advance.Goals as goal

pub returns-then-has_event : goal.returns-then-has_event
returns-then-has_event c =
    by_turn (λ setup w. next_step setup c.args.packets w) c.args.core.now c.deliver.new.self Deliver c.deliver.result
    (λ setup w shows. event_next setup c.args.packets w (sym (c.has_event.ensures setup w shows) ∙ c.if-has_event.true)) c.deliver.ensures.turned c.deliver.ensures.carries

pub returns-then-has_order : goal.returns-then-has_order
returns-then-has_order c =
    by_turn (λ setup w. next_step setup c.args.packets w) c.args.core.now c.call.new.self Command c.call.result
    (λ setup w shows. order_next setup c.args.packets w (sym (c.has_event.ensures setup w shows) ∙ c.if-has_event.false) (sym (c.has_order.ensures setup w shows) ∙ c.if-has_order.true)) c.call.ensures.turned c.call.ensures.carries

pub returns-then-packets : goal.returns-then-packets
returns-then-packets c =
    subst (λ (b : Bool). Advances b c.serve_next.result c.args.core.now c.serve_next.new.core) (sym c.if-packets.true)
    (packet_made c.serve_next.result c.args.core.now c.serve_next.new.core
    (λ setup w shows. packet_next setup w (sym (c.has_event.ensures setup w shows) ∙ c.if-has_event.false) (sym (c.has_order.ensures setup w shows) ∙ c.if-has_order.false)) c.serve_next.ensures)
