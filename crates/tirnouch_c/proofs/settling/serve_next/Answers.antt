-- The next packet is served.
use Rattle.std.proofs.Common.{◌∙◌, ℕ, Option, ap, sym}
use Rattle.std.specs.Option.{option_map}
use Rattle.usb_model.specs.declared.step.Step.TheVariants.{Serve}
use Rattle.tirnouch_c.specs.Settling.{next_packet}
use Rattle.tirnouch_c.proofs.Steps.{by_turn}
use Rattle.tirnouch_c.proofs.settling.serve_next.Goals as goal

pub returns-in-Some : goal.returns-in-Some
returns-in-Some c =
    by_turn next_packet c.args.core.now c.serve.new.self (Serve c.in-Some.at.0 c.in-Some.at.1) c.serve.result
    (λ setup w shows. sym (c.next_packet.ensures setup w shows) ∙ ap (λ (o : Option (ℕ × ℕ)). option_map (λ x. Serve x.0 x.1) o) c.in-Some.is) c.serve.ensures.turned c.serve.ensures.carries
