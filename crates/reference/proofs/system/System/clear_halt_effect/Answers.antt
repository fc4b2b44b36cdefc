-- The halt ends where no test holds.
use Rattle.std.proofs.Common.{◌≡◌, Some, None, sym, ap, ◌∙◌}
use Rattle.std.specs.Option.{option_copied}
use Rattle.usb_model.specs.Machine.{Machine}
use Rattle.usb_model.specs.World.{machine_with}
use Rattle.reference.specs.System.{world_of}
use Rattle.reference.proofs.Steps.{end_there, none_there, clears_nothing, clears_by}
use Rattle.reference.proofs.system.System.clear_halt_effect.Goals as goal

pub returns-in_default-clause-effect : goal.returns-in_default-clause-effect
returns-in_default-clause-effect c =
    let m : Machine = machine_with c.args.setup.now c.args.h c.args.handle (world_of c.args.setup.now c.args.self.now) in
    c.refuses.ensures ∙ sym (clears_nothing m c.args.ep _ (none_there m c.args.ep c.in_default.is))

pub returns-in_default-endpoint_of-clause-effect : goal.returns-in_default-endpoint_of-clause-effect
returns-in_default-endpoint_of-clause-effect c =
    let m : Machine = machine_with c.args.setup.now c.args.h c.args.handle (world_of c.args.setup.now c.args.self.now) in
    c.refuses-in_default-endpoint_of.ensures ∙ sym (clears_nothing m c.args.ep _ (end_there m c.in-Some.dev c.args.ep None c.in-Some.is (sym (c.endpoint_of.ensures) ∙ ap option_copied c.in_default-endpoint_of.is)))

pub returns-in-Some-clear_refusal-clause-effect : goal.returns-in-Some-clear_refusal-clause-effect
returns-in-Some-clear_refusal-clause-effect c =
    let m : Machine = machine_with c.args.setup.now c.args.h c.args.handle (world_of c.args.setup.now c.args.self.now) in
    c.refuses-in-Some-clear_refusal.ensures
    ∙ sym (clears_by m c.args.ep c.in-Some.dev _ c.in-Some-endpoint_of.seen.now c.in-Some.is (end_there m c.in-Some.dev c.args.ep _ c.in-Some.is (sym (c.endpoint_of.ensures) ∙ ap option_copied c.in-Some-endpoint_of.is))
    ∙ c.in-Some-clear_refusal.ensures _)

pub returns-clause-effect : goal.returns-clause-effect
returns-clause-effect c =
    let m : Machine = machine_with c.args.setup.now c.args.h c.args.handle (world_of c.args.setup.now c.args.self.now) in
    let seen : m.endpoints c.in-Some.dev c.args.ep ≡ Some c.in-Some-endpoint_of.seen.now = sym (c.endpoint_of.ensures) ∙ ap option_copied c.in-Some-endpoint_of.is in
    let taken : m.endpoints c.in-Some.dev c.args.ep ≡ Some c.take_found-endpoint.result = c.take_found-endpoint.ensures.taken in
    let same : c.take_found-endpoint.result ≡ c.in-Some-endpoint_of.seen.now = cc (taken, seen) in
    rw (c.does.ensures, c.unhalt-endpoint.ensures, same)
    (sym (clears_by m c.args.ep c.in-Some.dev _ c.in-Some-endpoint_of.seen.now c.in-Some.is (end_there m c.in-Some.dev c.args.ep _ c.in-Some.is seen) ∙ c.in_default-clear_refusal.ensures _))
