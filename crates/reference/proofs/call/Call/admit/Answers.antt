-- A submission is refused where its tests say so.
use Rattle.std.proofs.Common.{refl, sym, ap, ◌∙◌}
use Rattle.std.specs.Option.{option_copied}
use Rattle.usb_model.specs.Machine.{Machine}
use Rattle.usb_model.specs.World.{machine_with}
use Rattle.reference.specs.Call.{machine_in}
use Rattle.reference.proofs.Submissions.{not_there, tests_decide, admits_at}
use Rattle.reference.proofs.call.Call.admit.Goals as goal

pub returns-in_default-endpoint_of-clause-refused : goal.returns-in_default-endpoint_of-clause-refused
returns-in_default-endpoint_of-clause-refused c =
    let m : Machine = machine_in c.args.self.now c.args.handle.now in
    λ after round. not_there c.args.self.now.setup.now m after c.args.request.now round c.in-Some.dev c.in-Some.is (sym (c.endpoint_of.ensures) ∙ ap option_copied c.in_default-endpoint_of.is)

pub returns-in-Some-refusal-clause-refused : goal.returns-in-Some-refusal-clause-refused
returns-in-Some-refusal-clause-refused c =
    let m : Machine = machine_in c.args.self.now c.args.handle.now in
    λ after round. tests_decide c.args.self.now.setup.now m after c.args.request.now round c.in-Some.dev c.in-Some-endpoint_of.endpoint.now c.in-Some.is (sym (c.endpoint_of.ensures) ∙ ap option_copied c.in-Some-endpoint_of.is)
    ∙ c.in-Some-refusal.ensures.tests _

pub returns-in-None-clause-admitted : goal.returns-in-None-clause-admitted
returns-in-None-clause-admitted c =
    let m : Machine = machine_in c.args.self.now c.args.handle.now in
    (c.in-Some.is, c.in-None.ensures.room refl, admits_at c.args.self.now.setup.now m c.in-Some.dev c.args.request.now c.in-Some-endpoint_of.endpoint.now c.in-Some.is (sym (c.endpoint_of.ensures) ∙ ap option_copied c.in-Some-endpoint_of.is) c.in-None.ensures.tests)
