use Rattle.std.proofs.Common.{◌∙◌}
use Rattle.std.specs.Prelude.{◌==◌}
use Rattle.refine_core.proofs.Settleable.{can_leave, can_settle_left, settle_fits}
use Rattle.refine_core.proofs.ErrandEnds.{can_settle, settles_event}
use Rattle.refine_core.proofs.Payloads.{still_on}
use Rattle.usb_core.proofs.parts.Parts.settle.Goals as goal

pub leave-requires : goal.leave-requires
leave-requires g c =
    let fits = settle_fits c.args.self.now _ c.self.view_is c.args.at.dev c.args.at.ep c.requires.0 c.requires.1 c.args.at.name c.args.errand c.args.code c.settle-settlement.result c.as_slice.result.now c.requires.2
    (c.as_slice.ensures.value ∙ c.marks-marks.ensures) c.settle-settlement.ensures.leave c.settle-settlement.ensures.withdraw c.settle-settlement.ensures.endpoint in
    can_leave c.requires.0 c.args.self.now c.requires.1 c.args.at.name c.args.at.dev c.args.at.ep c.requires.1.posted c.args.errand c.args.code (c.args.code == 1) c.settle-settlement.result c.requires.2 fits

pub withdraw_if-requires : goal.withdraw_if-requires
withdraw_if-requires g c = can_settle_left c.args.self.now c.leave.new.self c.args.at.name c.args.at.dev c.args.at.ep c.settle-settlement.result.leave (can_settle c.requires.0 c.args.self.now c.requires.1 c.args.at.name c.args.at.dev c.args.at.ep c.args.errand c.args.code c.requires.2) (c.leave.ensures.done c.args.at.name)

pub returns-clause-done : goal.returns-clause-done
returns-clause-done g c = λ setup core is.
    let fits = settle_fits c.args.self.now _ c.self.view_is c.args.at.dev c.args.at.ep setup core c.args.at.name c.args.errand c.args.code c.settle-settlement.result c.as_slice.result.now is
    (c.as_slice.ensures.value ∙ c.marks-marks.ensures) c.settle-settlement.ensures.leave c.settle-settlement.ensures.withdraw c.settle-settlement.ensures.endpoint in
    settles_event setup c.args.self.now c.leave.new.self c.withdraw_if.new.self c.go_on.new.self core c.args.at.name c.args.at.dev c.args.at.ep c.args.errand c.args.code c.settle-settlement.result is fits
    (c.leave.ensures.done c.args.at.name) c.withdraw_if.ensures.all c.withdraw_if.ensures.none (λ none. c.go_on.ensures.resumed c.args.at.name none) (λ o some. c.go_on.ensures.ordered c.args.at.name o some)

pub returns-clause-carries : goal.returns-clause-carries
returns-clause-carries g c = still_on c.args.self.now c.withdraw_if.new.self c.go_on.new.self (still_on c.args.self.now c.leave.new.self c.withdraw_if.new.self c.leave.ensures.carries c.withdraw_if.ensures.carries) c.go_on.ensures.carries
