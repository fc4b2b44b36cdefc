use Rattle.std.proofs.Common.{ap, sym, ◌∙◌}
use Rattle.usb_tables.specs.Settlements.{resumed_at, settled_by}
use Rattle.usb_tables.proofs.Settlements.{moved, stop_failed, stopped, was_reset}
use Rattle.usb_tables.proofs.ended.settle.Goals as goal

pub returns-in-Stop-clause-endpoint : goal.returns-in-Stop-clause-endpoint
returns-in-Stop-clause-endpoint c = λ ep next b e. stop_failed c.args.errand c.args.ok c.in-Stop.is c.if-not-ok.true ep next b

pub returns-in-Stop-2-clause-endpoint : goal.returns-in-Stop-2-clause-endpoint
returns-in-Stop-2-clause-endpoint c = λ ep next b e.
    stopped c.args.errand c.args.ok c.in-Stop-2.is c.if-not-ok.false c.args.line.now ep next b e
    ∙ ap (λ s. settled_by s ep next b c.args.errand c.args.ok) (sym c.resume.ensures)

pub returns-in-Reset-clause-endpoint : goal.returns-in-Reset-clause-endpoint
returns-in-Reset-clause-endpoint c = λ ep next b e. was_reset c.args.errand c.args.ok c.in-Reset.is ep next b

pub returns-in-Move-clause-endpoint : goal.returns-in-Move-clause-endpoint
returns-in-Move-clause-endpoint c = λ ep next b e.
    moved c.args.errand c.args.ok c.in-Move.is c.args.line.now ep next b e
    ∙ ap (λ s. settled_by s ep next b c.args.errand c.args.ok) (sym (c.resume-in-Move.ensures ∙ ap (λ k. resumed_at k c.args.line.now) c.leading_blanks.ensures.value))
