use Rattle.std.proofs.Common.{ap, ◌∙◌}
use Rattle.usb_model.specs.Endpoint.Status.{status_of}
use Rattle.usb_tables.specs.Statuses.{is_short_an_error}
use Rattle.usb_tables.proofs.Statuses.{exact}
use Rattle.usb_tables.proofs.status.result.Goals as goal

pub returns-clause-exact : goal.returns-clause-exact
returns-clause-exact c = λ s.
    exact c.status_of.result s c.args.code c.args.ask (is_short_an_error c.args.flags) c.args.length c.args.moved
    (c.status_of.ensures ∙ ap (λ t. status_of c.args.code c.args.ask t c.args.length c.args.moved) (c.contains.ensures tt))
