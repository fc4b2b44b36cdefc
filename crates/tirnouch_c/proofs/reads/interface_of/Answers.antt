-- The core has the configuration of the device that is set up.
use Rattle.std.proofs.Common.{None, Some, ap, sym, ◌∙◌}
use Rattle.std.specs.Option.{option_copied}
use Rattle.tirnouch_c.proofs.Configured.{interface_from}
use Rattle.tirnouch_c.proofs.reads.interface_of.Goals as goal

pub returns-in-None : goal.returns-in-None
returns-in-None c = λ setup w shows. interface_from setup c.args.dev c.args.ep None (sym (ap option_copied c.in-None.is) ∙ c.config.ensures setup w shows)

pub returns-in-Some : goal.returns-in-Some
returns-in-Some c = λ setup w shows. c.interface_of.ensures ∙ interface_from setup c.args.dev c.args.ep (Some c.in-Some.config.now) (sym (ap option_copied c.in-Some.is) ∙ c.config.ensures setup w shows)
