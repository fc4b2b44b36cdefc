-- The core has the configuration of the device that is set up.
use Rattle.std.proofs.Common.{None, Some, ap, sym, ◌∙◌}
use Rattle.std.specs.Prelude.{slice_get}
use Rattle.std.specs.Option.{option_copied}
use Rattle.tirnouch_c.proofs.Configured.{endpoints_from}
use Rattle.tirnouch_c.proofs.endpoints.endpoints_of.Goals as goal

pub returns-in-None : goal.returns-in-None
returns-in-None c = λ setup w shows. endpoints_from None (slice_get setup c.args.dev) (sym (ap option_copied c.in-None.is) ∙ c.config.ensures setup w shows)

pub returns-in-Some : goal.returns-in-Some
returns-in-Some c = λ setup w shows. c.endpoints.ensures.value ∙ endpoints_from (Some c.in-Some.config.now) (slice_get setup c.args.dev) (sym (ap option_copied c.in-Some.is) ∙ c.config.ensures setup w shows)
