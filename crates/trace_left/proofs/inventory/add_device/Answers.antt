-- By the configuration, if there is one.
use Rattle.std.proofs.Common.{◌≡◌, ◌++◌, ◌∙◌, Some, ap, append-nil, subst, sym}
use Rattle.std.specs.Prelude.{IfOk}
use Rattle.std.specs.Option.{option_copied}
use Rattle.trace_left.specs.Gathered.{configured_read}
use Rattle.trace_left.proofs.inventory.add_device.Goals as goal

pub returns-in-None : goal.returns-in-None
returns-in-None g c = λ setup w shown.
    sym (ap (λ o. c.args.left.now.items ++ configured_read setup w c.args.h c.args.dev o) (sym (c.config.ensures setup w shown) ∙ ap option_copied c.in-None.is) ∙ append-nil c.args.left.now.items)

pub returns-in-Some : goal.returns-in-Some
returns-in-Some g c = λ setup w shown.
    subst (λ o. IfOk c.add_configured.result (λ _. c.add_configured.new.left.items ≡ c.args.left.now.items ++ configured_read setup w c.args.h c.args.dev o)) (sym (ap option_copied c.in-Some.is) ∙ c.config.ensures setup w shown) (c.add_configured.ensures setup w shown)
