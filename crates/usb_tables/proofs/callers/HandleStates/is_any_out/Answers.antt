use Rattle.std.proofs.Common.{subst, sym, ◌≡◌, ◌∙◌, false, true}
use Rattle.usb_tables.specs.HandleStates.{IsOut}
use Rattle.usb_tables.proofs.Out.{some_out}
use Rattle.usb_tables.proofs.callers.HandleStates.is_any_out.Goals as goal

pub returns-then-not-has_none_out-clause-some : goal.returns-then-not-has_none_out-clause-some
returns-then-not-has_none_out-clause-some c = λ is. subst IsOut (c.deref-caller-items.ensures.value ∙ c.self.view_is)
    (some_out c.deref-caller-items.result.now c.loop-caller.caller-index c.caller-item.result c.loop-caller-test.true c.caller-item.is
    (λ none. let both : false ≡ true = sym c.if-not-has_none_out.true ∙ c.has_none_out.ensures.1 none in absurd cc))
