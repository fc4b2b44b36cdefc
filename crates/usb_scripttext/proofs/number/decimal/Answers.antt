use Rattle.std.proofs.Common.{sym, ◌∙◌, rules}
use Rattle.usb_scripttext.proofs.Numbers.{not_plain, not_parsed, by_limit, takes}
use Rattle.usb_scripttext.proofs.number.decimal.Goals as goal

pub returns-then-not-begins_plainly-clause-value :
    goal.returns-then-not-begins_plainly-clause-value
returns-then-not-begins_plainly-clause-value c =
    sym (not_plain c.args.limit c.args.word.now (search rules) (sym (c.if-not-begins_plainly.ensures)))

pub returns-then-not-begins_plainly-clause-decimals :
    goal.returns-then-not-begins_plainly-clause-decimals
returns-then-not-begins_plainly-clause-decimals c = takes c.args.limit c.args.word.now (search rules)

pub returns-in_err-number-clause-value : goal.returns-in_err-number-clause-value
returns-in_err-number-clause-value c =
    c.from_residual.ensures
    ∙ sym (not_parsed _ c.args.limit c.args.word.now c.parse.result (search rules)
    (sym c.ok.ensures.value ∙ c.in_err-number.was) c.parse.ensures.value.0)

pub returns-in_err-number-clause-decimals : goal.returns-in_err-number-clause-decimals
returns-in_err-number-clause-decimals c = takes c.args.limit c.args.word.now (search rules)

pub returns-clause-value : goal.returns-clause-value
returns-clause-value c =
    c.then_some.ensures
    ∙ by_limit _ c.args.limit c.in_ok-number.number c.args.word.now c.parse.result (search rules)
    (sym (c.if-not-begins_plainly.ensures)) (sym c.ok.ensures.value ∙ c.in_ok-number.was)
    c.parse.ensures.value.0

pub returns-clause-decimals : goal.returns-clause-decimals
returns-clause-decimals c = takes c.args.limit c.args.word.now (search rules)
