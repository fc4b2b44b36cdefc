use Rattle.std.proofs.Common.{rules, ◌≡◌, ◌++◌, ap, ◌∙◌, subst}
use Rattle.usb_receipts.specs.Rule.{AllBegin}
use Rattle.usb_receipts.proofs.Moves.{all_begin_first}
use Rattle.usb_receipts.proofs.log.Log.look_behind.Goals as goal

pub returns-clause-behind : goal.returns-clause-behind
returns-clause-behind g c =
    let M = c.take_in-2.new.token.me.0 in
    let N = c.cut_claims-nothing.new.token.me.0 in
    let seen : c.replace-seen.result.me.0.pasts ≡ c.args.past.now.pasts = search rules in
    let pasts : M.pasts ≡ c.args.past.now.pasts ++ N.pasts = ap (λ m. m.0.pasts) c.take_in-2.ensures.1 ∙ ap (λ l. l ++ N.pasts) seen in
    let entries : M.entries ≡ c.args.keeper.now.entries = search rules in
    subst (λ l. AllBegin l c.args.past.now.pasts) entries
    (all_begin_first _ c.args.past.now.pasts N.pasts (subst (AllBegin M.entries) pasts c.check.ensures.checked.pasts))
