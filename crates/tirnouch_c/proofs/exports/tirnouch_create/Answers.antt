-- A line isn't taken.
use Rattle.std.proofs.Common.{◌≡◌, ◌∙◌, refl, sym, subst, rules}
use Rattle.tirnouch_c.specs.Exports.{Line}
use Rattle.tirnouch_c.specs.Sessions.{IsUnmade}
use Rattle.tirnouch_c.specs.Complaints.{line_numbers}
use Rattle.tirnouch_c.proofs.Outs.{empty}
use Rattle.tirnouch_c.proofs.exports.tirnouch_create.Goals as goal

pub returns-in-Err-Line : goal.returns-in-Err-Line
returns-in-Err-Line c =
    let none = empty c.args.slot.now.held.value (sym c.is_full.ensures ∙ c.if-is_full.false) in
    let line : c.at_line.result ≡ line_numbers c.in-Err-Line.line = search rules in
    record { made = Line c.in-Err-Line.line; answered = refl; is = (subst (IsUnmade c.args.text.now) c.in-Err-Line.field-0-is c.in-Err-Line.ensures.unmade, line, none, none) }
