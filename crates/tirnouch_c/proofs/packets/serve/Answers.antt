-- A row of packets more each turn.
use Rattle.std.proofs.Common.{◌≡◌, ◌+◌, ◌≤◌, true, false, refl, ap, arith, rules}
use Rattle.tirnouch_c.specs.declared.replies.StepReply.{StepReply}
use Rattle.tirnouch_c.proofs.Progress.{all_of_them, last_row, none_yet, row_more}
use Rattle.tirnouch_c.proofs.packets.serve.Goals as goal

pub loop-done-init : goal.loop-done-init
loop-done-init c = (omega arith, none_yet c.args.dev c.args.ep c.nothing.result c.args.session.now (ap (λ (x : StepReply). x.packets) c.nothing.ensures))

pub returns-then-not-further : goal.returns-then-not-further
returns-then-not-further c =
    let off : c.serve_row-further.result.1 ≡ false = search rules in
    let within : c.loop-done.done + c.serve_row-further.result.0.packets ≤ c.args.most = omega (arith, c.loop-done.invariant.0, c.serve_row-further.ensures.within) in
    last_row c.args.dev c.args.ep c.loop-done.done _ c.loop-done.reply c.serve_row-further.result.0 c.serve_row-further.result.1 c.args.session.now c.loop-done.session c.serve_row-further.new.session
    c.loop-done.invariant.1 c.serve_row-further.ensures c.args.most (c.loop-done.done + c.serve_row-further.result.0.packets) refl within off

pub loop-done-preserved : goal.loop-done-preserved
loop-done-preserved c =
    let on : c.serve_row-further.result.1 ≡ true = search rules in
    let within : c.loop-done.done + c.serve_row-further.result.0.packets ≤ c.args.most = omega (arith, c.loop-done.invariant.0, c.serve_row-further.ensures.within) in (
      within,
      row_more c.args.dev c.args.ep c.loop-done.done _ c.loop-done.reply c.serve_row-further.result.0 c.serve_row-further.result.1 c.args.session.now c.loop-done.session c.serve_row-further.new.session
          c.loop-done.invariant.1 c.serve_row-further.ensures (c.loop-done.done + c.serve_row-further.result.0.packets) refl on,
    )

pub returns : goal.returns
returns c =
    let all : c.loop-done.done ≡ c.args.most = omega (arith, c.loop-done.invariant.0) in
    all_of_them c.args.dev c.args.ep c.args.most c.loop-done.reply c.args.session.now c.loop-done.session (search rules)
