-- What is promised of the task's words, over an input or over the text that it has.
use Rattle.std.proofs.Common.{◌≡◌, false, true, IsOk, subst}
use Rattle.usb_scripttext.specs.Words.{words_of}
use Rattle.trace_command.proofs.Traced.{of_input, unread}
use Rattle.trace_command.proofs.scenarios.perform_over.Goals as goal

pub returns-then-not-takes_scenario : goal.returns-then-not-takes_scenario
returns-then-not-takes_scenario g c = λ half. c.perform_task.ensures (half c.args.task.now c.requires.asked) half

pub returns-in-Err : goal.returns-in-Err
returns-in-Err g c =
    unread (words_of c.args.words.now) c.args.task.now (g.R.Read.remaining c.args.input.now) (g.W.Write.contents c.args.out.now) (g.E.Write.contents c.args.err.now) (g.E.Write.contents c.tell_fault.new.err) c.in-Err.fault c.tell_fault.result
    c.tell_fault.ensures.status c.requires.asked c.in-Err.ensures.fault c.tell_fault.ensures.told

pub returns-in-Ok-perform_scenario : goal.returns-in-Ok-perform_scenario
returns-in-Ok-perform_scenario g c =
    of_input (words_of c.args.words.now) (g.R.Read.remaining c.args.input.now) c.as_slice.result.now (g.W.Write.contents c.args.out.now) (g.W.Write.contents c.perform_scenario.new.out) (g.E.Write.contents c.args.err.now) (g.E.Write.contents c.perform_scenario.new.err) c.in-Ok-perform_scenario.status
    (rw c.as_slice.ensures.value c.in-Ok.ensures.whole) (λ half named. c.in-Ok-perform_scenario.ensures.traced (half c.args.task.now c.requires.asked) half named)

pub returns : goal.returns
returns g c =
    of_input (words_of c.args.words.now) (g.R.Read.remaining c.args.input.now) c.as_slice.result.now (g.W.Write.contents c.args.out.now) (g.W.Write.contents c.perform_scenario.new.out) (g.E.Write.contents c.args.err.now) (g.E.Write.contents c.refuse.new.err) c.refuse.result
    (rw c.as_slice.ensures.value c.in-Ok.ensures.whole) (λ half named. let wrong : false ≡ true = subst IsOk c.in-Err-perform_scenario.is (c.perform_scenario.ensures.done named) in absurd cc)
