-- The answers of a device that a transfer takes.
use Rattle.std.specs.Prelude.{List, ◌++◌}
use Rattle.usb_model.specs.declared.response.Response.{Response}
use Rattle.trace_explain.specs.declared.answers.Answers.{Answers}

-- those that it took, and behind them what it takes now
abbrev pub answers_in : Answers → List Response
answers_in a = a.taken.now ++ a.next.now
