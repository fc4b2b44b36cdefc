-- The notes stand behind the message, as far as that was told.
use Rattle.trace_io.specs.Faults.{message_of}
use Rattle.trace_main.proofs.Begun.{told_behind, told_front}
use Rattle.trace_main.proofs.program.status_of.Goals as goal

pub returns-in-Ok-clause-told : goal.returns-in-Ok-clause-told
returns-in-Ok-clause-told g c =
    rw c.in-Err.is
    (told_behind (message_of c.in-Err.fault) c.args.notes.now (g.E.Write.contents c.args.err.now) (g.E.Write.contents c.tell.new.err) (g.E.Write.contents c.tell_notes-in-Ok.new.err)
    c.in-Ok.ensures.whole c.tell_notes-in-Ok.ensures.told)

pub returns-in_default-clause-told : goal.returns-in_default-clause-told
returns-in_default-clause-told g c = rw c.in-Err.is (told_front (message_of c.in-Err.fault) c.args.notes.now (g.E.Write.contents c.args.err.now) (g.E.Write.contents c.tell.new.err) c.tell.ensures.begun)
