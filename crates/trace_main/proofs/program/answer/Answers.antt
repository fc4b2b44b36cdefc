-- Want of memory is told, and nothing behind it.
use Rattle.trace_io.specs.Faults.{message_of}
use Rattle.trace_io.specs.declared.fault.Fault.TheVariants.{Memory}
use Rattle.trace_main.proofs.Begun.{told_alone}
use Rattle.trace_main.proofs.program.answer.Goals as goal

pub returns-in-OutOfMemory-clause-told : goal.returns-in-OutOfMemory-clause-told
returns-in-OutOfMemory-clause-told g c one =
    (Memory, tt, told_alone (message_of Memory) (g.E.Write.contents c.args.err.now) (g.E.Write.contents c.status_of.new.err) c.status_of.ensures.told)
