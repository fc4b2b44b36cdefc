-- A complaint is told.
use Rattle.std.proofs.Common.{Some, rules}
use Rattle.tirnouch_c.specs.Complaints.{TellsWrong}
use Rattle.tirnouch_c.proofs.complaints.tell.Goals as goal

pub returns : goal.returns
returns c =
    let all : TellsWrong c.args.text.now c.put.result c.args.found.now c.put.new.found c.args.buffer.now c.put.new.buffer = record { found = Some (Some c.args.complaint.now); is = (c.requires, c.put.ensures) } in
    search rules
