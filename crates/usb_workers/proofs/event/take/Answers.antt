use Rattle.std.proofs.Common.{arith, map}
use Rattle.std.proofs.lemmas.List.{length-map}
use Rattle.usb_workers.proofs.Told.{takes_called, takes_either}
use Rattle.usb_workers.proofs.event.take.Goals as goal

pub returns-in-Ok-clause-made : goal.returns-in-Ok-clause-made
returns-in-Ok-clause-made g c =
    let e = c.take_all.ensures in
    takes_either g.L.Naming.setup c.args.most c.args.caller.now c.take_all.new.caller c.take_all.new.taken.items c.take_all.result c.requires.some e.made e.entries e.ends e.lacks e.refused

pub returns-in-Ok-clause-called : goal.returns-in-Ok-clause-called
returns-in-Ok-clause-called g c =
    let e = c.take_all.ensures in
    let taken = c.take_all.new.taken.items in
    let made = takes_either g.L.Naming.setup c.args.most c.args.caller.now c.take_all.new.caller taken c.take_all.result c.requires.some e.made e.entries e.ends e.lacks e.refused in
    omega (arith, takes_called g.L.Naming.setup (map (λ t. t.returned) taken) c.args.caller.now c.take_all.new.caller made, length-map taken (λ t. t.returned))
