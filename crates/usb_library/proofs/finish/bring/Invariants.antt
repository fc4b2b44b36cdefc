use Rattle.std.proofs.Common.{◌≡◌, ◌+◌, ◌≤◌, ◌++◌, length, map}
use Rattle.std.specs.List.{AllByRecursion, sum_by}
use Rattle.usb_journal.specs.Seen.{places_of}
use Rattle.usb_library.specs.Calls.{Calling, position_of}
use Rattle.usb_library.proofs.finish.bring.Given as goal

-- the parts, the amounts and the positions of those who came so far
abbrev pub invariant-loop-caller : goal.invariant-loop-caller
invariant-loop-caller g l = record {
  parts : l.spare.parts ≡ l.initial.spare.parts + length l.yielded;
  most : l.spare.parts ≤ g.L.Ledger.parts;
  amount : l.spare.amount ≡ l.initial.spare.amount + sum_by (λ (c : Calling). length c.own) l.yielded;
  back : l.closing ≡ record l.initial.closing { back = l.initial.closing.back ++ map position_of l.yielded };
  own : AllByRecursion (λ (c : Calling). c.own ≡ places_of c.number c.seen) l.yielded;
}
