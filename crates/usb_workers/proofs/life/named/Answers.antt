use Rattle.usb_workers.specs.Rounds.{MayAnswer}
use Rattle.usb_workers.proofs.Homes.{lived_by}
use Rattle.usb_workers.proofs.life.named.Goals as goal

pub returns-clause-by : goal.returns-clause-by
returns-clause-by g c =
    lived_by (MayAnswer c.args.rounds g.C.Whom.Suiting.suits g.C.Callback.may_answer g.C.Callback.rule) g.T.Driver.makes g.L.Naming.setup (λ v. v.journal) (λ v. v.left.items)
    (λ s. s.driver) (λ s. s.caller) (λ h. h.caller) (λ h. h.left) c.in_ok-seats.seats.items c.in_ok-back.back.homes.items c.args.drivers.items
    c.in_ok-back.back.controller c.in_ok-back.back.events c.in_ok-caller_of.field-0 c.in_ok-caller_of-2.field-0 c.in_ok-caller_of.ensures c.in_ok-caller_of-2.ensures
    c.in_ok-back.ensures.controls c.in_ok-back.ensures.handles c.in_ok-seats.ensures.drivers c.in_ok-seats.ensures.callers c.in_ok-back.ensures.drives
    (λ v. v.lacked_memory) c.ended.result c.ended.ensures.callers c.ended.ensures.left c.ended.ensures.lacks
