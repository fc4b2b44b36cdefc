-- None waits, or one for which there is room.
use Rattle.usb_plans.proofs.StillShown.{none_next, room_made}
use Rattle.usb_plans.proofs.plan_run.PlanRun.room_for_next.Goals as goal

pub returns-in_default-clause-room : goal.returns-in_default-clause-room
returns-in_default-clause-room g c = rw (← c.self.view_is) (none_next (record { core = c.self.inside.core; running = c.self.inside.running }) c.new.result.capacity c.result_at.result c.in_default.is c.result_at.ensures)

pub returns-clause-room : goal.returns-clause-room
returns-clause-room g c = room_made (record { core = c.self.inside.core; running = c.reserve.new.self }) c.next_len.result c.with_capacity.result c.result_at.result c.in-Some.next c.with_capacity.ensures.made c.in-Some.is c.result_at.ensures c.next_len.ensures c.in_ok-reserve.ensures.ok
