-- The run was made for the plan.
use Rattle.std.proofs.Common.{length, ap, ◌∙◌}
use Rattle.usb_core.specs.Public.{setup_of}
use Rattle.trace_run.proofs.drawing.draw.Goals as goal

pub draw_all-requires-clause-new : goal.draw_all-requires-clause-new
draw_all-requires-clause-new g c = (setup_of c.args.setup, c.in_ok-run.ensures)

pub draw_all-requires-clause-callbacks : goal.draw_all-requires-clause-callbacks
draw_all-requires-clause-callbacks g c = ap length c.into_iter-left.ensures.rest ∙ c.requires.callbacks
