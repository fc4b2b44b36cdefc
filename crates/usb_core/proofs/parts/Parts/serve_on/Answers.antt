-- Row by row, as long as all did the same.
use Rattle.std.proofs.Common.{◌+◌, arith, refl}
use Rattle.usb_model.specs.declared.step.Step.TheVariants.{Serve}
use Rattle.refine_core.proofs.Payloads.{still_on}
use Rattle.refine_core.proofs.Rows.{does_none, row_more, row_on}
use Rattle.usb_core.specs.StepBursts.{whole_entry}
use Rattle.usb_core.proofs.parts.Parts.serve_on.Goals as goal

pub loop-full-init : goal.loop-full-init
loop-full-init g c = (c.requires.state, c.requires.some, does_none c.args.self.now, λ kept carried. carried)

pub returns-then-full-most-clause-turns : goal.returns-then-full-most-clause-turns
returns-then-full-most-clause-turns g c = row_on c.args.self.now c.loop-full.self c.serve_row-row.new.self (Serve c.args.dev c.args.ep) (whole_entry c.args.each.now) c.serve_row-row.result.1 c.loop-full.full c.serve_row-row.result.0 c.loop-full.invariant.2 c.serve_row-row.ensures.turns

pub loop-full-preserved : goal.loop-full-preserved
loop-full-preserved g c = (
  c.serve_row-row.ensures.state,
  omega (arith, c.serve_row-row.ensures.few, c.loop-full.invariant.1, c.if-full-most.false),
  row_more c.args.self.now c.serve_row-row.new.self (Serve c.args.dev c.args.ep) (whole_entry c.args.each.now) c.serve_row-row.result.1 (c.loop-full.full + c.serve_row-row.result.0) (c.if-not-is_it.ensures.whole refl)
      (row_on c.args.self.now c.loop-full.self c.serve_row-row.new.self (Serve c.args.dev c.args.ep) (whole_entry c.args.each.now) c.serve_row-row.result.1 c.loop-full.full c.serve_row-row.result.0 c.loop-full.invariant.2 c.serve_row-row.ensures.turns),
  still_on c.args.self.now c.loop-full.self c.serve_row-row.new.self c.loop-full.invariant.3 c.serve_row-row.ensures.carries,
)
