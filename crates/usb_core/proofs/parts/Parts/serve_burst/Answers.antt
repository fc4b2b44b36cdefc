-- One packet, or one that moved and more behind it.
use Rattle.usb_model.specs.declared.step.Step.TheVariants.{Serve}
use Rattle.refine_core.proofs.Rows.{does_one, row_first}
use Rattle.refine_core.proofs.Turns.{shows_again}
use Rattle.usb_core.specs.StepBursts.{whole_entry}
use Rattle.usb_core.proofs.parts.Parts.serve_burst.Goals as goal

pub returns-in_default-clause-turns : goal.returns-in_default-clause-turns
returns-in_default-clause-turns g c = does_one c.args.self.now c.serve-first.new.self (Serve c.args.dev c.args.ep) c.serve-first.result c.serve-first.ensures.done

pub returns-then-most-lt2-clause-turns : goal.returns-then-most-lt2-clause-turns
returns-then-most-lt2-clause-turns g c = does_one c.args.self.now c.serve-first.new.self (Serve c.args.dev c.args.ep) c.serve-first.result c.serve-first.ensures.done

pub serve_on-rest-requires-clause-state : goal.serve_on-rest-requires-clause-state
serve_on-rest-requires-clause-state g c = shows_again c.args.self.now c.serve-first.new.self (Serve c.args.dev c.args.ep) c.serve-first.result c.serve-first.ensures.done c.requires

pub returns-clause-turns : goal.returns-clause-turns
returns-clause-turns g c = row_first c.args.self.now c.serve-first.new.self c.serve_on-rest.new.self (Serve c.args.dev c.args.ep) c.serve-first.result (whole_entry c.in-Some.each) c.serve_on-rest.result.1 c.serve_on-rest.result.0 c.in-Some.ensures.whole c.serve-first.ensures.done c.serve_on-rest.ensures.turns
