-- Whole packets in a row, and one behind them.
use Rattle.std.specs.Prelude.{replicate}
use Rattle.usb_model.specs.declared.step.Step.TheVariants.{Serve}
use Rattle.refine_core.proofs.Payloads.{still_on}
use Rattle.refine_core.proofs.Rows.{row_one, shows_behind}
use Rattle.refine_core.proofs.Turns.{shows_again}
use Rattle.usb_core.specs.StepBursts.{whole_entry}
use Rattle.usb_core.proofs.parts.Parts.serve_row.Goals as goal

pub serve-last-requires : goal.serve-last-requires
serve-last-requires g c = shows_behind c.args.self.now c.skim-full.new.self (replicate c.skim-full.result (Serve c.args.dev c.args.ep)) (replicate c.skim-full.result (whole_entry c.args.each.now)) c.skim-full.ensures.turns c.requires.state

pub returns-clause-turns : goal.returns-clause-turns
returns-clause-turns g c = row_one c.args.self.now c.skim-full.new.self c.serve-last.new.self (Serve c.args.dev c.args.ep) (whole_entry c.args.each.now) c.serve-last.result c.skim-full.result c.skim-full.ensures.turns c.serve-last.ensures.done

pub returns-clause-carries : goal.returns-clause-carries
returns-clause-carries g c = still_on c.args.self.now c.skim-full.new.self c.serve-last.new.self c.skim-full.ensures.carries c.serve-last.ensures.carries

pub returns-clause-state : goal.returns-clause-state
returns-clause-state g c = shows_again c.skim-full.new.self c.serve-last.new.self (Serve c.args.dev c.args.ep) c.serve-last.result c.serve-last.ensures.done
    (shows_behind c.args.self.now c.skim-full.new.self (replicate c.skim-full.result (Serve c.args.dev c.args.ep)) (replicate c.skim-full.result (whole_entry c.args.each.now)) c.skim-full.ensures.turns c.requires.state)
