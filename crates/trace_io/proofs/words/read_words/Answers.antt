use Rattle.std.proofs.Common.{Some, ap, codes, refl, rules, sym}
use Rattle.std.specs.Prelude.{option_map}
use Rattle.clap.specs.Matches.{found_of}
use Rattle.clap.specs.Simple.{app_of}
use Rattle.clap.specs.Walk.{rows_of}
use Rattle.usb_scripttext.specs.Words.{words_of}
use Rattle.trace_io.specs.declared.words.Task.TheVariants.{Alone, Capture, Check, Describe, Device, Explain, Left, Live, Run, Test}
use Rattle.trace_io.proofs.CommandLines.{asks_behind, asks_for, has_one, met, with_fault, without_fault}
use Rattle.trace_io.proofs.words.read_words.Goals as goal

pub returns-in-Some-clause-fault : goal.returns-in-Some-clause-fault
returns-in-Some-clause-fault c = without_fault (app_of c.in_ok-command.field-0) (words_of c.args.words.now) c.in_ok-command.ensures c.in_ok-matches.ensures.kinds

pub returns-in-Some-clause-task : goal.returns-in-Some-clause-task
returns-in-Some-clause-task c =
    let words = words_of c.args.words.now in
    let a = app_of c.in_ok-command.field-0 in (
      without_fault a words c.in_ok-command.ensures c.in_ok-matches.ensures.kinds,
      asks_behind (codes "alone") (rows_of (found_of c.in-Some.found.now)) (Alone c.in_ok-handle_of.field-0) (ap (option_map Alone) c.in_ok-handle_of.ensures) words c.in_ok-matches.matches
          (met a words c.in_ok-matches.matches c.in_ok-command.ensures c.in_ok-matches.ensures.matches)
          (search rules) c.in-Some.ensures.rows,
    )

pub returns-in-Some-subcommand_matches-clause-fault : goal.returns-in-Some-subcommand_matches-clause-fault
returns-in-Some-subcommand_matches-clause-fault c = without_fault (app_of c.in_ok-command.field-0) (words_of c.args.words.now) c.in_ok-command.ensures c.in_ok-matches.ensures.kinds

pub returns-in-Some-subcommand_matches-clause-task : goal.returns-in-Some-subcommand_matches-clause-task
returns-in-Some-subcommand_matches-clause-task c =
    let words = words_of c.args.words.now in
    let a = app_of c.in_ok-command.field-0 in (
      without_fault a words c.in_ok-command.ensures c.in_ok-matches.ensures.kinds,
      asks_behind (codes "live") (rows_of (found_of c.in-Some-subcommand_matches.found.now)) (Live c.in_ok-number_of.field-0) (ap (option_map Live) c.in_ok-number_of.ensures) words
          c.in_ok-matches.matches (met a words c.in_ok-matches.matches c.in_ok-command.ensures c.in_ok-matches.ensures.matches)
          (search rules) c.in-Some-subcommand_matches.ensures.rows,
    )

pub returns-then-is_some-clause-fault : goal.returns-then-is_some-clause-fault
returns-then-is_some-clause-fault c = without_fault (app_of c.in_ok-command.field-0) (words_of c.args.words.now) c.in_ok-command.ensures c.in_ok-matches.ensures.kinds

pub returns-then-is_some-clause-task : goal.returns-then-is_some-clause-task
returns-then-is_some-clause-task c =
    let words = words_of c.args.words.now in
    let a = app_of c.in_ok-command.field-0 in (
      without_fault a words c.in_ok-command.ensures c.in_ok-matches.ensures.kinds,
      asks_for (codes "left") Left (λ rows. refl) words c.in_ok-matches.matches (met a words c.in_ok-matches.matches c.in_ok-command.ensures c.in_ok-matches.ensures.matches)
          (search rules),
    )

pub returns-then-is_some-2-clause-fault : goal.returns-then-is_some-2-clause-fault
returns-then-is_some-2-clause-fault c = without_fault (app_of c.in_ok-command.field-0) (words_of c.args.words.now) c.in_ok-command.ensures c.in_ok-matches.ensures.kinds

pub returns-then-is_some-2-clause-task : goal.returns-then-is_some-2-clause-task
returns-then-is_some-2-clause-task c =
    let words = words_of c.args.words.now in
    let a = app_of c.in_ok-command.field-0 in (
      without_fault a words c.in_ok-command.ensures c.in_ok-matches.ensures.kinds,
      asks_for (codes "check") Check (λ rows. refl) words c.in_ok-matches.matches (met a words c.in_ok-matches.matches c.in_ok-command.ensures c.in_ok-matches.ensures.matches)
          (search rules),
    )

pub returns-in-Some-subcommand_matches-2-clause-fault : goal.returns-in-Some-subcommand_matches-2-clause-fault
returns-in-Some-subcommand_matches-2-clause-fault c = without_fault (app_of c.in_ok-command.field-0) (words_of c.args.words.now) c.in_ok-command.ensures c.in_ok-matches.ensures.kinds

pub returns-in-Some-subcommand_matches-2-clause-task : goal.returns-in-Some-subcommand_matches-2-clause-task
returns-in-Some-subcommand_matches-2-clause-task c =
    let words = words_of c.args.words.now in
    let a = app_of c.in_ok-command.field-0 in (
      without_fault a words c.in_ok-command.ensures c.in_ok-matches.ensures.kinds,
      asks_behind (codes "draw") (rows_of (found_of c.in-Some-subcommand_matches-2.found.now)) c.in_ok-draw_task.field-0 c.in_ok-draw_task.ensures words
          c.in_ok-matches.matches (met a words c.in_ok-matches.matches c.in_ok-command.ensures c.in_ok-matches.ensures.matches)
          (search rules) c.in-Some-subcommand_matches-2.ensures.rows,
    )

pub returns-then-is_some-3-clause-fault : goal.returns-then-is_some-3-clause-fault
returns-then-is_some-3-clause-fault c = without_fault (app_of c.in_ok-command.field-0) (words_of c.args.words.now) c.in_ok-command.ensures c.in_ok-matches.ensures.kinds

pub returns-then-is_some-3-clause-task : goal.returns-then-is_some-3-clause-task
returns-then-is_some-3-clause-task c =
    let words = words_of c.args.words.now in
    let a = app_of c.in_ok-command.field-0 in (
      without_fault a words c.in_ok-command.ensures c.in_ok-matches.ensures.kinds,
      asks_for (codes "capture") Capture (λ rows. refl) words c.in_ok-matches.matches (met a words c.in_ok-matches.matches c.in_ok-command.ensures c.in_ok-matches.ensures.matches)
          (search rules),
    )

pub returns-in-Some-subcommand_matches-3-clause-fault : goal.returns-in-Some-subcommand_matches-3-clause-fault
returns-in-Some-subcommand_matches-3-clause-fault c = without_fault (app_of c.in_ok-command.field-0) (words_of c.args.words.now) c.in_ok-command.ensures c.in_ok-matches.ensures.kinds

pub returns-in-Some-subcommand_matches-3-clause-task : goal.returns-in-Some-subcommand_matches-3-clause-task
returns-in-Some-subcommand_matches-3-clause-task c =
    let words = words_of c.args.words.now in
    let a = app_of c.in_ok-command.field-0 in (
      without_fault a words c.in_ok-command.ensures c.in_ok-matches.ensures.kinds,
      asks_behind (codes "devices") (rows_of (found_of c.in-Some-subcommand_matches-3.found.now)) c.devices_task.result (ap Some (sym c.devices_task.ensures)) words c.in_ok-matches.matches
          (met a words c.in_ok-matches.matches c.in_ok-command.ensures c.in_ok-matches.ensures.matches)
          (search rules) c.in-Some-subcommand_matches-3.ensures.rows,
    )

pub returns-then-is_some-4-clause-fault : goal.returns-then-is_some-4-clause-fault
returns-then-is_some-4-clause-fault c = without_fault (app_of c.in_ok-command.field-0) (words_of c.args.words.now) c.in_ok-command.ensures c.in_ok-matches.ensures.kinds

pub returns-then-is_some-4-clause-task : goal.returns-then-is_some-4-clause-task
returns-then-is_some-4-clause-task c =
    let words = words_of c.args.words.now in
    let a = app_of c.in_ok-command.field-0 in (
      without_fault a words c.in_ok-command.ensures c.in_ok-matches.ensures.kinds,
      asks_for (codes "explain") Explain (λ rows. refl) words c.in_ok-matches.matches (met a words c.in_ok-matches.matches c.in_ok-command.ensures c.in_ok-matches.ensures.matches)
          (search rules),
    )

pub returns-then-is_some-5-clause-fault : goal.returns-then-is_some-5-clause-fault
returns-then-is_some-5-clause-fault c = without_fault (app_of c.in_ok-command.field-0) (words_of c.args.words.now) c.in_ok-command.ensures c.in_ok-matches.ensures.kinds

pub returns-then-is_some-5-clause-task : goal.returns-then-is_some-5-clause-task
returns-then-is_some-5-clause-task c =
    let words = words_of c.args.words.now in
    let a = app_of c.in_ok-command.field-0 in (
      without_fault a words c.in_ok-command.ensures c.in_ok-matches.ensures.kinds,
      asks_for (codes "test") Test (λ rows. refl) words c.in_ok-matches.matches (met a words c.in_ok-matches.matches c.in_ok-command.ensures c.in_ok-matches.ensures.matches)
          (search rules),
    )

pub returns-then-is_some-6-clause-fault : goal.returns-then-is_some-6-clause-fault
returns-then-is_some-6-clause-fault c = without_fault (app_of c.in_ok-command.field-0) (words_of c.args.words.now) c.in_ok-command.ensures c.in_ok-matches.ensures.kinds

pub returns-then-is_some-6-clause-task : goal.returns-then-is_some-6-clause-task
returns-then-is_some-6-clause-task c =
    let words = words_of c.args.words.now in
    let a = app_of c.in_ok-command.field-0 in (
      without_fault a words c.in_ok-command.ensures c.in_ok-matches.ensures.kinds,
      asks_for (codes "device") Device (λ rows. refl) words c.in_ok-matches.matches (met a words c.in_ok-matches.matches c.in_ok-command.ensures c.in_ok-matches.ensures.matches)
          (search (rules, c.subcommand_matches-10, c.is_some-6)),
    )

pub returns-then-is_some-7-clause-fault : goal.returns-then-is_some-7-clause-fault
returns-then-is_some-7-clause-fault c = without_fault (app_of c.in_ok-command.field-0) (words_of c.args.words.now) c.in_ok-command.ensures c.in_ok-matches.ensures.kinds

pub returns-then-is_some-7-clause-task : goal.returns-then-is_some-7-clause-task
returns-then-is_some-7-clause-task c =
    let words = words_of c.args.words.now in
    let a = app_of c.in_ok-command.field-0 in (
      without_fault a words c.in_ok-command.ensures c.in_ok-matches.ensures.kinds,
      asks_for (codes "describe") Describe (λ rows. refl) words c.in_ok-matches.matches (met a words c.in_ok-matches.matches c.in_ok-command.ensures c.in_ok-matches.ensures.matches)
          (search rules),
    )

pub returns-in-Some-subcommand_matches-4-clause-fault : goal.returns-in-Some-subcommand_matches-4-clause-fault
returns-in-Some-subcommand_matches-4-clause-fault c = without_fault (app_of c.in_ok-command.field-0) (words_of c.args.words.now) c.in_ok-command.ensures c.in_ok-matches.ensures.kinds

pub returns-in-Some-subcommand_matches-4-clause-task : goal.returns-in-Some-subcommand_matches-4-clause-task
returns-in-Some-subcommand_matches-4-clause-task c =
    let words = words_of c.args.words.now in
    let a = app_of c.in_ok-command.field-0 in (
      without_fault a words c.in_ok-command.ensures c.in_ok-matches.ensures.kinds,
      asks_behind (codes "run") (rows_of (found_of c.in-Some-subcommand_matches-4.found.now)) c.run_task.result (ap Some (sym c.run_task.ensures)) words c.in_ok-matches.matches
          (met a words c.in_ok-matches.matches c.in_ok-command.ensures c.in_ok-matches.ensures.matches)
          (search rules) c.in-Some-subcommand_matches-4.ensures.rows,
    )

pub returns-clause-fault : goal.returns-clause-fault
returns-clause-fault c = without_fault (app_of c.in_ok-command.field-0) (words_of c.args.words.now) c.in_ok-command.ensures c.in_ok-matches.ensures.kinds

pub returns-clause-task : goal.returns-clause-task
returns-clause-task c =
    let words = words_of c.args.words.now in
    let a = app_of c.in_ok-command.field-0 in
    let clear = without_fault a words c.in_ok-command.ensures c.in_ok-matches.ensures.kinds in (
      clear,
      has_one words c.in_ok-matches.matches Run (met a words c.in_ok-matches.matches c.in_ok-command.ensures c.in_ok-matches.ensures.matches)
          (search rules) (search rules) (search rules) (search rules) (search rules) (search rules) (search rules) (search rules) (search rules) (search rules)
          (search rules) (search rules) clear,
    )

pub returns-in_err-matches-clause-fault : goal.returns-in_err-matches-clause-fault
returns-in_err-matches-clause-fault c =
    with_fault (app_of c.in_ok-command.field-0) (words_of c.args.words.now) c.in_err-matches.field-0.0 c.from_residual-in_err-matches.result
    c.in_ok-command.ensures c.in_err-matches.ensures.kinds c.from_residual-in_err-matches.ensures.1
