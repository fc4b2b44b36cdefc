-- A line further each turn.
use Rattle.std.proofs.Common.{◌≡◌, ◌+◌, ◌<◌, ◌^◌, ◌==◌, length, drop, Ok, Err, refl, sym, ap, ◌∙◌, subst, arith, rules, tests}
use Rattle.std.proofs.lemmas.List.{length_push}
use Rattle.std.proofs.lemmas.Iterator.Splits.{YieldsList-from_slice_split}
use Rattle.std.proofs.lemmas.Iterator.Consumers.{YieldsList-turn, YieldsList-end}
use Rattle.usb_scripttext.specs.Results.{AnswersAs, fault_at}
use Rattle.usb_scripttext.proofs.Counted.{counted}
use Rattle.usb_devicetext.specs.declared.desk.DeviceText.{DeviceText}
use Rattle.usb_devicetext.specs.DeviceText.{spelled_of, with_text}
use Rattle.usb_devicetext.specs.Lines.{from_lines, lines_in, taken_at}
use Rattle.usb_devicetext.proofs.Lines.{lines-more, lines-end, faulty}
use Rattle.usb_devicetext.proofs.Made.{spelled_made}
use Rattle.usb_devicetext.proofs.desk.read_spelled.Goals as goal

pub loop-line-init : goal.loop-line-init
loop-line-init c =
    let texts = lines_in c.args.text.now in
    record { counted = refl; rest = ap (λ ds. from_lines with_text 1 ds texts) (sym c.new-draft.ensures) }

pub returns-in-Err-clause-desk : goal.returns-in-Err-clause-desk
returns-in-Err-clause-desk c =
    let texts = lines_in c.args.text.now in
    let i = length c.loop-line.yielded in
    let t = YieldsList-turn (YieldsList-from_slice_split {s = c.into_iter-line-iterator.result} _ (λ b. b == 10) c.args.text.now (cc) (cc) (cc) (λ x b q k. search (rules, tests))) c.loop-line.yielded _ c.loop-line.yielded_by _ _ c.in-Some.line c.in-Some.is c.next.ensures.steps in
    let small : length c.args.text.now < 2 ^ 63 = omega arith in
    let at : c.saturating_add-number.result ≡ i + 1 = counted c.args.text.now i c.loop-line.number _ small t.0 c.loop-line.invariant.counted c.saturating_add-number.ensures in
    let fault : AnswersAs {T = DeviceText} (Err (fault_at (i + 1) c.in-Err.fault)) (spelled_of c.args.text.now) = faulty c.read.result c.in-Err.fault _ _ _ (i + 1) _ _ c.read.ensures c.in-Err.is (c.loop-line.invariant.rest ∙ lines-more with_text (i + 1) c.loop-line.draft texts i c.in-Some.line.now t) in
    subst (λ fault. AnswersAs {T = DeviceText} (Err fault) (spelled_of c.args.text.now)) (sym (c.at.ensures ∙ ap (λ line. fault_at line c.in-Err.fault) at)) fault

pub loop-line-preserved : goal.loop-line-preserved
loop-line-preserved c =
    let texts = lines_in c.args.text.now in
    let i = length c.loop-line.yielded in
    let t = YieldsList-turn (YieldsList-from_slice_split {s = c.into_iter-line-iterator.result} _ (λ b. b == 10) c.args.text.now (cc) (cc) (cc) (λ x b q k. search (rules, tests))) c.loop-line.yielded _ c.loop-line.yielded_by _ _ c.in-Some.line c.in-Some.is c.next.ensures.steps in
    let grows = length_push c.loop-line.yielded c.in-Some.line in
    let small : length c.args.text.now < 2 ^ 63 = omega arith in
    let place : c.saturating_add-number.result ≡ i + 1 = counted c.args.text.now i c.loop-line.number _ small t.0 c.loop-line.invariant.counted c.saturating_add-number.ensures in
    let more = lines-more with_text (i + 1) c.loop-line.draft texts i c.in-Some.line.now t in
    record {
      counted = place ∙ sym grows;
      rest =
          c.loop-line.invariant.rest ∙ more ∙ ap (taken_at (i + 1) (λ ds. from_lines with_text (i + 1 + 1) ds (drop (i + 1) texts))) c.in_default.ensures
          ∙ sym (ap (λ n. from_lines with_text (n + 1) c.read.new.self (drop n texts)) grows);
    }

pub returns-clause-desk : goal.returns-clause-desk
returns-clause-desk c =
    let texts = lines_in c.args.text.now in
    let t = YieldsList-end (YieldsList-from_slice_split {s = c.into_iter-line-iterator.result} _ (λ b. b == 10) c.args.text.now (cc) (cc) (cc) (λ x b q k. search (rules, tests))) c.loop-line.yielded _ c.loop-line.yielded_by _ _ c.in-None.is c.next.ensures.steps in
    c.loop-line.invariant.rest ∙ lines-end with_text (length c.loop-line.yielded + 1) c.loop-line.draft texts (length c.loop-line.yielded) (omega (arith, t.1))
    ∙ ap Ok (sym c.into_desk.ensures)

pub returns-clause-few : goal.returns-clause-few
returns-clause-few c = (spelled_made c.args.text.now c.into_desk.result (returns-clause-desk c)).0

pub returns-clause-each : goal.returns-clause-each
returns-clause-each c = (spelled_made c.args.text.now c.into_desk.result (returns-clause-desk c)).1
