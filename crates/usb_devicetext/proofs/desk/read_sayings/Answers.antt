-- A line further each turn.
use Rattle.std.proofs.Common.{◌≡◌, ◌+◌, ◌<◌, ◌^◌, ◌==◌, length, drop, List, Err, refl, sym, ap, ◌∙◌, subst, arith, rules, tests}
use Rattle.std.proofs.lemmas.List.{length_push}
use Rattle.std.proofs.lemmas.Iterator.Splits.{YieldsList-from_slice_split}
use Rattle.std.proofs.lemmas.Iterator.Consumers.{YieldsList-turn, YieldsList-end}
use Rattle.usb_scripttext.specs.Results.{AnswersAs, fault_at}
use Rattle.usb_scripttext.proofs.Counted.{counted}
use Rattle.usb_devicetext.specs.declared.sense.Saying.{Saying}
use Rattle.usb_devicetext.specs.Lines.{from_lines, lines_in, taken_at}
use Rattle.usb_devicetext.specs.Sense.{sayings_of, with_text}
use Rattle.usb_devicetext.proofs.Lines.{lines-more, lines-end, faulty}
use Rattle.usb_devicetext.proofs.desk.read_sayings.Goals as goal

pub loop-line-init : goal.loop-line-init
loop-line-init c =
    let texts = lines_in c.args.text.now in
    record { counted = refl; rest = ap (λ ss. from_lines (with_text c.args.devices.now) 1 ss texts) (sym c.new-sayings.ensures) }

pub returns-in-Err : goal.returns-in-Err
returns-in-Err c =
    let texts = lines_in c.args.text.now in
    let i = length c.loop-line.yielded in
    let t = YieldsList-turn (YieldsList-from_slice_split {s = c.into_iter-line-iterator.result} _ (λ b. b == 10) c.args.text.now (cc) (cc) (cc) (λ x b q k. search (rules, tests))) c.loop-line.yielded _ c.loop-line.yielded_by _ _ c.in-Some.line c.in-Some.is c.next.ensures.steps in
    let small : length c.args.text.now < 2 ^ 63 = omega arith in
    let at : c.saturating_add-place.result ≡ i + 1 = counted c.args.text.now i c.loop-line.place _ small t.0 c.loop-line.invariant.counted c.saturating_add-place.ensures in
    let fault : AnswersAs {T = List Saying} (Err (fault_at (i + 1) c.in-Err.fault)) (sayings_of c.args.devices.now c.args.text.now) = faulty c.read.result c.in-Err.fault _ _ _ (i + 1) _ _ c.read.ensures c.in-Err.is (c.loop-line.invariant.rest ∙ lines-more (with_text c.args.devices.now) (i + 1) c.loop-line.sayings texts i c.in-Some.line.now t) in
    subst (λ fault. AnswersAs {T = List Saying} (Err fault) (sayings_of c.args.devices.now c.args.text.now)) (sym (c.at.ensures ∙ ap (λ line. fault_at line c.in-Err.fault) at)) fault

pub loop-line-preserved : goal.loop-line-preserved
loop-line-preserved c =
    let texts = lines_in c.args.text.now in
    let i = length c.loop-line.yielded in
    let t = YieldsList-turn (YieldsList-from_slice_split {s = c.into_iter-line-iterator.result} _ (λ b. b == 10) c.args.text.now (cc) (cc) (cc) (λ x b q k. search (rules, tests))) c.loop-line.yielded _ c.loop-line.yielded_by _ _ c.in-Some.line c.in-Some.is c.next.ensures.steps in
    let grows = length_push c.loop-line.yielded c.in-Some.line in
    let small : length c.args.text.now < 2 ^ 63 = omega arith in
    let here : c.saturating_add-place.result ≡ i + 1 = counted c.args.text.now i c.loop-line.place _ small t.0 c.loop-line.invariant.counted c.saturating_add-place.ensures in
    let more = lines-more (with_text c.args.devices.now) (i + 1) c.loop-line.sayings texts i c.in-Some.line.now t in
    record {
      counted = here ∙ sym grows;
      rest =
          c.loop-line.invariant.rest ∙ more ∙ ap (taken_at (i + 1) (λ ss. from_lines (with_text c.args.devices.now) (i + 1 + 1) ss (drop (i + 1) texts))) c.in_default.ensures
          ∙ sym (ap (λ n. from_lines (with_text c.args.devices.now) (n + 1) c.read.new.self (drop n texts)) grows);
    }

pub returns : goal.returns
returns c =
    let texts = lines_in c.args.text.now in
    let t = YieldsList-end (YieldsList-from_slice_split {s = c.into_iter-line-iterator.result} _ (λ b. b == 10) c.args.text.now (cc) (cc) (cc) (λ x b q k. search (rules, tests))) c.loop-line.yielded _ c.loop-line.yielded_by _ _ c.in-None.is c.next.ensures.steps in
    c.loop-line.invariant.rest ∙ lines-end (with_text c.args.devices.now) (length c.loop-line.yielded + 1) c.loop-line.sayings texts (length c.loop-line.yielded) (omega (arith, t.1))
