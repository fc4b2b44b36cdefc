-- A line further each turn.
use Rattle.std.proofs.Common.{◌+◌, drop, sym, ap, ◌∙◌, arith}
use Rattle.usb_scripttext.specs.Words.{words_of}
use Rattle.usb_devicetext.specs.DeviceText.{with_text}
use Rattle.usb_devicetext.specs.Lines.{from_lines, taken_at}
use Rattle.usb_devicetext.specs.Reason.{known}
use Rattle.usb_devicetext.proofs.Lines.{line-more, line-end, refused}
use Rattle.usb_devicetext.proofs.complaint.devices_before.Goals as goal

pub returns-in-Err-Bad : goal.returns-in-Err-Bad
returns-in-Err-Bad c =
    let lines = c.args.lines.now in
    let i = c.loop-line.line-index in
    let none = refused c.read.result c.in-Err-Bad.field-0 c.in-Err-Bad.field-0-0 _ _ _ c.read.ensures c.in-Err-Bad.is c.in-Err-Bad.field-0-is in
    c.new.ensures
    ∙ sym (ap known (c.loop-line.invariant ∙ line-more with_text (i + 1) c.loop-line.draft lines i _ c.loop-line-test.true ∙ ap (taken_at (i + 1) (λ t. from_lines with_text (i + 1 + 1) t (drop (i + 1) (words_of lines)))) none))

pub loop-line-preserved : goal.loop-line-preserved
loop-line-preserved c =
    let lines = c.args.lines.now in
    let i = c.loop-line.line-index in
    c.loop-line.invariant ∙ line-more with_text (i + 1) c.loop-line.draft lines i _ c.loop-line-test.true
    ∙ ap (taken_at (i + 1) (λ t. from_lines with_text (i + 1 + 1) t (drop (i + 1) (words_of lines)))) c.in-Ok.ensures

pub returns : goal.returns
returns c =
    let lines = c.args.lines.now in
    let i = c.loop-line.line-index in
    ap (λ desk. desk.scripted) c.into_desk.ensures ∙ sym (ap known (c.loop-line.invariant ∙ line-end with_text (i + 1) c.loop-line.draft lines i (omega (arith, c.loop-line-test.false))))
