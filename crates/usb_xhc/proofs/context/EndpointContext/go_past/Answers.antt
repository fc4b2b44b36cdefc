use Rattle.std.proofs.Common.{◌≡◌, ◌-◌, arith, ap, ◌∙◌, suc, false, length}
use Rattle.std.proofs.lemmas.List.{length-drop}
use Rattle.std.proofs.lemmas.Option.{slice_get_within}
use Rattle.usb_rings.specs.Memory.{Memory}
use Rattle.usb_rings.specs.Line.{Line, contents, advanced}
use Rattle.usb_rings.specs.View.{Ring}
use Rattle.usb_xhc.specs.Ahead.{trbs_ahead, past}
use Rattle.usb_xhc.specs.Context.{Context, gone_past}
use Rattle.usb_xhc.proofs.Scans.{few-ahead}
use Rattle.usb_xhc.proofs.Nexts.{there}
use Rattle.usb_xhc.proofs.DequeueParts.{contents-moved, past-is}
use Rattle.usb_xhc.proofs.context.EndpointContext.go_past.Goals as goal

pub pass-requires : goal.pass-requires
pass-requires c =
    let few = few-ahead (contents c.self.inside.ring.line) in
    let line = ap (λ (x : Context). length (trbs_ahead x.ring.line)) c.self.view_is in
    omega (arith, c.count-count.ensures)

pub advance-requires : goal.advance-requires
advance-requires c =
    let few = few-ahead (contents c.self.inside.ring.line) in
    let line = ap (λ (x : Context). length (trbs_ahead x.ring.line)) c.self.view_is in
    let some = slice_get_within (trbs_ahead c.args.self.now.ring.line) 0 c.args.first.now.trb (there c.args.self.now.ring.line 0 c.args.first.now c.requires).0 in
    let left : length (contents c.pass.new.self.line) ≡ length (contents c.self.inside.ring.line) - (c.count-count.result - 1) =
    ap (λ (l : Line). length (contents l)) c.pass.ensures.line
    ∙ ap length (contents-moved c.self.inside.ring.line (c.count-count.result - 1)) ∙ length-drop (c.count-count.result - 1) (contents c.self.inside.ring.line) in
    omega (arith, c.count-count.ensures)

pub returns : goal.returns
returns c =
    let line = ap (λ (x : Context). length (trbs_ahead x.ring.line)) c.self.view_is in
    let some = slice_get_within (trbs_ahead c.args.self.now.ring.line) 0 c.args.first.now.trb (there c.args.self.now.ring.line 0 c.args.first.now c.requires).0 in
    let count : length (trbs_ahead c.self.inside.ring.line) ≡ suc (c.count-count.result - 1) = omega (arith, c.count-count.ensures) in
    let went : c.advance.new.self.line ≡ past c.self.inside.ring.line =
    c.advance.ensures.line ∙ ap advanced c.pass.ensures.line ∙ past-is c.self.inside.ring.line (c.count-count.result - 1) count in
    let memory : c.advance.new.self.memory ≡ c.self.inside.ring.memory = c.advance.ensures.memory ∙ c.pass.ensures.memory in
    ap (λ (l : Line). with_ring (record { line = l; memory = c.advance.new.self.memory })) went
    ∙ ap (λ (m : Memory). with_ring (record { line = past c.self.inside.ring.line; memory = m })) memory
    ∙ ap gone_past c.self.view_is
  where
    with_ring : Ring → Context
    with_ring r = record { slot = c.self.inside.slot; id = c.self.inside.id; size = c.self.inside.size; state = c.self.inside.state; within = 0; begun = false; ring = r }
