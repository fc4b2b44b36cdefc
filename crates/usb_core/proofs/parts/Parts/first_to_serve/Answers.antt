-- Each endpoint in turn.
use Rattle.std.proofs.Common.{ap, sym, ◌∙◌, ℕ, Some}
use Rattle.usb_core.specs.Pending.{serves}
use Rattle.usb_core.proofs.Circle.{begins, ends, finds, passes}
use Rattle.usb_core.proofs.parts.Parts.first_to_serve.Goals as goal

pub loop-i-init : goal.loop-i-init
loop-i-init g c = λ setup w core keeps shows. begins (λ x. serves setup w x.0 x.1) c.args.start

pub returns-then-has_packet : goal.returns-then-has_packet
returns-then-has_packet g c = λ setup w core keeps shows.
    sym (c.loop-i.invariant setup w core keeps shows
    ∙ finds (λ x. serves setup w x.0 x.1) c.args.start c.loop-i.i c.loop-i-test.true
    (ap (λ (x : ℕ × ℕ). serves setup w x.0 x.1) (sym c.end_of-dev.ensures) ∙ sym (c.has_packet.ensures setup w core keeps shows) ∙ c.if-has_packet.true)
    ∙ ap Some (sym c.end_of-dev.ensures))

pub loop-i-preserved : goal.loop-i-preserved
loop-i-preserved g c = λ setup w core keeps shows.
    c.loop-i.invariant setup w core keeps shows
    ∙ passes (λ x. serves setup w x.0 x.1) c.args.start c.loop-i.i c.loop-i-test.true
    (ap (λ (x : ℕ × ℕ). serves setup w x.0 x.1) (sym c.end_of-dev.ensures) ∙ sym (c.has_packet.ensures setup w core keeps shows) ∙ c.if-has_packet.false)

pub returns : goal.returns
returns g c = λ setup w core keeps shows. sym (c.loop-i.invariant setup w core keeps shows ∙ ends (λ x. serves setup w x.0 x.1) c.args.start c.loop-i.i c.loop-i-test.false)
