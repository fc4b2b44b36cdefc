-- All cells are zeros, and behind them stands the Link, where there is one.
use Rattle.std.proofs.Common.{◌≡◌, ◌∙◌, ap, sym, arith, length, replicate, suc, ℕ}
use Rattle.std.specs.List.{each_same}
use Rattle.std.specs.Vec.{vec_len}
use Rattle.usb_rings.specs.Memory.{Memory, cleared, zeros}
use Rattle.usb_rings.proofs.Fresh.{made-link, made-none}
use Rattle.usb_rings.proofs.segment.Segment.clear.Goals as goal

pub returns-then-len : goal.returns-then-len
returns-then-len g c =
    let size : vec_len c.self.inside.cells ≡ suc g.row.N = omega (arith, c.if-len.true, c.len.ensures, c.fill.ensures.len, c.self.invariant.link, c.self.invariant.cells) in
    let long : length c.self.inside.cells.items ≡ suc g.row.N = omega (arith, c.if-len.true, c.len.ensures, c.fill.ensures.len, c.self.invariant.link, c.self.invariant.cells) in
    let filled : c.fill.new.self.items ≡ replicate (suc g.row.N) zeros = c.fill.ensures.items (λ y h. each_same zeros y h.whole) ∙ ap (λ (n : ℕ). replicate n zeros) size in
    made-link g.row.N c.self.inside.base c.fill.new.self.items c.link.result filled c.link.ensures
    ∙ ap (λ (n : ℕ). cleared g.row.N n c.self.inside.base) (sym long)
    ∙ ap (λ (m : Memory). cleared g.row.N (length m.cells) m.base) c.self.view_is

pub returns-else-len : goal.returns-else-len
returns-else-len g c =
    let size : vec_len c.self.inside.cells ≡ g.row.N = omega (arith, c.if-len.false, c.len.ensures, c.fill.ensures.len, c.self.invariant.link, c.self.invariant.cells) in
    let long : length c.self.inside.cells.items ≡ g.row.N = omega (arith, c.if-len.false, c.len.ensures, c.fill.ensures.len, c.self.invariant.link, c.self.invariant.cells) in
    let filled : c.fill.new.self.items ≡ replicate g.row.N zeros = c.fill.ensures.items (λ y h. each_same zeros y h.whole) ∙ ap (λ (n : ℕ). replicate n zeros) size in
    made-none g.row.N c.self.inside.base c.fill.new.self.items filled
    ∙ ap (λ (n : ℕ). cleared g.row.N n c.self.inside.base) (sym long)
    ∙ ap (λ (m : Memory). cleared g.row.N (length m.cells) m.base) c.self.view_is
