-- Each round moves one whole piece from the bytes that are left to the TRBs.
use Rattle.std.proofs.Common.{◌+◌, ◌-◌, ◌∷◌, ◌++◌, [], not, false, length-append, append_assoc, refl, sym, ap, ◌∙◌, arith}
use Rattle.usb_model.specs.Stands.{lengths_of}
use Rattle.usb_tables.specs.Trbs.{normal_at, td_at}
use Rattle.usb_tables.proofs.Pieces.{td_at-large, td_at-small}
use Rattle.usb_tables.proofs.tds.Tds.pieces.Goals as goal

pub loop-left-init : goal.loop-left-init
loop-left-init c =
    let same = ap (λ v. v.length) c.self.view_is in
    rw (c.none-trbs.ensures, same) (refl, refl, omega (arith, sym same, c.self.invariant), omega arith)

pub push-requires : goal.push-requires
push-requires c = omega (arith, c.loop-left.invariant.3)

pub overflow_add-at : goal.overflow_add-at
overflow_add-at c = omega (arith, c.loop-left.invariant.1, c.loop-left-test.true, c.requires, c.from-at.ensures)

pub loop-left-preserved : goal.loop-left-preserved
loop-left-preserved c =
    let inward = c.args.self.inward in
    let ends = not c.args.self.extra in
    let trbs = c.loop-left.trbs in
    let at = c.loop-left.at in
    let left = c.loop-left.left in
    let one = length-append trbs (c.piece-in-loop-left.result ∷ []) in
    rw (c.push.ensures, c.from-at.ensures) (
      append_assoc trbs (c.piece-in-loop-left.result ∷ []) _
          ∙ ap (λ x. trbs ++ x ∷ td_at inward ends (at + 65536) (lengths_of false (left - 65536))) c.piece-in-loop-left.ensures
          ∙ ap (λ xs. trbs ++ xs) (sym (td_at-large inward ends at left c.loop-left-test.true))
          ∙ c.loop-left.invariant.0,
      omega (arith, c.loop-left.invariant.1, c.loop-left-test.true),
      omega (arith, c.loop-left.invariant.2, c.loop-left-test.true, one),
      omega (arith, c.loop-left.invariant.2, c.loop-left-test.true, one),
    )

pub push-requires-2 : goal.push-requires-2
push-requires-2 c = omega (arith, c.loop-left.invariant.3)

pub returns-clause-value : goal.returns-clause-value
returns-clause-value c =
    let trbs = c.loop-left.trbs in
    c.push-2.ensures
    ∙ ap (λ x. trbs ++ x ∷ []) (c.last.ensures ∙ ap (λ v. normal_at c.args.self.inward false (not v.extra) c.loop-left.at c.loop-left.left) c.self-2.view_is)
    ∙ ap (λ xs. trbs ++ xs) (sym (td_at-small c.args.self.inward (not c.args.self.extra) c.loop-left.at c.loop-left.left c.loop-left-test.false))
    ∙ c.loop-left.invariant.0

pub returns-clause-most : goal.returns-clause-most
returns-clause-most c =
    rw c.push-2.ensures (omega (arith, c.loop-left.invariant.3, length-append c.loop-left.trbs (c.last.result ∷ [])))
