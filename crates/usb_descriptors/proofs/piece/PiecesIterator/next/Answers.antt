-- What is left is what comes of the bytes that are left.
use Rattle.std.proofs.Common.{rules, ◌<◌, ◌∷◌, length, Err, sym, ap, ◌∙◌, arith}
use Rattle.std.proofs.lemmas.List.{nil_from_length}
use Rattle.usb_descriptors.specs.declared.fault.DescFault.TheVariants.{BadLength}
use Rattle.usb_descriptors.specs.Items.{items}
use Rattle.usb_descriptors.proofs.Items.{items-nil, items-stuck, items-split}
use Rattle.usb_descriptors.proofs.piece.PiecesIterator.next.Goals as goal

pub returns-then-is_empty-clause-steps : goal.returns-then-is_empty-clause-steps
returns-then-is_empty-clause-steps c =
    let empty = nil_from_length c.self.inside.rest.now (search rules) in
    let none = sym c.self.view_is ∙ ap (items c.self.inside.at) empty ∙ items-nil c.self.inside.at in
    (none, none)

pub returns-in_default-clause-steps : goal.returns-in_default-clause-steps
returns-in_default-clause-steps c =
    let some : 0 < length c.self.inside.rest.now = grind arith in
    sym c.self.view_is
    ∙ items-stuck c.self.inside.at c.self.inside.rest.now some (sym c.in_default.ensures.found)
    ∙ ap (λ rest. Err (BadLength c.self.inside.at) ∷ rest) (sym (items-nil c.self.inside.at))

pub returns-clause-steps : goal.returns-clause-steps
returns-clause-steps c =
    let parts = c.in-Some.ensures in
    sym c.self.view_is
    ∙ items-split c.self.inside.at c.self.inside.rest.now c.in-Some.bytes.now c.in-Some.rest.now (sym parts.found) parts.front parts.back

pub returns-in_default-clause-goes : goal.returns-in_default-clause-goes
returns-in_default-clause-goes c = let fewer = ap length (returns-in_default-clause-steps c) in search rules

pub returns-clause-goes : goal.returns-clause-goes
returns-clause-goes c = let fewer = ap length (returns-clause-steps c) in search rules
