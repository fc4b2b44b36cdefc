-- An interface that isn't used changes nothing; one that is used is added, where there is room.
use Rattle.std.proofs.Common.{◌≡◌, ◌<◌, ◌≤◌, cond, List, [], ◌∷◌, ◌++◌, length, refl, sym, ap, subst, ◌∙◌}
use Rattle.std.proofs.lemmas.Bool.{le-leb, lt-leb}
use Rattle.std.proofs.lemmas.Result.{err_from_is_err_and}
use Rattle.usb_descriptors.specs.declared.config.Config.{Config}
use Rattle.usb_descriptors.specs.declared.fault.DescFault.TheVariants.{TooMany}
use Rattle.usb_descriptors.specs.declared.reader.Section.TheVariants.{Unused, Used}
use Rattle.usb_descriptors.specs.Pieces.{Piece}
use Rattle.usb_descriptors.specs.Grammar.{interfaces}
use Rattle.usb_descriptors.specs.Reader.{HasRead, is_new}
use Rattle.usb_descriptors.proofs.Steps.{step_unused, step_used, reads_on}
use Rattle.usb_descriptors.proofs.reader.Reader.read_interface.Goals as goal
use Rattle.usb_descriptors.proofs.reader.Reader.read_interface.Goals.{After-is_new}

-- the test tells whether the interface is used behind the pieces that were read
told : (c : After-is_new) (before : List Piece) → HasRead before c.args.self.now → is_new (interfaces before) c.args.interface ≡ c.is_new.result
told c before has = ap (λ config. is_new config.interfaces c.args.interface) (sym has.config) ∙ sym c.is_new.ensures

pub returns-then-not-is_new : goal.returns-then-not-is_new
returns-then-not-is_new c = λ p is before has.
    let unused = told (goal.at.returns-then-not-is_new c).After-is_new before has ∙ c.if-not-is_new.true in
    let new = record c.args.self.now { section = Unused } in
    reads_on new (step_unused before p c.args.interface is unused) refl has.config refl

pub returns-in_err-add_interface : goal.returns-in_err-add_interface
returns-in_err-add_interface c = λ p is before has.
    let used = told (goal.at.returns-in_err-add_interface c).After-is_new before has ∙ c.if-not-is_new.false in
    let full = subst (λ config. 32 ≤ length config.interfaces) has.config c.in_err-add_interface.ensures.full in
    let error = err_from_is_err_and c.from_residual.result c.from_residual.ensures.1 in
    rw (error.1, error.2, c.in_err-add_interface.ensures.err)
    ((step_used before p c.args.interface is used).faults ∙ ap (λ b. cond b (TooMany ∷ []) []) (le-leb 32 (length (interfaces before)) full))

pub returns : goal.returns
returns c = λ p is before has.
    let used = told (goal.at.returns c).After-is_new before has ∙ c.if-not-is_new.false in
    let room = subst (λ config. length config.interfaces < 32) has.config c.in_ok-add_interface.ensures.room in
    let none = ap (λ b. cond b (TooMany ∷ []) []) (lt-leb 32 (length (interfaces before)) room) in
    let with_number = λ (config : Config). record config { interfaces = config.interfaces ++ c.args.interface.number ∷ [] } in
    let new = record c.args.self.now { config = c.add_interface.new.self; section = Used c.args.interface.number } in
    reads_on new (step_used before p c.args.interface is used) none (c.in_ok-add_interface.ensures.ok ∙ ap with_number has.config) refl
