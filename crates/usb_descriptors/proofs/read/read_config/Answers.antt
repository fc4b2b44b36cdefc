-- Each descriptor goes from what is left to what was read.
use Rattle.std.proofs.Common.{[], ◌∷◌, Ok, sym, ap, ◌∙◌}
use Rattle.std.proofs.lemmas.Result.{err_from_is_err_and}
use Rattle.usb_descriptors.proofs.Runs.{read_on, opened, opened-opening, answers, fault_is_next, piece_has_fault, passes}
use Rattle.usb_descriptors.proofs.read.read_config.Goals as goal

pub loop-piece-init : goal.loop-piece-init
loop-piece-init c =
    let opens = ap opened (sym c.in_ok-piece-items.was ∙ c.descriptors.ensures) ∙ opened-opening c.args.input.now in
    record {
      before = [];
      has = c.new-reader.ensures;
      same = ap (read_on []) c.into_iter-piece-iterator.ensures.into_iter_gives ∙ opens;
    }

pub loop-piece-preserved : goal.loop-piece-preserved
loop-piece-preserved c =
    let way = c.loop-piece.invariant in
    let next = c.in-Some.ensures.steps ∙ ap (λ x. x ∷ c.next.new.self) c.in_ok-piece.was in
    passes way next (c.in_ok-read.ensures way.before way.has)

pub returns-in_err-piece : goal.returns-in_err-piece
returns-in_err-piece c =
    let error = err_from_is_err_and c.from_residual-in_err-piece.result c.from_residual-in_err-piece.ensures.1 in
    let next = c.in-Some.ensures.steps ∙ ap (λ x. x ∷ c.next.new.self) c.in_err-piece.was in
    rw (error.1, error.2) (fault_is_next c.loop-piece.invariant next)

pub returns-in_err-read : goal.returns-in_err-read
returns-in_err-read c =
    let error = err_from_is_err_and c.from_residual-in_err-read.result c.from_residual-in_err-read.ensures.1 in
    let way = c.loop-piece.invariant in
    let next = c.in-Some.ensures.steps ∙ ap (λ x. x ∷ c.next.new.self) c.in_ok-piece.was in
    rw (error.1, error.2) (piece_has_fault way next (c.in_err-read.ensures way.before way.has))

pub returns : goal.returns
returns c = ap Ok c.into_config.ensures ∙ answers c.loop-piece.invariant c.in-None.ensures.steps.0
