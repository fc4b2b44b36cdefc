-- A descriptor more, and the end.
use Rattle.std.proofs.Common.{sym, ap, ◌∙◌, ◌++◌}
use Rattle.trace_descriptor.specs.Interfaces.{settings_in}
use Rattle.trace_descriptor.proofs.Settings.{piece_next, pieces_end}
use Rattle.trace_descriptor.proofs.interface.settings_of.Goals as goal

pub pieces-preserved : goal.pieces-preserved
pieces-preserved c =
    piece_next _ c.pieces.found.items c.put_setting.new.found.items c.pieces.rest.now c.past-rest-in-pieces.result.now c.piece_size-size.result (sym c.begins_with_piece.ensures ∙ c.pieces-test.true) c.piece_size-size.ensures
    (λ at. c.in_ok-put_setting.ensures at ∙ ap (λ b. c.pieces.found.items ++ settings_in (record { at = at; bytes = b })) c.front.ensures) c.past-rest-in-pieces.ensures c.pieces.invariant

pub returns : goal.returns
returns c = pieces_end _ c.pieces.found.items c.pieces.rest.now (sym c.begins_with_piece.ensures ∙ c.pieces-test.false) c.pieces.invariant
