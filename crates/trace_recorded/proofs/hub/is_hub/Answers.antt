-- A descriptor more, and the end.
use Rattle.std.proofs.Common.{◌≡◌, sym, ap, ◌∙◌}
use Rattle.trace_recorded.specs.Devices.{found_with}
use Rattle.trace_recorded.proofs.Hubs.{piece_next, piece_none, pieces_end}
use Rattle.trace_recorded.proofs.hub.is_hub.Goals as goal

pub returns-in_default : goal.returns-in_default
returns-in_default c =
    piece_none _ c.pieces.found c.pieces.rest.now c.piece_size-size.result (sym c.begins_with_piece.ensures ∙ c.pieces-test.true) c.piece_size-size.ensures
    (λ at. sym c.in_default.is ∙ (c.found_with.ensures at ∙ ap (λ b. found_with c.pieces.found (record { at = at; bytes = b })) c.front.ensures)) c.pieces.invariant

pub pieces-preserved : goal.pieces-preserved
pieces-preserved c =
    piece_next _ c.pieces.found c.in-Some.more c.pieces.rest.now c.past-rest-in-pieces.result.now c.piece_size-size.result (sym c.begins_with_piece.ensures ∙ c.pieces-test.true) c.piece_size-size.ensures
    (λ at. sym c.in-Some.is ∙ (c.found_with.ensures at ∙ ap (λ b. found_with c.pieces.found (record { at = at; bytes = b })) c.front.ensures)) c.past-rest-in-pieces.ensures c.pieces.invariant

pub returns : goal.returns
returns c = pieces_end _ c.pieces.found c.pieces.rest.now (sym c.begins_with_piece.ensures ∙ c.pieces-test.false) c.pieces.invariant
