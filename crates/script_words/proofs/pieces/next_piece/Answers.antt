-- The text was cut at its first end.
use Rattle.std.proofs.Common.{true-eqb}
use Rattle.std.proofs.lemmas.List.{take_rest}
use Rattle.script_words.proofs.Fronts.{no_pieces, cut_piece, nothing_after}
use Rattle.script_words.proofs.pieces.next_piece.Goals as goal

pub returns-then-is_empty : goal.returns-then-is_empty
returns-then-is_empty c = record { is_the_first_piece = no_pieces _ _ (true-eqb _ 0 c.if-is_empty.ensures) }

pub returns-then-is_empty-2 : goal.returns-then-is_empty-2
returns-then-is_empty-2 c =
    let told = c.piece_length.ensures in
    let parts = c.split_at.ensures in
    record { is_the_first_piece = cut_piece _ _ _ _ _ _ c.if-is_empty.ensures told.is_within told.no_end_is_before told.an_end_is_there parts.front parts.back (nothing_after _ c.if-is_empty-2.ensures) }

pub returns : goal.returns
returns c =
    let told = c.piece_length.ensures in
    let parts = c.split_at.ensures in
    record { is_the_first_piece = cut_piece _ _ _ _ _ _ c.if-is_empty.ensures told.is_within told.no_end_is_before told.an_end_is_there parts.front parts.back (take_rest c.split_at.result.1.now 1) }
