-- Bit by bit.
use Rattle.tile_bytes.proofs.Masks.{one_bit_is_set, one_bit_is_unset}
use Rattle.tile_bytes.proofs.bits.one_bit_changes.Goals as goal

pub returns : goal.returns
returns c = record { one_bit_is_set = one_bit_is_set; one_bit_is_unset = one_bit_is_unset }
