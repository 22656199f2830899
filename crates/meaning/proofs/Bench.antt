-- 01's marked bench rows hold of the meanings: one statement for all of them.
use mathlib.Core.Path.{◌≡◌, refl}
use mathlib.Core.Bool.{true, xor}
use Rattle.strip.specs.Shape.{all}
use Rattle.meaning.specs.Number.{signed_of, word_of, clamp, least, greatest, divided, from_bits, highest_one, complement, extracted}
use Rattle.meaning.specs.Record.{simm20}
use Rattle.meaning.specs.Operand.{reg, set_reg, pred, flag, set_flags, operand_b}
use Rattle.meaning.specs.Meaning.{complement_if, negate_if, reverse_if, exact_sum, overflows, saturated, set_sum_flags, prepared, carry_in, added, sum, shifted, source, absolute_if, clamp_if, highest_place, from_top, cell_bit, packed, meant, meaning}
use Rattle.meaning.specs.Bench.{rows, holds}

pub rows-hold : all holds rows ≡ true
unfolding rows simm20 signed_of word_of clamp least greatest divided from_bits highest_one complement extracted reg set_reg pred flag set_flags operand_b complement_if negate_if reverse_if exact_sum overflows saturated set_sum_flags prepared carry_in added sum shifted source absolute_if clamp_if highest_place from_top cell_bit packed meant meaning xor
rows-hold = refl
