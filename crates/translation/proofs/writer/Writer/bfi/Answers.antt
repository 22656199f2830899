use Rattle.translation.specs.Arms.{bfi, bfi_bc}
use Rattle.translation.proofs.Follow.{by_call, by-ret}
use Rattle.translation.proofs.writer.Writer.bfi.Goals as goal

pub returns : goal.returns
unfolding bfi bfi_bc
returns c = by_call c.r_a-a.ensures (by_call (rw (← c.bfi_swaps.ensures) (c.src_bc-b.ensures.is _ _ _ c.bfi_words.ensures)) by-ret)
