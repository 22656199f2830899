use Rattle.std.proofs.Common.{◌≡◌, ◌+◌, ◌-◌, arith}
use Rattle.spirv.proofs.Tapes.{copied-part}
use Rattle.spirv.proofs.answer.copy_constants.Goals as goal

pub returns : goal.returns
returns c =
    let z : c.args.at + c.args.n - c.args.at ≡ c.args.n = omega arith in
    copied-part _ _ c.args.buf.now c.args.at c.args.n (rw z at c.copy_from_slice.ensures.after) (omega (arith, c.requires.0)) (omega (arith, c.requires.1, c.requires.2))
