use native.Mathlib.Omega.{arith}
use Rattle.strip.specs.Entry.{ref_length, immediate_of, refs_of}
use Rattle.strip.proofs.Encode.{known-length}
use Rattle.strip.proofs.writer.entry_length.Goals as goal

pub returns-in-Bare : goal.returns-in-Bare
unfolding immediate_of refs_of
returns-in-Bare c = omega (arith, c.ref_length-n.ensures.0, known-length (ref_length c.args.layout) c.in-Bare.is)

pub returns-in-Word : goal.returns-in-Word
unfolding immediate_of refs_of
returns-in-Word c = omega (arith, c.ref_length-n.ensures.0, known-length (ref_length c.args.layout) c.in-Word.is)

pub returns-in-Cell : goal.returns-in-Cell
unfolding immediate_of refs_of
returns-in-Cell c = omega (arith, c.ref_length-n.ensures.0, known-length (ref_length c.args.layout) c.in-Cell.is)

pub returns-in-Store : goal.returns-in-Store
unfolding immediate_of refs_of
returns-in-Store c = omega (arith, c.ref_length-n.ensures.0, known-length (ref_length c.args.layout) c.in-Store.is)

pub returns-in-One : goal.returns-in-One
unfolding immediate_of refs_of
returns-in-One c = omega (arith, c.ref_length-n.ensures.0, known-length (ref_length c.args.layout) c.in-One.is)

pub returns-in-Two : goal.returns-in-Two
unfolding immediate_of refs_of
returns-in-Two c = omega (arith, c.ref_length-n.ensures.0, known-length (ref_length c.args.layout) c.in-Two.is)

pub returns-in-Three : goal.returns-in-Three
unfolding immediate_of refs_of
returns-in-Three c = omega (arith, c.ref_length-n.ensures.0, known-length (ref_length c.args.layout) c.in-Three.is)

pub returns-in-Four : goal.returns-in-Four
unfolding immediate_of refs_of
returns-in-Four c = omega (arith, c.ref_length-n.ensures.0, known-length (ref_length c.args.layout) c.in-Four.is)
