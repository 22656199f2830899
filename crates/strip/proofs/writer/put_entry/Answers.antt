use mathlib.Core.List.{[]}
use mathlib.Core.Path.{refl}
use native.Mathlib.Omega.{arith}
use native.Mathlib.Numerals.{towards_suc}
use lib.ListN.{length-set}
use Rattle.strip.specs.Entry.{ref_length, encode, kind_of, immediate_of, refs_of}
use Rattle.strip.proofs.Encode.{known-length}
use Rattle.strip.proofs.Write.{puts-after, puts-after-two, puts-ref, puts-end}
use Rattle.strip.proofs.writer.put_entry.Goals as goal

pub bounds-out-at : goal.bounds-out-at
unfolding immediate_of refs_of
bounds-out-at c = omega (arith, known-length (ref_length c.args.layout) c.in-Bare.is, c.requires)

pub bounds-out-at-in-Word : goal.bounds-out-at-in-Word
unfolding immediate_of refs_of
bounds-out-at-in-Word c = omega (arith, known-length (ref_length c.args.layout) c.in-Word.is, c.requires)

pub put_four_bytes-requires : goal.put_four_bytes-requires
unfolding immediate_of refs_of
put_four_bytes-requires c = simp length-set (omega (arith, known-length (ref_length c.args.layout) c.in-Word.is, c.requires))

pub bounds-out-at-in-Cell : goal.bounds-out-at-in-Cell
unfolding immediate_of refs_of
bounds-out-at-in-Cell c = omega (arith, known-length (ref_length c.args.layout) c.in-Cell.is, c.requires)

pub bounds-out-at-in-Cell-2 : goal.bounds-out-at-in-Cell-2
unfolding immediate_of refs_of
bounds-out-at-in-Cell-2 c = simp length-set (omega (arith, known-length (ref_length c.args.layout) c.in-Cell.is, c.requires))

pub bounds-out-at-in-Store : goal.bounds-out-at-in-Store
unfolding immediate_of refs_of
bounds-out-at-in-Store c = omega (arith, known-length (ref_length c.args.layout) c.in-Store.is, c.requires)

pub bounds-out-at-in-Store-2 : goal.bounds-out-at-in-Store-2
unfolding immediate_of refs_of
bounds-out-at-in-Store-2 c = simp length-set (omega (arith, known-length (ref_length c.args.layout) c.in-Store.is, c.requires))

pub put_ref-requires : goal.put_ref-requires
unfolding immediate_of refs_of
put_ref-requires c = simp length-set (omega (arith, known-length (ref_length c.args.layout) c.in-Store.is, c.requires))

pub bounds-out-at-in-One : goal.bounds-out-at-in-One
unfolding immediate_of refs_of
bounds-out-at-in-One c = omega (arith, known-length (ref_length c.args.layout) c.in-One.is, c.requires)

pub put_refs-requires : goal.put_refs-requires
unfolding immediate_of refs_of
put_refs-requires c = simp length-set (omega (arith, known-length (ref_length c.args.layout) c.in-One.is, c.requires))

pub bounds-out-at-in-Two : goal.bounds-out-at-in-Two
unfolding immediate_of refs_of
bounds-out-at-in-Two c = omega (arith, known-length (ref_length c.args.layout) c.in-Two.is, c.requires)

pub put_refs-requires-in-Two : goal.put_refs-requires-in-Two
unfolding immediate_of refs_of
put_refs-requires-in-Two c = simp length-set (omega (arith, known-length (ref_length c.args.layout) c.in-Two.is, c.requires))

pub bounds-out-at-in-Three : goal.bounds-out-at-in-Three
unfolding immediate_of refs_of
bounds-out-at-in-Three c = omega (arith, known-length (ref_length c.args.layout) c.in-Three.is, c.requires)

pub put_refs-requires-in-Three : goal.put_refs-requires-in-Three
unfolding immediate_of refs_of
put_refs-requires-in-Three c = simp length-set (omega (arith, known-length (ref_length c.args.layout) c.in-Three.is, c.requires))

pub bounds-out-at-in-Four : goal.bounds-out-at-in-Four
unfolding immediate_of refs_of
bounds-out-at-in-Four c = omega (arith, known-length (ref_length c.args.layout) c.in-Four.is, c.requires)

pub put_refs-requires-in-Four : goal.put_refs-requires-in-Four
unfolding immediate_of refs_of
put_refs-requires-in-Four c = simp length-set (omega (arith, known-length (ref_length c.args.layout) c.in-Four.is, c.requires))

pub returns-in-Bare : goal.returns-in-Bare
unfolding encode kind_of immediate_of refs_of
returns-in-Bare c = rw c.in-Bare.is (record { is = refl })

pub returns-in-Word : goal.returns-in-Word
unfolding encode kind_of immediate_of refs_of
returns-in-Word c = rw c.in-Word.is (puts-after c.put_four_bytes.ensures)

pub returns-in-Cell : goal.returns-in-Cell
unfolding encode kind_of immediate_of refs_of
returns-in-Cell c = rw c.in-Cell.is (record { is = simp towards_suc })

pub returns-in-Store : goal.returns-in-Store
unfolding encode kind_of immediate_of refs_of
returns-in-Store c = rw c.in-Store.is (puts-after-two (puts-ref (ref_length c.args.layout) c.in-Store.a [] refl c.put_ref.ensures (puts-end (ref_length c.args.layout))))

pub returns-in-One : goal.returns-in-One
unfolding encode kind_of immediate_of refs_of
returns-in-One c = rw c.in-One.is (puts-after c.put_refs.ensures)

pub returns-in-Two : goal.returns-in-Two
unfolding encode kind_of immediate_of refs_of
returns-in-Two c = rw c.in-Two.is (puts-after c.put_refs-in-Two.ensures)

pub returns-in-Three : goal.returns-in-Three
unfolding encode kind_of immediate_of refs_of
returns-in-Three c = rw c.in-Three.is (puts-after c.put_refs-in-Three.ensures)

pub returns-in-Four : goal.returns-in-Four
unfolding encode kind_of immediate_of refs_of
returns-in-Four c = rw c.in-Four.is (puts-after c.put_refs-in-Four.ensures)
