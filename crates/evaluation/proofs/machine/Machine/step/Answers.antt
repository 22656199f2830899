use Rattle.strip.specs.Entry.{kind_of, body_of}
use Rattle.std.proofs.Common.{refl}
use Rattle.evaluation.specs.State.{with_cell, with_store}
use Rattle.evaluation.proofs.machine.Machine.step.Goals as goal

pub bare-requires : goal.bare-requires
unfolding kind_of body_of with_cell with_store
bare-requires c = record { ready = c.requires.ready; body = rw c.in-Bare.is at c.requires.body }

pub returns-in-Bare : goal.returns-in-Bare
unfolding kind_of body_of with_cell with_store
returns-in-Bare c = rw c.in-Bare.is (λ s p. c.bare.ensures s _)

pub returns-in-Word : goal.returns-in-Word
unfolding kind_of body_of with_cell with_store
returns-in-Word c = rw c.in-Word.is (λ s p. c.constant.ensures s _)

pub cell-requires : goal.cell-requires
unfolding kind_of body_of with_cell with_store
cell-requires c = record { ready = c.requires.ready; body = rw c.in-Cell.is at c.requires.body }

pub returns-in-Cell : goal.returns-in-Cell
unfolding kind_of body_of with_cell with_store
returns-in-Cell c = rw c.in-Cell.is (λ s p. c.cell.ensures s _ p)

pub store-requires : goal.store-requires
unfolding kind_of body_of with_cell with_store
store-requires c = record { ready = c.requires.ready; body = rw c.in-Store.is at c.requires.body }

pub returns-in-Store : goal.returns-in-Store
unfolding kind_of body_of with_cell with_store
returns-in-Store c = rw c.in-Store.is (λ s p. c.store.ensures s _)

pub one-requires : goal.one-requires
unfolding kind_of body_of with_cell with_store
one-requires c = record { ready = c.requires.ready; body = rw c.in-One.is at c.requires.body }

pub returns-in-One : goal.returns-in-One
unfolding kind_of body_of with_cell with_store
returns-in-One c = rw c.in-One.is (λ s p. c.one.ensures s)

pub two-requires : goal.two-requires
unfolding kind_of body_of with_cell with_store
two-requires c = record { ready = c.requires.ready; body = rw c.in-Two.is at c.requires.body }

pub returns-in-Two : goal.returns-in-Two
unfolding kind_of body_of with_cell with_store
returns-in-Two c = rw c.in-Two.is (λ s p. c.two.ensures s _)

pub three-requires : goal.three-requires
unfolding kind_of body_of with_cell with_store
three-requires c = record { ready = c.requires.ready; body = rw c.in-Three.is at c.requires.body }

pub returns-in-Three : goal.returns-in-Three
unfolding kind_of body_of with_cell with_store
returns-in-Three c = rw c.in-Three.is (λ s p. c.three.ensures s _)

pub four-requires : goal.four-requires
unfolding kind_of body_of with_cell with_store
four-requires c = record { ready = c.requires.ready; body = rw c.in-Four.is at c.requires.body }

pub returns-in-Four : goal.returns-in-Four
unfolding kind_of body_of with_cell with_store
returns-in-Four c = rw c.in-Four.is (λ s p. c.four.ensures s _ refl)
