use Rattle.strip.specs.Entry.{kind_of, body_of}
use Rattle.strip.proofs.EntryStep.{step-word}
use Rattle.strip.proofs.shape.Shape.entry.Goals as goal

pub returns-in-Word : goal.returns-in-Word
unfolding kind_of body_of
returns-in-Word c = rw (c.in-Word.is, step-word) c.value.ensures

pub bare-requires : goal.bare-requires
unfolding kind_of body_of
bare-requires c = (c.requires.0, rw c.in-Bare.is at c.requires.1)

pub cell-requires : goal.cell-requires
unfolding kind_of body_of
cell-requires c = (c.requires.0, rw c.in-Cell.is at c.requires.1)

pub store-requires : goal.store-requires
unfolding kind_of body_of
store-requires c = (c.requires.0, rw c.in-Store.is at c.requires.1)

pub one-requires : goal.one-requires
unfolding kind_of body_of
one-requires c = (c.requires.0, rw c.in-One.is at c.requires.1)

pub two-requires : goal.two-requires
unfolding kind_of body_of
two-requires c = (c.requires.0, rw c.in-Two.is at c.requires.1)

pub three-requires : goal.three-requires
unfolding kind_of body_of
three-requires c = (c.requires.0, rw c.in-Three.is at c.requires.1)

pub four-requires : goal.four-requires
unfolding kind_of body_of
four-requires c = (c.requires.0, rw c.in-Four.is at c.requires.1)
