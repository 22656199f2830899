use Rattle.strip.specs.Entry.{kind_of, body_of}
use Rattle.spirv.specs.Writer.{const_of, with_new}
use Rattle.spirv.proofs.page.Page.enter.Goals as goal

pub cell-requires : goal.cell-requires
unfolding kind_of body_of
cell-requires c = rw c.in-Cell.is at c.requires.formed

pub returns-in-Cell-clause-listed : goal.returns-in-Cell-clause-listed
unfolding const_of with_new
returns-in-Cell-clause-listed c = rw c.in-Cell.is

pub cell_store-requires : goal.cell_store-requires
unfolding kind_of body_of
cell_store-requires c = rw c.in-Store.is at c.requires.formed

pub returns-in-Store-clause-listed : goal.returns-in-Store-clause-listed
unfolding const_of with_new
returns-in-Store-clause-listed c = rw c.in-Store.is

pub one-requires : goal.one-requires
unfolding kind_of body_of
one-requires c = rw c.in-One.is at c.requires.formed

pub returns-in-One-clause-listed : goal.returns-in-One-clause-listed
unfolding const_of with_new
returns-in-One-clause-listed c = rw c.in-One.is

pub two-requires : goal.two-requires
unfolding kind_of body_of
two-requires c = rw c.in-Two.is at c.requires.formed

pub returns-in-Two-clause-listed : goal.returns-in-Two-clause-listed
unfolding const_of with_new
returns-in-Two-clause-listed c = rw c.in-Two.is

pub three-requires : goal.three-requires
unfolding kind_of body_of
three-requires c = rw c.in-Three.is at c.requires.formed

pub returns-in-Three-clause-listed : goal.returns-in-Three-clause-listed
unfolding const_of with_new
returns-in-Three-clause-listed c = rw c.in-Three.is

pub four-requires : goal.four-requires
unfolding kind_of body_of
four-requires c = rw c.in-Four.is at c.requires.formed

pub returns-in-Four-clause-listed : goal.returns-in-Four-clause-listed
unfolding const_of with_new
returns-in-Four-clause-listed c = rw c.in-Four.is
