use mathlib.Core.Path.{◌≡◌, ◌∙◌}
use lib.ListN.{length}
use Rattle.strip.specs.Entry.{ref_length}
use borrow.Author.Tests.{ne_eqb}
use Rattle.std.proofs.Common.{rules}
use Rattle.strip.proofs.EntryRead.{read-nil, read-cons, read_low}
use Rattle.strip.proofs.reader.read_entry.Goals as goal

pub returns-then-is_empty : goal.returns-then-is_empty
returns-then-is_empty c = read-nil _ _ (search rules)

pub returns-then-k-eq1 : goal.returns-then-k-eq1
returns-then-k-eq1 c =
    let some : length c.args.s.now ≡ 0 → ⊥ = search rules in
    c.read_word.ensures ∙ (rw c.if-k-eq1.true at (read_low (ref_length c.args.layout) c.args.s.now some c.if-k-lt2.true))

pub returns-else-k-eq1 : goal.returns-else-k-eq1
returns-else-k-eq1 c =
    let some : length c.args.s.now ≡ 0 → ⊥ = search rules in
    rw (ne_eqb _ _ c.if-k-eq1.false) at (read_low (ref_length c.args.layout) c.args.s.now some c.if-k-lt2.true)

pub returns : goal.returns
returns c =
    let some : length c.args.s.now ≡ 0 → ⊥ = search rules in
    c.read_as.ensures ∙ (rw (c.ref_length.ensures.0, c.body_of.ensures) (read-cons _ c.args.s.now some))
