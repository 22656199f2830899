use mathlib.Core.Path.{refl}
use borrow.Author.Tests.{ne_eqb}
use Rattle.translation.specs.Helpers.{cc_flags}
use Rattle.translation.proofs.Follow.{by-act, by-no, by-op, by-ret, by-yes, by_one_of, neither}
use Rattle.translation.proofs.writer.Writer.cc_flags.Goals as goal

pub returns-in-7 : goal.returns-in-7
unfolding cc_flags
returns-in-7 c = rw c.in-7.is (by-yes refl (by-op c.one.ensures by-ret))

pub returns-in-8 : goal.returns-in-8
unfolding cc_flags
returns-in-8 c = by_one_of c.in-8.is (λ e. rw e (by-no refl (by-yes refl by-ret))) (λ e. rw e (by-no refl (by-yes refl by-ret)))

pub returns-in-17 : goal.returns-in-17
unfolding cc_flags
returns-in-17 c = rw c.in-17.is (by-no refl (by-no refl (by-yes refl (by-op c.one-in-17.ensures by-ret))))

pub returns-in-18 : goal.returns-in-18
unfolding cc_flags
returns-in-18 c = rw c.in-18.is (by-no refl (by-no refl (by-no refl (by-yes refl (by-op c.one-in-18.ensures by-ret)))))

pub returns-in-19 : goal.returns-in-19
unfolding cc_flags
returns-in-19 c = rw c.in-19.is (by-no refl (by-no refl (by-no refl (by-no refl (by-yes refl (by-op c.one-nc.ensures (by-op c.two.ensures by-ret)))))))

pub returns-in-20 : goal.returns-in-20
unfolding cc_flags
returns-in-20 c = rw c.in-20.is (by-no refl (by-no refl (by-no refl (by-no refl (by-no refl (by-yes refl (by-op c.one-nz.ensures (by-op c.two-in-20.ensures by-ret))))))))

pub returns-in-21 : goal.returns-in-21
unfolding cc_flags
returns-in-21 c = rw c.in-21.is (by-no refl (by-no refl (by-no refl (by-no refl (by-no refl (by-no refl (by-yes refl by-ret)))))))

pub returns-in-22 : goal.returns-in-22
unfolding cc_flags
returns-in-22 c = rw c.in-22.is (by-no refl (by-no refl (by-no refl (by-no refl (by-no refl (by-no refl (by-no refl (by-yes refl by-ret))))))))

pub returns-in_default : goal.returns-in_default
unfolding cc_flags
returns-in_default c = let rest = c.in_default.in_default-own.rest in by-no (ne_eqb _ _ rest.0.0.0.0.0.0.0.1) (by-no (neither _ _ _ rest.0.0.0.0.0.0.1) (by-no (ne_eqb _ _ rest.0.0.0.0.0.1) (by-no (ne_eqb _ _ rest.0.0.0.0.1) (by-no (ne_eqb _ _ rest.0.0.0.1) (by-no (ne_eqb _ _ rest.0.0.1) (by-no (ne_eqb _ _ rest.0.1) (by-no (ne_eqb _ _ rest.1) (by-act c.note.ensures (by-op c.truth.ensures by-ret)))))))))
