use mathlib.Core.Path.{refl}
use Rattle.translation.specs.Helpers.{cc_case}
use Rattle.translation.proofs.Follow.{by_call, by-no, by-op, by-ret, by-yes, by_one_of, neither}
use Rattle.translation.proofs.writer.Writer.cc_case.Goals as goal

pub returns-in-0 : goal.returns-in-0
unfolding cc_case
returns-in-0 c = by_one_of c.in-0.is (λ e. rw e (by-yes refl (by-op c.truth.ensures by-ret))) (λ e. rw e (by-yes refl (by-op c.truth.ensures by-ret)))

pub returns-in-1 : goal.returns-in-1
unfolding cc_case
returns-in-1 c = by_one_of c.in-1.is (λ e. rw e (by-no refl (by-yes refl by-ret))) (λ e. rw e (by-no refl (by-yes refl by-ret)))

pub returns-in-2 : goal.returns-in-2
unfolding cc_case
returns-in-2 c = by_one_of c.in-2.is (λ e. rw e (by-no refl (by-no refl (by-yes refl by-ret)))) (λ e. rw e (by-no refl (by-no refl (by-yes refl by-ret))))

pub returns-in-3 : goal.returns-in-3
unfolding cc_case
returns-in-3 c = by_one_of c.in-3.is (λ e. rw e (by-no refl (by-no refl (by-no refl (by-yes refl (by-op c.two.ensures by-ret)))))) (λ e. rw e (by-no refl (by-no refl (by-no refl (by-yes refl (by-op c.two.ensures by-ret))))))

pub returns-in-4 : goal.returns-in-4
unfolding cc_case
returns-in-4 c = by_one_of c.in-4.is (λ e. rw e (by-no refl (by-no refl (by-no refl (by-no refl (by-yes refl (by-op c.two-le.ensures (by-op c.one.ensures by-ret)))))))) (λ e. rw e (by-no refl (by-no refl (by-no refl (by-no refl (by-yes refl (by-op c.two-le.ensures (by-op c.one.ensures by-ret))))))))

pub returns-in-5 : goal.returns-in-5
unfolding cc_case
returns-in-5 c = by_one_of c.in-5.is (λ e. rw e (by-no refl (by-no refl (by-no refl (by-no refl (by-no refl (by-yes refl (by-op c.one-in-5.ensures by-ret)))))))) (λ e. rw e (by-no refl (by-no refl (by-no refl (by-no refl (by-no refl (by-yes refl (by-op c.one-in-5.ensures by-ret))))))))

pub returns-in-6 : goal.returns-in-6
unfolding cc_case
returns-in-6 c = by_one_of c.in-6.is (λ e. rw e (by-no refl (by-no refl (by-no refl (by-no refl (by-no refl (by-no refl (by-yes refl (by-op c.one-in-6.ensures by-ret))))))))) (λ e. rw e (by-no refl (by-no refl (by-no refl (by-no refl (by-no refl (by-no refl (by-yes refl (by-op c.one-in-6.ensures by-ret)))))))))

pub returns-in_default : goal.returns-in_default
unfolding cc_case
returns-in_default c = let rest = c.in_default.in_default-own.rest in by-no (neither _ _ _ rest.0.0.0.0.0.0.1) (by-no (neither _ _ _ rest.0.0.0.0.0.1) (by-no (neither _ _ _ rest.0.0.0.0.1) (by-no (neither _ _ _ rest.0.0.0.1) (by-no (neither _ _ _ rest.0.0.1) (by-no (neither _ _ _ rest.0.1) (by-no (neither _ _ _ rest.1) (by_call c.cc_flags.ensures by-ret)))))))
