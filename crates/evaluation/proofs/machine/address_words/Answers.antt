use Rattle.std.proofs.Common.{◌≡◌, refl, rules, le-ltb, lt-ltb, ne_eqb, le-leb}
use Rattle.std.proofs.lemmas.Bool.{lt-leb}
use Rattle.evaluation.specs.Machine.{address_words}
use Rattle.evaluation.specs.Progress.{addressed}
use Rattle.evaluation.proofs.machine.address_words.Goals as goal
use Rattle.evaluation.proofs.machine.address_words.Goals.{else-z-eq0-via-then-z-eq0+then-vec-le4095+else-comp-le3, else-z-eq0-via-then-z-eq0+else-vec-le4095, else-z-eq0-via-else-z-eq0}

pub returns-then-i-size : goal.returns-then-i-size
unfolding address_words addressed
returns-then-i-size c = let e : c.from.result ≡ c.args.s = search rules in rw (c.if-z-eq0.true, le-leb _ _ c.if-vec-le4095.true, le-leb _ _ c.if-comp-le3.true, ← e, lt-ltb _ _ c.if-i-size.true) refl

pub returns-else-i-size : goal.returns-else-i-size
unfolding address_words addressed
returns-else-i-size c = let e : c.from.result ≡ c.args.s = search rules in rw (c.if-z-eq0.true, le-leb _ _ c.if-vec-le4095.true, le-leb _ _ c.if-comp-le3.true, ← e, le-ltb _ _ c.if-i-size.false) refl

pub returns-else-z-eq0 : goal.returns-else-z-eq0
unfolding address_words addressed
returns-else-z-eq0 c =
    elim c.else-z-eq0.branch [
      | else-z-eq0-via-then-z-eq0+then-vec-le4095+else-comp-le3 w ↦ rw (w.if-z-eq0.true, le-leb _ _ w.if-vec-le4095.true, lt-leb _ _ w.if-comp-le3.false)
      | else-z-eq0-via-then-z-eq0+else-vec-le4095 w ↦ rw (w.if-z-eq0.true, lt-leb _ _ w.if-vec-le4095.false)
      | else-z-eq0-via-else-z-eq0 w ↦ rw (ne_eqb _ _ w.if-z-eq0.false)
    ]
