use Rattle.std.proofs.Common.{arith}
use Rattle.ascii.specs.Decimal.{decimal_of}
use Rattle.check_run.proofs.Theorems.{parts-stand, parts-length}
use Rattle.check_run.proofs.report.sentence.Goals as goal

pub returns : goal.returns
returns c = let d = c.decimal-at.ensures in let p = c.requires in record { out_after = parts-stand c.args.out.now _ _ _ c.args.front.now (decimal_of c.args.n) c.args.back.now _ c.copy.ensures d.out_after d.value.0 c.copy-2.ensures; value = (parts-length c.args.front.now (decimal_of c.args.n) c.args.back.now _ d.value.0, omega (arith, d.value.1)) }
