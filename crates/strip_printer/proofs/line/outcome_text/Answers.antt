use native.Mathlib.Omega.{arith}
use Rattle.strip_printer.proofs.Text.{written_is, strip-answer, refused-answer}
use Rattle.strip_printer.proofs.line.outcome_text.Goals as goal

pub strip-requires : goal.strip-requires
strip-requires c = let w = written_is c.args.o c.args.room.now _ c.in-Ok.is in (rw w at c.requires.0, omega (arith, w, c.requires.1, c.requires.2))

pub returns-in-Ok : goal.returns-in-Ok
returns-in-Ok c =
    let t = c.strip in
    let a = strip-answer c.args.o c.args.room.now c.args.out.now _ c.args.at t.result _ c.in-Ok.is c.requires.0 c.requires.1 t.ensures.out_after t.ensures.value in
    record { out_after = a.0; value = a.1 }

pub returns-in-Err : goal.returns-in-Err
returns-in-Err c =
    let t = c.refusal in
    let a = refused-answer c.args.o c.args.room.now c.args.out.now _ c.args.at t.result _ c.in-Err.is t.ensures.out_after t.ensures.value in
    record { out_after = a.0; value = a.1 }
