use Rattle.std.proofs.Common.{arith}
use Rattle.works.proofs.Rest.{rest-within, put-length, put_is}
use Rattle.works.proofs.room.translated.Goals as goal

pub overflow_add-result : goal.overflow_add-result
overflow_add-result c = let a = c.translate-a in omega (arith, c.told-written.ensures.0, rest-within c.args.bytes.now c.args.room.now c.args.t c.requires a.ensures)

pub returns : goal.returns
returns c =
    let a = c.translate-a in
    let w = c.told-written in
    let l = put-length c.args.bytes.now c.args.room.now c.args.t c.requires a.ensures in record {
      result_after = put_is c.args.bytes.now c.args.room.now c.args.t c.requires a.ensures w.result.0 w.result.1 w.ensures.0 w.ensures.1;
      room_len_unchanged = (l, (omega arith, omega (arith, l, w.ensures.0, rest-within c.args.bytes.now c.args.room.now c.args.t c.requires a.ensures)));
    }
