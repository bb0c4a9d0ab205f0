use Rattle.std.proofs.Common.{arith}
use Rattle.copy_bytes.proofs.Places.{put_join}
use Rattle.sending.proofs.Varints.{varint_more}
use Rattle.sending.proofs.sealing.+put_varint.Goals as goal

pub returns : goal.returns
returns t c = rw (varint_more c.args.v (omega arith) (omega arith)) (put_join c.put_at-next.ensures c.put_varint.ensures)
