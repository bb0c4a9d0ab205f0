use Rattle.copy_bytes.proofs.Places.{put_join}
use Rattle.sending.proofs.Seals.{head_pieces}
use Rattle.sending.proofs.sealing.write_head.Goals as goal

pub returns : goal.returns
returns g c =
    let p = put_join (put_join (put_join c.put_at-a.ensures c.put_varint-b.ensures) c.put_at-c.ensures) c.put_varint.ensures in
    rw (head_pieces g.P.Suite.suite c.args.index c.args.n c.message_byte.result c.message_byte.ensures) at p
