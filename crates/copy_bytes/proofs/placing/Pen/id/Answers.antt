use Rattle.ratchet.specs.Ids.{id_bytes}
use Rattle.copy_bytes.proofs.Places.{wrote_join, wrote_be}
use Rattle.copy_bytes.proofs.placing.Pen.id.Goals as goal

pub returns : goal.returns
unfolding id_bytes
returns c =
    wrote_join (wrote_be 7 c.args.id.w0 c.to_be_bytes.ensures c.put.ensures)
    (wrote_join (wrote_be 7 c.args.id.w1 c.to_be_bytes-2.ensures c.put-2.ensures)
    (wrote_join (wrote_be 7 c.args.id.w2 c.to_be_bytes-3.ensures c.put-3.ensures) (wrote_be 7 c.args.id.w3 c.to_be_bytes-4.ensures c.put-4.ensures)))
