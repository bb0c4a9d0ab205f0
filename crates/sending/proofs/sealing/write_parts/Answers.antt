use Rattle.copy_bytes.proofs.Outputs.{put_answered}
use Rattle.sending.proofs.Seals.{tagged_pieces}
use Rattle.sending.proofs.sealing.write_parts.Goals as goal

pub returns : goal.returns
returns g c =
    let f = put_answered (tagged_pieces g.P.Suite.suite c.args.copy.now c.put_at-a.ensures c.put_at-b.ensures c.tag-tag.ensures c.put_at.ensures) in
    record { value = f.0; after = f.1 }
