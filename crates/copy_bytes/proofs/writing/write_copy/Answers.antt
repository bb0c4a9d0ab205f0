use Rattle.std.proofs.Common.{[], ◌∷◌, ap, rules, arith}
use Rattle.std.proofs.lemmas.Grind.{common_steps}
use Rattle.copy_bytes.specs.CopyBytes.{part_bytes, copy_bytes}
use Rattle.copy_bytes.proofs.CopyBytes.{length_copy}
use Rattle.copy_bytes.proofs.Places.{wrote_join, wrote_is, wrote_be}
use Rattle.copy_bytes.proofs.Outputs.{put_answered}
use Rattle.copy_bytes.proofs.writing.write_copy.Goals as goal

pub returns-then-out-copy_length : goal.returns-then-out-copy_length
returns-then-out-copy_length g c =
    let long = length_copy g.P.Suite.suite g.met.P.Suite.lawful c.args.version c.args.named.now in
    record { value = grind (arith, common_steps, long); after = grind (arith, common_steps, long) }

pub returns : goal.returns
unfolding copy_bytes part_bytes
returns g c =
    let version = wrote_is (ap (λ b. b ∷ []) c.byte_of.ensures) c.put.ensures in
    let index = wrote_be 3 c.args.named.now.copy.index c.to_be_bytes.ensures c.put-2.ensures in
    let parts = wrote_join c.part.ensures (wrote_join c.part-2.ensures (wrote_join c.part-3.ensures c.part-4.ensures)) in
    let whole = put_answered (wrote_join version (wrote_join index (wrote_join parts c.id.ensures))).put in
    record { value = whole.0; after = search (rules, whole.1) }
