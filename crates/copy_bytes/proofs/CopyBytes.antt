-- Copy bytes: their length, that they are bytes, and how they are read.
use Rattle.std.proofs.Common.{◌≡◌, ◌+◌, ◌*◌, ◌++◌, length, arith, length-append}
use Rattle.std.specs.List.{AllByRecursion}
use Rattle.std.proofs.ByRecursion.{All-append}
use Rattle.ratchet.specs.declared.copies.SessionCopy.{SessionCopy}
use Rattle.ratchet.specs.Bytes.{Byte, be}
use Rattle.ratchet.specs.Ids.{id_bytes}
use Rattle.ratchet.specs.Suite.{Meaning, Lawful}
use Rattle.ratchet.proofs.Bytes.{under_be}
use Rattle.copy_bytes.specs.declared.named.NamedCopy.{NamedCopy}
use Rattle.copy_bytes.specs.declared.named.Version.{Version}
use Rattle.copy_bytes.specs.declared.named.Version.TheVariants.{Share, Export}
use Rattle.copy_bytes.specs.CopyBytes.{version_byte, part_bytes, copy_bytes}
use Rattle.copy_bytes.proofs.Ids.{length_id, bytes_id}

module _ {P : Type 0} (m : Meaning P) (laws : Lawful m) where
  pub length_parts : (c : SessionCopy P) → length (part_bytes m c) ≡ 4 * m.width
  unfolding part_bytes
  length_parts c =
      let e0 = (laws.encoded c.r0).0 in
      let e1 = (laws.encoded c.r1).0 in
      let e2 = (laws.encoded c.r2).0 in
      let e3 = (laws.encoded c.r3).0 in
      simp length-append (omega arith)

  pub length_copy : (v : Version) (n : NamedCopy P) → length (copy_bytes m v n) ≡ 37 + 4 * m.width
  unfolding copy_bytes
  length_copy v n =
      let e = length_parts n.copy in
      let l = length-append (part_bytes m n.copy) (id_bytes n.id) in
      let k = length_id n.id in
      omega arith

  byte_version : (v : Version) → Byte (version_byte m v)
  byte_version Share = laws.formats.1
  byte_version Export = laws.formats.2

  bytes_parts : (c : SessionCopy P) → AllByRecursion Byte (part_bytes m c)
  unfolding part_bytes
  bytes_parts c =
      let e : (p : P) → AllByRecursion Byte (m.encode p) = λ p. (laws.encoded p).1 in
      let low = m.encode c.r2 ++ m.encode c.r3 in
      let lows = All-append Byte (m.encode c.r2) (m.encode c.r3) (e c.r2) (e c.r3) in
      All-append Byte (m.encode c.r0) (m.encode c.r1 ++ low) (e c.r0) (All-append Byte (m.encode c.r1) low (e c.r1) lows)

  pub bytes_copy : (v : Version) (n : NamedCopy P) → AllByRecursion Byte (copy_bytes m v n)
  unfolding copy_bytes
  bytes_copy v n =
      let rest = All-append Byte (part_bytes m n.copy) (id_bytes n.id) (bytes_parts n.copy) (bytes_id n.id) in
      (byte_version v, All-append Byte (be 4 n.copy.index) (part_bytes m n.copy ++ id_bytes n.id) (under_be 4 n.copy.index) rest)
