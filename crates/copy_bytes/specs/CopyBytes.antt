-- The bytes of a copy under its id: a version byte, the index in 4 bytes, the four parts, and the id.
use Rattle.std.specs.Prelude.{ℕ, ◌+◌, ◌*◌, Bool, cond, ◌||◌, List, [], ◌∷◌, ◌++◌, length, take, drop, Ok, Err, Result, ◌==◌, slice_index}
use Rattle.std.specs.Int.Digits.{number_from_digits}
use Rattle.ratchet.specs.declared.copies.SessionCopy.{SessionCopy}
use Rattle.ratchet.specs.declared.ids.Id.{Id}
use Rattle.ratchet.specs.Bytes.{be}
use Rattle.ratchet.specs.Ids.{id_bytes, id_of}
use Rattle.ratchet.specs.Suite.{Meaning}
use Rattle.copy_bytes.specs.declared.named.NamedCopy.{NamedCopy}
use Rattle.copy_bytes.specs.declared.named.Version.{Version}
use Rattle.copy_bytes.specs.declared.named.Version.TheVariants.{Share, Export}
use Rattle.copy_bytes.specs.declared.named.Accepted.{Accepted}
use Rattle.copy_bytes.specs.declared.named.Accepted.TheVariants.{ShareOrExport, Export as ExportAlone}
use Rattle.copy_bytes.specs.declared.named.CopyFault.{CopyFault}
use Rattle.copy_bytes.specs.declared.named.CopyFault.TheVariants.{Length as WrongLength, Version as WrongVersion}

abbrev pub version_byte : {P : Type 0} → Meaning P → Version → ℕ
version_byte m Share = m.share_byte
version_byte m Export = m.export_byte

-- share and export byte of a suite need not differ
abbrev pub accepts : {P : Type 0} → Meaning P → Accepted → ℕ → Bool
accepts m ShareOrExport b = b == m.share_byte || b == m.export_byte
accepts m ExportAlone b = b == m.export_byte

-- the four parts, one behind another
unfoldable pub part_bytes : {P : Type 0} → Meaning P → SessionCopy P → List ℕ
part_bytes m c = m.encode c.r0 ++ (m.encode c.r1 ++ (m.encode c.r2 ++ m.encode c.r3))

unfoldable pub copy_bytes : {P : Type 0} → Meaning P → Version → NamedCopy P → List ℕ
copy_bytes m v n = (version_byte m v ∷ []) ++ (be 4 n.copy.index ++ (part_bytes m n.copy ++ id_bytes n.id))

abbrev pub copy_length : {P : Type 0} → Meaning P → ℕ
copy_length m = 37 + 4 * m.width

-- the part that stands at a place
abbrev pub part_at : {P : Type 0} → Meaning P → ℕ → List ℕ → P
part_at m at bs = m.decode (take m.width (drop at bs))

-- the copy at the index i whose parts stand from a place on
unfoldable pub copy_of : {P : Type 0} → Meaning P → ℕ → ℕ → List ℕ → SessionCopy P
copy_of m i at bs = record {
  index = i;
  r0 = part_at m at bs;
  r1 = part_at m (at + m.width) bs;
  r2 = part_at m (at + 2 * m.width) bs;
  r3 = part_at m (at + 3 * m.width) bs;
}

unfoldable pub named_of : {P : Type 0} → Meaning P → List ℕ → NamedCopy P
named_of m bs = record {
  id = id_of (drop (5 + 4 * m.width) bs);
  copy = copy_of m (number_from_digits 256 (take 4 (drop 1 bs))) 5 bs;
}

-- the length is asked before the version byte
abbrev pub read_copy : {P : Type 0} → Meaning P → Accepted → List ℕ → Result (NamedCopy P) CopyFault
read_copy m a bs =
    cond (length bs == copy_length m) (cond (accepts m a (slice_index bs 0)) (Ok (named_of m bs)) (Err WrongVersion)) (Err WrongLength)

-- the bytes that a sender starts from: four parts, at index 0
abbrev pub read_start : {P : Type 0} → Meaning P → List ℕ → Result (SessionCopy P) CopyFault
read_start m bs = cond (length bs == 4 * m.width) (Ok (copy_of m 0 0 bs)) (Err WrongLength)

abbrev pub read_id : List ℕ → Result Id CopyFault
read_id bs = cond (length bs == 32) (Ok (id_of bs)) (Err WrongLength)
