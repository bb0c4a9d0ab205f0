-- What is written is read back, and what is read is written again as it was.
use Rattle.std.specs.Prelude.{◌≡◌, ℕ, ◌^◌, ◌<◌, List, length, Ok, slice_index}
use Rattle.std.specs.Int.Digits.{number_from_digits}
use Rattle.std.specs.List.{AllByRecursion}
use Rattle.ratchet.specs.declared.copies.SessionCopy.{SessionCopy}
use Rattle.ratchet.specs.declared.ids.Id.{Id}
use Rattle.ratchet.specs.Bytes.{Byte}
use Rattle.ratchet.specs.Ids.{id_number, id_bytes, id_of}
use Rattle.ratchet.specs.Ratchet.{at}
use Rattle.ratchet.specs.Suite.{Meaning}
use Rattle.copy_bytes.specs.declared.named.NamedCopy.{NamedCopy}
use Rattle.copy_bytes.specs.declared.named.Version.{Version}
use Rattle.copy_bytes.specs.declared.named.Version.TheVariants.{Export}
use Rattle.copy_bytes.specs.declared.named.Accepted.{Accepted}
use Rattle.copy_bytes.specs.declared.named.Accepted.TheVariants.{ShareOrExport, Export as ExportAlone}
use Rattle.copy_bytes.specs.CopyBytes.{version_byte, part_bytes, copy_bytes, copy_length, read_copy, read_start}

pub record CopyLaws {P : Type 0} (m : Meaning P) : Type 0 where
  -- what is written is bytes, of one length
  pub long : (v : Version) (n : NamedCopy P) → length (copy_bytes m v n) ≡ copy_length m
  pub bytes : (v : Version) (n : NamedCopy P) → AllByRecursion Byte (copy_bytes m v n)
  -- a reader that takes both versions reads either
  pub either : (v : Version) (n : NamedCopy P) → n.copy.index < 2 ^ 32 → read_copy m ShareOrExport (copy_bytes m v n) ≡ Ok n
  -- a reader that takes exported copies alone reads these
  pub exported : (n : NamedCopy P) → n.copy.index < 2 ^ 32 → read_copy m ExportAlone (copy_bytes m Export n) ≡ Ok n
  -- what is read has an index of 32 bits
  pub indexed : (a : Accepted) (bs : List ℕ) (n : NamedCopy P) → AllByRecursion Byte bs → read_copy m a bs ≡ Ok n → n.copy.index < 2 ^ 32
  -- what is read, written again with its version byte, is the same bytes
  pub again : (v : Version) (a : Accepted) (bs : List ℕ) (n : NamedCopy P) → AllByRecursion Byte bs → slice_index bs 0 ≡ version_byte m v → read_copy m a bs ≡ Ok n → copy_bytes m v n ≡ bs
  -- four parts are read back as a copy at index 0
  pub start : (c : SessionCopy P) → read_start m (part_bytes m c) ≡ Ok (at 0 c)
  pub start_again : (bs : List ℕ) (c : SessionCopy P) → AllByRecursion Byte bs → read_start m bs ≡ Ok c → part_bytes m c ≡ bs

pub record IdLaws : Type 0 where
  pub back : (k : Id) → id_of (id_bytes k) ≡ k
  pub again : (bs : List ℕ) → length bs ≡ 32 → AllByRecursion Byte bs → id_bytes (id_of bs) ≡ bs
  -- its number is that of its bytes, and ids with one number are one
  pub numbered : (k : Id) → number_from_digits 256 (id_bytes k) ≡ id_number k
  pub one : (k l : Id) → id_number k ≡ id_number l → k ≡ l
