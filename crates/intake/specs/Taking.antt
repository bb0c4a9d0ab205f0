-- What a store answers to copy bytes, and what it then means.
use Rattle.std.specs.Prelude.{ℕ, cond, List, Ok, Err, Result}
use Rattle.ratchet.specs.declared.copies.Holding.{Holding}
use Rattle.ratchet.specs.declared.copies.Holding.TheVariants.{Held}
use Rattle.ratchet.specs.declared.ids.Id.{Id}
use Rattle.ratchet.specs.Ids.{id_number}
use Rattle.ratchet.specs.Join.{join, raised}
use Rattle.ratchet.specs.Suite.{Meaning as SuiteMeaning}
use Rattle.copy_bytes.specs.declared.named.NamedCopy.{NamedCopy}
use Rattle.copy_bytes.specs.declared.named.Accepted.TheVariants.{ShareOrExport}
use Rattle.copy_bytes.specs.declared.named.CopyFault.{CopyFault}
use Rattle.copy_bytes.specs.declared.named.CopyFault.TheVariants.{Length as WrongLength, Version as WrongVersion}
use Rattle.copy_bytes.specs.CopyBytes.{read_copy}
use Rattle.store.specs.declared.refusal.StoreRefusal.{StoreRefusal}
use Rattle.store.specs.declared.refusal.StoreRefusal.TheVariants.{NoPlace as Full}
use Rattle.store.specs.Meaning.{Meaning, room, taken}
use Rattle.intake.specs.declared.take_refusal.TakeRefusal.{TakeRefusal}
use Rattle.intake.specs.declared.take_refusal.TakeRefusal.TheVariants.{Length, Version, NoPlace}

abbrev pub of_copy : CopyFault → TakeRefusal
of_copy WrongLength = Length
of_copy WrongVersion = Version

abbrev pub of_store : StoreRefusal → TakeRefusal
of_store Full = NoPlace

module _ {P : Type 0} (s : SuiteMeaning P) (m : Meaning Id (Holding P)) where
  -- length and version are asked before the place
  abbrev pub read_answer : Result (NamedCopy P) CopyFault → Result (Unit {0}) TakeRefusal
  read_answer (Ok n) = cond (room id_number m n.id) (Ok tt) (Err NoPlace)
  read_answer (Err e) = Err (of_copy e)

  abbrev pub read_taken : Result (NamedCopy P) CopyFault → Meaning Id (Holding P)
  read_taken (Ok n) = taken id_number (join s) (raised s) m n.id (Held n.copy)
  read_taken (Err e) = m

  abbrev pub bytes_answer : List ℕ → Result (Unit {0}) TakeRefusal
  bytes_answer bs = read_answer (read_copy s ShareOrExport bs)

  abbrev pub bytes_taken : List ℕ → Meaning Id (Holding P)
  bytes_taken bs = read_taken (read_copy s ShareOrExport bs)
