-- What each call prints, without the newline; what is called words stands behind the word of a call.
use Rattle.std.specs.Prelude.{◌≡◌, ℕ, List, [], ◌∷◌, ◌++◌, take, drop, Some, None, Ok, Err, cond, codes, decimal, Option, Result, string_bytes}
use Rattle.ratchet.specs.declared.copies.Holding.{Holding}
use Rattle.ratchet.specs.declared.ids.Id.{Id}
use Rattle.ratchet.specs.Suite.{Meaning}
use Rattle.ratchet.specs.declared.copies.Advanced.{Advanced}
use Rattle.ratchet.specs.declared.copies.AdvanceRefusal.{AdvanceRefusal}
use Rattle.ratchet.specs.Advance.{advanced}
use Rattle.ratchet.specs.Numbers.{advance_number}
use Rattle.copy_bytes.specs.declared.named.CopyFault.{CopyFault}
use Rattle.copy_bytes.specs.declared.named.NamedCopy.{NamedCopy}
use Rattle.copy_bytes.specs.declared.named.Version.TheVariants.{Export}
use Rattle.copy_bytes.specs.CopyBytes.{copy_bytes, read_copy}
use Rattle.copy_bytes.specs.Numbers.{copy_number}
use Rattle.copy_bytes.specs.Output.{fits}
use Rattle.sending.specs.Sender.{Session, current_index, new_sender, message, seal_answer, shared, share_answer}
use Rattle.opening.specs.declared.unseal.OpenRefusal.{OpenRefusal}
use Rattle.opening.specs.declared.unseal.OpenRefusal.TheVariants.{TooSmall}
use Rattle.opening.specs.Numbers.{open_number}
use Rattle.opening.specs.Open.{Unsealed, unsealed}
use Rattle.intake.specs.Numbers.{take_number}
use Rattle.intake.specs.Taking.{bytes_answer}
use Rattle.sending.specs.Numbers.{seal_number, share_number}
use Rattle.store.specs.Meaning.{Meaning as StoreMeaning, looked, room, answer}
use Rattle.store.specs.Numbers.{store_number}
use Rattle.ratchet.specs.Ids.{id_number}
use Rattle.copy_bytes.specs.declared.named.Accepted.TheVariants.{ShareOrExport}
use Rattle.console.specs.declared.desk.Desk.{Desk}
use Rattle.console.specs.Shown.{shown_holding}
use Rattle.script.specs.Commands.{id_word}
use Rattle.script.specs.Words.{hex_word}

-- what calls are offered for their output
abbrev pub offered : Desk → List ℕ
offered d = take d.space d.output.items

-- a call writes nothing of the output behind what it is offered, and leaves how much that is
abbrev pub KeepsRest : Desk → Desk → Type 0
KeepsRest old new = (drop new.space new.output.items ≡ drop old.space old.output.items) × (new.space ≡ old.space)

-- the line is put behind the answers on the desk
abbrev pub Adds : Desk → List ℕ → Desk → Type 0
Adds old line new = string_bytes new.answers ≡ string_bytes old.answers ++ line

-- the same by a call that leaves what it was offered for its output
abbrev pub Says : Desk → List ℕ → Desk → Type 0
Says old line new = Adds old line new × (new.output ≡ old.output) × (new.space ≡ old.space)

-- what a store means here
abbrev pub Contents : Type 0 → Type 0
Contents P = StoreMeaning Id (Holding P)

-- a refusal, by its number
abbrev pub refused : ℕ → List ℕ
refused n = codes " refused " ++ decimal n

-- of a call that only accepts
abbrev pub accepted : {E : Type 0} → (E → ℕ) → Result (Unit {0}) E → List ℕ
accepted number (Ok u) = []
accepted number (Err e) = refused (number e)

-- of a call that writes bytes
abbrev pub wrote : {E : Type 0} → (E → ℕ) → Result ℕ E → List ℕ → List ℕ
wrote number (Ok n) bs = 32 ∷ hex_word bs
wrote number (Err e) bs = refused (number e)

-- the message's index, the hashes of the advance to it, and the text; it has to fit into the output
unfoldable pub open_words : Result Unsealed OpenRefusal → List ℕ → List ℕ
open_words (Ok u) out = cond (fits u.text out) ((32 ∷ decimal u.index) ++ ((32 ∷ decimal u.hashes) ++ (32 ∷ hex_word u.text))) (refused (open_number TooSmall))
open_words (Err e) out = refused (open_number e)

-- the index of a new sender
abbrev pub sender_words : {P : Type 0} → Result (Session P) CopyFault → List ℕ
sender_words (Ok s) = 32 ∷ decimal (current_index s)
sender_words (Err e) = refused (copy_number e)

-- the hashes of an advance, and the copy that it reaches with the export byte
abbrev pub reached_words : {P : Type 0} → Meaning P → Id → Result (Advanced P) AdvanceRefusal → List ℕ
reached_words m id (Ok a) = (32 ∷ decimal a.hashes) ++ (32 ∷ hex_word (copy_bytes m Export (record { id = id; copy = a.copy })))
reached_words m id (Err e) = refused (advance_number e)

abbrev pub advance_words : {P : Type 0} → Meaning P → Result (NamedCopy P) CopyFault → ℕ → List ℕ
advance_words m (Ok n) target = reached_words m n.id (advanced m.hash n.copy target)
advance_words m (Err e) target = refused (copy_number e)

abbrev pub free_line : {P : Type 0} → Contents P → List ℕ
free_line st = codes "free " ++ decimal st.places

abbrev pub floor_line : {P : Type 0} → Contents P → List ℕ
floor_line st = codes "floor " ++ decimal st.floor

module _ {P : Type 0} (m : Meaning P) where
  abbrev pub sender_line : Id → List ℕ → List ℕ
  sender_line k start = codes "sender" ++ sender_words (new_sender m k start)

  abbrev pub seal_line : Session P → List ℕ → List ℕ → List ℕ
  seal_line s text out = codes "seal" ++ wrote seal_number (seal_answer m s text out) (message m s text)

  abbrev pub share_line : Session P → ℕ → List ℕ → List ℕ
  share_line s index out = codes "share" ++ wrote share_number (share_answer m s index out) (shared m s index)

  abbrev pub take_line : Contents P → List ℕ → List ℕ
  take_line st bs = codes "take" ++ accepted take_number (bytes_answer m st bs)

  abbrev pub dispute_line : Contents P → Id → List ℕ
  dispute_line st k = codes "dispute" ++ accepted store_number (answer (room id_number st k))

  -- by what is held under the id
  abbrev pub look_line : Option (Holding P) → List ℕ
  look_line None = codes "look none"
  look_line (Some h) = codes "look" ++ shown_holding m h

  -- by what comes next
  abbrev pub next_line : Option (Id × Holding P) → List ℕ
  next_line None = codes "next none"
  next_line (Some e) = codes "next" ++ ((32 ∷ id_word e.0) ++ shown_holding m e.1)

  abbrev pub open_line : Contents P → Id → List ℕ → List ℕ → List ℕ
  open_line st k bs out = codes "open" ++ open_words (unsealed m (looked id_number st k) bs) out

  -- copy bytes are read, with either version byte, before they are advanced
  abbrev pub advance_line : List ℕ → ℕ → List ℕ
  advance_line bs target = codes "advance" ++ advance_words m (read_copy m ShareOrExport bs) target
