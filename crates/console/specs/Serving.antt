-- What each call of a script says, and what it leaves.
use Rattle.std.specs.Prelude.{Ok, Err, Result, ℕ, List, Some, Option, vec_items}
use Rattle.std.specs.Option.{option_map, option_map_or}
use Rattle.ratchet.specs.declared.copies.Holding.TheVariants.{Disputed}
use Rattle.ratchet.specs.Ids.{id_number}
use Rattle.ratchet.specs.Join.{join, raised}
use Rattle.ratchet.specs.Suite.{Meaning as SuiteMeaning}
use Rattle.copy_bytes.specs.declared.named.CopyFault.{CopyFault}
use Rattle.store.specs.Meaning.{looked, nexted, taken}
use Rattle.intake.specs.Taking.{bytes_taken}
use Rattle.sending.specs.Sender.{Session, new_sender, seal_output, after_seal, share_output}
use Rattle.opening.specs.Open.{unsealed, open_output}
use Rattle.script.specs.declared.commands.Call.{Call}
use Rattle.script.specs.declared.commands.Call.TheVariants.{Sender, Seal, Share, Take, Dispute, Look, Next, Open, Free, Floor, Advance}
use Rattle.console.specs.Lines.{Contents, sender_line, seal_line, share_line, take_line, dispute_line, look_line, next_line, open_line, free_line, floor_line, advance_line}

-- A store, the sender if one was made, and what calls are offered for their output.
pub record Served (P : Type 0) : Type 0 where
  pub store : Contents P
  pub sender : Option (Session P)
  pub output : List ℕ

-- a new sender takes the place of the one before
abbrev pub sender_now : {P : Type 0} → Option (Session P) → Result (Session P) CopyFault → Option (Session P)
sender_now old (Ok s) = Some s
sender_now old (Err e) = old

module _ {P : Type 0} (m : SuiteMeaning P) (d : Served P) where
  -- without the newline; none for a call that wants a sender where there is none
  abbrev pub said : Call → Option (List ℕ)
  said (Sender k start) = Some (sender_line m k (vec_items start))
  said (Seal text) = option_map (λ s. seal_line m s (vec_items text) d.output) d.sender
  said (Share i) = option_map (λ s. share_line m s i d.output) d.sender
  said (Take bs) = Some (take_line m d.store (vec_items bs))
  said (Dispute k) = Some (dispute_line m d.store k)
  said (Look k) = Some (look_line m (looked id_number d.store k))
  said (Next last) = Some (next_line m (nexted id_number d.store last))
  said (Open k bs) = Some (open_line m d.store k (vec_items bs) d.output)
  said Free = Some (free_line d.store)
  said Floor = Some (floor_line d.store)
  said (Advance bs i) = Some (advance_line m (vec_items bs) i)

  abbrev pub store_after : Call → Contents P
  store_after (Take bs) = bytes_taken m d.store (vec_items bs)
  store_after (Dispute k) = taken id_number (join m) (raised m) d.store k Disputed
  store_after _ = d.store

  abbrev pub sender_after : Call → Option (Session P)
  sender_after (Sender k start) = sender_now d.sender (new_sender m k (vec_items start))
  sender_after (Seal text) = option_map (λ s. after_seal m s (vec_items text) d.output) d.sender
  sender_after _ = d.sender

  abbrev pub output_after : Call → List ℕ
  output_after (Seal text) = option_map_or (λ s. seal_output m s (vec_items text) d.output) d.sender d.output
  output_after (Share i) = option_map_or (λ s. share_output m s i d.output) d.sender d.output
  output_after (Open k bs) = open_output (unsealed m (looked id_number d.store k) (vec_items bs)) d.output
  output_after _ = d.output

  abbrev pub after : Call → Served P
  after call = record { store = store_after call; sender = sender_after call; output = output_after call }
