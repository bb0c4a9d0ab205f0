-- What a sender is to its callers, and what sealing and sharing answer and leave.
use Rattle.std.specs.Prelude.{ℕ, ◌+◌, ◌-◌, ◌^◌, Bool, cond, List, length, Err, Result, ◌==◌, nat_le, is_ok}
use Rattle.std.specs.Result.{result_map_both}
use Rattle.ratchet.specs.declared.copies.SessionCopy.{SessionCopy}
use Rattle.ratchet.specs.declared.ids.Id.{Id}
use Rattle.ratchet.specs.Bytes.{laid}
use Rattle.ratchet.specs.Suite.{Meaning, Parts, parts}
use Rattle.ratchet.specs.Ratchet.{steps}
use Rattle.copy_bytes.specs.declared.named.CopyFault.{CopyFault}
use Rattle.copy_bytes.specs.declared.named.Version.TheVariants.{Share}
use Rattle.copy_bytes.specs.CopyBytes.{copy_bytes, read_start}
use Rattle.copy_bytes.specs.Output.{answered}
use Rattle.sending.specs.declared.sender.SealRefusal.{SealRefusal}
use Rattle.sending.specs.declared.sender.SealRefusal.TheVariants.{TooSmall as NoSpace, TextTooLong, Spent}
use Rattle.sending.specs.declared.sender.ShareRefusal.{ShareRefusal}
use Rattle.sending.specs.declared.sender.ShareRefusal.TheVariants.{TooSmall as NoRoom, Ahead}
use Rattle.message.specs.Seal.{sealed}

-- a sender: its session's id, its four parts at index 0, and how many indices are used up from there on, each by one message
pub record Session (P : Type 0) : Type 0 where
  pub id : Id
  pub start : Parts P
  pub used : ℕ

-- four parts as the copy at index 0
abbrev pub origin : {P : Type 0} → Parts P → SessionCopy P
origin k = record { index = 0; r0 = k.p0; r1 = k.p1; r2 = k.p2; r3 = k.p3 }

-- the length of bytes that were written, or the refusal of an output that is too small
abbrev pub answered_or : {E : Type 0} → E → List ℕ → List ℕ → Result ℕ E
answered_or small xs out = result_map_both (λ n. n) (λ _. small) (answered xs out)

-- what an output holds after a call for some bytes, by the call's answer
abbrev pub written : {E : Type 0} → Result ℕ E → List ℕ → List ℕ → List ℕ
written answer xs out = cond (is_ok answer) (laid xs out) out

module _ {P : Type 0} where
  -- a message was sealed at every index
  abbrev pub spent : Session P → Bool
  spent s = s.used == 2 ^ 32

  -- the last index stays the current one
  abbrev pub current_index : Session P → ℕ
  current_index s = cond (spent s) (2 ^ 32 - 1) s.used

  module _ (m : Meaning P) where
    -- four parts make a sender that has sealed nothing
    abbrev pub new_sender : Id → List ℕ → Result (Session P) CopyFault
    new_sender id bs = result_map_both (λ c. record { id = id; start = parts c; used = 0 }) (λ e. e) (read_start m bs)

    -- the start, stepped singly to an index
    abbrev pub reached : Session P → ℕ → SessionCopy P
    reached s index = steps m.hash index (origin s.start)

    -- what is sealed next for a text
    abbrev pub message : Session P → List ℕ → List ℕ
    message s text = sealed m (reached s s.used) text

    -- a long text is refused before a spent sender, and that before an output without space
    abbrev pub seal_answer : Session P → List ℕ → List ℕ → Result ℕ SealRefusal
    seal_answer s text out =
        cond (nat_le (length text) 4096) (cond (spent s) (Err Spent) (answered_or NoSpace (message s text) out)) (Err TextTooLong)

    abbrev pub seal_output : Session P → List ℕ → List ℕ → List ℕ
    seal_output s text out = written (seal_answer s text out) (message s text) out

    -- one more index is used where a message was written, and else nothing changes
    abbrev pub after_seal : Session P → List ℕ → List ℕ → Session P
    after_seal s text out =
        cond (is_ok (seal_answer s text out)) (record { id = s.id; start = s.start; used = s.used + 1 }) s

    -- the copy at an index, with the share byte and under the sender's id
    abbrev pub shared : Session P → ℕ → List ℕ
    shared s index = copy_bytes m Share (record { id = s.id; copy = reached s index })

    abbrev pub share_answer : Session P → ℕ → List ℕ → Result ℕ ShareRefusal
    share_answer s index out = cond (nat_le index (current_index s)) (answered_or NoRoom (shared s index) out) (Err Ahead)

    abbrev pub share_output : Session P → ℕ → List ℕ → List ℕ
    share_output s index out = written (share_answer s index out) (shared s index) out
