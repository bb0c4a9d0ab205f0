-- What opening a message gives, by what is shown of its session.
use Rattle.std.specs.Prelude.{ℕ, cond, List, length, Some, None, Ok, Err, Option, Result}
use Rattle.std.specs.Str.{bytes_eq}
use Rattle.ratchet.specs.declared.copies.Advanced.{Advanced}
use Rattle.ratchet.specs.declared.copies.AdvanceRefusal.{AdvanceRefusal}
use Rattle.ratchet.specs.declared.copies.AdvanceRefusal.TheVariants.{TargetBelow}
use Rattle.ratchet.specs.declared.copies.Holding.{Holding}
use Rattle.ratchet.specs.declared.copies.Holding.TheVariants.{Held, Disputed}
use Rattle.ratchet.specs.Advance.{advanced}
use Rattle.ratchet.specs.Bytes.{laid}
use Rattle.ratchet.specs.Suite.{Meaning, parts}
use Rattle.copy_bytes.specs.declared.output.SpaceRefusal.{SpaceRefusal}
use Rattle.copy_bytes.specs.declared.output.SpaceRefusal.TheVariants.{TooSmall}
use Rattle.copy_bytes.specs.Output.{fits, filled}
use Rattle.message.specs.declared.frame.FrameFault.{FrameFault}
use Rattle.message.specs.declared.frame.FrameFault.TheVariants.{Start, Index, Cipher, Length}
use Rattle.message.specs.Frame.{Framed, framed}
use Rattle.opening.specs.declared.unseal.Opened.{Opened}
use Rattle.opening.specs.declared.unseal.OpenRefusal.{OpenRefusal}
use Rattle.opening.specs.declared.unseal.OpenRefusal.TheVariants.{Start as NoStart, Index as NoIndex, Cipher as NoCipher, Length as NoLength, Absent, Disputed as InDispute, Early, Tag, Text, TooSmall as NoSpace}

-- what a message gives once it is opened
pub record Unsealed : Type 0 where
  pub text : List ℕ
  pub index : ℕ
  pub hashes : ℕ

abbrev pub frame_refusal : FrameFault → OpenRefusal
frame_refusal Start = NoStart
frame_refusal Index = NoIndex
frame_refusal Cipher = NoCipher
frame_refusal Length = NoLength

abbrev pub space_refusal : SpaceRefusal → OpenRefusal
space_refusal TooSmall = NoSpace

abbrev pub advance_refusal : AdvanceRefusal → OpenRefusal
advance_refusal TargetBelow = Early

abbrev pub not_early : {P : Type 0} → Result (Advanced P) AdvanceRefusal → Result (Advanced P) OpenRefusal
not_early (Ok a) = Ok a
not_early (Err e) = Err (advance_refusal e)

module _ {P : Type 0} (m : Meaning P) where
  -- the held copy advanced to an index: the session has to be held, undisputed, and not past the index
  abbrev pub held_at : Option (Holding P) → ℕ → Result (Advanced P) OpenRefusal
  held_at None index = Err Absent
  held_at (Some Disputed) index = Err InDispute
  held_at (Some (Held c)) index = not_early (advanced m.hash c index)

  abbrev pub texted : Framed → Advanced P → Option (List ℕ) → Result Unsealed OpenRefusal
  texted f a (Some text) = Ok (record { text = text; index = f.index; hashes = a.hashes })
  texted f a None = Err Text

  -- the tag of the body has to be right, and then the cipher has to give a text
  abbrev pub checked : Framed → Advanced P → Result Unsealed OpenRefusal
  checked f a = cond (bytes_eq (m.tag (parts a.copy) f.body) f.tag) (texted f a (m.decipher (parts a.copy) f.cipher)) (Err Tag)

  abbrev pub by_copy : Framed → Result (Advanced P) OpenRefusal → Result Unsealed OpenRefusal
  by_copy f (Ok a) = checked f a
  by_copy f (Err e) = Err e

  abbrev pub by_frame : Option (Holding P) → Result Framed FrameFault → Result Unsealed OpenRefusal
  by_frame shown (Ok f) = by_copy f (held_at shown f.index)
  by_frame shown (Err e) = Err (frame_refusal e)

  -- the message is read before the session is looked at
  unfoldable pub unsealed : Option (Holding P) → List ℕ → Result Unsealed OpenRefusal
  unsealed shown bs = by_frame shown (framed m bs)

-- the answer without the text, and the text laid over a scratch
abbrev pub told : Result Unsealed OpenRefusal → Result Opened OpenRefusal
told (Ok u) = Ok (record { size = length u.text; index = u.index; hashes = u.hashes })
told (Err e) = Err e

abbrev pub text_over : Result Unsealed OpenRefusal → List ℕ → List ℕ
text_over (Ok u) old = laid u.text old
text_over (Err e) old = old

-- with an output, the text has to fit into it
abbrev pub opened : Result Unsealed OpenRefusal → List ℕ → Result Opened OpenRefusal
opened (Ok u) out = cond (fits u.text out) (told (Ok u)) (Err NoSpace)
opened (Err e) out = Err e

abbrev pub open_output : Result Unsealed OpenRefusal → List ℕ → List ℕ
open_output (Ok u) out = filled u.text out
open_output (Err e) out = out
