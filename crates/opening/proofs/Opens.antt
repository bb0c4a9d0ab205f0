-- What is sealed opens.
use Rattle.std.proofs.Common.{◌≡◌, ℕ, ◌+◌, ◌-◌, ◌≤◌, List, length, take, drop, Some, Ok, Err, Option, Result, refl, ap, ◌∙◌, arith}
use Rattle.std.proofs.lemmas.List.{take_at}
use Rattle.std.proofs.lemmas.Slice.Eq.{bytes_eq-Decides}
use Rattle.std.proofs.lemmas.Bool.{cond-true, le-leb}
use Rattle.ratchet.specs.declared.copies.Advanced.{Advanced}
use Rattle.ratchet.specs.declared.copies.Holding.{Holding}
use Rattle.ratchet.specs.declared.copies.Holding.TheVariants.{Held}
use Rattle.ratchet.specs.declared.copies.SessionCopy.{SessionCopy}
use Rattle.ratchet.specs.Cost.{cost}
use Rattle.ratchet.specs.Ratchet.{steps}
use Rattle.ratchet.specs.Suite.{Meaning, Lawful, parts}
use Rattle.ratchet.proofs.Steps.{steps_add, steps_index}
use Rattle.message.specs.Frame.{body, Framed, framed, LaysOut}
use Rattle.message.specs.Seal.{sealed}
use Rattle.message.proofs.Frames.{read_as_laid, message_size}
use Rattle.copy_bytes.specs.Output.{filled}
use Rattle.opening.specs.declared.unseal.Opened.{Opened}
use Rattle.opening.specs.declared.unseal.OpenRefusal.{OpenRefusal}
use Rattle.opening.specs.Laws.{Opens}
use Rattle.opening.specs.Open.{Unsealed, told, text_over, open_output, held_at, texted, checked, by_copy, by_frame, unsealed}

module _ {P : Type 0} (m : Meaning P) (shown : Option (Holding P)) (bs : List ℕ) where
  pub unsealed_is : (f : Framed) (a : Advanced P) → framed m bs ≡ Ok f → held_at m shown f.index ≡ Ok a → unsealed m shown bs ≡ checked m f a
  unfolding unsealed
  unsealed_is f a is held = ap (by_frame m shown) is ∙ ap (by_copy m f) held

-- the copy that i steps reach, advanced to where k steps reach
module _ {P : Type 0} (m : Meaning P) (start : SessionCopy P) (origin : start.index ≡ 0) where
  at_step : (n : ℕ) → (steps m.hash n start).index ≡ n
  at_step n = steps_index m.hash n start ∙ omega arith

  held_there : (i k : ℕ) → i ≤ k → held_at m (Some (Held (steps m.hash i start))) k ≡ Ok (record { copy = steps m.hash k start; hashes = cost i k })
  held_there i k le =
      let sum : k - i + i ≡ k = omega arith in
      simp (at_step i, le-leb i k le) (rw (← steps_add m.hash (k - i) i start, sum))

pub opens : {P : Type 0} (m : Meaning P) → Lawful m → Opens m
unfolding sealed
opens {P} m laws start i k text origin le small short bytes =
    let shown = Some (Held (steps m.hash i start)) in
    let d = steps m.hash k start in
    let cipher = m.cipher (parts d) text in
    let bs = body m d.index cipher in
    let tag = m.tag (parts d) bs in
    let f : Framed = record { index = d.index; body = bs; cipher = cipher; tag = tag } in
    let a : Advanced P = record { copy = d; hashes = cost i k } in
    let lengths = laws.lengths (parts d) text short in
    let e = at_step m start origin k in
    let eight = laws.tagged (parts d) bs in
    let laid : LaysOut m (sealed m d text) f = record {
      whole = refl;
      tagged = refl;
      small = omega arith;
      allowed = lengths.0;
      tag_size = eight;
      short = message_size m d.index cipher tag (omega arith) lengths.1 eight;
    } in
    unsealed_is m shown (sealed m d text) f a (read_as_laid m (sealed m d text) f laid) (ap (held_at m shown) e ∙ held_there m start origin i k le)
    ∙ cond-true _ _ _ ((bytes_eq-Decides tag tag).1 refl) ∙ ap (texted m f a) (laws.deciphers (parts d) text short bytes)
    ∙ ap (λ (x : ℕ). Ok (record { text = text; index = x; hashes = cost i k })) e

-- the text of a scratch, put into an output
pub put_text : (u : Result Unsealed OpenRefusal) (t : Opened) (old scratch out new : List ℕ) → Ok t ≡ told u → scratch ≡ text_over u old
    → new ≡ filled (take t.size scratch) out → new ≡ open_output u out
put_text (Err e) t old scratch out new et es ef = cc
put_text (Ok u) t old scratch out new et es ef =
    let is : t ≡ record { size = length u.text; index = u.index; hashes = u.hashes } = cc in
    ef ∙ ap (λ xs. filled xs out) (rw (es, is) (take_at u.text (drop (length u.text) old) (length u.text) refl))
