-- Ids with the same words are one, and their bytes go there and back.
use Rattle.std.proofs.Common.{◌≡◌, ℕ, ◌+◌, ◌*◌, ◌/◌, ◌%◌, ◌^◌, ◌<◌, ◌≤◌, List, [], ◌∷◌, ◌++◌, length, take, drop, sym, refl, ap, ◌∙◌, mod-eq_of_lt, zero-add, arith, length-drop, take-append-drop, length-take, take_all, drop-drop}
use mathlib.Core.Path.{PathP}
use mathlib.Core.HLevel.{is_prop→PathP}
use native.Mathlib.Bridge.{le_prop}
use lib.Arith.{digits_div, digits_mod}
use Rattle.std.specs.Int.Digits.{number_from_digits_after, number_from_digits, AllBelowBase}
use Rattle.std.specs.List.{AllByRecursion}
use Rattle.std.proofs.ByRecursion.{All-take, All-drop, All-append}
use Rattle.std.proofs.lemmas.Int.Digits.{number_lt}
use Rattle.ratchet.specs.declared.ids.Id.{Id}
use Rattle.ratchet.specs.Bytes.{Byte, be}
use Rattle.ratchet.specs.Ids.{id_number, id_bytes, id_of, word}
use Rattle.ratchet.proofs.Bytes.{under_be, number_be, be_number}

pub length_id : (k : Id) → length (id_bytes k) ≡ 32
unfolding id_bytes
length_id k = refl

pub bytes_id : (k : Id) → AllByRecursion Byte (id_bytes k)
unfolding id_bytes
bytes_id k =
    let low = be 8 k.w2 ++ be 8 k.w3 in
    let lows = All-append Byte (be 8 k.w2) (be 8 k.w3) (under_be 8 k.w2) (under_be 8 k.w3) in
    All-append Byte (be 8 k.w0) (be 8 k.w1 ++ low) (under_be 8 k.w0) (All-append Byte (be 8 k.w1) low (under_be 8 k.w1) lows)

below : {x y : ℕ} (e : x ≡ y) (p : x < 2 ^ 64) (q : y < 2 ^ 64) → PathP (λ i. e i < 2 ^ 64) p q
below e p q = is_prop→PathP (λ i. e i < 2 ^ 64) (λ i. le_prop) p q

pub id_path : (a b : Id) → a.w0 ≡ b.w0 → a.w1 ≡ b.w1 → a.w2 ≡ b.w2 → a.w3 ≡ b.w3 → a ≡ b
id_path a b e0 e1 e2 e3 =
    λ i. record {
      w0 = e0 i;
      w1 = e1 i;
      w2 = e2 i;
      w3 = e3 i;
      fits0 = below e0 a.fits0 b.fits0 i;
      fits1 = below e1 a.fits1 b.fits1 i;
      fits2 = below e2 a.fits2 b.fits2 i;
      fits3 = below e3 a.fits3 b.fits3 i;
    }

word_back : (v : ℕ) → v < 2 ^ 64 → number_from_digits 256 (be 8 v) % 2 ^ 64 ≡ v
word_back v h = ap (λ n. n % 2 ^ 64) (number_be 8 v ∙ mod-eq_of_lt h) ∙ mod-eq_of_lt h

pub id_back : (k : Id) → id_of (id_bytes k) ≡ k
unfolding id_of id_bytes
id_back k = id_path (id_of (id_bytes k)) k (word_back k.w0 k.fits0) (word_back k.w1 k.fits1) (word_back k.w2 k.fits2) (word_back k.w3 k.fits3)

-- k elements from a place on, and what lies behind them
pub cut : (i k j : ℕ) (bs : List ℕ) {ys : List ℕ} → i + k ≡ j → drop j bs ≡ ys → drop i bs ≡ take k (drop i bs) ++ ys
cut i k j bs n e = sym (take-append-drop k (drop i bs)) ∙ ap (λ ys. take k (drop i bs) ++ ys) (drop-drop k i bs ∙ ap (λ n. drop n bs) n ∙ e)

module _ (bs : List ℕ) (long : length bs ≡ 32) (bytes : AllByRecursion Byte bs) where
  word_forth : (i : ℕ) → i + 8 ≤ 32 → be 8 (word (drop i bs)) ≡ take 8 (drop i bs)
  word_forth i h =
      let xs = take 8 (drop i bs) in
      let l : length xs ≡ 8 = simp (length-take, length-drop) (omega arith) in
      let u : AllBelowBase 256 xs = All-take Byte 8 (drop i bs) (All-drop Byte i bs bytes) in
      ap (be 8) (mod-eq_of_lt (rw l at (number_lt 256 xs u))) ∙ be_number 8 xs l u

  last : drop 24 bs ≡ take 8 (drop 24 bs)
  last = sym (take_all 8 (drop 24 bs) (simp length-drop (omega arith)))

  pub id_forth : id_bytes (id_of bs) ≡ bs
  unfolding id_of id_bytes
  id_forth =
      (λ i. word_forth 0 (omega arith) i ++ (word_forth 8 (omega arith) i ++ (word_forth 16 (omega arith) i ++ word_forth 24 (omega arith) i)))
      ∙ sym (cut 0 8 8 bs refl (cut 8 8 16 bs refl (cut 16 8 24 bs refl last)))

-- a word's bytes behind a number
digits : (a d0 d1 d2 d3 d4 d5 d6 d7 : ℕ)
    → number_from_digits_after 256 a (d0 ∷ d1 ∷ d2 ∷ d3 ∷ d4 ∷ d5 ∷ d6 ∷ d7 ∷ []) ≡ a * 2 ^ 64 + number_from_digits 256 (d0 ∷ d1 ∷ d2 ∷ d3 ∷ d4 ∷ d5 ∷ d6 ∷ d7 ∷ [])
digits a d0 d1 d2 d3 d4 d5 d6 d7 = omega arith

after : (a v : ℕ) (bs : List ℕ) → v < 2 ^ 64 → number_from_digits_after 256 a (be 8 v ++ bs) ≡ number_from_digits_after 256 (a * 2 ^ 64 + v) bs
after a v bs h =
    ap (λ n. number_from_digits_after 256 n bs) (digits a _ _ _ _ _ _ _ _ ∙ ap (λ n. a * 2 ^ 64 + n) (number_be 8 v ∙ mod-eq_of_lt h))

pub id_numbered : (k : Id) → number_from_digits 256 (id_bytes k) ≡ id_number k
unfolding id_bytes
id_numbered k =
    let b3 = be 8 k.w3 in
    after 0 k.w0 (be 8 k.w1 ++ (be 8 k.w2 ++ b3)) k.fits0 ∙ ap (λ n. number_from_digits_after 256 n (be 8 k.w1 ++ (be 8 k.w2 ++ b3))) (zero-add k.w0)
    ∙ after k.w0 k.w1 (be 8 k.w2 ++ b3) k.fits1 ∙ after _ k.w2 b3 k.fits2 ∙ after _ k.w3 [] k.fits3

-- the last word of a number, and what stands before it
split : (a b x y : ℕ) → x < 2 ^ 64 → y < 2 ^ 64 → a * 2 ^ 64 + x ≡ b * 2 ^ 64 + y → (a ≡ b) × (x ≡ y)
split a b x y p q e = (sym (digits_div a p) ∙ ap (λ n. n / 2 ^ 64) e ∙ digits_div b q, sym (digits_mod a p) ∙ ap (λ n. n % 2 ^ 64) e ∙ digits_mod b q)

pub id_one : (k l : Id) → id_number k ≡ id_number l → k ≡ l
id_one k l e =
    let s3 = split _ _ k.w3 l.w3 k.fits3 l.fits3 e in
    let s2 = split _ _ k.w2 l.w2 k.fits2 l.fits2 s3.0 in
    let s1 = split k.w0 l.w0 k.w1 l.w1 k.fits1 l.fits1 s2.0 in
    id_path k l s1.0 s1.1 s2.1 s3.1
