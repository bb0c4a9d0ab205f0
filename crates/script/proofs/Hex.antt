-- What a word in hex tells of the bytes, and the other way round.
use Rattle.std.proofs.Common.{◌≡◌, ℕ, ◌-◌, ◌*◌, ◌/◌, ◌%◌, ◌<◌, ◌≤◌, List, [], ◌∷◌, ◌++◌, length, get_or, take, drop, refl, sym, ap, ◌∙◌, append_assoc, arith, Result, Ok, Err, MatchResult, ◌≢◌}
use Rattle.std.proofs.ByRecursion.{All-append}
use Rattle.std.proofs.lemmas.Bool.{cond-false, ne_eqb}
use Rattle.std.proofs.lemmas.List.{take_rest}
use Rattle.std.specs.List.{AllByRecursion}
use Rattle.ratchet.specs.Bytes.{Byte}
use Rattle.script.specs.Words.{hex_digit, hex, hex_word}

pub hex-append : (bs cs : List ℕ) → hex (bs ++ cs) ≡ hex bs ++ hex cs
hex-append [] cs = refl
hex-append (b ∷ bs) cs = ap (λ ds. hex_digit (b / 16) ∷ (hex_digit (b % 16) ∷ ds)) (hex-append bs cs)

length-hex : (bs : List ℕ) → length (hex bs) ≡ 2 * length bs
length-hex [] = refl
length-hex (b ∷ bs) = omega (arith, length-hex bs)

-- the bytes behind those that were read
behind : (xs bs rest : List ℕ) → hex xs ++ rest ≡ hex bs → AllByRecursion Byte bs → (cs : List ℕ) × (rest ≡ hex cs) × AllByRecursion Byte cs
behind [] bs rest e all = (bs, e, all)
behind (x ∷ xs) [] rest e all = absurd (omega (arith, ap length e))
behind (x ∷ xs) (b ∷ bs) rest e all = behind xs bs rest (ap (drop 2) e) all.1

-- high and low are no byte in hex
abbrev NoByte : ℕ → ℕ → Type 0
NoByte high low = (b : ℕ) → Byte b → high ≡ hex_digit (b / 16) → low ≢ hex_digit (b % 16)

no_hex : (rest cs : List ℕ) → 2 ≤ length rest → NoByte (get_or rest 0 0) (get_or rest 1 0) → rest ≡ hex cs → AllByRecursion Byte cs → ⊥
no_hex rest [] two none e all = omega (arith, two, ap length e)
no_hex rest (c ∷ cs) two none e all = none c all.0 (ap (λ ds. get_or ds 0 0) e) (ap (λ ds. get_or ds 1 0) e)

pub no_pair : (w xs rest bs : List ℕ) → w ≡ hex xs ++ rest → 2 ≤ length rest → NoByte (get_or rest 0 0) (get_or rest 1 0) → AllByRecursion Byte bs → w ≢ hex bs
no_pair w xs rest bs inv two none all e =
    let t = behind xs bs rest (sym inv ∙ e) all in
    no_hex rest t.0 two none t.1 t.2

-- one digit is left over
pub odd : (w xs rest bs : List ℕ) → w ≡ hex xs ++ rest → 0 < length rest → length rest < 2 → AllByRecursion Byte bs → w ≢ hex bs
odd w xs rest bs inv some one all e =
    let t = behind xs bs rest (sym inv ∙ e) all in
    omega (arith, some, one, ap length t.1, length-hex t.0)

abbrev IsByte : ℕ → ℕ → ℕ → Type 0
IsByte high low b = Byte b × (high ≡ hex_digit (b / 16)) × (low ≡ hex_digit (b % 16))

pub one_more : (w xs ys rest : List ℕ) (b : ℕ) → (w ≡ hex xs ++ rest) × AllByRecursion Byte xs → 2 ≤ length rest → IsByte (get_or rest 0 0) (get_or rest 1 0) b → ys ≡ xs ++ (b ∷ []) → (w ≡ hex ys ++ take (length rest - 2) (drop 2 rest)) × AllByRecursion Byte ys
one_more w xs ys [] b inv two is e = absurd (omega arith)
one_more w xs ys (c ∷ []) b inv two is e = absurd (omega arith)
one_more w xs ys (c ∷ (d ∷ cs)) b inv two is e =
    let pair : c ∷ (d ∷ cs) ≡ hex (b ∷ []) ++ cs = λ i. is.1 i ∷ (is.2 i ∷ cs) in (
      inv.0
          ∙ ap (λ ds. hex xs ++ ds) pair
          ∙ sym (append_assoc (hex xs) (hex (b ∷ [])) cs)
          ∙ ap (λ ds. ds ++ cs) (sym (hex-append xs (b ∷ [])) ∙ ap hex (sym e))
          ∙ ap (λ ds. hex ys ++ ds) (sym (take_rest (c ∷ (d ∷ cs)) 2)),
      rw e (All-append Byte xs (b ∷ []) inv.1 (is.0, tt)),
    )

long_word : (b : ℕ) (bs : List ℕ) → hex_word (b ∷ bs) ≡ hex (b ∷ bs)
long_word b bs = cond-false _ _ _ (ne_eqb (length (b ∷ bs)) 0 (λ e. omega arith))

some_length : (bs : List ℕ) → 0 < length (hex_word bs)
some_length [] = omega arith
some_length (b ∷ bs) = omega (arith, ap length (long_word b bs), length-hex (b ∷ bs))

pub empty_word : (w bs : List ℕ) → length w ≡ 0 → w ≢ hex_word bs
empty_word w bs none e = omega (arith, none, ap length e, some_length bs)

word_is : (w bs : List ℕ) → 0 < length w → w ≡ hex bs → w ≡ hex_word bs
word_is w [] some e = absurd (omega (arith, some, ap length e))
word_is w (b ∷ bs) some e = e ∙ sym (long_word b bs)

no_word : (w bs : List ℕ) → (w ≡ 45 ∷ [] → ⊥) → w ≢ hex bs → w ≢ hex_word bs
no_word w [] dash none e = dash e
no_word w (b ∷ bs) dash none e = none (e ∙ long_word b bs)

-- a word that is not empty and no dash is pairs of digits
pub as_word : {V E : Type 0} (items : V → List ℕ) (r : Result V E) (bad : E) (w : List ℕ) → 0 < length w → (w ≡ 45 ∷ [] → ⊥) → MatchResult r (λ v. (w ≡ hex (items v)) × AllByRecursion Byte (items v)) (λ e. e ≡ bad → (bs : List ℕ) → AllByRecursion Byte bs → w ≢ hex bs) → MatchResult r (λ v. (w ≡ hex_word (items v)) × AllByRecursion Byte (items v)) (λ e. e ≡ bad → (bs : List ℕ) → AllByRecursion Byte bs → w ≢ hex_word bs)
as_word items (Ok v) bad w some dash h = (word_is w (items v) some h.0, h.1)
as_word items (Err e) bad w some dash h = λ is bs all. no_word w bs dash (h is bs all)

-- words of 45 alone are one digit, and so shorter than those of bytes
pub length_hex_word : (bs cs : List ℕ) → hex_word bs ≡ hex_word cs → length bs ≡ length cs
length_hex_word [] [] e = refl
length_hex_word [] (c ∷ cs) e = omega (arith, ap length (e ∙ long_word c cs), length-hex (c ∷ cs))
length_hex_word (b ∷ bs) [] e = omega (arith, ap length (sym e ∙ long_word b bs), length-hex (b ∷ bs))
length_hex_word (b ∷ bs) (c ∷ cs) e = omega (arith, ap length (sym (long_word b bs) ∙ e ∙ long_word c cs), length-hex (b ∷ bs), length-hex (c ∷ cs))
