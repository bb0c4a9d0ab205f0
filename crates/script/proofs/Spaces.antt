-- What stands before the first space and behind it, where the first word is a number or bytes: these have no space in them.
use Rattle.std.proofs.Common.{◌≡◌, ◌≢◌, ℕ, ◌+◌, ◌/◌, ◌%◌, ◌^◌, ◌<◌, Bool, true, false, cond, List, [], ◌∷◌, ◌++◌, Some, None, Option, length, ◌==◌, eqb, nat_lt, decimal, refl, ap, ◌∙◌, arith}
use Rattle.std.proofs.lemmas.Bool.{cond_both, ne_eqb, cond-false}
use Rattle.std.proofs.lemmas.Fmt.{decimal_by_steps}
use Rattle.script.specs.Words.{upto, behind, hex_digit, hex, hex_word}
use Rattle.script.specs.Commands.{spaced}

-- no space in it
abbrev OneWord : List ℕ → Type 0
OneWord w = behind 32 w ≡ None

-- a word goes on with a byte that is no space
more : (b : ℕ) (bs : List ℕ) → b ≢ 32 → OneWord bs → OneWord (b ∷ bs)
more b bs ne h = cond-false _ _ _ (ne_eqb b 32 ne) ∙ h

first : {A : Type 0} (x : A) (o : Option A) (t : Bool) → cond t (Some x) o ≡ None → (t ≡ false) × (o ≡ None)
first x o true e = cc
first x o false e = (refl, e)

-- the first byte of a word is no space, and the rest is a word
less : (b : ℕ) (bs : List ℕ) → OneWord (b ∷ bs) → (eqb b 32 ≡ false) × OneWord bs
less b bs h = first bs (behind 32 bs) (eqb b 32) h

joined : (a b : List ℕ) → OneWord a → OneWord b → OneWord (a ++ b)
joined [] b h i = i
joined (c ∷ a) b h i = let t = less c a h in cond-false _ _ _ t.0 ∙ joined a b t.1 i

cut_word : (a b : List ℕ) → OneWord a → (upto 32 (spaced a b) ≡ a) × (behind 32 (spaced a b) ≡ Some b)
cut_word [] b h = (refl, refl)
cut_word (c ∷ a) b h =
    let t = less c a h in
    let u = cut_word a b t.1 in
    (cond-false _ _ _ t.0 ∙ ap (λ w. c ∷ w) u.0, cond-false _ _ _ t.0 ∙ u.1)

one_decimal : (n : ℕ) → n < 2 ^ 64 → OneWord (decimal n)
one_decimal n h =
    decimal_by_steps (λ _ ds. OneWord ds) (λ d lt. more (48 + d) [] (λ e. omega (arith, e)) refl) (λ m ds le t. joined ds ((48 + m % 10) ∷ []) t (more (48 + m % 10) [] (λ e. omega (arith, e)) refl)) n h

digit : (n : ℕ) → hex_digit n ≢ 32
digit n = cond_both (nat_lt n 10) (n + 48) (n + 87) (λ d. d ≢ 32) (λ _ e. omega (arith, e)) (λ _ e. omega (arith, e))

one_hex : (bs : List ℕ) → OneWord (hex bs)
one_hex [] = refl
one_hex (b ∷ bs) = more _ _ (digit (b / 16)) (more _ _ (digit (b % 16)) (one_hex bs))

one_hex_word : (bs : List ℕ) → OneWord (hex_word bs)
one_hex_word bs = cond_both (length bs == 0) (45 ∷ []) (hex bs) OneWord (λ _. refl) (λ _. one_hex bs)

pub first_hex : (bs b : List ℕ) → upto 32 (spaced (hex_word bs) b) ≡ hex_word bs
first_hex bs b = (cut_word (hex_word bs) b (one_hex_word bs)).0

pub rest_hex : (bs b : List ℕ) → behind 32 (spaced (hex_word bs) b) ≡ Some b
rest_hex bs b = (cut_word (hex_word bs) b (one_hex_word bs)).1

pub first_decimal : (n : ℕ) (b : List ℕ) → n < 2 ^ 64 → upto 32 (spaced (decimal n) b) ≡ decimal n
first_decimal n b h = (cut_word (decimal n) b (one_decimal n h)).0

pub rest_decimal : (n : ℕ) (b : List ℕ) → n < 2 ^ 64 → behind 32 (spaced (decimal n) b) ≡ Some b
rest_decimal n b h = (cut_word (decimal n) b (one_decimal n h)).1
