-- A word that `parse` reads, with no sign and no zero before other digits, is how the number is written.
use Rattle.std.proofs.Common.{◌≡◌, ℕ, suc, zero, ◌^◌, ◌<◌, List, Ok, Err, decimal, Result, sym, refl, ap, ◌∙◌, arith, MatchOption, ◌≢◌}
use Rattle.std.proofs.lemmas.Fmt.{decimal-digits_value, decimal_digit, first_decimal, parse-decimal, IsAscii-decimal}
use Rattle.std.proofs.lemmas.Str.{IsUtf8-from_ascii}
use Rattle.std.proofs.lemmas.Str.Parse.{IsNumeralModel, numerals_by_value, tells_digits, parse_plain}
use Rattle.std.specs.Result.{result_ok}
use Rattle.std.specs.Str.{IsUtf8}
use Rattle.std.specs.Str.Parse.{AllDigits, ParsesUnsigned, digits_value}
use Rattle.script.specs.Words.{IsPlain}

own : IsNumeralModel (AllDigits 10) (digits_value 10)
own = numerals_by_value (AllDigits 10) tells_digits

plain_decimal : (n : ℕ) → n < 2 ^ 64 → IsPlain (decimal n)
plain_decimal zero lt = rw (decimal_digit 0 (omega arith)) ((λ e. omega (arith, e)), (λ _. refl))
plain_decimal (suc n) lt = let h = first_decimal (suc n) (omega arith) lt in ((λ e. omega (arith, h, e)), (λ e. absurd (omega (arith, h, e))))

pub not_plain : (w : List ℕ) → (IsPlain w → ⊥) → (n : ℕ) → n < 2 ^ 32 → w ≢ decimal n
not_plain w h n lt is = h (rw is (plain_decimal n (omega arith)))

pub not_text : (w : List ℕ) → (IsUtf8 w → ⊥) → (n : ℕ) → n < 2 ^ 32 → w ≢ decimal n
not_text w h n lt is = h (rw is (IsUtf8-from_ascii (decimal n) (IsAscii-decimal n (omega arith))))

parsed : {E : Type 0} (w : List ℕ) (r : Result ℕ E) → IsPlain w → ParsesUnsigned 32 10 w r → MatchOption (result_ok r) ((n : ℕ) → n < 2 ^ 32 → w ≢ decimal n) (λ n. w ≡ decimal n)
parsed {E} w (Ok n) p h =
    let t = parse_plain own {E = E} 32 w (Ok n) h p.0 in
    let small : digits_value 10 w < 2 ^ 64 = omega (arith, t.0.2) in
    sym (decimal-digits_value own w t.0.0 t.0.1 p.1 small) ∙ ap decimal (sym t.1)
parsed {E} w (Err e) p h = λ n lt is.
    let wrong = parse-decimal {E = E} 32 n w (Err e) lt (omega arith) is h in
    let z : ◌≡◌ {A = ℕ} 0 1 = cc in
    omega arith

pub parsed_text : {E : Type 0} (w t : List ℕ) (r : Result ℕ E) → t ≡ w → IsPlain w → ParsesUnsigned 32 10 t r → MatchOption (result_ok r) ((n : ℕ) → n < 2 ^ 32 → w ≢ decimal n) (λ n. w ≡ decimal n)
parsed_text w t r e p h = parsed w r p (rw (sym e) h)
