-- What the library writes of bytes in hex.
use Rattle.std.proofs.Common.{Fits, w8, ◌≡◌, ℕ, suc, ◌/◌, ◌%◌, ◌<◌, List, [], ◌∷◌, ◌++◌, append-nil, length, get_or, refl, ap, ◌∙◌, arith}
use Rattle.std.proofs.lemmas.Bool.{cond-true, le-leb}
use Rattle.std.proofs.lemmas.List.{drop_all}
use Rattle.std.proofs.lemmas.List.FromFn.{get_or-map-range_with_len}
use Rattle.hex.specs.Hex.{encode_lower, encode_with, lower_digits}
use Rattle.script.specs.Words.{hex, hex_digit}
use Rattle.copy_bytes.specs.Output.{filled}

-- the library's sixteen digits are those of a script
digit : (n : ℕ) → n < 16 → get_or lower_digits n 0 ≡ hex_digit n
digit n lt = get_or-map-range_with_len hex_digit 0 16 n n 0 lt (omega arith)

pub encoded : (bs : List ℕ) → ((i : ℕ) → Fits w8 (get_or bs i 0)) → encode_lower bs ≡ hex bs
unfolding encode_with
encoded [] fits = refl
encoded (b ∷ bs) fits =
    let byte : b < 256 = omega (arith, fits 0) in
    rw (digit (b / 16) (omega (arith, byte)), digit (b % 16) (omega arith)) (ap (λ ds. hex_digit (b / 16) ∷ (hex_digit (b % 16) ∷ ds)) (encoded bs (λ i. fits (suc i))))

-- what is as long as the output is the output
pub filled_whole : (xs old new : List ℕ) → length xs ≡ length old → new ≡ filled xs old → new ≡ xs
filled_whole xs old new e h =
    h ∙ cond-true _ _ _ (le-leb (length xs) (length old) (omega arith)) ∙ ap (λ zs. xs ++ zs) (drop_all (length xs) old (omega arith)) ∙ append-nil xs
