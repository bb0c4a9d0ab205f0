-- What is printed of an opened message, by the answer and the output that it left.
use Rattle.std.proofs.Common.{◌≡◌, ℕ, Bool, true, false, cond, List, ◌∷◌, ◌++◌, length, drop, decimal, Ok, Err, Result, refl, sym, ap, ◌∙◌, OnOk, codes}
use Rattle.std.proofs.lemmas.List.{take_at}
use Rattle.std.proofs.lemmas.Result.{on_ok_weaker}
use Rattle.ratchet.specs.Bytes.{laid}
use Rattle.copy_bytes.specs.Output.{fits}
use Rattle.opening.specs.declared.unseal.Opened.{Opened}
use Rattle.opening.specs.declared.unseal.OpenRefusal.{OpenRefusal}
use Rattle.opening.specs.declared.unseal.OpenRefusal.TheVariants.{TooSmall}
use Rattle.opening.specs.Numbers.{open_number}
use Rattle.opening.specs.Open.{Unsealed, told, opened, open_output}
use Rattle.script.specs.Words.{hex_word}
use Rattle.console.specs.Fronts.{opened_front}
use Rattle.console.specs.Lines.{refused, open_words}

fitting : (u : Unsealed) (out : List ℕ) (b : Bool)
    → cond b ((32 ∷ decimal u.index) ++ ((32 ∷ decimal u.hashes) ++ (32 ∷ hex_word u.text))) (refused (open_number TooSmall))
    ≡ opened_front (cond b (told (Ok u)) (Err TooSmall)) (cond b (laid u.text out) out)
unfolding opened_front
fitting u out true =
    ap (λ text. (32 ∷ decimal u.index) ++ ((32 ∷ decimal u.hashes) ++ (32 ∷ hex_word text)))
    (sym (take_at u.text (drop (length u.text) out) (length u.text) refl))
fitting u out false = refl

whole : (u : Result Unsealed OpenRefusal) (out : List ℕ) → open_words u out ≡ opened_front (opened u out) (open_output u out)
unfolding open_words opened_front
whole (Err e) out = refl
whole (Ok u) out = fitting u out (fits u.text out)

pub opened_line : {E : Type 0} (r : Result (Unit {0}) E) (u : Result Unsealed OpenRefusal) (ans : Result Opened OpenRefusal) (out new a b : List ℕ)
    → ans ≡ opened u out → new ≡ open_output u out → OnOk r (a ≡ b ++ (codes "open" ++ opened_front ans new))
    → OnOk r (a ≡ b ++ (codes "open" ++ open_words u out))
opened_line r u ans out new a b value after h =
    on_ok_weaker r (λ e. e ∙ ap (λ line. b ++ (codes "open" ++ line)) (rw (value, after) (sym (whole u out)))) h
