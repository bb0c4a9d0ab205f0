-- Bytes cut at the first separator, from where that stands.
use Rattle.std.proofs.Common.{◌≡◌, ℕ, zero, suc, ◌+◌, ◌-◌, ◌<◌, List, [], ◌∷◌, length, get_or, take, drop, Some, None, sym, refl, ap, ◌∙◌, arith}
use Rattle.std.proofs.lemmas.List.{take_rest}
use Rattle.std.proofs.lemmas.Bool.{cond-true, cond-false, eq-eqb, ne_eqb}
use Rattle.script.specs.Words.{upto, behind}

-- no separator s stands before the place r
abbrev Clear : ℕ → ℕ → List ℕ → Type 0
Clear s r bs = (k : ℕ) → k < r → get_or bs k 0 ≡ s → ⊥

later : (s r b : ℕ) (bs : List ℕ) → Clear s (suc r) (b ∷ bs) → Clear s r bs
later s r b bs h k lt e = h (suc k) (omega arith) e

cut : (s r : ℕ) (bs : List ℕ) → r < length bs → Clear s r bs → get_or bs r 0 ≡ s → (take r bs ≡ upto s bs) × (behind s bs ≡ Some (drop (suc r) bs))
cut s r [] lt h f = absurd (omega arith)
cut s zero (b ∷ bs) lt h f = let e = eq-eqb b s f in (sym (cond-true _ _ _ e), cond-true _ _ _ e)
cut s (suc r) (b ∷ bs) lt h f =
    let e = ne_eqb b s (h 0 (omega arith)) in
    let t = cut s r bs (omega arith) (later s r b bs h) f in
    (ap (λ cs. b ∷ cs) t.0 ∙ sym (cond-false _ _ _ e), cond-false _ _ _ e ∙ t.1)

-- the same, as the code has the two parts
pub cut_at : (s r : ℕ) (bs : List ℕ) → r < length bs → Clear s r bs → get_or bs r 0 ≡ s → (take r bs ≡ upto s bs) × (behind s bs ≡ Some (take (length bs - (r + 1)) (drop (r + 1) bs)))
cut_at s r bs lt h f =
    let t = cut s r bs lt h f in
    let e : suc r ≡ r + 1 = omega arith in
    (t.0, t.1 ∙ ap Some (ap (λ n. drop n bs) e ∙ sym (take_rest bs (r + 1))))

pub uncut : (s : ℕ) (bs : List ℕ) → Clear s (length bs) bs → (behind s bs ≡ None) × (upto s bs ≡ bs)
uncut s [] h = (refl, refl)
uncut s (b ∷ bs) h =
    let e = ne_eqb b s (h 0 (omega arith)) in
    let t = uncut s bs (later s (length bs) b bs h) in
    (cond-false _ _ _ e ∙ t.0, cond-false _ _ _ e ∙ ap (λ cs. b ∷ cs) t.1)
