-- What bytes at the front of an output come to: it is filled with them, and has them in front.
use Rattle.std.proofs.Common.{◌≡◌, ℕ, true, List, ◌++◌, length, take, drop, Ok, Err, sym, ap, ◌∙◌, inl, inr, zero-add, arith}
use Rattle.std.proofs.lemmas.List.{take_at}
use Rattle.std.proofs.lemmas.Bool.{cases_Bool, le-leb, cond-true, cond-false}
use Rattle.ratchet.specs.Bytes.{laid}
use Rattle.copy_bytes.specs.declared.output.SpaceRefusal.TheVariants.{TooSmall}
use Rattle.copy_bytes.specs.Output.{fits, answered, filled}
use Rattle.copy_bytes.specs.Placed.{Put}

-- what stands at the front is laid over the output
put_laid : {r : ℕ} {xs old new : List ℕ} → Put 0 xs old r new → new ≡ laid xs old
put_laid {r} {xs} {old} p = p.holds ∙ ap (λ (n : ℕ). xs ++ drop n old) (zero-add (length xs))

-- and fills it
pub put_answered : {r : ℕ} {xs old new : List ℕ} → Put 0 xs old r new → (Ok r ≡ answered xs old) × (new ≡ filled xs old)
put_answered {r} {xs} {old} p =
    let s = p.size in
    let w = p.within in
    let size : r ≡ length xs = omega arith in
    let yes = le-leb (length xs) (length old) (omega arith) in
    (ap Ok size ∙ sym (cond-true (fits xs old) _ _ yes), put_laid p ∙ sym (cond-true (fits xs old) _ _ yes))

-- an output that was filled had the space
pub answered_fits : (xs out : List ℕ) (size : ℕ) → Ok size ≡ answered xs out → fits xs out ≡ true
answered_fits xs out size e =
    elim (cases_Bool (fits xs out)) [
      | inl t ↦ t
      | inr t ↦ (let f = e ∙ cond-false (fits xs out) (Ok (length xs)) (Err TooSmall) t in let z : ◌≡◌ {A = ℕ} 0 1 = cc in absurd (omega arith))
    ]

-- the front of an output that bytes were laid over
pub laid_front : (k : ℕ) (xs old new : List ℕ) → k ≡ length xs → new ≡ laid xs old → take k new ≡ xs
laid_front k xs old new size e = ap (take k) e ∙ take_at xs (drop (length xs) old) k (sym size)

pub put_front : {r : ℕ} {xs old new : List ℕ} → Put 0 xs old r new → take r new ≡ xs
put_front {r} {xs} {old} {new} p = let s = p.size in laid_front r xs old new (omega arith) (put_laid p)
