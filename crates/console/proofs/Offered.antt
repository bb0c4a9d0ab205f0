-- The front of an output, up to a space that may lie beyond its end.
use Rattle.std.proofs.Common.{◌≡◌, ℕ, zero, suc, min, List, [], ◌∷◌, ◌++◌, length, take, drop, refl, ap, arith}

front_by : (k n : ℕ) (xs : List ℕ) → k ≡ min n (length xs) → take k xs ≡ take n xs
front_by zero zero xs h = refl
front_by zero (suc n) [] h = refl
front_by zero (suc n) (x ∷ xs) h = absurd (omega (arith, h))
front_by (suc k) zero xs h = absurd (omega (arith, h))
front_by (suc k) (suc n) [] h = absurd (omega (arith, h))
front_by (suc k) (suc n) (x ∷ xs) h = ap (λ ys. x ∷ ys) (front_by k n xs (omega (arith, h)))

pub front_is : (n : ℕ) (xs : List ℕ) → take (min n (length xs)) xs ≡ take n xs
front_is n xs = front_by (min n (length xs)) n xs refl

after_by : (k n : ℕ) (xs ys : List ℕ) → k ≡ min n (length xs) → length ys ≡ k → take n (ys ++ drop k xs) ≡ ys
after_by zero zero xs [] h l = refl
after_by zero (suc n) [] [] h l = refl
after_by zero (suc n) (x ∷ xs) [] h l = absurd (omega (arith, h))
after_by (suc k) zero xs (y ∷ ys) h l = absurd (omega (arith, h))
after_by (suc k) (suc n) [] (y ∷ ys) h l = absurd (omega (arith, h))
after_by (suc k) (suc n) (x ∷ xs) (y ∷ ys) h l = ap (λ zs. y ∷ zs) (after_by k n xs ys (omega (arith, h)) (omega (arith, l)))
after_by zero n xs (y ∷ ys) h l = absurd (omega (arith, l))
after_by (suc k) n xs [] h l = absurd (omega (arith, l))

-- another content of the front leaves the rest
pub front_after : (n : ℕ) (xs ys : List ℕ) → length ys ≡ min n (length xs) → take n (ys ++ drop (min n (length xs)) xs) ≡ ys
front_after n xs ys h = after_by (min n (length xs)) n xs ys refl h

rest_by : (k n : ℕ) (xs ys : List ℕ) → k ≡ min n (length xs) → length ys ≡ k → drop n (ys ++ drop k xs) ≡ drop n xs
rest_by zero n xs [] h l = refl
rest_by (suc k) zero xs (y ∷ ys) h l = absurd (omega (arith, h))
rest_by (suc k) (suc n) [] (y ∷ ys) h l = absurd (omega (arith, h))
rest_by (suc k) (suc n) (x ∷ xs) (y ∷ ys) h l = rest_by k n xs ys (omega (arith, h)) (omega (arith, l))
rest_by zero n xs (y ∷ ys) h l = absurd (omega (arith, l))
rest_by (suc k) n xs [] h l = absurd (omega (arith, l))

pub rest_after : (n : ℕ) (xs ys : List ℕ) → length ys ≡ min n (length xs) → drop n (ys ++ drop (min n (length xs)) xs) ≡ drop n xs
rest_after n xs ys h = rest_by (min n (length xs)) n xs ys refl h
