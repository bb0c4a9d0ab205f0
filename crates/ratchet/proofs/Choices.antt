-- What a choice that answered tells of its test.
use Rattle.std.proofs.Common.{◌≡◌, Bool, true, cond, Ok, Err, Result}
use Rattle.std.proofs.lemmas.Bool.{cond_both}

-- where a test chose what it would not have chosen else, it held
pub passed : {A : Type 0} (b : Bool) (x y z : A) → (y ≡ z → ⊥) → cond b x y ≡ z → (b ≡ true) × (x ≡ z)
passed b x y z other h = cond_both b x y (λ r. r ≡ z → (b ≡ true) × (x ≡ z)) (λ is e. (is, e)) (λ _ e. absurd (other e)) h

pub checked : {X E : Type 0} (b : Bool) (r : Result X E) (f : E) (x : X) → cond b r (Err f) ≡ Ok x → (b ≡ true) × (r ≡ Ok x)
checked b r f x h = passed b r (Err f) (Ok x) (λ e. cc) h
