-- Where `cmp` compares ranks, so do `==` and `<`.
use Rattle.std.proofs.Common.{◌≡◌, ℕ, Bool, ltb, ◌==◌, nat_lt, Some, Option, ap, ◌∙◌, inl, inr}
use Rattle.std.specs.declared.cmp.Ordering.{Ordering}
use Rattle.std.specs.Cmp.{unsigned_tied}
use Rattle.std.specs.Ordering.{nat_cmp, eq_by_cmp, is_eq, is_lt, is_some_and, partial_lt}
use Rattle.std.proofs.lemmas.Bool.{cases_Bool}

lt_cmp : (x y : ℕ) → is_lt (nat_cmp x y) ≡ nat_lt x y
lt_cmp x y = elim (cases_Bool (ltb x y)) [ inl t ↦ rw t | inr f ↦ rw f (elim (cases_Bool (x == y)) [ inl e ↦ rw e | inr e ↦ rw e ]) ]

module _ {K : Type 0} (rank : K → ℕ) {cmp : K → K → Ordering} (ordered : (a b : K) → cmp a b ≡ nat_cmp (rank a) (rank b)) where
  pub eq_ranks : {eq : K → K → Bool} → ((a b : K) → eq a b ≡ eq_by_cmp cmp a b) → eq ≡ (λ a b. rank a == rank b)
  eq_ranks same = λ i a b. (same a b ∙ ap is_eq (ordered a b) ∙ unsigned_tied (rank a) (rank b)) i

  pub lt_ranks : {part : K → K → Option Ordering} → ((a b : K) → part a b ≡ Some (cmp a b)) → partial_lt part ≡ (λ a b. nat_lt (rank a) (rank b))
  lt_ranks same = λ i a b. (ap (is_some_and is_lt) (same a b ∙ ap Some (ordered a b)) ∙ lt_cmp (rank a) (rank b)) i
