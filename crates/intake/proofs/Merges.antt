-- What stands under each key after a merge.
use Rattle.std.proofs.Common.{◌≡◌, ℕ, suc, eqb, List, [], ◌∷◌, Some, None, Option, sym, refl, ap, ◌∙◌, inl, inr, arith}
use Rattle.std.proofs.lemmas.Bool.{cases_Bool, cond-true, eqb-true}
use Rattle.store.specs.Maps.{Rising, found, put, each}
use Rattle.store.specs.Meaning.{looked}
use Rattle.store.proofs.Lookups.{more, each_rising, each_found, found_low, rising_put, found_put}
use Rattle.intake.specs.Laws.{both, MergeLaw}
use Rattle.intake.specs.Merging.{put_all}

module _ {K V : Type 0} (rank : K → ℕ) (join : V → V → V) where
  both_none : (o : Option V) → both join o None ≡ o
  both_none None = refl
  both_none (Some v) = refl

  both_more : (o : Option V) (v : V) → Some (more join o v) ≡ both join o (Some v)
  both_more None v = refl
  both_more (Some w) v = refl

  all_found : (n : ℕ) (m s : List (K × V)) (k : K) → Rising rank 0 m → Rising rank n s → found rank (put_all rank join m s) k ≡ both join (found rank m k) (found rank s k)
  all_found n m [] k rm rs = sym (both_none (found rank m k))
  all_found n m (e ∷ s) k rm rs =
      let t = put rank join m e.0 e.1 in
      let ih = all_found (suc (rank e.0)) t s k (rising_put rank join 0 m e.0 e.1 (omega arith) rm) rs.1 in
      let here = found_put rank join 0 m e.0 e.1 k rm in
      ih ∙ ap (λ o. both join o (found rank s k)) here ∙ elim (cases_Bool (eqb (rank e.0) (rank k))) [
        | inl y ↦ (
            let none = found_low rank (suc (rank e.0)) s k rs.1 (omega (arith, eqb-true (rank e.0) (rank k) y)) in
            rw (y, none) (both_more (found rank m k) e.1))
        | inr y ↦ rw y
      ]

pub merge_law_lem : {K V : Type 0} (rank : K → ℕ) (join : V → V → V) (raise : ℕ → V → V) → MergeLaw rank join raise
merge_law_lem rank join raise m s k rm rs room =
    let up = raise m.floor in
    ap (λ n. looked rank n k) (cond-true _ _ _ room) ∙ all_found rank join 0 m.entries (each up s.entries) k rm (each_rising rank up 0 s.entries rs)
    ∙ ap (both join (looked rank m k)) (each_found rank up s.entries k)
