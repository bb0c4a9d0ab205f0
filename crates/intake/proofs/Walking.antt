-- A merge by one take after another: what is still to come, and that there is room for it.
use Rattle.std.proofs.Common.{◌≡◌, ℕ, suc, ◌+◌, ◌<◌, ◌≤◌, Bool, true, not, cond, count_by, is_none, IfNone, IfSome, None, Some, Option, List, [], ◌∷◌, is_some, sym, refl, subst, inl, inr, arith}
use Rattle.std.proofs.lemmas.Bool.Decides.{nat_tests}
use Rattle.std.proofs.lemmas.Bool.{lt-ltb, cases_Bool, or_left, or_right}
use Rattle.std.proofs.lemmas.List.Sums.{sum_by-cons}
use Rattle.store.specs.Maps.{Rising, found, put, each}
use Rattle.store.specs.Meaning.{Meaning, Ascends, looked, room, taken}
use Rattle.store.proofs.Lookups.{rising_low, rising_put, found_put}
use Rattle.intake.specs.Merging.{fresh, room_for, put_all}

module _ {K V : Type 0} (rank : K → ℕ) where
  abbrev pub lacks : List (K × V) → K × V → Bool
  lacks m e = is_none (found rank m e.0)

  one_new : (o : Option V) → cond (is_none o) 1 0 ≡ cond {A = ℕ} (is_some o) 0 1
  one_new None = refl
  one_new (Some v) = refl

  fresh_count : (m s : List (K × V)) → count_by (lacks m) s ≡ fresh rank m s
  fresh_count m [] = refl
  fresh_count m (e ∷ s) =
      let c = sum_by-cons (λ d. cond (lacks m d) 1 0) e s in
      let ih = fresh_count m s in
      let one = one_new (found rank m e.0) in
      omega arith

  -- there is room where no new key is left without a place
  pub room_counted : (m : Meaning K V) (s : List (K × V)) (r : Option (K × V)) (b : Bool) → IfNone r (count_by (lacks m.entries) s ≤ m.places) →
      IfSome r (λ _. m.places < count_by (lacks m.entries) s) → is_some r ≡ not b → b ≡ room_for rank m s
  room_counted m s None b none some is = let n = fresh_count m.entries s in grind (arith, nat_tests)
  room_counted m s (Some e) b none some is = let n = fresh_count m.entries s in grind (arith, nat_tests)

module _ {K V : Type 0} (rank : K → ℕ) (join : V → V → V) where
  -- a key that is put makes no later key new or known
  fresh_put : (m s : List (K × V)) (k : K) (v : V) → Rising rank 0 m → Rising rank (suc (rank k)) s →
      fresh rank (put rank join m k v) s ≡ fresh rank m s
  fresh_put m [] k v f g = refl
  fresh_put m (e ∷ s) k v f g =
      let ih = fresh_put m s k v f (rising_low rank (suc (rank e.0)) (suc (rank k)) s (let h = g.0 in omega arith) g.1) in
      let at = found_put rank join 0 m k v e.0 f in
      let h = g.0 in
      grind (arith, nat_tests)

module _ {K V : Type 0} (rank : K → ℕ) (join : V → V → V) (raise : ℕ → V → V) (from : Meaning K V) (all : List (K × V)) where
  -- m is on its way from where the merge began, and s is still to come
  pub record Left (m : Meaning K V) (s : List (K × V)) : Type 0 where
    pub ascends : Ascends rank m
    pub rises : Rising rank 0 s
    pub floor : m.floor ≡ from.floor
    pub same : put_all rank join m.entries (each (raise m.floor) s) ≡ put_all rank join from.entries (each (raise from.floor) all)
    pub count : m.places + fresh rank from.entries all ≡ from.places + fresh rank m.entries s
    pub enough : fresh rank m.entries s ≤ m.places

  module _ (m : Meaning K V) (e : K × V) (s : List (K × V)) where
    left_room : Left m (e ∷ s) → room rank m e.0 ≡ true
    left_room l =
        elim (cases_Bool (is_some (looked rank m e.0))) [
          | inl y ↦ or_left _ _ y
          | inr y ↦ or_right _ _ (let h = l.enough in lt-ltb 0 m.places (grind (arith, nat_tests)))
        ]

    left_step : Left m (e ∷ s) → Left (taken rank join raise m e.0 e.1) s
    left_step l =
        let v = raise m.floor e.1 in
        let up = l.rises.1 in
        let f = fresh_put rank join m.entries s e.0 v l.ascends up in
        let b = l.count in
        let d = l.enough in
        rw (left_room l)
        (record {
          ascends = rising_put rank join 0 m.entries e.0 v (omega arith) l.ascends;
          rises = rising_low rank (suc (rank e.0)) 0 s (omega arith) up;
          floor = l.floor;
          same = l.same;
          count = grind (arith, nat_tests);
          enough = grind (arith, nat_tests);
        })

  -- the next entry is taken
  pub left_next : (m n : Meaning K V) (e : K × V) (s t : List (K × V)) → t ≡ e ∷ s → n ≡ taken rank join raise m e.0 e.1 → Left m t → Left n s
  left_next m n e s t at after l = subst (λ x. Left x s) (sym after) (left_step m e s (subst (λ u. Left m u) at l))
