-- Looking up, putting in and walking through a map whose ranks rise.
use Rattle.std.proofs.Common.{◌≡◌, ℕ, suc, ◌<◌, ◌≤◌, cond, eqb, ltb, List, [], ◌∷◌, length, is_some, option_map, Some, None, Option, sym, refl, ap, subst, inl, inr, arith}
use Rattle.std.proofs.lemmas.Bool.Decides.{nat_tests}
use Rattle.std.proofs.lemmas.Bool.{cases_Bool, cases_order, lt-ltb, le-ltb, eq-eqb, ne_eqb}
use Rattle.store.specs.Maps.{Rising, found, beyond, put, each, first, in_order}

-- a value joined to another, if there is one
abbrev pub more : {V : Type 0} → (V → V → V) → Option V → V → V
more join None v = v
more join (Some w) v = join w v

pub is_some_mapped : {A B : Type 0} (f : A → B) (o : Option A) → is_some (option_map f o) ≡ is_some o
is_some_mapped f None = refl
is_some_mapped f (Some x) = refl

module _ {K V : Type 0} (rank : K → ℕ) where
  pub each_rising : (f : V → V) (n : ℕ) (m : List (K × V)) → Rising rank n m → Rising rank n (each f m)
  each_rising f n [] r = tt
  each_rising f n (e ∷ m) r = (r.0, each_rising f (suc (rank e.0)) m r.1)

  pub each_found : (f : V → V) (m : List (K × V)) (k : K) → found rank (each f m) k ≡ option_map f (found rank m k)
  each_found f [] k = refl
  each_found f (e ∷ m) k = elim (cases_Bool (eqb (rank e.0) (rank k))) [ inl y ↦ rw y | inr y ↦ rw y (each_found f m k) ]

  pub rising_low : (n p : ℕ) (m : List (K × V)) → p ≤ n → Rising rank n m → Rising rank p m
  rising_low n p [] le r = tt
  rising_low n p (e ∷ m) le r = (omega arith, r.1)

  pub found_low : (n : ℕ) (m : List (K × V)) (k : K) → Rising rank n m → rank k < n → found rank m k ≡ None
  found_low n [] k r lt = refl
  found_low n (e ∷ m) k r lt =
      let ih = found_low (suc (rank e.0)) m k r.1 (omega arith) in
      let h = r.0 in
      grind (arith, nat_tests)

  module _ (join : V → V → V) where
    pub rising_put : (n : ℕ) (m : List (K × V)) (k : K) (v : V) → n ≤ rank k → Rising rank n m → Rising rank n (put rank join m k v)
    rising_put n [] k v le r = (le, tt)
    rising_put n (e ∷ m) k v le r =
        elim (cases_order (rank k) (rank e.0)) [
          | inl eq ↦ rw (le-ltb (rank k) (rank e.0) (omega arith), eq-eqb (rank e.0) (rank k) (omega arith)) (le, subst (λ x. Rising rank (suc x) m) (sym eq) r.1)
          | inr (inl lt) ↦ rw (lt-ltb (rank k) (rank e.0) lt) (le, (lt, r.1))
          | inr (inr gt) ↦ rw (le-ltb (rank k) (rank e.0) (omega arith), ne_eqb (rank e.0) (rank k) (omega arith)) (r.0, rising_put (suc (rank e.0)) m k v gt r.1)
        ]

    pub found_put : (n : ℕ) (m : List (K × V)) (k : K) (v : V) (q : K) → Rising rank n m →
        found rank (put rank join m k v) q ≡ cond (eqb (rank k) (rank q)) (Some (more join (found rank m q) v)) (found rank m q)
    found_put n [] k v q r = refl
    found_put n (e ∷ m) k v q r =
        let ih = found_put (suc (rank e.0)) m k v q r.1 in
        let low : rank q ≤ rank e.0 → found rank m q ≡ None = λ le. found_low (suc (rank e.0)) m q r.1 (omega arith) in
        grind (arith, nat_tests)

  pub in_order_rising : (es : List (K × V)) → Rising rank 0 (in_order rank es)
  in_order_rising [] = tt
  in_order_rising (e ∷ es) = rising_put (λ _ w. w) 0 (in_order rank es) e.0 e.1 (omega arith) (in_order_rising es)

  pub beyond_all : (n : ℕ) (m : List (K × V)) (k : K) → Rising rank n m → rank k < n → beyond rank m (Some k) ≡ m
  beyond_all n [] k r lt = refl
  beyond_all n (e ∷ m) k r lt = let h = r.0 in grind (arith, nat_tests)

  pub beyond_rising : (n : ℕ) (m : List (K × V)) (o : Option K) → Rising rank n m → Rising rank n (beyond rank m o)
  beyond_rising n m None r = r
  beyond_rising n [] (Some k) r = tt
  beyond_rising n (e ∷ m) (Some k) r =
      elim (cases_Bool (ltb (rank k) (rank e.0))) [
        | inl y ↦ rw y r
        | inr y ↦ rw y (rising_low (suc (rank e.0)) n (beyond rank m (Some k)) (let h = r.0 in omega arith) (beyond_rising (suc (rank e.0)) m (Some k) r.1))
      ]

  beyond_next : (n : ℕ) (m : List (K × V)) (o : Option K) (e : K × V) (s : List (K × V)) → Rising rank n m →
      beyond rank m o ≡ e ∷ s → beyond rank m (Some e.0) ≡ s
  beyond_next n [] None e s r h = absurd (let z : ◌≡◌ {A = ℕ} 0 1 = cc in omega arith)
  beyond_next n (d ∷ m) None e s r h =
      let all = beyond_all (suc (rank d.0)) m d.0 r.1 (omega arith) in
      grind (arith, nat_tests)
  beyond_next n [] (Some k) e s r h = absurd (let z : ◌≡◌ {A = ℕ} 0 1 = cc in omega arith)
  beyond_next n (d ∷ m) (Some k) e s r h =
      let all = beyond_all (suc (rank d.0)) m d.0 r.1 (omega arith) in
      elim (cases_Bool (ltb (rank k) (rank d.0))) [
        | inl y ↦ let g : d ∷ m ≡ e ∷ s = rw y at h in grind (arith, nat_tests)
        | inr y ↦
            let g : beyond rank m (Some k) ≡ e ∷ s = rw y at h in
            let ih = beyond_next (suc (rank d.0)) m (Some k) e s r.1 g in
            let up : Rising rank (suc (rank d.0)) (e ∷ s) = rw g at (beyond_rising (suc (rank d.0)) m (Some k) r.1) in
            let u = up.0 in
            grind (arith, nat_tests)
      ]

  -- once the next entry came, what stands above it is the rest
  pub next_rest : (m : List (K × V)) (o : Option K) (e : K × V) → Rising rank 0 m →
      Some e ≡ first (beyond rank m o) → beyond rank m o ≡ e ∷ beyond rank m (Some e.0)
  next_rest m o e r h = go (beyond rank m o) refl h where
    go : (s : List (K × V)) → beyond rank m o ≡ s → Some e ≡ first s → s ≡ e ∷ beyond rank m (Some e.0)
    go [] p q = absurd (let z : ◌≡◌ {A = ℕ} 0 1 = cc in omega arith)
    go (d ∷ t) p q =
        let b : beyond rank m (Some d.0) ≡ t = beyond_next 0 m o d t r p in
        let same : e ≡ d = cc in
        cc

  -- a walk comes nearer to its end
  pub next_less : (m : List (K × V)) (o : Option K) (e : K × V) → Rising rank 0 m →
      Some e ≡ first (beyond rank m o) → length (beyond rank m (Some e.0)) < length (beyond rank m o)
  next_less m o e r h = let l = ap length (next_rest m o e r h) in omega arith
