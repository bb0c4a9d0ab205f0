-- An advance level by level reaches the copy that single steps reach.
use Rattle.std.proofs.Common.{◌≡◌, ℕ, zero, suc, ◌+◌, ◌-◌, ◌*◌, ◌/◌, ◌%◌, ◌≤◌, max, sym, refl, ap, ◌∙◌, inl, inr, add-zero, arith}
use Rattle.std.proofs.lemmas.Bool.{cases_eq, eq-eqb, ne_eqb, cond-true, cond-false}
use Rattle.ratchet.specs.declared.copies.SessionCopy.{SessionCopy}
use Rattle.ratchet.specs.declared.copies.Level.{Level}
use Rattle.ratchet.specs.declared.copies.Level.TheVariants.{L0, L1, L2, L3}
use Rattle.ratchet.specs.Ratchet.{level, at, reseed, step, rep, steps}

-- the numbers of hashes on the way from c to t, in closed form
abbrev pub n0 : ℕ → ℕ → ℕ
n0 c t = t / 16777216 - c / 16777216

abbrev pub n1 : ℕ → ℕ → ℕ
n1 c t = t / 65536 - max c (16777216 * (t / 16777216)) / 65536

abbrev pub n2 : ℕ → ℕ → ℕ
n2 c t = t / 256 - max c (65536 * (t / 65536)) / 256

abbrev pub n3 : ℕ → ℕ → ℕ
n3 c t = t - max c (256 * (t / 256))

-- a step that is not to a multiple of u leaves the quotient by u
module _ (c t : ℕ) (le : c ≤ t) where
  top : (t + 1) % 16777216 ≡ 0 → (n0 c (t + 1) ≡ suc (n0 c t)) × (n1 c (t + 1) ≡ 0) × (n2 c (t + 1) ≡ 0) × (n3 c (t + 1) ≡ 0)
  top h = (omega arith, omega arith, omega arith, omega arith)

  high : ((t + 1) % 16777216 ≡ 0 → ⊥) → (t + 1) % 65536 ≡ 0 → (n0 c (t + 1) ≡ n0 c t) × (n1 c (t + 1) ≡ suc (n1 c t)) × (n2 c (t + 1) ≡ 0) × (n3 c (t + 1) ≡ 0)
  high g h = (omega arith, omega arith, omega arith, omega arith)

  low : ((t + 1) % 65536 ≡ 0 → ⊥) → (t + 1) % 256 ≡ 0 → (n0 c (t + 1) ≡ n0 c t) × (n1 c (t + 1) ≡ n1 c t) × (n2 c (t + 1) ≡ suc (n2 c t)) × (n3 c (t + 1) ≡ 0)
  low g h =
      let q0 : (t + 1) / 16777216 ≡ t / 16777216 = omega arith in
      let q1 : (t + 1) / 65536 ≡ t / 65536 = omega arith in
      (rw q0, rw (q0, q1), rw q1 (omega arith), omega arith)

  single : ((t + 1) % 256 ≡ 0 → ⊥) → (n0 c (t + 1) ≡ n0 c t) × (n1 c (t + 1) ≡ n1 c t) × (n2 c (t + 1) ≡ n2 c t) × (n3 c (t + 1) ≡ suc (n3 c t))
  single g =
      let q0 : (t + 1) / 16777216 ≡ t / 16777216 = omega arith in
      let q1 : (t + 1) / 65536 ≡ t / 65536 = omega arith in
      let q2 : (t + 1) / 256 ≡ t / 256 = omega arith in
      (rw q0, rw (q0, q1), rw (q1, q2), rw q2 (omega arith))

level0 : (n : ℕ) → n % 16777216 ≡ 0 → level n ≡ L0
level0 n h = cond-true _ _ _ (eq-eqb _ _ h)

level1 : (n : ℕ) → (n % 16777216 ≡ 0 → ⊥) → n % 65536 ≡ 0 → level n ≡ L1
level1 n g h = cond-false _ _ _ (ne_eqb _ _ g) ∙ cond-true _ _ _ (eq-eqb _ _ h)

level2 : (n : ℕ) → (n % 65536 ≡ 0 → ⊥) → n % 256 ≡ 0 → level n ≡ L2
level2 n g h = let f : n % 16777216 ≡ 0 → ⊥ = λ e. g (omega arith) in cond-false _ _ _ (ne_eqb _ _ f) ∙ cond-false _ _ _ (ne_eqb _ _ g) ∙ cond-true _ _ _ (eq-eqb _ _ h)

level3 : (n : ℕ) → (n % 256 ≡ 0 → ⊥) → level n ≡ L3
level3 n g =
    let f0 : n % 16777216 ≡ 0 → ⊥ = λ e. g (omega arith) in
    let f1 : n % 65536 ≡ 0 → ⊥ = λ e. g (omega arith) in
    cond-false _ _ _ (ne_eqb _ _ f0) ∙ cond-false _ _ _ (ne_eqb _ _ f1) ∙ cond-false _ _ _ (ne_eqb _ _ g)

module _ {P : Type 0} (H : Level → P → P) where
  -- a reseed overwrites what one of a level below it did
  abbrev Absorbs : Level → Level → Type 0
  Absorbs j k = (c : SessionCopy P) → reseed H j (reseed H k c) ≡ reseed H j c

  a01 : Absorbs L0 L1
  a01 c = refl

  a02 : Absorbs L0 L2
  a02 c = refl

  a03 : Absorbs L0 L3
  a03 c = refl

  a12 : Absorbs L1 L2
  a12 c = refl

  a13 : Absorbs L1 L3
  a13 c = refl

  a23 : Absorbs L2 L3
  a23 c = refl

  many : (j k : Level) → Absorbs j k → (n : ℕ) (c : SessionCopy P) → reseed H j (rep (reseed H k) n c) ≡ reseed H j c
  many j k a zero c = refl
  many j k a (suc n) c = a (rep (reseed H k) n c) ∙ many j k a n c

  pub reseed_at : (j : Level) (n : ℕ) (c : SessionCopy P) → reseed H j (at n c) ≡ at n (reseed H j c)
  reseed_at L0 n c = refl
  reseed_at L1 n c = refl
  reseed_at L2 n c = refl
  reseed_at L3 n c = refl

  step_at : (t : ℕ) (c : SessionCopy P) → step H (at t c) ≡ at (t + 1) (reseed H (level (t + 1)) c)
  step_at t c = ap (at (t + 1)) (reseed_at (level (t + 1)) t c)

  abbrev pub runs : ℕ → ℕ → ℕ → ℕ → SessionCopy P → SessionCopy P
  runs a b d e c = rep (reseed H L3) e (rep (reseed H L2) d (rep (reseed H L1) b (rep (reseed H L0) a c)))

  pub same_runs : {a b d e v w x y : ℕ} (c : SessionCopy P) → (a ≡ v) × (b ≡ w) × (d ≡ x) × (e ≡ y) → runs a b d e c ≡ runs v w x y c
  same_runs c k = λ i. runs (k.0 i) (k.1 i) (k.2 i) (k.3 i) c

  -- the whole advance of c to t, level by level
  abbrev pub fast : SessionCopy P → ℕ → SessionCopy P
  fast c t = at t (runs (n0 c.index t) (n1 c.index t) (n2 c.index t) (n3 c.index t) c)

  -- a reseed after the runs: one more of its level, and none below it
  past0 : (a b d e : ℕ) (c : SessionCopy P) → reseed H L0 (runs a b d e c) ≡ runs (suc a) 0 0 0 c
  past0 a b d e c =
      let x = rep (reseed H L0) a c in
      let y = rep (reseed H L1) b x in
      many L0 L3 a03 e (rep (reseed H L2) d y) ∙ many L0 L2 a02 d y ∙ many L0 L1 a01 b x

  past1 : (a b d e : ℕ) (c : SessionCopy P) → reseed H L1 (runs a b d e c) ≡ runs a (suc b) 0 0 c
  past1 a b d e c =
      let y = rep (reseed H L1) b (rep (reseed H L0) a c) in
      many L1 L3 a13 e (rep (reseed H L2) d y) ∙ many L1 L2 a12 d y

  past2 : (a b d e : ℕ) (c : SessionCopy P) → reseed H L2 (runs a b d e c) ≡ runs a b (suc d) 0 c
  past2 a b d e c = many L2 L3 a23 e (rep (reseed H L2) d (rep (reseed H L1) b (rep (reseed H L0) a c)))

  -- one index more: the reseed of that index's level
  abbrev More : SessionCopy P → ℕ → Level → Type 0
  More c t l = reseed H l (runs (n0 c.index t) (n1 c.index t) (n2 c.index t) (n3 c.index t) c)
      ≡ runs (n0 c.index (t + 1)) (n1 c.index (t + 1)) (n2 c.index (t + 1)) (n3 c.index (t + 1)) c

  more : (c : SessionCopy P) (t : ℕ) → c.index ≤ t → More c t (level (t + 1))
  more c t le =
      let i = c.index in
      elim (cases_eq ((t + 1) % 16777216) 0) [
        | inl h ↦ rw level0 (past0 (n0 i t) (n1 i t) (n2 i t) (n3 i t) c ∙ sym (same_runs c (top i t le h)))
        | inr g ↦ elim (cases_eq ((t + 1) % 65536) 0) [
          | inl h ↦ rw level1 (past1 (n0 i t) (n1 i t) (n2 i t) (n3 i t) c ∙ sym (same_runs c (high i t le g h)))
          | inr f ↦ elim (cases_eq ((t + 1) % 256) 0) [
            | inl h ↦ rw level2 (past2 (n0 i t) (n1 i t) (n2 i t) (n3 i t) c ∙ sym (same_runs c (low i t le f h)))
            | inr e ↦ rw level3 (sym (same_runs c (single i t le e)))
          ]
        ]
      ]

  step_fast : (c : SessionCopy P) (t : ℕ) → c.index ≤ t → step H (fast c t) ≡ fast c (t + 1)
  step_fast c t le = step_at t _ ∙ ap (at (t + 1)) (more c t le)

  fast_none : (c : SessionCopy P) → c ≡ fast c c.index
  fast_none c =
      let k : (n0 c.index c.index ≡ 0) × (n1 c.index c.index ≡ 0) × (n2 c.index c.index ≡ 0) × (n3 c.index c.index ≡ 0) = (omega arith, omega arith, omega arith, omega arith) in
      ap (at c.index) (sym (same_runs c k))

  pub fast_steps : (n : ℕ) (c : SessionCopy P) → steps H n c ≡ fast c (c.index + n)
  fast_steps zero c = fast_none c ∙ ap (fast c) (sym (add-zero c.index))
  fast_steps (suc n) c = ap (step H) (fast_steps n c) ∙ step_fast c (c.index + n) (omega arith) ∙ ap (fast c) (omega arith)
