-- What one level of an advance does, and that the four levels together are single steps.
use Rattle.std.proofs.Common.{◌≡◌, ℕ, zero, suc, ◌+◌, ◌-◌, ◌*◌, ◌/◌, ◌^◌, ◌<◌, ◌≤◌, max, eqb, sym, refl, ap, ◌∙◌, inl, inr, arith}
use Rattle.std.proofs.lemmas.Bool.{cases_eq, eq-eqb, ne_eqb, cond-true, cond-false, cond_both, eqb-false}
use Rattle.ratchet.specs.declared.copies.SessionCopy.{SessionCopy}
use Rattle.ratchet.specs.declared.copies.Level.{Level}
use Rattle.ratchet.specs.declared.copies.Level.TheVariants.{L0, L1, L2, L3}
use Rattle.ratchet.specs.Ratchet.{unit, part, spread, at, reseed, rep, steps}
use Rattle.ratchet.specs.Cost.{count, reach, price, cost}
use Rattle.ratchet.specs.Passes.{passed}
use Rattle.ratchet.proofs.Fast.{n0, n1, n2, n3, fast, fast_steps, reseed_at}

-- a number that is not 0 is one more than its predecessor
one_more : (n : ℕ) → (n ≡ 0 → ⊥) → suc (n - 1) ≡ n
one_more n h = omega arith

-- the index a level leaves, in closed form
idle : (j : Level) (c t : ℕ) → c ≤ t → count (unit j) c t ≡ 0 → c ≡ max c (unit j * (t / unit j))
idle L0 c t le h = omega arith
idle L1 c t le h = omega arith
idle L2 c t le h = omega arith
idle L3 c t le h = omega arith

busy : (j : Level) (c t : ℕ) → c ≤ t → (count (unit j) c t ≡ 0 → ⊥) → unit j * (t / unit j) ≡ max c (unit j * (t / unit j))
busy L0 c t le h = omega arith
busy L1 c t le h = omega arith
busy L2 c t le h = omega arith
busy L3 c t le h = omega arith

pub last : (j : Level) (c t : ℕ) → c ≤ t → reach (unit j) c t ≡ max c (unit j * (t / unit j))
last j c t le =
    elim (cases_eq (count (unit j) c t) 0) [
      | inl h ↦ cond-true _ _ _ (eq-eqb _ _ h) ∙ idle j c t le h
      | inr h ↦ cond-false _ _ _ (ne_eqb _ _ h) ∙ busy j c t le h
    ]

price_le : (k s : ℕ) → s ≤ 255 → price k s ≤ 254 + k
price_le k s h = cond_both (eqb s 0) 0 (s - 1 + k) (λ v. v ≤ 254 + k) (λ e. omega arith) (λ e. let n = eqb-false s 0 e in omega arith)

-- the most that an advance costs
pub cost_le : (c t : ℕ) → c ≤ t → t < 2 ^ 32 → cost c t ≤ 1026
cost_le c t le h =
    let c1 = reach 16777216 c t in
    let c2 = reach 65536 c1 t in
    let c3 = reach 256 c2 t in
    let e1 = last L0 c t le in
    let e2 = last L1 c1 t (omega arith) in
    let e3 = last L2 c2 t (omega arith) in
    let a = price_le 4 (count 16777216 c t) (omega arith) in
    let b = price_le 3 (count 65536 c1 t) (omega arith) in
    let d = price_le 2 (count 256 c2 t) (omega arith) in
    let e = price_le 1 (count 1 c3 t) (omega arith) in
    omega arith

module _ {P : Type 0} (H : Level → P → P) where
  part_reseed : (j : Level) (c : SessionCopy P) → part j (reseed H j c) ≡ H j (part j c)
  part_reseed L0 c = refl
  part_reseed L1 c = refl
  part_reseed L2 c = refl
  part_reseed L3 c = refl

  spread_reseed : (j : Level) (p : P) (c : SessionCopy P) → spread H j p (reseed H j c) ≡ spread H j p c
  spread_reseed L0 p c = refl
  spread_reseed L1 p c = refl
  spread_reseed L2 p c = refl
  spread_reseed L3 p c = refl

  part_rep : (j : Level) (n : ℕ) (c : SessionCopy P) → part j (rep (reseed H j) n c) ≡ rep (H j) n (part j c)
  part_rep j zero c = refl
  part_rep j (suc n) c = part_reseed j (rep (reseed H j) n c) ∙ ap (H j) (part_rep j n c)

  spread_rep : (j : Level) (p : P) (n : ℕ) (c : SessionCopy P) → spread H j p (rep (reseed H j) n c) ≡ spread H j p c
  spread_rep j p zero c = refl
  spread_rep j p (suc n) c = spread_reseed j p (rep (reseed H j) n c) ∙ spread_rep j p n c

  -- to hash a part and then spread it is to reseed as often
  pub spun : (j : Level) (n : ℕ) (c : SessionCopy P) → rep (reseed H j) (suc n) c ≡ spread H j (rep (H j) n (part j c)) c
  spun j n c = ap (λ p. spread H j p (rep (reseed H j) n c)) (part_rep j n c) ∙ spread_rep j (rep (H j) n (part j c)) n c

  rep_at : (j : Level) (k n : ℕ) (c : SessionCopy P) → rep (reseed H j) n (at k c) ≡ at k (rep (reseed H j) n c)
  rep_at j k zero c = refl
  rep_at j k (suc n) c = ap (reseed H j) (rep_at j k n c) ∙ reseed_at H j k (rep (reseed H j) n c)

  -- the two ways of a level
  pub stays : (j : Level) (t : ℕ) (c : SessionCopy P) → count (unit j) c.index t ≡ 0 → passed H j t c ≡ c
  unfolding passed
  stays j t c h = cond-true _ _ _ (eq-eqb _ _ h)

  pub goes : (j : Level) (t : ℕ) (c : SessionCopy P) → (count (unit j) c.index t ≡ 0 → ⊥)
      → passed H j t c ≡ at (unit j * (t / unit j)) (spread H j (rep (H j) (count (unit j) c.index t - 1) (part j c)) c)
  unfolding passed
  goes j t c h = cond-false _ _ _ (ne_eqb _ _ h)

  passed_index : (j : Level) (t : ℕ) (c : SessionCopy P) → (passed H j t c).index ≡ reach (unit j) c.index t
  passed_index j t c =
      elim (cases_eq (count (unit j) c.index t) 0) [
        | inl h ↦ ap (λ x. x.index) (stays j t c h) ∙ sym (cond-true _ _ _ (eq-eqb _ _ h))
        | inr h ↦ ap (λ x. x.index) (goes j t c h) ∙ sym (cond-false _ _ _ (ne_eqb _ _ h))
      ]

  passed_runs : (j : Level) (t : ℕ) (c : SessionCopy P) → c.index ≤ t → passed H j t c ≡ at (max c.index (unit j * (t / unit j))) (rep (reseed H j) (count (unit j) c.index t) c)
  passed_runs j t c le =
      elim (cases_eq (count (unit j) c.index t) 0) [
        | inl h ↦ stays j t c h ∙ (λ i. at (idle j c.index t le h i) (rep (reseed H j) (sym h i) c))
        | inr h ↦ (let n = count (unit j) c.index t - 1 in
            goes j t c h ∙ ap (at (unit j * (t / unit j))) (sym (spun j n c)) ∙ (λ i. at (busy j c.index t le h i) (rep (reseed H j) (one_more (count (unit j) c.index t) h i) c)))
      ]

  top_le : (j : Level) (t : ℕ) → unit j * (t / unit j) ≤ t
  top_le L0 t = omega arith
  top_le L1 t = omega arith
  top_le L2 t = omega arith
  top_le L3 t = omega arith

  pub passed_le : (j : Level) (t : ℕ) (c : SessionCopy P) → c.index ≤ t → (passed H j t c).index ≤ t
  passed_le j t c le = let k = top_le j t in let e = passed_index j t c in let f = last j c.index t le in omega arith

  -- the four levels, one after another
  abbrev pub p1 : SessionCopy P → ℕ → SessionCopy P
  p1 c t = passed H L0 t c

  abbrev pub p2 : SessionCopy P → ℕ → SessionCopy P
  p2 c t = passed H L1 t (p1 c t)

  abbrev pub p3 : SessionCopy P → ℕ → SessionCopy P
  p3 c t = passed H L2 t (p2 c t)

  abbrev pub p4 : SessionCopy P → ℕ → SessionCopy P
  p4 c t = passed H L3 t (p3 c t)

  level_runs : (j : Level) (t k n : ℕ) (x y : SessionCopy P) → x.index ≤ t → x ≡ at k y → count (unit j) x.index t ≡ n
      → passed H j t x ≡ at (max x.index (unit j * (t / unit j))) (rep (reseed H j) n y)
  level_runs j t k n x y le ex en =
      let m = max x.index (unit j * (t / unit j)) in
      passed_runs j t x le ∙ (λ i. at m (rep (reseed H j) (en i) (ex i))) ∙ ap (at m) (rep_at j k n y)

  module _ (c : SessionCopy P) (t : ℕ) (le : c.index ≤ t) where
    le1 : (p1 c t).index ≤ t
    le1 = passed_le L0 t c le

    le2 : (p2 c t).index ≤ t
    le2 = passed_le L1 t (p1 c t) le1

    le3 : (p3 c t).index ≤ t
    le3 = passed_le L2 t (p2 c t) le2

    i1 : (p1 c t).index ≡ max c.index (16777216 * (t / 16777216))
    i1 = passed_index L0 t c ∙ last L0 c.index t le

    i2 : (p2 c t).index ≡ max c.index (65536 * (t / 65536))
    i2 = let e = i1 in let f = passed_index L1 t (p1 c t) ∙ last L1 (p1 c t).index t le1 in omega arith

    i3 : (p3 c t).index ≡ max c.index (256 * (t / 256))
    i3 = let e = i2 in let f = passed_index L2 t (p2 c t) ∙ last L2 (p2 c t).index t le2 in omega arith

    whole : p4 c t ≡ fast H c t
    whole =
        let i = c.index in
        let w1 = level_runs L0 t i (n0 i t) c c le refl refl in
        let w2 = level_runs L1 t _ (n1 i t) (p1 c t) (rep (reseed H L0) (n0 i t) c) le1 w1 (ap (λ v. count 65536 v t) i1) in
        let w3 = level_runs L2 t _ (n2 i t) (p2 c t) (rep (reseed H L1) (n1 i t) (rep (reseed H L0) (n0 i t) c)) le2 w2 (ap (λ v. count 256 v t) i2) in
        let e3 = i3 in
        let last-count : count 1 (p3 c t).index t ≡ n3 i t = omega arith in
        let l3 = le3 in
        let there : max (p3 c t).index (1 * (t / 1)) ≡ t = omega arith in
        let y = rep (reseed H L2) (n2 i t) (rep (reseed H L1) (n1 i t) (rep (reseed H L0) (n0 i t) c)) in
        level_runs L3 t _ (n3 i t) (p3 c t) y le3 w3 last-count ∙ ap (λ k. at k (rep (reseed H L3) (n3 i t) y)) there

    pub whole_steps : p4 c t ≡ steps H (t - c.index) c
    whole_steps = whole ∙ ap (fast H c) (omega arith) ∙ sym (fast_steps H (t - c.index) c)

    pub whole_cost : price 4 (count 16777216 c.index t) + price 3 (count 65536 (p1 c t).index t) + price 2 (count 256 (p2 c t).index t) + price 1 (count 1 (p3 c t).index t) ≡ cost c.index t
    whole_cost =
        let r1 : (p1 c t).index ≡ reach 16777216 c.index t = passed_index L0 t c in
        let r2 : (p2 c t).index ≡ reach 65536 (reach 16777216 c.index t) t = passed_index L1 t (p1 c t) ∙ ap (λ v. reach 65536 v t) r1 in
        let r3 : (p3 c t).index ≡ reach 256 (reach 65536 (reach 16777216 c.index t) t) t = passed_index L2 t (p2 c t) ∙ ap (λ v. reach 256 v t) r2 in
        (λ i. price 4 (count 16777216 c.index t) + price 3 (count 65536 (r1 i) t) + price 2 (count 256 (r2 i) t) + price 1 (count 1 (r3 i) t))

  -- the same over what the code calls its four copies and their hashes
  pub walked : (c a b d e : SessionCopy P) (t w x y z : ℕ) → c.index ≤ t
      → a ≡ passed H L0 t c → w ≡ price 4 (count 16777216 c.index t)
      → b ≡ passed H L1 t a → x ≡ price 3 (count 65536 a.index t)
      → d ≡ passed H L2 t b → y ≡ price 2 (count 256 b.index t)
      → e ≡ passed H L3 t d → z ≡ price 1 (count 1 d.index t)
      → (e ≡ steps H (t - c.index) c) × (w + x + y + z ≡ cost c.index t)
  walked c a b d e t w x y z le ea ew eb ex ed ey ee ez =
      let s = whole_steps c t le in
      let k = whole_cost c t le in
      (cc, cc)
