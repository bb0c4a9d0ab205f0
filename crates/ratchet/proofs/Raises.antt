-- Raising to a floor: twice, and after a join.
use Rattle.std.proofs.Common.{◌≡◌, ℕ, ◌+◌, ◌-◌, ◌≤◌, max, sym, refl, ap, ◌∙◌, subst, inl, inr, arith}
use Rattle.std.proofs.lemmas.Bool.{cases_lt}
use Rattle.ratchet.specs.declared.copies.SessionCopy.{SessionCopy}
use Rattle.ratchet.specs.declared.copies.Holding.{Holding}
use Rattle.ratchet.specs.declared.copies.Holding.TheVariants.{Held, Disputed}
use Rattle.ratchet.specs.Suite.{Meaning, Lawful}
use Rattle.ratchet.specs.Ratchet.{steps}
use Rattle.ratchet.specs.Laws.{RaiseLaws}
use Rattle.ratchet.specs.Join.{join, raised}
use Rattle.ratchet.proofs.Steps.{steps_add, steps_index}
use Rattle.ratchet.proofs.Joins.{Reach, rise, chain, linear, three, join_left, join_right, join_none}

-- a holding that is not below a floor
abbrev AtLeast : {P : Type 0} → ℕ → Holding P → Type 0
AtLeast f (Held c) = f ≤ c.index
AtLeast f Disputed = Unit {0}

module _ {P : Type 0} (m : Meaning P) where
  abbrev up : ℕ → SessionCopy P → SessionCopy P
  up f c = steps m.hash (f - c.index) c

  up_index : (f : ℕ) (c : SessionCopy P) → (up f c).index ≡ max f c.index
  up_index f c = steps_index m.hash (f - c.index) c ∙ omega arith

  up_same : (f : ℕ) (c : SessionCopy P) → f ≤ c.index → up f c ≡ c
  up_same f c h = let z : f - c.index ≡ 0 = omega arith in ap (λ n. steps m.hash n c) z

  pub raised_least : (f : ℕ) (x : Holding P) → AtLeast f (raised m f x)
  raised_least f (Held c) = let e = up_index f c in omega arith
  raised_least f Disputed = tt

  pub raised_same : (f : ℕ) (x : Holding P) → AtLeast f x → raised m f x ≡ x
  raised_same f (Held c) h = ap Held (up_same f c h)
  raised_same f Disputed h = refl

  up_up : (f g : ℕ) (c : SessionCopy P) → up f (up g c) ≡ up (max f g) c
  up_up f g c =
      let e = up_index g c in
      let k : f - (up g c).index + (g - c.index) ≡ max f g - c.index = omega arith in
      sym (steps_add m.hash (f - (up g c).index) (g - c.index) c) ∙ ap (λ n. steps m.hash n c) k

  pub raised_raised : (f g : ℕ) (x : Holding P) → raised m f (raised m g x) ≡ raised m (max f g) x
  raised_raised f g (Held c) = ap Held (up_up f g c)
  raised_raised f g Disputed = refl

module _ {P : Type 0} (m : Meaning P) (laws : Lawful m) where
  -- copies of one index that reach each other are one
  level_reach : (a b : SessionCopy P) → b.index ≤ a.index → Reach m laws a b → a ≡ b
  level_reach a b h (n, e) =
      let r = rise m laws n a b e in
      let z : 0 ≡ n = omega arith in
      ap (λ k. steps m.hash k a) z ∙ e

  -- a copy that reaches b is, raised to a floor below b, still one that does
  up_reach : (f : ℕ) (a b : SessionCopy P) → f ≤ b.index → Reach m laws a b → Reach m laws (up m f a) b
  up_reach f a b h (n, e) =
      let r = rise m laws n a b e in
      elim (linear m laws a (up m f a) b (f - a.index, refl) (n, e)) [
        | inl s ↦ s
        | inr s ↦ (let i = up_index m f a in (0, sym (level_reach b (up m f a) (omega arith) s)))
      ]

  pub raise_join : (f : ℕ) (x y : Holding P) → AtLeast f y → raised m f (join m x y) ≡ join m (raised m f x) y
  raise_join f (Held a) (Held b) h =
      elim (three m laws a b) [
        | inl ab ↦ ap (raised m f) (join_left m laws a b ab) ∙ sym (join_left m laws (up m f a) b (up_reach f a b h ab))
        | inr t ↦ elim t [
          | inl ba ↦ (let r = rise m laws ba.0 b a ba.1 in
              ap (raised m f) (join_right m laws a b ba) ∙ ap Held (up_same m f b h) ∙ sym (ap (λ v. join m (Held v) (Held b)) (up_same m f a (omega arith)) ∙ join_right m laws a b ba))
          | inr n ↦ ap (raised m f) (join_none m laws a b n.0 n.1) ∙ sym (join_none m laws (up m f a) b
              (λ r. n.0 (chain m laws a (up m f a) b (f - a.index, refl) r))
              (λ r. elim (cases_lt a.index f) [
                | inl low ↦ (let i = up_index m f a in n.0 (f - a.index, sym (level_reach b (up m f a) (omega arith) r)))
                | inr high ↦ n.1 (subst (Reach m laws b) (up_same m f a high) r)
              ]))
        ]
      ]
  raise_join f (Held a) Disputed h = refl
  raise_join f Disputed y h = refl

  pub raise_laws_lem : RaiseLaws (join m) (raised m)
  raise_laws_lem = record {
    none = λ x. raised_same m 0 x (least_zero x);
    twice = raised_raised m;
    under = λ f x y. raise_join f x (raised m f y) (raised_least m f y);
  } where
    least_zero : (x : Holding P) → AtLeast 0 x
    least_zero (Held c) = omega arith
    least_zero Disputed = tt
