-- Reading a varint byte by byte, and that reading and writing undo each other.
use Rattle.std.proofs.Common.{◌≡◌, ℕ, zero, suc, ◌+◌, ◌-◌, ◌*◌, ◌/◌, ◌%◌, ◌^◌, ◌<◌, ◌≤◌, cond, ◌&&◌, eqb, ltb, ◌⊎◌, List, [], ◌∷◌, ◌++◌, length, get_or, take, drop, Some, None, Option, IfSome, sym, refl, ap, ◌∙◌, inl, inr, mul_assoc, mul-le-mul, mul-add, add-one, arith, pow-add}
use native.Mathlib.Nat.{pow-le-pow_right}
use Rattle.std.proofs.lemmas.List.{at_drop_more, at_drop_all}
use Rattle.std.proofs.lemmas.Bool.{lt-ltb, le-ltb, eq-eqb, ne_eqb, cases_lt, cases_eq, cond-true, cond-false}
use Rattle.std.proofs.lemmas.Bool.Decides.{nat_tests}
use Rattle.std.proofs.lemmas.Option.{MatchOption-at_some, IfSome_then}
use Rattle.std.specs.List.{AllByRecursion}
use Rattle.ratchet.specs.Bytes.{Byte}
use Rattle.message.specs.Varint.{groups, beneath, read_groups, within, read_varint, VarintLaws}

-- n bytes were read, of value v; the number that follows counts u times
abbrev pub after : ℕ → ℕ → ℕ → Option (ℕ × ℕ) → Option (ℕ × ℕ)
after n v u None = None
after n v u (Some (w, k)) = cond (eqb w 0 && ltb 0 n) None (Some (v + u * w, n + k))

after_beneath : (n v u d : ℕ) (o : Option (ℕ × ℕ)) → after n v u (beneath d o) ≡ after (n + 1) (v + u * d) (u * 128) o
after_beneath n v u d None = refl
after_beneath n v u d (Some (w, k)) = grind (arith, nat_tests, mul-add u d (128 * w), mul_assoc u 128 w)

last_is : (b : ℕ) (bs : List ℕ) → b < 128 → read_groups (b ∷ bs) ≡ Some (b, 1)
unfolding read_groups
last_is b bs h = cond-true _ _ _ (lt-ltb b 128 h)

-- where a loop over bs stands: it has read k bytes, of value v, and the number that follows counts u times
pub record Reading (bs : List ℕ) (k v u : ℕ) : Type 0 where
  pub few : k ≤ 5
  pub unit : u ≡ 128 ^ k
  pub low : v < u
  pub whole : read_groups bs ≡ after k v u (read_groups (drop k bs))

module _ (bs : List ℕ) (k v u : ℕ) (at : Reading bs k v u) where
  pub at_more : (x : ℕ) → k < 5 → k < length bs → 128 ≤ get_or bs k 0 → get_or bs k 0 < 256 → x ≡ get_or bs k 0 - 128 → Reading bs (k + 1) (v + u * x) (u * 128)
  unfolding read_groups
  at_more x few here high byte is = record {
    few = omega arith;
    unit = ap (λ (y : ℕ). y * 128) at.unit ∙ sym (pow-add 128 k 1);
    low = omega (arith, at.low, mul-le-mul {n₁ = u} {m₁ = x} {n₂ = u} {m₂ = 127} (omega arith) (omega arith));
    whole = at.whole ∙ at_drop_more (λ ys. after k v u (read_groups ys)) bs k 0 here ∙ rw (le-ltb _ _ high, is) (after_beneath k v u (get_or bs k 0 - 128) (read_groups (drop (k + 1) bs)));
  }

  pub at_last : k < length bs → get_or bs k 0 < 128 → read_groups bs ≡ after k v u (Some (get_or bs k 0, 1))
  at_last here low = at.whole ∙ at_drop_more (λ ys. after k v u (read_groups ys)) bs k 0 here ∙ ap (after k v u) (last_is _ _ low)

  -- past five bytes nothing fits
  pub at_end : (5 ≤ k) ⊎ ((k < 5) × (length bs ≤ k)) → None ≡ read_varint bs
  unfolding read_groups
  at_end (inl many) = rw at.whole (past (read_groups (drop k bs))) where
    past : (o : Option (ℕ × ℕ)) → None ≡ within (after k v u o)
    past None = refl
    past (Some (w, j)) =
        let large : 34359738368 ≤ u = omega (arith, at.unit, pow-le-pow_right {n = 128} (omega arith) {i = 5} {j = k} many) in
        let more : 1 ≤ w → u ≤ u * w = λ h. omega (arith, mul-le-mul {n₁ = u} {m₁ = 1} {n₂ = u} {m₂ = w} (omega arith) h) in
        grind (arith, nat_tests)
  at_end (inr p) = sym (ap within (at.whole ∙ at_drop_all (λ ys. after k v u (read_groups ys)) bs k p.1))

-- the two ways of writing a group
pub groups_last : (n v : ℕ) → v < 128 → groups n v ≡ v ∷ []
unfolding groups
groups_last zero v h = refl
groups_last (suc n) v h = cond-true _ _ _ (lt-ltb v 128 h)

pub groups_more : (n v : ℕ) → 128 ≤ v → groups (suc n) v ≡ (v % 128 + 128) ∷ groups n (v / 128)
unfolding groups
groups_more n v h = cond-false _ _ _ (le-ltb v 128 h)

read_more : (b : ℕ) (bs : List ℕ) → 128 ≤ b → read_groups (b ∷ bs) ≡ beneath (b - 128) (read_groups bs)
unfolding read_groups
read_more b bs h = cond-false _ _ _ (le-ltb b 128 h)

pub power : (n : ℕ) → 128 ^ (suc n + 1) ≡ 128 ^ (n + 1) * 128
power n = let e : suc n + 1 ≡ n + 1 + 1 = omega arith in ap (λ (k : ℕ). 128 ^ k) e ∙ pow-add 128 (n + 1) 1

-- what is written, read again
read_back : (n v : ℕ) (rest : List ℕ) → v < 128 ^ (n + 1) → read_groups (groups n v ++ rest) ≡ Some (v, length (groups n v))
read_back zero v rest h = rw (groups_last zero v (omega arith)) (last_is v rest (omega arith))
read_back (suc n) v rest h =
    elim (cases_lt v 128) [
      | inl low ↦ rw (groups_last (suc n) v low) (last_is v rest low)
      | inr high ↦ (let e = power n in
          let high-group : 128 ≤ v % 128 + 128 = omega arith in
          let more : 1 ≤ v / 128 = omega arith in
          let value : v % 128 + 128 - 128 + 128 * (v / 128) ≡ v = omega arith in
          rw (groups_more n v high, read_more (v % 128 + 128) (groups n (v / 128) ++ rest) high-group, read_back n (v / 128) rest (omega arith)) (grind (arith, nat_tests)))
    ]

-- a fact of the number read, in the groups above and within the bound
within_some : (P : ℕ × ℕ → Type 0) (o : Option (ℕ × ℕ)) → IfSome o P → IfSome (within o) (λ p. P p × (p.0 < 2 ^ 32))
within_some P None h = tt
within_some P (Some p) h = elim (cases_lt p.0 (2 ^ 32)) [ inl low ↦ rw (lt-ltb _ _ low) (h, low) | inr high ↦ rw (le-ltb _ _ high) tt ]

-- bytes that begin with the shortest form of a number
abbrev Shortest : List ℕ → ℕ × ℕ → Type 0
Shortest bs p = (n : ℕ) → p.0 < 128 ^ (n + 1) → take p.1 bs ≡ groups n p.0

-- a byte with its top bit set before the shortest form of a number that is not 0
longer : (n b w j : ℕ) (bs : List ℕ) → 128 ≤ b → b < 256 → (w ≡ 0 → ⊥) → Shortest bs (w, j) → b - 128 + 128 * w < 128 ^ (n + 1) → take (j + 1) (b ∷ bs) ≡ groups n (b - 128 + 128 * w)
longer zero b w j bs high byte ne rest h = absurd (omega arith)
longer (suc n) b w j bs high byte ne rest h =
    let e = power n in
    let v = b - 128 + 128 * w in
    let top : v / 128 ≡ w = omega arith in
    let low : v % 128 + 128 ≡ b = omega arith in
    rw (add-one, groups_more n v (omega arith), top, low, rest n (omega arith))

beneath_shortest : (b : ℕ) (bs : List ℕ) (o : Option (ℕ × ℕ)) → 128 ≤ b → b < 256 → IfSome o (Shortest bs) → IfSome (beneath (b - 128) o) (Shortest (b ∷ bs))
beneath_shortest b bs None high byte h = tt
beneath_shortest b bs (Some (w, j)) high byte h =
    elim (cases_eq w 0) [ inl e ↦ rw (eq-eqb w 0 e) tt | inr ne ↦ rw (ne_eqb w 0 ne) (λ n. longer n b w j bs high byte ne h) ]

shortest : (bs : List ℕ) → AllByRecursion Byte bs → IfSome (read_groups bs) (Shortest bs)
unfolding read_groups
shortest [] a = tt
shortest (b ∷ bs) a =
    elim (cases_lt b 128) [
      | inl low ↦ rw (lt-ltb b 128 low) (λ n h. sym (groups_last n b low))
      | inr high ↦ rw (le-ltb b 128 high) (beneath_shortest b bs (read_groups bs) high a.0 (shortest bs a.1))
    ]

-- what a varint takes: at least one byte, two from 128 on, and fewer than n
abbrev pub Takes : ℕ → ℕ × ℕ → Type 0
Takes n p = (1 ≤ p.1) × (p.1 < n) × (128 ≤ p.0 → 2 ≤ p.1)

beneath_takes : (low n k : ℕ) (o : Option (ℕ × ℕ)) → k ≡ n + 1 → IfSome o (Takes n) → IfSome (beneath low o) (Takes k)
beneath_takes low n k None e h = tt
beneath_takes low n k (Some p) e h = grind (arith, nat_tests)

read_takes : (bs : List ℕ) → IfSome (read_groups bs) (Takes (length bs + 1))
unfolding read_groups
read_takes [] = tt
read_takes (b ∷ bs) =
    elim (cases_lt b 128) [
      | inl low ↦ rw (lt-ltb b 128 low) (omega arith, omega arith, λ h. absurd (omega arith))
      | inr high ↦ rw (le-ltb b 128 high) (beneath_takes (b - 128) (length bs + 1) _ (read_groups bs) (omega arith) (read_takes bs))
    ]

pub takes : (bs : List ℕ) (n : ℕ) → length bs + 1 ≡ n → IfSome (read_varint bs) (Takes n)
takes bs n e =
    let least = within_some (Takes (length bs + 1)) (read_groups bs) (read_takes bs) in
    rw (← e) (IfSome_then (read_varint bs) {P = λ p. Takes (length bs + 1) p × (p.0 < 2 ^ 32)} {Q = Takes (length bs + 1)} least (λ p h. h.0))

pub varint_laws_lem : VarintLaws
varint_laws_lem = record {
  back = λ v rest h. ap within (read_back 4 v rest (omega arith)) ∙ cond-true _ _ _ (lt-ltb v (2 ^ 32) h);
  forth = λ bs v k a e. let h = MatchOption-at_some _ _ (v, k) e (within_some (Shortest bs) (read_groups bs) (shortest bs a)) in (h.0 4 (omega (arith, h.1)), h.1);
}

-- a number below 128^k has at most k groups
pub groups_size : (n k v : ℕ) → v < 128 ^ (k + 1) → length (groups n v) ≤ k + 1
unfolding groups
groups_size zero k v h = omega arith
groups_size (suc n) zero v h = rw (groups_last (suc n) v (omega arith)) (omega arith)
groups_size (suc n) (suc k) v h =
    elim (cases_lt v 128) [
      | inl low ↦ rw (groups_last (suc n) v low) (omega arith)
      | inr high ↦ (let e = power k in rw (groups_more n v high) (omega (arith, groups_size n k (v / 128) (omega arith))))
    ]
