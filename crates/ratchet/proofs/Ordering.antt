-- The order of ids by words is the order of the numbers that they make.
use Rattle.std.proofs.Common.{◌≡◌, ℕ, suc, ◌+◌, ◌*◌, ◌^◌, ◌<◌, refl, ◌∙◌, ap, inl, inr, arith}
use Rattle.std.specs.declared.cmp.Ordering.{Ordering}
use Rattle.std.specs.declared.cmp.Ordering.TheVariants.{Less, Equal, Greater}
use Rattle.std.specs.Ordering.{nat_cmp, ordering_then}
use Rattle.std.proofs.Math.Nat.{mul-le-mul_right}
use Rattle.std.proofs.lemmas.Bool.Decides.{nat_tests}
use Rattle.std.proofs.lemmas.Bool.{cases_order, lt-ltb, le-ltb, ne_eqb}
use Rattle.ratchet.specs.declared.ids.Id.{Id}
use Rattle.ratchet.specs.Ids.{id_number}

-- of two numbers with a last digit below w the front decides, and then the digit
by_digit : (w a b c d : ℕ) → b < w → d < w → ordering_then (nat_cmp a c) (nat_cmp b d) ≡ nat_cmp (a * w + b) (c * w + d)
by_digit w a b c d p q =
    let up : a < c → a * w + b < c * w + d = λ l. omega (arith, mul-le-mul_right {m = suc a} {n = c} w l) in
    let down : c < a → c * w + d < a * w + b = λ l. omega (arith, mul-le-mul_right {m = suc c} {n = a} w l) in
    elim (cases_order a c) [
      | inl e ↦ rw e (grind (arith, nat_tests))
      | inr (inl l) ↦ rw (lt-ltb a c l, lt-ltb (a * w + b) (c * w + d) (up l))
      | inr (inr l) ↦
          let h = down l in
          rw (le-ltb a c (omega arith), ne_eqb a c (omega arith), le-ltb (a * w + b) (c * w + d) (omega arith), ne_eqb (a * w + b) (c * w + d) (omega arith))
    ]

then_then : (a b c : Ordering) → ordering_then a (ordering_then b c) ≡ ordering_then (ordering_then a b) c
then_then Less b c = refl
then_then Equal b c = refl
then_then Greater b c = refl

pub id_order_lem : (a b : Id) →
    ordering_then (nat_cmp a.w0 b.w0) (ordering_then (nat_cmp a.w1 b.w1) (ordering_then (nat_cmp a.w2 b.w2) (nat_cmp a.w3 b.w3))) ≡ nat_cmp (id_number a) (id_number b)
id_order_lem a b =
    let w = 2 ^ 64 in
    let c1 = nat_cmp a.w1 b.w1 in
    let c2 = nat_cmp a.w2 b.w2 in
    let c3 = nat_cmp a.w3 b.w3 in
    then_then (nat_cmp a.w0 b.w0) c1 (ordering_then c2 c3)
    ∙ ap (λ r. ordering_then r (ordering_then c2 c3)) (by_digit w a.w0 a.w1 b.w0 b.w1 a.fits1 b.fits1)
    ∙ then_then (nat_cmp (a.w0 * w + a.w1) (b.w0 * w + b.w1)) c2 c3
    ∙ ap (λ r. ordering_then r c3) (by_digit w (a.w0 * w + a.w1) a.w2 (b.w0 * w + b.w1) b.w2 a.fits2 b.fits2)
    ∙ by_digit w ((a.w0 * w + a.w1) * w + a.w2) a.w3 ((b.w0 * w + b.w1) * w + b.w2) b.w3 a.fits3 b.fits3

-- the same with an index below w behind each id
pub id_then_lem : (a b : Id) (w i j : ℕ) → i < w → j < w →
    ordering_then (ordering_then (nat_cmp a.w0 b.w0) (ordering_then (nat_cmp a.w1 b.w1) (ordering_then (nat_cmp a.w2 b.w2) (nat_cmp a.w3 b.w3)))) (nat_cmp i j)
    ≡ nat_cmp (id_number a * w + i) (id_number b * w + j)
id_then_lem a b w i j p q = ap (λ r. ordering_then r (nat_cmp i j)) (id_order_lem a b) ∙ by_digit w (id_number a) i (id_number b) j p q
