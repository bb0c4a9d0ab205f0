-- What the entries in slots come to in order: what is found of them, and which is the lowest above a key.
use Rattle.std.proofs.Common.{◌≡◌, ℕ, zero, suc, min, take, replicate, is_none, count_by, ◌==◌, true, Bool, cond, eqb, nat_lt, List, [], ◌∷◌, find, filter, flat_map, option_to_list, fold, Some, None, Option, option_map, sym, refl, ap, ◌∙◌, inl, inr, arith}
use Rattle.std.specs.List.{filter_map, reduce}
use Rattle.std.specs.Option.{option_map_or}
use Rattle.std.proofs.lemmas.List.Sums.{sum_by-cons}
use Rattle.std.proofs.lemmas.Bool.Decides.{nat_tests}
use Rattle.std.proofs.lemmas.Bool.{cases_Bool}
use Rattle.store.specs.Maps.{Rising, found, beyond, put, first, in_order}
use Rattle.store.specs.Meaning.{Meaning, empty}
use Rattle.tables.specs.Slots.{slots_mean}
use Rattle.store.proofs.Lookups.{more, found_put, in_order_rising}

-- the entries in slots are what is left without the free ones
pub held : {X : Type 0} (s : List (Option X)) → filter_map (λ x. x) s ≡ flat_map option_to_list s
held [] = refl
held (None ∷ s) = held s
held (Some x ∷ s) = ap (λ xs. x ∷ xs) (held s)

module _ {K V : Type 0} (rank : K → ℕ) where
  last : (o : Option V) (v : V) → more (λ _ w. w) o v ≡ v
  last None v = refl
  last (Some x) v = refl

  pub found_first : (es : List (K × V)) (k : K) → option_map (λ e. e.1) (find (λ e. rank e.0 == rank k) es) ≡ found rank (in_order rank es) k
  found_first [] k = refl
  found_first (e ∷ es) k =
      let ih = found_first es k in
      let at = found_put rank (λ _ w. w) 0 (in_order rank es) e.0 e.1 k (in_order_rising rank es) in
      let m = last (found rank (in_order rank es) k) e.1 in
      elim (cases_Bool (eqb (rank e.0) (rank k))) [ inl y ↦ rw (at, y) (ap Some (sym m)) | inr y ↦ rw (at, y) ih ]

  pub found_by : {eq : K → K → Bool} → eq ≡ (λ a b. rank a == rank b) → (es : List (K × V)) (k : K) (r : Option V) →
      r ≡ option_map (λ e. e.1) (find (λ e. eq e.0 k) es) → r ≡ found rank (in_order rank es) k
  found_by same es k r h = h ∙ ap (λ eq. option_map (λ e. e.1) (find (λ e. eq e.0 k) es)) same ∙ found_first es k

  -- the lower of two entries, the first where they have one key
  abbrev pub lesser : K × V → K × V → K × V
  lesser d e = cond (nat_lt (rank e.0) (rank d.0)) e d

  abbrev pub lesser_of : K × V → Option (K × V) → K × V
  lesser_of d None = d
  lesser_of d (Some e) = lesser d e

  abbrev pub above : Option K → K × V → Bool
  above o e = option_map_or (λ q. nat_lt (rank q) (rank e.0)) o true

  beyond_put : (n : ℕ) (m : List (K × V)) (o : Option K) (e : K × V) → Rising rank n m →
      first (beyond rank (put rank (λ _ w. w) m e.0 e.1) o) ≡ cond (above o e) (Some (lesser_of e (first (beyond rank m o)))) (first (beyond rank m o))
  beyond_put n [] None e f = refl
  beyond_put n [] (Some q) e f = grind (arith, nat_tests)
  beyond_put n (d ∷ m) None e f = grind (arith, nat_tests)
  beyond_put n (d ∷ m) (Some q) e f =
      let ih = beyond_put (suc (rank d.0)) m (Some q) e f.1 in
      grind (arith, nat_tests)

  lesser_twice : (b d : K × V) (o : Option (K × V)) → lesser_of (lesser b d) o ≡ lesser b (lesser_of d o)
  lesser_twice b d None = refl
  lesser_twice b d (Some e) = grind (arith, nat_tests)

  lowest_from : (o : Option K) (b : K × V) (es : List (K × V)) → fold lesser b (filter (above o) es) ≡ lesser_of b (first (beyond rank (in_order rank es) o))
  lowest_from None b [] = refl
  lowest_from (Some q) b [] = refl
  lowest_from o b (e ∷ es) =
      let at = beyond_put 0 (in_order rank es) o e (in_order_rising rank es) in
      elim (cases_Bool (above o e)) [
        | inl y ↦ rw (at, y) (lowest_from o (lesser b e) es ∙ lesser_twice b e (first (beyond rank (in_order rank es) o)))
        | inr y ↦ rw (at, y) (lowest_from o b es)
      ]

  pub lowest_first : (o : Option K) (es : List (K × V)) → reduce lesser (filter (above o) es) ≡ first (beyond rank (in_order rank es) o)
  lowest_first None [] = refl
  lowest_first (Some q) [] = refl
  lowest_first o (e ∷ es) =
      let at = beyond_put 0 (in_order rank es) o e (in_order_rising rank es) in
      elim (cases_Bool (above o e)) [
        | inl y ↦ rw (at, y) (ap Some (lowest_from o e es))
        | inr y ↦ rw (at, y) (lowest_first o es)
      ]

  pub lowest_by : {lt : K → K → Bool} → lt ≡ (λ a b. nat_lt (rank a) (rank b)) → (o : Option K) (es : List (K × V)) (r : Option (K × V)) →
      r ≡ reduce (λ a b. cond (lt b.0 a.0) b a) (filter (λ e. option_map_or (λ q. lt q e.0) o true) es) → r ≡ first (beyond rank (in_order rank es) o)
  lowest_by below o es r h = h ∙ ap (λ lt. reduce (λ a b. cond (lt b.0 a.0) b a) (filter (λ e. option_map_or (λ q. lt q e.0) o true) es)) below ∙ lowest_first o es

-- slots with these entries and so many free ones
abbrev pub of : {K V : Type 0} → List (K × V) → ℕ → Meaning K V
of m n = record { entries = m; floor = 0; places = n }

pub of_both : {K V : Type 0} (a b : List (K × V)) (m n : ℕ) → a ≡ b → m ≡ n → of a m ≡ of b n
of_both a b m n p q = ap (λ x. of x m) p ∙ ap (λ x. of b x) q

module _ {K V : Type 0} (rank : K → ℕ) where
  fronts_free : (n limit : ℕ) → slots_mean {V = V} rank (take limit (replicate n None)) ≡ empty (min n limit)
  fronts_free n zero = of_both _ _ _ _ refl (omega arith)
  fronts_free zero (suc limit) = of_both _ _ _ _ refl (omega arith)
  fronts_free (suc n) (suc limit) =
      let ih = fronts_free n limit in
      let front = take limit (replicate {A = Option (K × V)} n None) in
      let c = sum_by-cons {X = Option (K × V)} (λ x. cond (is_none x) 1 0) None front in
      let h : count_by is_none front ≡ min n limit = ap (λ m. m.places) ih in
      of_both _ _ _ _ (ap (λ m. m.entries) ih) (c ∙ omega arith)

  -- of cleared slots as many are places as the limit allows
  pub cleared_mean : (n limit : ℕ) (s : List (Option (K × V))) → s ≡ replicate n None → slots_mean rank (take limit s) ≡ empty (min n limit)
  cleared_mean n limit s cleared = ap (λ t. slots_mean rank (take limit t)) cleared ∙ fronts_free n limit
