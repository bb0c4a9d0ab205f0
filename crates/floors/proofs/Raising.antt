-- A map with every value raised: what is found in it, what comes next, and what a take makes of it.
use Rattle.std.proofs.Common.{◌≡◌, ℕ, ◌-◌, max, cond, eqb, ltb, List, [], ◌∷◌, is_some, Some, None, Option, Result, sym, refl, ap, ◌∙◌, inl, inr, arith}
use Rattle.std.specs.Option.{option_map}
use Rattle.std.proofs.lemmas.Bool.{cases_Bool}
use Rattle.store.specs.declared.refusal.StoreRefusal.{StoreRefusal}
use Rattle.store.specs.Laws.{ValueLaws}
use Rattle.store.specs.Maps.{beyond, put, each, first}
use Rattle.store.specs.Meaning.{Meaning, answer, looked, room, taken}
use Rattle.store.proofs.Lookups.{is_some_mapped, each_found}
use Rattle.floors.specs.Floors.{floored}

module _ {K V : Type 0} (rank : K → ℕ) (f : V → V) where
  pub each_first : (m : List (K × V)) (o : Option K) → first (beyond rank (each f m) o) ≡ option_map (λ e. (e.0, f e.1)) (first (beyond rank m o))
  each_first [] None = refl
  each_first (e ∷ m) None = refl
  each_first [] (Some k) = refl
  each_first (e ∷ m) (Some k) = elim (cases_Bool (ltb (rank k) (rank e.0))) [ inl y ↦ rw y | inr y ↦ rw y (each_first m (Some k)) ]

  each_put : (join : V → V → V) (m : List (K × V)) (k : K) (w x : V) → f w ≡ x → ((a : V) → f (join a w) ≡ join (f a) x) →
      each f (put rank join m k w) ≡ put rank join (each f m) k x
  each_put join [] k w x e h = ap (λ y. (k, y) ∷ []) e
  each_put join (d ∷ m) k w x e h =
      elim (cases_Bool (ltb (rank k) (rank d.0))) [
        | inl y ↦ rw y (ap (λ z. (k, z) ∷ (d.0, f d.1) ∷ each f m) e)
        | inr y ↦ elim (cases_Bool (eqb (rank d.0) (rank k))) [
          | inl z ↦ rw (y, z) (ap (λ u. (k, u) ∷ each f m) (h d.1))
          | inr z ↦ rw (y, z) (ap (λ u. (d.0, f d.1) ∷ u) (each_put join m k w x e h))
        ]
      ]

module _ {K V : Type 0} (rank : K → ℕ) (join : V → V → V) (raise : ℕ → V → V) (laws : ValueLaws join raise) (f : ℕ) (m : Meaning K V) (k : K) where
  held_same : is_some (looked rank (floored raise f m) k) ≡ is_some (looked rank m k)
  held_same = ap is_some (each_found rank (raise f) m.entries k) ∙ is_some_mapped (raise f) (looked rank m k)

  floored_room : room rank (floored raise f m) k ≡ room rank m k
  floored_room = rw held_same

  -- raised to both floors, in either order, and joined below or above
  floored_taken : (v : V) → floored raise f (taken rank join raise m k (raise f v)) ≡ taken rank join raise (floored raise f m) k v
  floored_taken v =
      let g = m.floor in
      let w = raise g (raise f v) in
      let x = raise (max f g) v in
      let swap : w ≡ raise f (raise g v) = laws.raises.twice g f v ∙ ap (λ n. raise n v) (omega arith) ∙ sym (laws.raises.twice f g v) in
      let both : raise f (raise g v) ≡ x = laws.raises.twice f g v in
      let again : raise f w ≡ x = laws.raises.twice f g (raise f v) ∙ laws.raises.twice (max f g) f v ∙ ap (λ n. raise n v) (omega arith) in
      let joins : (a : V) → raise f (join a w) ≡ join (raise f a) x = λ a. ap (λ y. raise f (join a y)) swap ∙ laws.raises.under f a (raise g v) ∙ ap (join (raise f a)) both in
      let puts = each_put rank (raise f) join m.entries k w x again joins in
      elim (cases_Bool (room rank m k)) [
        | inl y ↦ rw (held_same, y) (ap (of (max f g) (cond (is_some (looked rank m k)) m.places (m.places - 1))) puts)
        | inr y ↦ rw (held_same, y)
      ] where
        of : ℕ → ℕ → List (K × V) → Meaning K V
        of a p es = record { entries = es; floor = a; places = p }

  pub floored_answer : (r : Result (Unit {0}) StoreRefusal) → r ≡ answer (room rank m k) → r ≡ answer (room rank (floored raise f m) k)
  floored_answer r h = h ∙ ap answer (sym floored_room)

  pub floored_below : (v x : V) (n : Meaning K V) → n ≡ taken rank join raise m k x → x ≡ raise f v → n ≡ taken rank join raise m k (raise f v)
  floored_below v x n h e = h ∙ ap (taken rank join raise m k) e

  pub floored_after : (v : V) (n : Meaning K V) → n ≡ taken rank join raise m k (raise f v) → floored raise f n ≡ taken rank join raise (floored raise f m) k v
  floored_after v n h = ap (floored raise f) h ∙ floored_taken v
