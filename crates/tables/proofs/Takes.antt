-- What taking a value into slots does: it is joined to the slot of its key, or a free slot is filled, or nothing is done.
use Rattle.std.proofs.Common.{◌≡◌, ℕ, zero, suc, ◌+◌, ◌-◌, ◌<◌, ◌≤◌, ◌==◌, Bool, true, false, cond, eqb, ltb, List, [], ◌∷◌, length, get_or, set, find, flat_map, option_to_list, position, count_by, is_none, is_some, Some, None, Option, option_map, Ok, Err, Result, MatchOption, sym, refl, ap, ◌∙◌, inl, inr, arith}
use Rattle.std.specs.List.{position_or_len}
use Rattle.std.specs.Option.{option_map_or, option_or}
use Rattle.std.proofs.lemmas.Bool.Decides.{nat_tests}
use Rattle.std.proofs.lemmas.Bool.{cases_Bool, eqb-true, eqb-false, lt-ltb, ltb-false}
use Rattle.std.proofs.lemmas.List.Quantifiers.{position-Some}
use Rattle.std.proofs.lemmas.List.Sums.{sum_by-set, sum_by-cons}
use Rattle.store.specs.declared.refusal.StoreRefusal.{StoreRefusal}
use Rattle.store.specs.declared.refusal.StoreRefusal.TheVariants.{NoPlace}
use Rattle.store.specs.Laws.{ValueLaws}
use Rattle.store.specs.Maps.{Rising, found, put, in_order}
use Rattle.store.specs.Meaning.{answer, room, taken}
use Rattle.store.proofs.Lookups.{is_some_mapped, in_order_rising}
use Rattle.tables.specs.Slots.{slots_mean}
use Rattle.tables.proofs.Rows.{found_first, of_both}

abbrev entries : {K V : Type 0} → List (Option (K × V)) → List (K × V)
entries s = flat_map option_to_list s

position_none : {X : Type 0} (p : X → Bool) (xs : List X) → position p xs ≡ None → length xs ≤ position_or_len p xs
position_none p xs h =
    elim (cases_Bool (ltb (position_or_len p xs) (length xs))) [
      | inl y ↦ absurd (let g : Some (position_or_len p xs) ≡ None = rw y at h in cc)
      | inr y ↦ ltb-false _ _ y
    ]

none_free : {X : Type 0} (s : List (Option X)) → length s ≤ position_or_len is_none s → count_by is_none s ≡ 0
none_free [] h = refl
none_free (None ∷ s) h = absurd (omega arith)
none_free (Some x ∷ s) h =
    let c = sum_by-cons (λ x. cond (is_none x) 1 0) (Some x) s in let ih = none_free s (omega arith) in omega arith

module _ {X : Type 0} (s : List (Option X)) (i : ℕ) (d : Option X) (y : X) (l : i < length s) where
  abbrev free_one : Option X → ℕ
  free_one x = cond (is_none x) 1 0

  changed : count_by is_none (set s i (Some y)) + free_one (get_or s i d) ≡ count_by is_none s + 0
  changed = sum_by-set free_one s i (Some y) d l

  same_free : is_none (get_or s i d) ≡ false → count_by is_none (set s i (Some y)) ≡ count_by is_none s
  same_free h = let n : free_one (get_or s i d) ≡ 0 = rw h in let c = changed in omega arith

  less_free : is_none (get_or s i d) ≡ true → count_by is_none (set s i (Some y)) + 1 ≡ count_by is_none s
  less_free h = let n : free_one (get_or s i d) ≡ 1 = rw h in let c = changed in omega arith

module _ {K V : Type 0} (rank : K → ℕ) where
  abbrev pub has : K → Option (K × V) → Bool
  has k x = option_map_or (λ e. rank e.0 == rank k) x false

  absent : (s : List (Option (K × V))) (k : K) → length s ≤ position_or_len (has k) s → find (λ e. rank e.0 == rank k) (entries s) ≡ None
  absent [] k h = refl
  absent (None ∷ s) k h = absent s k (omega arith)
  absent (Some e ∷ s) k h =
      elim (cases_Bool (eqb (rank e.0) (rank k))) [
        | inl y ↦ absurd (let g : length (Some e ∷ s) ≤ 0 = rw y at h in omega arith)
        | inr y ↦ rw y (absent s k (let g : length (Some e ∷ s) ≤ 1 + position_or_len (has k) s = rw y at h in omega arith))
      ]

  present : (s : List (Option (K × V))) (i : ℕ) (d : Option (K × V)) (k : K) → i < length s → has k (get_or s i d) ≡ true → is_some (find (λ e. rank e.0 == rank k) (entries s)) ≡ true
  present [] i d k l h = absurd (omega arith)
  present (None ∷ s) zero d k l h = absurd (let g : false ≡ true = h in cc)
  present (Some p ∷ s) zero d k l h = rw h
  present (None ∷ s) (suc i) d k l h = present s i d k (omega arith) h
  present (Some p ∷ s) (suc i) d k l h = elim (cases_Bool (eqb (rank p.0) (rank k))) [ inl y ↦ rw y | inr y ↦ rw y (present s i d k (omega arith) h) ]

  module _ (join : V → V → V) where
    put_again : (n : ℕ) (m : List (K × V)) (q k : K) (w v : V) → Rising rank n m → rank q ≡ rank k →
        put rank join (put rank (λ _ w. w) m q w) k v ≡ put rank (λ _ w. w) m k (join w v)
    put_again n [] q k w v f e = grind (arith, nat_tests)
    put_again n (d ∷ m) q k w v f e =
        let ih = put_again (suc (rank d.0)) m q k w v f.1 e in
        grind (arith, nat_tests)

    put_apart : (n : ℕ) (m : List (K × V)) (q k : K) (w v : V) → Rising rank n m → (rank q ≡ rank k → ⊥) →
        put rank join (put rank (λ _ w. w) m q w) k v ≡ put rank (λ _ w. w) (put rank join m k v) q w
    put_apart n [] q k w v f e = grind (arith, nat_tests)
    put_apart n (d ∷ m) q k w v f e =
        let ih = put_apart (suc (rank d.0)) m q k w v f.1 e in
        grind (arith, nat_tests)

    put_new : (n : ℕ) (m : List (K × V)) (k : K) (v : V) → Rising rank n m → found rank m k ≡ None →
        put rank (λ _ w. w) m k v ≡ put rank join m k v
    put_new n [] k v f e = refl
    put_new n (d ∷ m) k v f e =
        elim (cases_Bool (eqb (rank d.0) (rank k))) [
          | inl y ↦ absurd (let g : Some d.1 ≡ None = rw y at e in cc)
          | inr y ↦ let ih = put_new (suc (rank d.0)) m k v f.1 (rw y at e) in grind (arith, nat_tests)
        ]

    -- the slot of a key is written
    joined_at : (s : List (Option (K × V))) (i : ℕ) (d : Option (K × V)) (q k : K) (w v : V) → i < length s → get_or s i d ≡ Some (q, w) → rank q ≡ rank k →
        ((j : ℕ) → j < i → has k (get_or s j d) ≡ false) → in_order rank (entries (set s i (Some (k, join w v)))) ≡ put rank join (in_order rank (entries s)) k v
    joined_at [] i d q k w v l h e before = absurd (omega arith)
    joined_at (x ∷ s) zero d q k w v l h e before = rw h (sym (put_again 0 (in_order rank (entries s)) q k w v (in_order_rising rank (entries s)) e))
    joined_at (None ∷ s) (suc i) d q k w v l h e before = joined_at s i d q k w v (omega arith) h e (λ j m. before (suc j) (omega arith))
    joined_at (Some p ∷ s) (suc i) d q k w v l h e before =
        rw (joined_at s i d q k w v (omega arith) h e (λ j m. before (suc j) (omega arith)))
        (sym (put_apart 0 (in_order rank (entries s)) p.0 k p.1 v (in_order_rising rank (entries s)) (eqb-false _ _ (before 0 (omega arith)))))

    -- a free slot is written
    entered_at : (s : List (Option (K × V))) (i : ℕ) (d : Option (K × V)) (k : K) (v : V) → i < length s → get_or s i d ≡ None →
        find (λ e. rank e.0 == rank k) (entries s) ≡ None → in_order rank (entries (set s i (Some (k, v)))) ≡ put rank join (in_order rank (entries s)) k v
    entered_at [] i d k v l h a = absurd (omega arith)
    entered_at (None ∷ s) zero d k v l h a =
        put_new 0 (in_order rank (entries s)) k v (in_order_rising rank (entries s)) (sym (found_first rank (entries s) k) ∙ ap (option_map (λ e. e.1)) a)
    entered_at (Some p ∷ s) zero d k v l h a = absurd (let g : Some p ≡ None = h in cc)
    entered_at (None ∷ s) (suc i) d k v l h a = entered_at s i d k v (omega arith) h a
    entered_at (Some p ∷ s) (suc i) d k v l h a =
        elim (cases_Bool (eqb (rank p.0) (rank k))) [
          | inl y ↦ absurd (let g : Some p ≡ None = rw y at a in cc)
          | inr y ↦
              rw (entered_at s i d k v (omega arith) h (rw y at a))
              (sym (put_apart 0 (in_order rank (entries s)) p.0 k p.1 v (in_order_rising rank (entries s)) (eqb-false _ _ y)))
        ]

module _ {K V : Type 0} (rank : K → ℕ) (join : V → V → V) (raise : ℕ → V → V) (laws : ValueLaws join raise) (s : List (Option (K × V))) (k : K) (v : V) where
  -- what `take_in` answers, and what it leaves
  pub record Takes (r : Result (Unit {0}) StoreRefusal) (t : List (Option (K × V))) : Type 0 where
    pub answer : r ≡ answer (room rank (slots_mean rank s) k)
    pub after : slots_mean rank t ≡ taken rank join raise (slots_mean rank s) k v
    pub refused : r ≡ Err NoPlace → t ≡ s

  shown : is_some (found rank (in_order rank (entries s)) k) ≡ is_some (find (λ e. rank e.0 == rank k) (entries s))
  shown = ap is_some (sym (found_first rank (entries s) k)) ∙ is_some_mapped (λ e. e.1) (find (λ e. rank e.0 == rank k) (entries s))

  module _ (i : ℕ) where
    at_key : (x : Option (K × V)) (y : V) → position (has rank k) s ≡ Some i → x ≡ get_or s i x → MatchOption x (y ≡ v) (λ e. y ≡ join e.1 v) →
        Takes (Ok tt) (set s i (Some (k, y)))
    at_key None y h read val = let p = position-Some (has rank k) s i None h in absurd (let g : has {V = V} rank k None ≡ true = ap (has rank k) read ∙ p.1 in cc)
    at_key (Some e) y h read val =
        let p = position-Some (has rank k) s i (Some e) h in
        let hits : has rank k (Some e) ≡ true = ap (has rank k) read ∙ p.1 in
        let f = shown ∙ present rank s i (Some e) k p.0 p.1 in
        let n = same_free s i (Some e) (k, join e.1 v) p.0 (ap is_none (sym read)) in
        record {
          answer = rw f;
          after =
              rw (f, laws.raises.none v, val)
              (of_both _ _ _ _ (joined_at rank join s i (Some e) e.0 k e.1 v p.0 (sym read) (eqb-true _ _ hits) p.2) n);
          refused = λ no. absurd (let z : Ok tt ≡ Err NoPlace = no in cc);
        }

    at_free : (x : Option (K × V)) (y : V) → position (has rank k) s ≡ None → position is_none s ≡ Some i → x ≡ get_or s i x → MatchOption x (y ≡ v) (λ e. y ≡ join e.1 v) →
        Takes (Ok tt) (set s i (Some (k, y)))
    at_free (Some e) y miss h read val = let p = position-Some is_none s i (Some e) h in absurd (let g : is_none (Some e) ≡ true = ap is_none read ∙ p.1 in cc)
    at_free None y miss h read val =
        let p = position-Some is_none s i None h in
        let a = absent rank s k (position_none (has rank k) s miss) in
        let f = shown ∙ ap is_some a in
        let n = less_free s i None (k, v) p.0 (ap is_none (sym read)) in
        let room : ltb 0 (count_by is_none s) ≡ true = lt-ltb 0 (count_by is_none s) (omega arith) in
        let rest : count_by is_none (set s i (Some (k, v))) ≡ count_by is_none s - 1 = omega arith in
        record {
          answer = rw (f, room);
          after = rw (f, room, laws.raises.none v, val) (of_both _ _ _ _ (entered_at rank join s i None k v p.0 (sym read) a) rest);
          refused = λ no. absurd (let z : Ok tt ≡ Err NoPlace = no in cc);
        }

  module _ {eq : K → K → Bool} (same : eq ≡ (λ a b. rank a == rank b)) where
    -- the place of the key, or the first free one
    abbrev pub chosen : Option ℕ
    chosen = option_or (position (λ x. option_map_or (λ e. eq e.0 k) x false) s) (position is_none s)

    by_rank : chosen ≡ option_or (position (has rank k) s) (position is_none s)
    by_rank = ap (λ f. option_or (position (λ x. option_map_or (λ e. f e.0 k) x false) s) (position is_none s)) same

    pub takes : (i : ℕ) (x : Option (K × V)) (y : V) → chosen ≡ Some i → x ≡ get_or s i x → MatchOption x (y ≡ v) (λ e. y ≡ join e.1 v) → Takes (Ok tt) (set s i (Some (k, y)))
    takes i x y place read val = go (position (has rank k) s) refl (sym by_rank ∙ place) where
      go : (o : Option ℕ) → position (has rank k) s ≡ o → option_or o (position is_none s) ≡ Some i → Takes (Ok tt) (set s i (Some (k, y)))
      go None miss h = at_free i x y miss h read val
      go (Some j) at h = at_key i x y (at ∙ h) read val

    pub takes_none : chosen ≡ None → Takes (Err NoPlace) s
    takes_none place = go (position (has rank k) s) refl (sym by_rank ∙ place) where
      go : (o : Option ℕ) → position (has rank k) s ≡ o → option_or o (position is_none s) ≡ None → Takes (Err NoPlace) s
      go None miss h =
          let f = shown ∙ ap is_some (absent rank s k (position_none (has rank k) s miss)) in
          let none = none_free s (position_none is_none s h) in
          let no_room : ltb 0 (count_by is_none s) ≡ false = rw none in
          record { answer = rw (f, no_room); after = rw (f, no_room); refused = λ _. refl }
      go (Some j) at h = absurd (let g : Some j ≡ None = h in cc)
