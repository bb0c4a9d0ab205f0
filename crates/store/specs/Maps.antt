-- A map as a list of entries, in the order of their keys' ranks.
use Rattle.std.specs.Prelude.{ℕ, suc, ◌≤◌, cond, List, [], ◌∷◌, Some, None, Option, ◌==◌, nat_lt}

module _ {K V : Type 0} (rank : K → ℕ) where
  -- ranks rise strictly, from n on
  abbrev pub Rising : ℕ → List (K × V) → Type 0
  Rising n [] = Unit {0}
  Rising n (e ∷ m) = (n ≤ rank e.0) × Rising (suc (rank e.0)) m

  -- the value under the key
  abbrev pub found : List (K × V) → K → Option V
  found [] k = None
  found (e ∷ m) k = cond (rank e.0 == rank k) (Some e.1) (found m k)

  -- the entries above the key, or all of them
  abbrev pub beyond : List (K × V) → Option K → List (K × V)
  beyond m None = m
  beyond [] (Some k) = []
  beyond (e ∷ m) (Some k) = cond (nat_lt (rank k) (rank e.0)) (e ∷ m) (beyond m (Some k))

  -- the value is joined to the one under the key, or entered in its place
  abbrev pub put : (V → V → V) → List (K × V) → K → V → List (K × V)
  put join [] k v = (k, v) ∷ []
  put join (e ∷ m) k v =
      cond (nat_lt (rank k) (rank e.0)) ((k, v) ∷ e ∷ m)
      (cond (rank e.0 == rank k) ((k, join e.1 v) ∷ m) (e ∷ put join m k v))

  -- entries in the order of their keys: of two with one key the first counts
  abbrev pub in_order : List (K × V) → List (K × V)
  in_order [] = []
  in_order (e ∷ es) = put (λ _ w. w) (in_order es) e.0 e.1

-- every value changed, each under its key
abbrev pub each : {K V : Type 0} → (V → V) → List (K × V) → List (K × V)
each f [] = []
each f (e ∷ m) = (e.0, f e.1) ∷ each f m

abbrev pub first : {A : Type 0} → List A → Option A
first [] = None
first (x ∷ xs) = Some x
