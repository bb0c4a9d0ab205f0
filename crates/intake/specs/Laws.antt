-- What a merge leaves under each key.
use Rattle.std.specs.Prelude.{◌≡◌, ℕ, true, Some, None, Option, option_map}
use Rattle.store.specs.Meaning.{Meaning, Ascends, looked}
use Rattle.intake.specs.Merging.{room_for, merged}

-- the join of two values, or the one that is there
abbrev pub both : {V : Type 0} → (V → V → V) → Option V → Option V → Option V
both join None o = o
both join (Some v) None = Some v
both join (Some v) (Some w) = Some (join v w)

-- where the places suffice, the join of what the two stores show, with the other store's value raised to the floor
abbrev pub MergeLaw : {K V : Type 0} → (K → ℕ) → (V → V → V) → (ℕ → V → V) → Type 0
MergeLaw {K} {V} rank join raise =
    (m s : Meaning K V) (k : K) → Ascends rank m → Ascends rank s → room_for rank m s.entries ≡ true
    → looked rank (merged rank join raise m s.entries) k ≡ both join (looked rank m k) (option_map (raise m.floor) (looked rank s k))
