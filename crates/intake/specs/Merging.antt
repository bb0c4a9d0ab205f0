-- What merging the entries of one store into another gives.
use Rattle.std.specs.Prelude.{ℕ, ◌+◌, ◌-◌, Bool, cond, List, [], ◌∷◌, is_some, nat_le}
use Rattle.store.specs.Maps.{found, put, each}
use Rattle.store.specs.Meaning.{Meaning}

module _ {K V : Type 0} (rank : K → ℕ) where
  -- how many entries of a list have a key that the map lacks
  abbrev pub fresh : List (K × V) → List (K × V) → ℕ
  fresh m [] = 0
  fresh m (e ∷ s) = cond (is_some (found rank m e.0)) 0 1 + fresh m s

  -- whether the places suffice for all new keys together
  abbrev pub room_for : Meaning K V → List (K × V) → Bool
  room_for m s = nat_le (fresh m.entries s) m.places

  module _ (join : V → V → V) where
    -- every entry of a list put into the map
    abbrev pub put_all : List (K × V) → List (K × V) → List (K × V)
    put_all m [] = m
    put_all m (e ∷ s) = put_all (put rank join m e.0 e.1) s

    -- every entry raised to the floor and put in, or none
    abbrev pub merged : (ℕ → V → V) → Meaning K V → List (K × V) → Meaning K V
    merged raise m s =
        cond (room_for m s)
        (record { entries = put_all m.entries (each (raise m.floor) s); floor = m.floor; places = m.places - fresh m.entries s }) m
