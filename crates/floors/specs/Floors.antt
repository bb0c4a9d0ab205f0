-- What a floor laid over a store shows.
use Rattle.std.specs.Prelude.{ℕ, max}
use Rattle.store.specs.Maps.{each}
use Rattle.store.specs.Meaning.{Meaning}

-- the map with every value raised; the higher floor holds, and the places are those below
abbrev pub floored : {K V : Type 0} → (ℕ → V → V) → ℕ → Meaning K V → Meaning K V
floored raise f m = record { entries = each (raise f) m.entries; floor = max f m.floor; places = m.places }
