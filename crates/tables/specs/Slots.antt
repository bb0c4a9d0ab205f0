-- What slots mean, whatever they hold.
use Rattle.std.specs.Prelude.{ℕ, List, Option, is_none, count_by, take, flat_map, option_to_list}
use Rattle.store.specs.Maps.{in_order}
use Rattle.store.specs.Meaning.{Meaning}

-- the entries in the order of their keys, and a place for each free slot
abbrev pub slots_mean : {K V : Type 0} → (K → ℕ) → List (Option (K × V)) → Meaning K V
slots_mean rank s = record { entries = in_order rank (flat_map option_to_list s); floor = 0; places = count_by is_none s }

-- what a table of at most so many places means: slots beyond these are never used
abbrev pub table_means : {K V : Type 0} → (K → ℕ) → ℕ → List (Option (K × V)) → Meaning K V
table_means rank most s = slots_mean rank (take most s)
