-- How many slots a table uses at most.
use Rattle.std.specs.Prelude.{ℕ}

-- places of a slot store, one for each session
abbrev pub most_sessions : ℕ
most_sessions = 4096

-- places of a table of sightings, one for each message seen
abbrev pub most_sightings : ℕ
most_sightings = 65536
