-- Two equal events join to the event, all else to the mark of a repeat; a floor leaves a sighting as it is.
use Rattle.std.specs.Prelude.{ℕ, cond, ◌==◌}
use Rattle.store.specs.declared.sighting.Sighting.{Sighting}
use Rattle.store.specs.declared.sighting.Sighting.TheVariants.{Event, Repeated}

abbrev pub join_sightings : Sighting → Sighting → Sighting
join_sightings (Event a) (Event b) = cond (a == b) (Event a) Repeated
join_sightings (Event a) Repeated = Repeated
join_sightings Repeated s = Repeated

abbrev pub unraised : ℕ → Sighting → Sighting
unraised f s = s
