-- Holdings and sightings keep the laws of values.
use Rattle.std.specs.Prelude.{◌≡◌, refl}
use Rattle.std.proofs.Common.{arith}
use Rattle.std.proofs.lemmas.Bool.Decides.{nat_tests}
use Rattle.ratchet.specs.Suite.{Meaning, Lawful}
use Rattle.ratchet.specs.Join.{join, raised}
use Rattle.ratchet.proofs.Joins.{join_laws_lem}
use Rattle.ratchet.proofs.Raises.{raise_laws_lem}
use Rattle.store.specs.declared.sighting.Sighting.{Sighting}
use Rattle.store.specs.declared.sighting.Sighting.TheVariants.{Event, Repeated}
use Rattle.store.specs.Laws.{ValueLaws}
use Rattle.store.specs.Sightings.{join_sightings, unraised}

pub holding_laws : {P : Type 0} (m : Meaning P) → Lawful m → ValueLaws (join m) (raised m)
holding_laws m l = record { joins = join_laws_lem m l; raises = raise_laws_lem m l }

assoc : (a b c : Sighting) → join_sightings (join_sightings a b) c ≡ join_sightings a (join_sightings b c)
assoc (Event a) (Event b) (Event c) = grind (arith, nat_tests)
assoc (Event a) (Event b) Repeated = grind (arith, nat_tests)
assoc (Event a) Repeated c = refl
assoc Repeated b c = refl

comm : (a b : Sighting) → join_sightings a b ≡ join_sightings b a
comm (Event a) (Event b) = grind (arith, nat_tests)
comm (Event a) Repeated = refl
comm Repeated (Event b) = refl
comm Repeated Repeated = refl

idem : (a : Sighting) → join_sightings a a ≡ a
idem (Event a) = grind (arith, nat_tests)
idem Repeated = refl

pub sighting_laws : ValueLaws join_sightings unraised
sighting_laws = record {
  joins = record { assoc = assoc; comm = comm; idem = idem };
  raises = record { none = λ a. refl; twice = λ f g a. refl; under = λ f a b. refl };
}
