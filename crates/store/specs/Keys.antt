-- A spot as a number: spots are ordered by their session, and then by the index.
use Rattle.std.specs.Prelude.{ℕ, ◌+◌, ◌*◌, ◌^◌}
use Rattle.ratchet.specs.Ids.{id_number}
use Rattle.store.specs.declared.spot.Spot.{Spot}

abbrev pub spot_number : Spot → ℕ
spot_number p = id_number p.id * 2 ^ 32 + p.index
