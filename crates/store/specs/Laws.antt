-- What joining and raising the values of a store must keep.
use Rattle.std.specs.Prelude.{ℕ}
use Rattle.ratchet.specs.Laws.{JoinLaws, RaiseLaws}

pub record ValueLaws {V : Type 0} (join : V → V → V) (raise : ℕ → V → V) : Type 0 where
  pub joins : JoinLaws join
  pub raises : RaiseLaws join raise
