-- One level of an advance, for the contracts of the private functions that walk the four levels.
use Rattle.std.specs.Prelude.{ℕ, ◌-◌, ◌*◌, ◌/◌, cond, ◌==◌}
use Rattle.ratchet.specs.declared.copies.SessionCopy.{SessionCopy}
use Rattle.ratchet.specs.declared.copies.Level.{Level}
use Rattle.ratchet.specs.declared.copies.Level.TheVariants.{L0, L1, L2, L3}
use Rattle.ratchet.specs.Ratchet.{unit, part, spread, at, rep}
use Rattle.ratchet.specs.Cost.{count}

-- the level's part is hashed, and spread over the parts from the level on
unfoldable pub passed : {P : Type 0} → (Level → P → P) → Level → ℕ → SessionCopy P → SessionCopy P
passed H j t c =
    cond (count (unit j) c.index t == 0) c
    (at (unit j * (t / unit j)) (spread H j (rep (H j) (count (unit j) c.index t - 1) (part j c)) c))

-- how many parts a level spreads over
abbrev pub span : Level → ℕ
span L0 = 4
span L1 = 3
span L2 = 2
span L3 = 1
