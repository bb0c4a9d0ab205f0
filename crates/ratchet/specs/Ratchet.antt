-- The ratchet: what a single step and many single steps do to a copy.
use Rattle.std.specs.Prelude.{ℕ, zero, suc, ◌+◌, ◌%◌, cond, ◌==◌}
use Rattle.ratchet.specs.declared.copies.SessionCopy.{SessionCopy}
use Rattle.ratchet.specs.declared.copies.Level.{Level}
use Rattle.ratchet.specs.declared.copies.Level.TheVariants.{L0, L1, L2, L3}

-- how many indices lie between two steps that hash the part of this level
abbrev pub unit : Level → ℕ
unit L0 = 16777216
unit L1 = 65536
unit L2 = 256
unit L3 = 1

-- the part that the step to the index n hashes
abbrev pub level : ℕ → Level
level n = cond (n % 16777216 == 0) L0 (cond (n % 65536 == 0) L1 (cond (n % 256 == 0) L2 L3))

abbrev pub part : {P : Type 0} → Level → SessionCopy P → P
part L0 c = c.r0
part L1 c = c.r1
part L2 c = c.r2
part L3 c = c.r3

-- each part from the level on becomes its own hash of p; the others stay
abbrev pub spread : {P : Type 0} → (Level → P → P) → Level → P → SessionCopy P → SessionCopy P
spread H L0 p c = record { index = c.index; r0 = H L0 p; r1 = H L1 p; r2 = H L2 p; r3 = H L3 p }
spread H L1 p c = record { index = c.index; r0 = c.r0; r1 = H L1 p; r2 = H L2 p; r3 = H L3 p }
spread H L2 p c = record { index = c.index; r0 = c.r0; r1 = c.r1; r2 = H L2 p; r3 = H L3 p }
spread H L3 p c = record { index = c.index; r0 = c.r0; r1 = c.r1; r2 = c.r2; r3 = H L3 p }

abbrev pub at : {P : Type 0} → ℕ → SessionCopy P → SessionCopy P
at n c = record { index = n; r0 = c.r0; r1 = c.r1; r2 = c.r2; r3 = c.r3 }

-- every new part is a hash of the old part of the level
abbrev pub reseed : {P : Type 0} → (Level → P → P) → Level → SessionCopy P → SessionCopy P
reseed H j c = spread H j (part j c) c

-- a single step raises the index by one
abbrev pub step : {P : Type 0} → (Level → P → P) → SessionCopy P → SessionCopy P
step H c = at (c.index + 1) (reseed H (level (c.index + 1)) c)

abbrev pub rep : {X : Type 0} → (X → X) → ℕ → X → X
rep f zero x = x
rep f (suc n) x = f (rep f n x)

-- n single steps
abbrev pub steps : {P : Type 0} → (Level → P → P) → ℕ → SessionCopy P → SessionCopy P
steps H n c = rep (step H) n c
