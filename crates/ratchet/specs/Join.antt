-- When two copies agree, what joining two holdings gives, and what raising one to a floor gives.
use Rattle.std.specs.Prelude.{ℕ, ◌-◌, Bool, cond, ◌&&◌, ◌||◌, ◌==◌, nat_le}
use Rattle.ratchet.specs.declared.copies.SessionCopy.{SessionCopy}
use Rattle.ratchet.specs.declared.copies.Holding.{Holding}
use Rattle.ratchet.specs.declared.copies.Holding.TheVariants.{Held, Disputed}
use Rattle.ratchet.specs.Suite.{Meaning}
use Rattle.ratchet.specs.Ratchet.{steps}

abbrev pub equal : {P : Type 0} → Meaning P → SessionCopy P → SessionCopy P → Bool
equal m a b = a.index == b.index && (m.same a.r0 b.r0 && (m.same a.r1 b.r1 && (m.same a.r2 b.r2 && m.same a.r3 b.r3)))

-- a's index is not above b's, and a, stepped singly to it, equals b
abbrev pub reaches : {P : Type 0} → Meaning P → SessionCopy P → SessionCopy P → Bool
reaches m a b = nat_le a.index b.index && equal m (steps m.hash (b.index - a.index) a) b

-- the lower, stepped singly to the index of the higher, equals it
abbrev pub agree : {P : Type 0} → Meaning P → SessionCopy P → SessionCopy P → Bool
agree m a b = reaches m a b || reaches m b a

abbrev pub lower : {P : Type 0} → SessionCopy P → SessionCopy P → SessionCopy P
lower a b = cond (nat_le a.index b.index) a b

-- two agreeing copies join to the lower, all else to the mark of a dispute
abbrev pub join : {P : Type 0} → Meaning P → Holding P → Holding P → Holding P
join m (Held a) (Held b) = cond (agree m a b) (Held (lower a b)) Disputed
join m (Held a) Disputed = Disputed
join m Disputed y = Disputed

-- a holding raised to a floor: a lower copy is stepped to it
abbrev pub raised : {P : Type 0} → Meaning P → ℕ → Holding P → Holding P
raised m f (Held c) = Held (steps m.hash (f - c.index) c)
raised m f Disputed = Disputed
