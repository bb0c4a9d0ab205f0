-- The bound of an advance's hashes, and the laws of joining and raising.
use Rattle.std.specs.Prelude.{◌≡◌, ℕ, ◌^◌, ◌<◌, ◌≤◌, max}
use Rattle.ratchet.specs.Cost.{cost}

-- within the indices an advance costs at most 1,026 hashes
abbrev pub AdvanceCost : Type 0
AdvanceCost = (c t : ℕ) → c ≤ t → t < 2 ^ 32 → cost c t ≤ 1026

pub record JoinLaws {V : Type 0} (join : V → V → V) : Type 0 where
  pub assoc : (a b c : V) → join (join a b) c ≡ join a (join b c)
  pub comm : (a b : V) → join a b ≡ join b a
  pub idem : (a : V) → join a a ≡ a

pub record RaiseLaws {V : Type 0} (join : V → V → V) (raise : ℕ → V → V) : Type 0 where
  -- at floor 0 nothing is raised
  pub none : (a : V) → raise 0 a ≡ a
  -- raising twice is raising to the higher floor
  pub twice : (f g : ℕ) (a : V) → raise f (raise g a) ≡ raise (max f g) a
  -- what is raised already may be joined before the other is raised, or after
  pub under : (f : ℕ) (a b : V) → raise f (join a (raise f b)) ≡ join (raise f a) (raise f b)
