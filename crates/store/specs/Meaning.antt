-- What a store means, and what its calls make of that.
use Rattle.std.specs.Prelude.{ℕ, ◌-◌, Bool, cond, ◌||◌, List, [], is_some, Ok, Err, Option, Result, nat_lt}
use Rattle.store.specs.declared.refusal.StoreRefusal.{StoreRefusal}
use Rattle.store.specs.declared.refusal.StoreRefusal.TheVariants.{NoPlace}
use Rattle.store.specs.Maps.{Rising, found, beyond, put, first}

pub record Meaning (K V : Type 0) : Type 0 where
  pub entries : List (K × V)
  pub floor : ℕ
  -- how many keys more it can hold
  pub places : ℕ

-- a store at floor 0 that holds nothing
abbrev pub empty : {K V : Type 0} → ℕ → Meaning K V
empty n = record { entries = []; floor = 0; places = n }

-- accepted where there is room
abbrev pub answer : Bool → Result (Unit {0}) StoreRefusal
answer b = cond b (Ok tt) (Err NoPlace)

module _ {K V : Type 0} (rank : K → ℕ) where
  abbrev pub Ascends : Meaning K V → Type 0
  Ascends m = Rising rank 0 m.entries

  abbrev pub looked : Meaning K V → K → Option V
  looked m k = found rank m.entries k

  -- the entry of the lowest key above the given one, or of the lowest key
  abbrev pub nexted : Meaning K V → Option K → Option (K × V)
  nexted m o = first (beyond rank m.entries o)

  -- whether the key is held or a place is free
  abbrev pub room : Meaning K V → K → Bool
  room m k = is_some (looked m k) || nat_lt 0 m.places

  module _ (join : V → V → V) (raise : ℕ → V → V) where
    -- a new key uses one place; where there is no room, nothing changes
    abbrev pub taken : Meaning K V → K → V → Meaning K V
    taken m k v =
        cond (room m k)
        (record {
          entries = put rank join m.entries k (raise m.floor v);
          floor = m.floor;
          places = cond (is_some (looked m k)) m.places (m.places - 1);
        }) m
