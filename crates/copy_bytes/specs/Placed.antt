-- Bytes written at a place of an output, for the contracts of the private functions that write piece by piece.
use Rattle.std.specs.Prelude.{◌≡◌, ℕ, ◌+◌, ◌≤◌, List, ◌++◌, length, take, drop}
use Rattle.copy_bytes.specs.declared.placing.Pen.{Pen}

-- what lies before the place, and what lies behind the bytes, stays
abbrev pub placed : ℕ → List ℕ → List ℕ → List ℕ
placed at xs old = take at old ++ (xs ++ drop (at + length xs) old)

-- from the place on, up to the next one, an output holds xs; else it is as it was
pub record Put (at : ℕ) (xs old : List ℕ) (next : ℕ) (new : List ℕ) : Type 0 where
  pub within : next ≤ length old
  pub size : next ≡ at + length xs
  pub holds : new ≡ placed at xs old

-- a pen has written xs: in the same output, from its place on
pub record Wrote (p : Pen) (xs : List ℕ) (q : Pen) : Type 0 where
  pub same : q.out.ghost_name ≡ p.out.ghost_name
  pub put : Put p.at xs p.out.now q.at q.out.now
