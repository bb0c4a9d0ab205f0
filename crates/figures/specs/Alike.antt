-- Whether two answers are alike.
use Rattle.std.specs.Prelude.{ℕ, Bool, true, false, Some, None, Ok, Err, Option, Result, ◌==◌}
use Rattle.ratchet.specs.declared.copies.Holding.{Holding}
use Rattle.ratchet.specs.declared.copies.Holding.TheVariants.{Held, Disputed}
use Rattle.ratchet.specs.Join.{equal}
use Rattle.store.specs.declared.sighting.Sighting.{Sighting}
use Rattle.store.specs.declared.sighting.Sighting.TheVariants.{Event, Repeated}
use Rattle.bench_suite.specs.declared.word.Word.{Word}
use Rattle.bench_suite.specs.Bench.{bench}

-- what a call answers, or the number of its refusal
abbrev pub same_result : {A : Type 0} → (A → A → Bool) → Result A ℕ → Result A ℕ → Bool
same_result same (Ok a) (Ok b) = same a b
same_result same (Err x) (Err y) = x == y
same_result same (Ok a) (Err y) = false
same_result same (Err x) (Ok b) = false

abbrev pub same_holding : Holding Word → Holding Word → Bool
same_holding (Held a) (Held b) = equal bench a b
same_holding Disputed Disputed = true
same_holding (Held a) Disputed = false
same_holding Disputed (Held b) = false

abbrev pub same_sighting : Sighting → Sighting → Bool
same_sighting (Event a) (Event b) = a == b
same_sighting Repeated Repeated = true
same_sighting (Event a) Repeated = false
same_sighting Repeated (Event b) = false

-- there is one, and it passes the test
abbrev pub some_passes : {A : Type 0} → (A → Bool) → Option A → Bool
some_passes test (Some x) = test x
some_passes test None = false
