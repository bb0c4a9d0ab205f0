-- What is sealed opens.
use Rattle.std.specs.Prelude.{◌≡◌, ℕ, ◌^◌, ◌<◌, ◌≤◌, List, length, Some, Ok}
use Rattle.std.specs.List.{AllByRecursion}
use Rattle.ratchet.specs.declared.copies.SessionCopy.{SessionCopy}
use Rattle.ratchet.specs.declared.copies.Holding.TheVariants.{Held}
use Rattle.ratchet.specs.Bytes.{Byte}
use Rattle.ratchet.specs.Cost.{cost}
use Rattle.ratchet.specs.Ratchet.{steps}
use Rattle.ratchet.specs.Suite.{Meaning}
use Rattle.message.specs.Seal.{sealed}
use Rattle.opening.specs.Open.{unsealed}

-- a text sealed k steps after the start opens by the copy of any step i up to k, at the cost of the one advance
abbrev pub Opens : {P : Type 0} → Meaning P → Type 0
Opens {P} m =
    (start : SessionCopy P) (i k : ℕ) (text : List ℕ) → start.index ≡ 0 → i ≤ k → k < 2 ^ 32 → length text ≤ 4096 → AllByRecursion Byte text
    → unsealed m (Some (Held (steps m.hash i start))) (sealed m (steps m.hash k start) text) ≡ Ok (record { text = text; index = k; hashes = cost i k })
