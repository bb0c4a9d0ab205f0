-- How much is to be done: nothing once no archive is asked for, else what is left of the script.
use Rattle.std.proofs.Common.{◌≡◌, ℕ, suc, ◌<◌, IfSome, Some, None, Option, arith}

abbrev pub to_go : {X : Type 0} → Option X → ℕ → ℕ
to_go None n = 0
to_go (Some x) n = suc n

less : {X : Type 0} (o : Option X) (m n : ℕ) → IfSome o (λ _. m < n) → to_go o m < suc n
less None m n h = omega arith
less (Some x) m n h = omega arith

pub falls : {X : Type 0} (o p : Option X) (x : X) (m n : ℕ) → p ≡ Some x → IfSome o (λ _. m < n) → to_go o m < to_go p n
falls o p x m n e h = rw e (less o m n h)
