-- How many hashes an advance takes.
use Rattle.std.specs.Prelude.{ℕ, ◌+◌, ◌-◌, ◌*◌, ◌/◌, cond, ◌==◌}

-- how many multiples of u lie above c and not above t
abbrev pub count : ℕ → ℕ → ℕ → ℕ
count u c t = t / u - c / u

-- the index reached once the part with this unit has moved, if it moves
abbrev pub reach : ℕ → ℕ → ℕ → ℕ
reach u c t = cond (count u c t == 0) c (u * (t / u))

-- s - 1 hashes of the part itself, and one for each of the k parts from it on; none if it does not move
abbrev pub price : ℕ → ℕ → ℕ
price k s = cond (s == 0) 0 (s - 1 + k)

-- the hashes of an advance from the index c to t: the sum over the parts that move
abbrev pub cost : ℕ → ℕ → ℕ
cost c t =
    let c1 = reach 16777216 c t in
    let c2 = reach 65536 c1 t in
    let c3 = reach 256 c2 t in
    price 4 (count 16777216 c t) + price 3 (count 65536 c1 t) + price 2 (count 256 c2 t) + price 1 (count 1 c3 t)
