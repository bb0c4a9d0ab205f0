-- The worked figures as one table, and that all of it holds.
use Rattle.std.specs.Prelude.{◌≡◌, ℕ, ◌-◌, ◌^◌, Bool, true, ◌&&◌, List, [], ◌∷◌, ◌++◌, Ok, Err}
use Rattle.ratchet.specs.declared.copies.Holding.TheVariants.{Held, Disputed}
use Rattle.ratchet.specs.Ratchet.{steps}
use Rattle.store.specs.declared.sighting.Sighting.TheVariants.{Event, Repeated}
use Rattle.bench_suite.specs.Bench.{bench}
use Rattle.figures.specs.Rows.{Row, advance, one_step, in_groups, seals, opens, held, sighted, copy, holds}

-- the text "up"
abbrev pub up : List ℕ
up = 0x75 ∷ 0x70 ∷ []

-- its message, with the index and the last byte given
abbrev pub up_message : List ℕ → ℕ → List ℕ
up_message index last = (0x43 ∷ 0x08 ∷ index) ++ (0x12 ∷ 0x02 ∷ 0x75 ∷ 0x70 ∷ 0x00 ∷ 0x00 ∷ 0x00 ∷ 0x10 ∷ 0xD0 ∷ 0x09 ∷ 0x17 ∷ last ∷ [])

abbrev pub table : List Row
table = advance 0 300 (Ok 46)
    ∷ advance 255 256 (Ok 2)
    ∷ advance 65535 65536 (Ok 3)
    ∷ advance 0 (2 ^ 32 - 1) (Ok 1026)
    ∷ advance 0x105 0x202 (Ok 4)
    ∷ advance 7 7 (Ok 0)
    ∷ advance 8 7 (Err 21)
    ∷ one_step 0x9E3779B97F4A7C16
    ∷ seals up (up_message (0x00 ∷ []) 0x10)
    ∷ opens (up_message (0x00 ∷ []) 0x10) (Ok up)
    ∷ opens (up_message (0x00 ∷ []) 0x11) (Err 14)
    ∷ in_groups 300 (0xAC ∷ 0x02 ∷ [])
    ∷ opens (up_message (0x80 ∷ 0x00 ∷ []) 0x10) (Err 8)
    -- an agreeing copy at 0 after one at 5
    ∷ held (Held (steps bench.hash 5 (copy 0 0)) ∷ Held (copy 0 0) ∷ []) (Held (copy 0 0))
    -- zero parts and then R3 = 1 at one index, and the zeros once more
    ∷ held (Held (copy 0 0) ∷ Held (copy 0 1) ∷ []) Disputed
    ∷ held (Held (copy 0 0) ∷ Held (copy 0 1) ∷ Held (copy 0 0) ∷ []) Disputed
    ∷ sighted (Event 7 ∷ Event 7 ∷ []) (Event 7)
    ∷ sighted (Event 7 ∷ Event 7 ∷ Event 9 ∷ []) Repeated
    ∷ []

abbrev pub every : {A : Type 0} → (A → Bool) → List A → Bool
every test [] = true
every test (x ∷ xs) = test x && every test xs

abbrev pub FiguresHold : Type 0
FiguresHold = every holds table ≡ true
