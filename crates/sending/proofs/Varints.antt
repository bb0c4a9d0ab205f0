-- A varint by its first group.
use Rattle.std.proofs.Common.{◌≡◌, ℕ, zero, suc, ◌+◌, ◌/◌, ◌%◌, ◌^◌, ◌<◌, ◌≤◌, [], ◌∷◌, sym, ap, ◌∙◌, inl, inr, arith}
use Rattle.std.proofs.lemmas.Bool.{cases_lt}
use Rattle.message.specs.Varint.{groups, varint}
use Rattle.message.proofs.Varints.{groups_last, groups_more, power}

-- where n + 1 groups serve, one more changes nothing
one_more : (n v : ℕ) → v < 128 ^ (n + 1) → groups (suc n) v ≡ groups n v
one_more zero v h = groups_last 1 v (omega arith) ∙ sym (groups_last 0 v (omega arith))
one_more (suc n) v h =
    elim (cases_lt v 128) [
      | inl low ↦ groups_last (suc (suc n)) v low ∙ sym (groups_last (suc n) v low)
      | inr high ↦ (let e = power n in
          groups_more (suc n) v high ∙ ap (λ xs. (v % 128 + 128) ∷ xs) (one_more n (v / 128) (omega arith)) ∙ sym (groups_more n v high))
    ]

pub varint_last : (v : ℕ) → v < 128 → varint v ≡ v ∷ []
varint_last v h = groups_last 4 v h

pub varint_more : (v : ℕ) → 128 ≤ v → v < 2 ^ 32 → varint v ≡ (v % 128 + 128) ∷ varint (v / 128)
varint_more v h small = groups_more 3 v h ∙ ap (λ xs. (v % 128 + 128) ∷ xs) (sym (one_more 3 (v / 128) (omega arith)))
