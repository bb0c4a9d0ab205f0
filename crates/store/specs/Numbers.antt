-- The numbers of refusals.
use Rattle.std.specs.Prelude.{ℕ}
use Rattle.store.specs.declared.refusal.StoreRefusal.{StoreRefusal}
use Rattle.store.specs.declared.refusal.StoreRefusal.TheVariants.{NoPlace}

abbrev pub store_number : StoreRefusal → ℕ
store_number NoPlace = 3
