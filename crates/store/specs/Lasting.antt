-- What lasts from call to call.
use Rattle.std.specs.Prelude.{◌≡◌, refl}
use Rattle.std.proofs.Common.{◌∙◌}

pub record Steady {S : Type 0} (kept : S → S → Type 0) : Type 0 where
  pub start : (x : S) → kept x x
  pub on : (x y z : S) → kept x y → kept y z → kept x z

-- what stays equal lasts
pub by_same : {S N : Type 0} (f : S → N) → Steady (λ x y. f y ≡ f x)
by_same f = record { start = λ x. refl; on = λ x y z p q. q ∙ p }

-- what lasts below lasts above
pub by_part : {S B : Type 0} (b : S → B) {kept : B → B → Type 0} → Steady kept → Steady (λ x y. kept (b x) (b y))
by_part b l = record { start = λ x. l.start (b x); on = λ x y z p q. l.on (b x) (b y) (b z) p q }

-- and both together last
pub by_both : {S : Type 0} {kept also : S → S → Type 0} → Steady kept → Steady also → Steady (λ x y. kept x y × also x y)
by_both k l = record { start = λ x. (k.start x, l.start x); on = λ x y z p q. (k.on x y z p.0 q.0, l.on x y z p.1 q.1) }
