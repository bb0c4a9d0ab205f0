-- The bench suite keeps the laws of a suite.
use Rattle.std.specs.Prelude.{◌≡◌, ◌%◌, ◌^◌, length, Some, fold, refl}
use Rattle.std.proofs.Common.{ap, ◌∙◌, mod-eq_of_lt, arith}
use Rattle.std.proofs.lemmas.Int.Digits.{number_lt}
use Rattle.std.proofs.lemmas.Bool.{eqb-true, eq-eqb, leb-true, le-leb}
use Rattle.ratchet.specs.Bytes.{be}
use Rattle.ratchet.specs.Suite.{Lawful}
use Rattle.ratchet.proofs.Bytes.{length_be, under_be, number_be, be_number}
use Rattle.bench_suite.specs.Bench.{mixed, start, bench}
use Rattle.bench_suite.specs.Words.{word_path}

some_inj : {X : Type 0} (x y : X) → Some x ≡ Some y → x ≡ y
some_inj x y e = cc

pub bench_lawful : Lawful bench
bench_lawful = record {
  wide = (omega arith, omega arith);
  formats = (omega arith, omega arith, omega arith);
  sameness = λ p q. (λ e. word_path p q (eqb-true _ _ e), λ e. eq-eqb _ _ (ap (λ x. x.value) e));
  encoded = λ p. (length_be 8 p.value, under_be 8 p.value);
  back = λ p. word_path _ p (ap (λ n. n % 2 ^ 64) (number_be 8 p.value ∙ mod-eq_of_lt p.fits) ∙ mod-eq_of_lt p.fits);
  forth = λ bs l u. ap (be 8) (mod-eq_of_lt (rw l at (number_lt 256 bs u))) ∙ be_number 8 bs l u;
  deciphers = λ k text h b. refl;
  lengths = λ k text h. (le-leb _ _ h, omega arith);
  texts = λ k bs text a h e. let l = leb-true (length bs) 4096 a in omega (arith, ap length (some_inj bs text e));
  tagged = λ k bs. length_be 8 (fold mixed (start k) bs);
}
