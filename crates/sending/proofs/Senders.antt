-- What a new sender keeps, and what it keeps as it seals.
use Rattle.std.proofs.Common.{◌≡◌, ℕ, ◌-◌, ◌*◌, ◌^◌, eqb, List, length, Some, None, Ok, Err, sym, ap, ◌∙◌, add-one}
use Rattle.std.specs.Option.{IfSome}
use Rattle.std.proofs.lemmas.Bool.{cond_both}
use Rattle.ratchet.specs.declared.copies.SessionCopy.{SessionCopy}
use Rattle.ratchet.specs.Suite.{Meaning, parts}
use Rattle.ratchet.specs.Ratchet.{step, steps}
use Rattle.ratchet.specs.Advance.{stepped}
use Rattle.copy_bytes.specs.declared.named.CopyFault.TheVariants.{Length}
use Rattle.copy_bytes.specs.CopyBytes.{copy_of, read_start}
use Rattle.sending.specs.Sender.{origin}

module _ {P : Type 0} (m : Meaning P) where
  pub start_origin : (bs : List ℕ) (c : SessionCopy P) → Ok c ≡ read_start m bs → c ≡ origin (parts c)
  unfolding copy_of
  start_origin bs c e =
      cond_both (eqb (length bs) (4 * m.width)) (Ok (copy_of m 0 0 bs)) (Err Length) (λ r. Ok c ≡ r → c ≡ origin (parts c))
      (λ _ h. let g : c ≡ copy_of m 0 0 bs = cc in g ∙ ap (λ x. origin (parts x)) (sym g)) (λ _ h. cc) e

  -- a single step goes on along the start's steps
  pub next_kept : (start c : SessionCopy P) → c ≡ steps m.hash c.index start → IfSome (stepped m.hash c) (λ n. n ≡ steps m.hash n.index start)
  next_kept start c k =
      cond_both (eqb c.index (2 ^ 32 - 1)) None (Some (step m.hash c)) (λ o. IfSome o (λ n. n ≡ steps m.hash n.index start)) (λ _. tt)
      (λ _. ap (step m.hash) k ∙ ap (λ j. steps m.hash j start) (sym (add-one c.index)))
