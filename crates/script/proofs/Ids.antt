-- An id that is read from bytes has these bytes, and bytes as many as an id's are read.
use Rattle.std.proofs.Common.{◌≡◌, Bool, true, false, cond, eqb, List, ℕ, ◌≢◌, length, Ok, Err, Result, sym, refl, ap, ◌∙◌, arith, MatchResult}
use Rattle.std.proofs.lemmas.Bool.{eqb-true, eq-eqb, cond-true}
use Rattle.std.specs.List.{AllByRecursion}
use Rattle.std.specs.Result.{IsErrAnd}
use Rattle.ratchet.specs.declared.ids.Id.{Id}
use Rattle.ratchet.specs.Bytes.{Byte}
use Rattle.ratchet.specs.Ids.{id_bytes, id_of}
use Rattle.copy_bytes.specs.declared.named.CopyFault.{CopyFault}
use Rattle.copy_bytes.specs.declared.named.CopyFault.TheVariants.{Length as WrongLength}
use Rattle.copy_bytes.specs.CopyBytes.{read_id}
use Rattle.copy_bytes.proofs.Ids.{id_forth, length_id}
use Rattle.script.specs.Words.{hex_word}
use Rattle.script.proofs.Hex.{length_hex_word}

id_bytes_of : (bs : List ℕ) (t : Bool) (k : Id) → eqb (length bs) 32 ≡ t → AllByRecursion Byte bs → Ok k ≡ cond t (Ok (id_of bs)) (Err WrongLength) → bs ≡ id_bytes k
id_bytes_of bs true k e all h = let i : k ≡ id_of bs = cc in sym (ap id_bytes i ∙ id_forth bs (eqb-true (length bs) 32 e) all)
id_bytes_of bs false k e all h = let z : ◌≡◌ {A = ℕ} 0 1 = cc in absurd (omega arith)

pub written_id : {E : Type 0} (w bs : List ℕ) (r : Result Id CopyFault) (o : Result Id E) (P : CopyFault → E → Type 0) (bad : E) → (w ≡ hex_word bs) × AllByRecursion Byte bs → r ≡ read_id bs → MatchResult r (λ k. o ≡ Ok k) (λ e. IsErrAnd o (P e)) → MatchResult o (λ k. (w ≡ hex_word (id_bytes k)) × Unit {0}) (λ e. e ≡ bad → (k : Id) → Unit {0} → w ≢ hex_word (id_bytes k))
written_id w bs (Ok x) (Ok k) P bad t e h =
    let is : k ≡ x = cc in
    (t.0 ∙ ap hex_word (id_bytes_of bs (eqb (length bs) 32) k refl t.1 (ap Ok is ∙ e)), tt)
written_id w bs (Err f) (Ok k) P bad t e h = absurd h
written_id w bs (Ok x) (Err f) P bad t e h = cc
written_id w bs (Err x) (Err f) P bad t e h = λ _ k _ is.
    let long : length bs ≡ 32 = length_hex_word bs (id_bytes k) (sym t.0 ∙ is) ∙ length_id k in
    let z : Err x ≡ Ok (id_of bs) = e ∙ cond-true _ _ _ (eq-eqb (length bs) 32 long) in
    cc
