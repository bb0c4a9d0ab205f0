-- What is read of a message was laid out so.
use Rattle.std.proofs.Common.{◌≡◌, ℕ, suc, ◌+◌, ◌-◌, ◌^◌, ◌<◌, ◌≤◌, true, eqb, List, [], ◌∷◌, ◌++◌, length, take, drop, Some, None, Option, Ok, sym, refl, ap, subst, add-one, ◌∙◌, arith}
use Rattle.std.proofs.lemmas.Bool.{eqb-true}
use Rattle.std.proofs.lemmas.Bool.Decides.{nat_tests}
use Rattle.std.proofs.lemmas.List.{length-append, take-append-drop, length-take-le, length-drop}
use Rattle.std.proofs.Math.Seq.{take-add}
use Rattle.std.specs.List.{AllByRecursion}
use Rattle.std.specs.Result.{result_map_both}
use Rattle.std.proofs.ByRecursion.{All-drop}
use Rattle.ratchet.specs.Bytes.{Byte}
use Rattle.ratchet.specs.Suite.{Meaning}
use Rattle.ratchet.proofs.Choices.{passed, checked}
use Rattle.message.specs.declared.frame.FrameFault.TheVariants.{Start, Cipher, Length}
use Rattle.message.specs.Varint.{varint, read_varint}
use Rattle.message.specs.Frame.{head, body, Framed, parted, keyed, starts, sized, cipher_at, indexed, framed, place_of, FrameLaw, LaysOut, FrameLaws}
use Rattle.message.proofs.Frames.{read_back, read_as_laid, message_size}
use Rattle.message.proofs.Varints.{varint_laws_lem}

keyed_read : (key : ℕ) (bs : List ℕ) (v k : ℕ) → AllByRecursion Byte bs → keyed key bs ≡ Some (v, k) → (take (suc k) bs ≡ key ∷ varint v) × (v < 2 ^ 32)
keyed_read key [] v k bytes h = cc
keyed_read key (b ∷ bs) v k bytes h =
    let t = passed (eqb b key) (read_varint bs) None (Some (v, k)) (λ e. cc) h in
    let w = varint_laws_lem.forth bs v k bytes.1 t.1 in
    (λ i. eqb-true b key t.0 i ∷ w.0 i, w.1)

module _ {P : Type 0} (m : Meaning P) (bs : List ℕ) (f : Framed) where
  -- a cipher of n bytes whose length takes k bytes stands behind the first `at`
  record Sized (index at n k : ℕ) : Type 0 where
    long : length bs ≡ at + 1 + k + n + 8
    allowed : m.allowed n ≡ true
    parts : parted bs index (at + 1 + k) n ≡ f

  sized_read : (index at : ℕ) (o : Option (ℕ × ℕ)) → sized m bs index at o ≡ Ok f → (n : ℕ) × (k : ℕ) × (o ≡ Some (n, k)) × Sized index at n k
  sized_read index at None h = cc
  sized_read index at (Some (n, k)) h =
      let t = checked _ _ Cipher f h in
      let u = checked _ _ Length f t.1 in
      (n, k, refl, record { long = eqb-true _ _ t.0; allowed = u.0; parts = cc })

  indexed_read : (o : Option (ℕ × ℕ)) → indexed m bs o ≡ Ok f → (index : ℕ) × (k : ℕ) × (o ≡ Some (index, k)) × (cipher_at m bs index (2 + k) ≡ Ok f)
  indexed_read None h = cc
  indexed_read (Some (index, k)) h = (index, k, refl, h)

-- the head stands in front, and all else where it ends
module _ {P : Type 0} (m : Meaning P) (bs : List ℕ) (index n from : ℕ) where
  parted_so : take from bs ≡ head m index n → length bs ≡ from + n + 8 → index < 2 ^ 32 → m.allowed n ≡ true → length bs ≤ 4130 → LaysOut m bs (parted bs index from n)
  parted_so front long small allowed short =
      let size : length (take n (drop from bs)) ≡ n = length-take-le n (drop from bs) (omega (arith, length-drop from bs)) in
      let tagged : body m index (take n (drop from bs)) ≡ take (from + n) bs =
      ap (λ (j : ℕ). head m index j ++ take n (drop from bs)) size ∙ ap (λ xs. xs ++ take n (drop from bs)) (sym front) ∙ sym (take-add from n bs) in
      record {
        whole = ap (λ xs. xs ++ drop (from + n) bs) tagged ∙ take-append-drop (from + n) bs;
        tagged = tagged;
        small = small;
        allowed = rw size allowed;
        tag_size = omega (arith, length-drop (from + n) bs);
        short = short;
      }

-- the two pieces of a head
joined : {P : Type 0} (m : Meaning P) (b index n k l : ℕ) (rest : List ℕ) → b ≡ m.message_byte → take (suc k) rest ≡ 8 ∷ varint index
    → take (suc l) (drop (2 + k) (b ∷ rest)) ≡ 18 ∷ varint n → take (2 + k + 1 + l) (b ∷ rest) ≡ head m index n
unfolding head
joined m b index n k l rest is one two =
    let sum : 2 + k + 1 + l ≡ 2 + k + suc l = omega (arith, add-one l) in
    let two-more : 2 + k ≡ suc (suc k) = omega (arith, add-one k, add-one (suc k)) in
    let front : take (2 + k) (b ∷ rest) ≡ m.message_byte ∷ (8 ∷ varint index) =
    ap (λ (j : ℕ). take j (b ∷ rest)) two-more ∙ (λ i. is i ∷ one i) in
    ap (λ (j : ℕ). take j (b ∷ rest)) sum ∙ take-add (2 + k) (suc l) (b ∷ rest) ∙ ap (λ xs. xs ++ take (suc l) (drop (2 + k) (b ∷ rest))) front ∙ ap (λ xs. (m.message_byte ∷ (8 ∷ varint index)) ++ xs) two

read_laid : {P : Type 0} (m : Meaning P) (bs : List ℕ) (f : Framed) → AllByRecursion Byte bs → framed m bs ≡ Ok f → LaysOut m bs f
unfolding framed
read_laid m [] f bytes h = cc
read_laid m (b ∷ rest) f bytes h =
    let bs = b ∷ rest in
    let (so, after) = checked (starts m bs) (indexed m bs (keyed 8 rest)) Start f h in
    let is : b ≡ m.message_byte = grind (arith, nat_tests) in
    let short : length bs ≤ 4130 = grind (arith, nat_tests) in
    let (index, k, i, at) = indexed_read m bs f (keyed 8 rest) after in
    let one = keyed_read 8 rest index k bytes.1 i in
    let (n, l, j, z) = sized_read m bs f index (2 + k) (keyed 18 (drop (2 + k) bs)) at in
    let two = keyed_read 18 (drop (2 + k) bs) n l (All-drop Byte (2 + k) bs bytes) j in
    subst (LaysOut m bs) {x = parted bs index (2 + k + 1 + l) n} z.parts
    (parted_so m bs index n (2 + k + 1 + l) (joined m b index n k l rest is one.0 two.0) z.long one.1 z.allowed short)

pub cipher_in_body : {P : Type 0} (m : Meaning P) (bs : List ℕ) (f : Framed) → framed m bs ≡ Ok f → length f.cipher ≤ length f.body
unfolding framed
cipher_in_body m bs f h =
    let (so, after) = checked (starts m bs) (indexed m bs (keyed 8 (drop 1 bs))) Start f h in
    let (index, k, i, at) = indexed_read m bs f (keyed 8 (drop 1 bs)) after in
    let (n, l, j, z) = sized_read m bs f index (2 + k) (keyed 18 (drop (2 + k) bs)) at in
    let from = 2 + k + 1 + l in
    let cipher = length-take-le n (drop from bs) (omega (arith, length-drop from bs, z.long)) in
    let body = length-take-le (from + n) bs (omega (arith, z.long)) in
    subst (λ (g : Framed). length g.cipher ≤ length g.body) {x = parted bs index from n} z.parts (omega arith)

-- a body without its cipher is a head
place_law : {P : Type 0} (m : Meaning P) → FrameLaw m
place_law m index cipher tag small allowed short eight =
    let from : length (body m index cipher) - length cipher ≡ length (head m index (length cipher)) = omega (arith, length-append (head m index (length cipher)) cipher) in
    ap (result_map_both place_of (λ e. e)) (read_back m index cipher tag small allowed eight (message_size m index cipher tag small short eight))
    ∙ ap (λ (j : ℕ). Ok (record { index = index; from = j; size = length cipher })) from

pub frame_laws_lem : {P : Type 0} (m : Meaning P) → FrameLaws m
frame_laws_lem m = record { back = read_as_laid m; forth = read_laid m; place = place_law m }
