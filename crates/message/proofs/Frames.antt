-- A message is read as it was laid out.
use Rattle.std.proofs.Common.{◌≡◌, ℕ, ◌+◌, true, List, ◌∷◌, ◌++◌, ◌^◌, ◌<◌, ◌≤◌, length, take, drop, Ok, sym, refl, ap, subst, ◌∙◌, arith}
use Rattle.std.proofs.lemmas.List.{append_assoc, drop_at, length-append, take_at}
use Rattle.std.proofs.lemmas.Bool.{eq-eqb}
use Rattle.std.proofs.lemmas.Bool.Decides.{nat_tests}
use Rattle.ratchet.specs.Suite.{Meaning}
use Rattle.message.specs.Varint.{varint}
use Rattle.message.specs.Frame.{head, body, message_bytes, Framed, parted, starts, framed, LaysOut}
use Rattle.message.proofs.Varints.{groups_size, varint_laws_lem}

-- a message is cut where its parts were joined
cut : (xs cipher tag : List ℕ) (index from : ℕ) → length xs ≡ from
    → parted ((xs ++ cipher) ++ tag) index from (length cipher) ≡ record { index = index; body = xs ++ cipher; cipher = cipher; tag = tag }
cut xs cipher tag index from e =
    let end : length (xs ++ cipher) ≡ from + length cipher = simp length-append (omega arith) in
    let front = take_at (xs ++ cipher) tag (from + length cipher) end in
    let back = drop_at (xs ++ cipher) tag (from + length cipher) end in
    let middle : take (length cipher) (drop from ((xs ++ cipher) ++ tag)) ≡ cipher =
    ap (λ ys. take (length cipher) (drop from ys)) (append_assoc xs cipher tag) ∙ ap (take (length cipher)) (drop_at xs (cipher ++ tag) from e) ∙ take_at cipher tag _ refl in
    λ i. record { index = index; body = front i; cipher = middle i; tag = back i }

module _ {P : Type 0} (m : Meaning P) where
  pub read_back : (index : ℕ) (cipher tag : List ℕ) → index < 2 ^ 32 → m.allowed (length cipher) ≡ true → length tag ≡ 8 → length (message_bytes m index cipher tag) ≤ 4130
      → framed m (message_bytes m index cipher tag) ≡ Ok (record { index = index; body = body m index cipher; cipher = cipher; tag = tag })
  unfolding framed head
  read_back index cipher tag small allowed eight short =
      let n = length cipher in
      let k = length (varint index) in
      let l = length (varint n) in
      let xs = (m.message_byte ∷ (8 ∷ varint index)) ++ (18 ∷ varint n) in
      let rest = varint n ++ (cipher ++ tag) in
      let bs = m.message_byte ∷ (8 ∷ (varint index ++ (18 ∷ rest))) in
      let flat : (xs ++ cipher) ++ tag ≡ bs = simp append_assoc in
      let size : length bs ≡ 2 + k + 1 + l + n + 8 = simp length-append (omega arith) in
      let fits : length bs ≤ 4130 = subst (λ ys. length ys ≤ 4130) flat short in
      let from : length xs ≡ 2 + k + 1 + l = simp length-append (omega arith) in
      let behind : drop (2 + k) bs ≡ 18 ∷ rest = drop_at (m.message_byte ∷ (8 ∷ varint index)) (18 ∷ rest) (2 + k) (omega arith) in
      let starts-so : starts m bs ≡ true = grind (arith, nat_tests) in
      ap (framed m) flat ∙ rw (starts-so, varint_laws_lem.back index (18 ∷ rest) small, behind, varint_laws_lem.back n (cipher ++ tag) (omega arith), eq-eqb _ _ size, allowed)
      (ap (λ ys. Ok (parted ys index (2 + k + 1 + l) n)) (sym flat) ∙ ap Ok (cut xs cipher tag index (2 + k + 1 + l) from))

  pub read_as_laid : (bs : List ℕ) (f : Framed) → LaysOut m bs f → framed m bs ≡ Ok f
  read_as_laid bs f l =
      let short = subst (λ ys. length ys ≤ 4130) (sym l.whole) l.short in
      ap (framed m) (sym l.whole) ∙ read_back f.index f.cipher f.tag l.small l.allowed l.tag_size short ∙ ap (λ b. Ok (record { index = f.index; body = b; cipher = f.cipher; tag = f.tag })) l.tagged

  -- a head, a cipher of at most 4,112 bytes and a tag fit
  pub message_size : (index : ℕ) (cipher tag : List ℕ) → index < 2 ^ 32 → length cipher ≤ 4112 → length tag ≡ 8 → length (message_bytes m index cipher tag) ≤ 4130
  unfolding head
  message_size index cipher tag small short eight =
      let kb = groups_size 4 4 index (omega arith) in
      let lb = groups_size 4 1 (length cipher) (omega arith) in
      simp length-append (omega arith)
