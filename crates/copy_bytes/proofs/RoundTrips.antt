-- Copy bytes there and back, both ways.
use Rattle.std.proofs.Common.{◌≡◌, ℕ, ◌+◌, ◌*◌, ◌^◌, ◌<◌, ◌≤◌, true, List, [], ◌∷◌, ◌++◌, length, get_or, take, drop, Ok, Result, sym, refl, ap, ◌∙◌, append_assoc, mod-eq_of_lt, arith, length-append, length-drop, length-take, take_at, drop_at}
use Rattle.std.specs.Int.Digits.{number_from_digits}
use Rattle.std.specs.List.{AllByRecursion}
use Rattle.std.proofs.lemmas.Int.Digits.{number_lt}
use Rattle.std.proofs.ByRecursion.{All-take, All-drop}
use Rattle.std.proofs.lemmas.List.{append-nil, drop_more, drop_all}
use Rattle.std.proofs.lemmas.Bool.{cond-true, eq-eqb, eqb-true, or_left, or_right}
use Rattle.ratchet.specs.declared.copies.SessionCopy.{SessionCopy}
use Rattle.ratchet.specs.Bytes.{Byte, be}
use Rattle.ratchet.specs.Ids.{id_bytes, id_of}
use Rattle.ratchet.specs.Ratchet.{at}
use Rattle.ratchet.specs.Suite.{Meaning, Lawful}
use Rattle.ratchet.proofs.Bytes.{number_be, be_number}
use Rattle.copy_bytes.specs.declared.named.NamedCopy.{NamedCopy}
use Rattle.copy_bytes.specs.declared.named.Version.{Version}
use Rattle.copy_bytes.specs.declared.named.Version.TheVariants.{Share, Export}
use Rattle.copy_bytes.specs.declared.named.Accepted.{Accepted}
use Rattle.copy_bytes.specs.declared.named.Accepted.TheVariants.{ShareOrExport, Export as ExportAlone}
use Rattle.copy_bytes.specs.CopyBytes.{version_byte, accepts, part_bytes, copy_bytes, part_at, copy_of, named_of, read_copy, read_start}
use Rattle.copy_bytes.specs.Laws.{CopyLaws}
use Rattle.ratchet.proofs.Choices.{checked}
use Rattle.copy_bytes.proofs.CopyBytes.{length_parts, length_copy, bytes_copy}
use Rattle.copy_bytes.proofs.Ids.{id_back, id_forth, cut}

ok_is : {X E : Type 0} (x y : X) → ◌≡◌ {A = Result X E} (Ok x) (Ok y) → x ≡ y
ok_is x y h = cc

flat : (a b c d e : List ℕ) → (a ++ (b ++ (c ++ d))) ++ e ≡ a ++ (b ++ (c ++ (d ++ e)))
flat a b c d e = simp append_assoc

module _ {P : Type 0} (m : Meaning P) (laws : Lawful m) where
  abbrev w : ℕ
  w = m.width

  -- a part that stands behind k bytes
  part_back : (k : ℕ) (bs xs ys : List ℕ) (p : P) → bs ≡ xs ++ (m.encode p ++ ys) → length xs ≡ k → part_at m k bs ≡ p
  part_back k bs xs ys p e l =
      ap (part_at m k) e ∙ ap (λ zs. m.decode (take w zs)) (drop_at xs (m.encode p ++ ys) k l)
      ∙ ap m.decode (take_at (m.encode p) ys w (laws.encoded p).0) ∙ laws.back p

  copy_back : (i k : ℕ) (xs ys : List ℕ) (c : SessionCopy P) → length xs ≡ k → copy_of m i k (xs ++ (part_bytes m c ++ ys)) ≡ at i c
  unfolding copy_of part_bytes
  copy_back i k xs ys c l =
      let bs = xs ++ (part_bytes m c ++ ys) in
      let e0 = m.encode c.r0 in
      let e1 = m.encode c.r1 in
      let e2 = m.encode c.r2 in
      let e3 = m.encode c.r3 in
      let l0 = (laws.encoded c.r0).0 in
      let l1 = (laws.encoded c.r1).0 in
      let l2 = (laws.encoded c.r2).0 in
      let p0 = part_back k bs xs (e1 ++ (e2 ++ (e3 ++ ys))) c.r0 (simp append_assoc) l in
      let p1 = part_back (k + w) bs (xs ++ e0) (e2 ++ (e3 ++ ys)) c.r1 (simp append_assoc) (simp length-append (omega arith)) in
      let p2 = part_back (k + 2 * w) bs (xs ++ (e0 ++ e1)) (e3 ++ ys) c.r2 (simp append_assoc) (simp length-append (omega arith)) in
      let p3 = part_back (k + 3 * w) bs (xs ++ (e0 ++ (e1 ++ e2))) ys c.r3 (simp append_assoc) (simp length-append (omega arith)) in
      λ j. record { index = i; r0 = p0 j; r1 = p1 j; r2 = p2 j; r3 = p3 j }

  named_back : (v : Version) (n : NamedCopy P) → n.copy.index < 2 ^ 32 → named_of m (copy_bytes m v n) ≡ n
  unfolding named_of copy_bytes
  named_back v n small =
      let i = n.copy.index in
      let front = version_byte m v ∷ be 4 i in
      let ps = part_bytes m n.copy in
      let ks = id_bytes n.id in
      let index : number_from_digits 256 (be 4 i) ≡ i = number_be 4 i ∙ mod-eq_of_lt small in
      let copy = copy_back (number_from_digits 256 (be 4 i)) 5 front ks n.copy refl ∙ ap (λ k. at k n.copy) index in
      let long : length (front ++ ps) ≡ 5 + 4 * w = omega (arith, length_parts m laws n.copy) in
      let id = ap id_of (drop_at (front ++ ps) ks (5 + 4 * w) long) ∙ id_back n.id in
      λ j. record { id = id j; copy = copy j }

  first_byte : (v : Version) (n : NamedCopy P) → get_or (copy_bytes m v n) 0 0 ≡ version_byte m v
  unfolding copy_bytes
  first_byte v n = refl

  read_back : (v : Version) (a : Accepted) (n : NamedCopy P) → n.copy.index < 2 ^ 32 → accepts m a (version_byte m v) ≡ true → read_copy m a (copy_bytes m v n) ≡ Ok n
  read_back v a n small taken =
      cond-true _ _ _ (eq-eqb _ _ (length_copy m laws v n)) ∙ cond-true _ _ _ (ap (accepts m a) (first_byte v n) ∙ taken) ∙ ap Ok (named_back v n small)

  takes_either : (v : Version) → accepts m ShareOrExport (version_byte m v) ≡ true
  takes_either Share = or_left _ _ (eq-eqb m.share_byte _ refl)
  takes_either Export = or_right _ _ (eq-eqb m.export_byte _ refl)

  module _ (bs : List ℕ) (bytes : AllByRecursion Byte bs) where
    part_forth : (k : ℕ) → k + w ≤ length bs → m.encode (part_at m k bs) ≡ take w (drop k bs)
    part_forth k h = laws.forth (take w (drop k bs)) (simp (length-take, length-drop) (omega arith)) (All-take Byte w (drop k bs) (All-drop Byte k bs bytes))

    parts_forth : (i k : ℕ) → k + 4 * w ≤ length bs → part_bytes m (copy_of m i k bs) ++ drop (k + 4 * w) bs ≡ drop k bs
    unfolding copy_of part_bytes
    parts_forth i k h =
        let piece : ℕ → List ℕ = λ n. take w (drop n bs) in
        let f0 = part_forth k (omega arith) in
        let f1 = part_forth (k + w) (omega arith) in
        let f2 = part_forth (k + 2 * w) (omega arith) in
        let f3 = part_forth (k + 3 * w) (omega arith) in
        let c3 = cut (k + 3 * w) w (k + 4 * w) bs (omega arith) refl in
        let c2 = cut (k + 2 * w) w (k + 3 * w) bs (omega arith) c3 in
        let c1 = cut (k + w) w (k + 2 * w) bs (omega arith) c2 in
        (λ j. (f0 j ++ (f1 j ++ (f2 j ++ f3 j))) ++ drop (k + 4 * w) bs) ∙ flat (piece k) (piece (k + w)) (piece (k + 2 * w)) (piece (k + 3 * w)) (drop (k + 4 * w) bs)
        ∙ sym (cut k w (k + w) bs refl c1)

    named_forth : (v : Version) → length bs ≡ 37 + 4 * w → get_or bs 0 0 ≡ version_byte m v → copy_bytes m v (named_of m bs) ≡ bs
    unfolding named_of copy_of copy_bytes
    named_forth v long first =
        let four = take 4 (drop 1 bs) in
        let rest = drop (5 + 4 * w) bs in
        let index : be 4 (number_from_digits 256 four) ≡ four = be_number 4 four (simp (length-take, length-drop) (omega arith)) (All-take Byte 4 (drop 1 bs) (All-drop Byte 1 bs bytes)) in
        let id : id_bytes (id_of rest) ≡ rest = id_forth rest (simp length-drop (omega arith)) (All-drop Byte (5 + 4 * w) bs bytes) in
        let tail = ap (λ ks. part_bytes m (copy_of m (number_from_digits 256 four) 5 bs) ++ ks) id ∙ parts_forth (number_from_digits 256 four) 5 (omega arith) in
        (λ j. (sym first j ∷ []) ++ (index j ++ tail j)) ∙ ap (λ ys. get_or bs 0 0 ∷ ys) (sym (cut 1 4 5 bs refl refl)) ∙ sym (drop_more bs 0 0 (omega arith))

  -- what is read was as long, and had a version byte that is taken
  pub read_ok : (a : Accepted) (bs : List ℕ) (n : NamedCopy P) → read_copy m a bs ≡ Ok n
      → (length bs ≡ 37 + 4 * w) × (accepts m a (get_or bs 0 0) ≡ true) × (named_of m bs ≡ n)
  read_ok a bs n h =
      let s = checked _ _ _ n h in
      let t = checked _ _ _ n s.1 in
      (eqb-true _ _ s.0, t.0, ok_is _ _ t.1)

  read_index_lem : (a : Accepted) (bs : List ℕ) (n : NamedCopy P) → AllByRecursion Byte bs → read_copy m a bs ≡ Ok n → n.copy.index < 2 ^ 32
  unfolding named_of copy_of
  read_index_lem a bs n bytes h =
      let r = read_ok a bs n h in
      let four = take 4 (drop 1 bs) in
      let l : length four ≡ 4 = let long = r.0 in simp (length-take, length-drop) (omega arith) in
      let small : number_from_digits 256 four < 256 ^ 4 = rw l at (number_lt 256 four (All-take Byte 4 (drop 1 bs) (All-drop Byte 1 bs bytes))) in
      let is : number_from_digits 256 four ≡ n.copy.index = ap (λ x. x.copy.index) r.2 in
      omega arith

  read_again : (v : Version) (a : Accepted) (bs : List ℕ) (n : NamedCopy P) → AllByRecursion Byte bs → get_or bs 0 0 ≡ version_byte m v → read_copy m a bs ≡ Ok n → copy_bytes m v n ≡ bs
  read_again v a bs n bytes first h =
      let r = read_ok a bs n h in
      ap (copy_bytes m v) (sym r.2) ∙ named_forth bs bytes v r.0 first

  start_back : (c : SessionCopy P) → read_start m (part_bytes m c) ≡ Ok (at 0 c)
  start_back c =
      cond-true _ _ _ (eq-eqb _ _ (length_parts m laws c))
      ∙ ap Ok (ap (copy_of m 0 0) (sym (append-nil (part_bytes m c))) ∙ copy_back 0 0 [] [] c refl)

  start_again : (bs : List ℕ) (c : SessionCopy P) → AllByRecursion Byte bs → read_start m bs ≡ Ok c → part_bytes m c ≡ bs
  start_again bs c bytes h =
      let s = checked _ _ _ c h in
      let long : length bs ≡ 4 * w = eqb-true _ _ s.0 in
      let none : drop (0 + 4 * w) bs ≡ [] = drop_all (0 + 4 * w) bs (omega arith) in
      ap (part_bytes m) (sym (ok_is _ _ s.1)) ∙ sym (append-nil _) ∙ ap (λ ys. part_bytes m (copy_of m 0 0 bs) ++ ys) (sym none) ∙ parts_forth bs bytes 0 0 (omega arith)

  pub copy_laws_lem : CopyLaws m
  copy_laws_lem = record {
    long = length_copy m laws;
    bytes = bytes_copy m laws;
    either = λ v n small. read_back v ShareOrExport n small (takes_either v);
    exported = λ n small. read_back Export ExportAlone n small (eq-eqb m.export_byte _ refl);
    indexed = read_index_lem;
    again = read_again;
    start = start_back;
    start_again = start_again;
  }
