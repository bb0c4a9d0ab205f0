-- Writing one piece after another into an output.
use Rattle.std.proofs.Common.{◌≡◌, ℕ, zero, suc, ◌+◌, ◌-◌, ◌/◌, ◌%◌, ◌^◌, ◌<◌, ◌≤◌, List, [], ◌∷◌, ◌++◌, length, take, drop, Err, sym, subst, ap, ◌∙◌, append_assoc, arith, length-append, length-drop, length-take, drop-drop, take_at, drop_at}
use borrow.Rule.Slice.PartMut.{put_mid}
use Rattle.std.proofs.lemmas.List.{length-take-le}
use Rattle.std.proofs.lemmas.Bool.{lt-leb, cond-false}
use Rattle.ratchet.specs.Bytes.{be}
use Rattle.copy_bytes.specs.declared.output.SpaceRefusal.TheVariants.{TooSmall}
use Rattle.copy_bytes.specs.Output.{fits, answered, filled}
use Rattle.copy_bytes.specs.Placed.{placed, Put, Wrote}
use Rattle.copy_bytes.specs.declared.placing.Pen.{Pen}

-- a write to the part from a to e
pub placed_part : (a e : ℕ) (old ys xs : List ℕ) → ys ≡ xs → e ≡ a + length xs → put_mid a (e - a) old ys ≡ placed a xs old
placed_part a e old ys xs is size =
    let n : a + (e - a) ≡ a + length xs = omega arith in
    (λ i. take a old ++ (is i ++ drop (e - a) (drop a old))) ∙ ap (λ zs. take a old ++ (xs ++ zs)) (drop-drop (e - a) a old ∙ ap (λ k. drop k old) n)

-- two pieces are one longer piece
placed_placed : (a : ℕ) (xs ys old : List ℕ) → a ≤ length old → placed (a + length xs) ys (placed a xs old) ≡ placed a (xs ++ ys) old
placed_placed a xs ys old within =
    let b = a + length xs in
    let front = take a old ++ xs in
    let long : length front ≡ b = simp length-append (ap (λ n. n + length xs) (length-take-le a old within)) in
    let group : placed a xs old ≡ front ++ drop b old = sym (append_assoc (take a old) xs (drop b old)) in
    let behind : drop (b + length ys) (front ++ drop b old) ≡ drop (a + length (xs ++ ys)) old =
    sym (drop-drop (length ys) b (front ++ drop b old)) ∙ ap (drop (length ys)) (drop_at front (drop b old) b long) ∙ drop-drop (length ys) b old
    ∙ ap (λ n. drop n old) (omega (arith, length-append xs ys)) in
    ap (placed b ys) group ∙ (λ i. take_at front (drop b old) b long i ++ (ys ++ behind i)) ∙ simp append_assoc

length_placed : (a : ℕ) (xs old : List ℕ) → a + length xs ≤ length old → length (placed a xs old) ≡ length old
length_placed a xs old within = simp (length-append, length-take, length-drop) (omega arith)

-- a piece, and one behind it
pub put_join : {a b e : ℕ} {xs ys old cur new : List ℕ} → Put a xs old b cur → Put b ys cur e new → Put a (xs ++ ys) old e new
put_join {a} {b} {e} {xs} {ys} {old} {cur} {new} f g =
    let long : length cur ≡ length old = ap length f.holds ∙ length_placed a xs old (omega arith) in
    record {
      within = omega arith;
      size = omega (arith, length-append xs ys);
      holds = g.holds ∙ (λ i. placed (f.size i) ys (f.holds i)) ∙ placed_placed a xs ys old (omega arith);
    }

-- the last byte of a number, as the code has it
be_last : (n v : ℕ) → take n (be (suc n) v) ++ (v % 256 ∷ []) ≡ be (suc n) v
be_last zero v = let z : v % 256 ≡ v / 1 % 256 = omega arith in ap (λ x. x ∷ []) z
be_last (suc n) v = ap (λ bs. (v / 256 ^ suc n % 256) ∷ bs) (be_last n v)

-- the same of a pen
pub wrote_join : {p q r : Pen} {xs ys : List ℕ} → Wrote p xs q → Wrote q ys r → Wrote p (xs ++ ys) r
wrote_join f g = record { same = g.same ∙ f.same; put = put_join f.put g.put }

pub wrote_is : {p q : Pen} {xs ys : List ℕ} → xs ≡ ys → Wrote p xs q → Wrote p ys q
wrote_is {p} {q} e w = subst (λ zs. Wrote p zs q) e w

-- a number's bytes, as the code has them
pub wrote_be : {p q : Pen} {bs : List ℕ} (n v : ℕ) → bs ≡ take n (be (suc n) v) ++ (v % 256 ∷ []) → Wrote p bs q → Wrote p (be (suc n) v) q
wrote_be n v e w = wrote_is (e ∙ be_last n v) w

-- an output that is too short is refused as it was
pub too_small : (xs out : List ℕ) (n : ℕ) → length xs ≡ n → length out < n → (Err TooSmall ≡ answered xs out) × (out ≡ filled xs out)
too_small xs out n long short =
    let no = lt-leb (length xs) (length out) (omega arith) in
    (sym (cond-false (fits xs out) _ _ no), sym (cond-false (fits xs out) _ _ no))
