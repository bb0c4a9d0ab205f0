-- The pieces of a message: its head, and what is tagged.
use Rattle.std.proofs.Common.{◌≡◌, ℕ, ◌+◌, ◌^◌, ◌<◌, ◌≤◌, List, [], ◌∷◌, ◌++◌, length, take, ap, ◌∙◌, append_assoc, arith}
use Rattle.std.proofs.lemmas.List.{length-append}
use Rattle.ratchet.specs.declared.copies.SessionCopy.{SessionCopy}
use Rattle.ratchet.specs.Suite.{Meaning, Lawful, parts}
use Rattle.copy_bytes.specs.Placed.{Put}
use Rattle.copy_bytes.proofs.Outputs.{put_front}
use Rattle.copy_bytes.proofs.Places.{put_join}
use Rattle.message.specs.Varint.{varint}
use Rattle.message.specs.Frame.{head}
use Rattle.message.specs.Seal.{tagged}
use Rattle.message.proofs.Varints.{groups_size}

pub varint_size : (v : ℕ) → v < 2 ^ 32 → length (varint v) ≤ 5
varint_size v h = groups_size 4 4 v (omega arith)

module _ {P : Type 0} (m : Meaning P) where
  pub head_pieces : (index n b : ℕ) → b ≡ m.message_byte → (((b ∷ (8 ∷ [])) ++ varint index) ++ (18 ∷ [])) ++ varint n ≡ head m index n
  unfolding head
  head_pieces index n b e =
      append_assoc ((b ∷ (8 ∷ [])) ++ varint index) (18 ∷ []) (varint n) ∙ ap (λ (x : ℕ). (x ∷ (8 ∷ varint index)) ++ (18 ∷ varint n)) e

  -- two pieces and their tag
  pub tagged_pieces : (copy : SessionCopy P) {a b r : ℕ} {xs ys tag old one two new : List ℕ} → Put 0 xs old a one → Put a ys one b two
      → tag ≡ m.tag (parts copy) (take b two) → Put b tag two r new → Put 0 (tagged m copy (xs ++ ys)) old r new
  tagged_pieces copy {b = b} {r = r} {xs = xs} {ys = ys} {tag = tag} {old = old} {two = two} {new = new} p q e t =
      let both = put_join p q in
      let is : tag ≡ m.tag (parts copy) (xs ++ ys) = e ∙ ap (m.tag (parts copy)) (put_front both) in
      put_join both (rw is at t)

  pub length_tagged : Lawful m → (copy : SessionCopy P) (xs ys : List ℕ) → length (tagged m copy (xs ++ ys)) ≡ length xs + length ys + 8
  length_tagged laws copy xs ys =
      let t = laws.tagged (parts copy) (xs ++ ys) in
      omega (arith, length-append (xs ++ ys) (m.tag (parts copy) (xs ++ ys)), length-append xs ys)
