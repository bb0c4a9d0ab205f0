-- The layout of a message, and what reading one answers.
use Rattle.std.specs.Prelude.{◌≡◌, ℕ, ◌+◌, ◌-◌, ◌^◌, ◌<◌, ◌≤◌, Bool, true, cond, ◌&&◌, List, [], ◌∷◌, ◌++◌, length, take, drop, Some, None, Ok, Err, Option, Result, ◌==◌, nat_le, slice_index}
use Rattle.std.specs.List.{AllByRecursion}
use Rattle.std.specs.Result.{result_map_both}
use Rattle.ratchet.specs.Bytes.{Byte}
use Rattle.ratchet.specs.Suite.{Meaning}
use Rattle.message.specs.declared.frame.Frame.{Frame}
use Rattle.message.specs.declared.frame.FrameFault.{FrameFault}
use Rattle.message.specs.declared.frame.FrameFault.TheVariants.{Start, Index, Cipher, Length}
use Rattle.message.specs.Varint.{varint, read_varint}

-- all that stands before the cipher: the message byte, 0x08 and the index, 0x12 and the cipher's length
unfoldable pub head : {P : Type 0} → Meaning P → ℕ → ℕ → List ℕ
head m index n = (m.message_byte ∷ (8 ∷ varint index)) ++ (18 ∷ varint n)

-- all that the tag is of
abbrev pub body : {P : Type 0} → Meaning P → ℕ → List ℕ → List ℕ
body m index cipher = head m index (length cipher) ++ cipher

abbrev pub message_bytes : {P : Type 0} → Meaning P → ℕ → List ℕ → List ℕ → List ℕ
message_bytes m index cipher tag = body m index cipher ++ tag

-- where the cipher of such a message stands
abbrev pub frame_of : {P : Type 0} → Meaning P → ℕ → List ℕ → Frame
frame_of m index cipher = record { index = index; from = length (head m index (length cipher)); size = length cipher }

-- what a message tells: its index, all that its tag is of, the cipher at the end of that, and the tag
pub record Framed : Type 0 where
  pub index : ℕ
  pub body : List ℕ
  pub cipher : List ℕ
  pub tag : List ℕ

-- the parts of a message whose cipher of n bytes stands from a place on
abbrev pub parted : List ℕ → ℕ → ℕ → ℕ → Framed
parted bs index from n = record { index = index; body = take (from + n) bs; cipher = take n (drop from bs); tag = drop (from + n) bs }

-- a key byte with a lawful varint behind it: the number, and how many bytes it takes
abbrev pub keyed : ℕ → List ℕ → Option (ℕ × ℕ)
keyed key [] = None
keyed key (b ∷ bs) = cond (b == key) (read_varint bs) None

-- 1 to 4,130 bytes, of which the first is the message byte
abbrev pub starts : {P : Type 0} → Meaning P → List ℕ → Bool
starts m bs = (nat_le 1 (length bs) && nat_le (length bs) 4130) && slice_index bs 0 == m.message_byte

-- a cipher of n bytes that stand from a place on: they have to leave the 8 bytes of the tag, and the suite has to allow n
abbrev pub sized : {P : Type 0} → Meaning P → List ℕ → ℕ → ℕ → Option (ℕ × ℕ) → Result Framed FrameFault
sized m bs index at None = Err Cipher
sized m bs index at (Some (n, k)) =
    cond (length bs == at + 1 + k + n + 8) (cond (m.allowed n) (Ok (parted bs index (at + 1 + k) n)) (Err Length)) (Err Cipher)

-- 0x12 and the cipher's length stand where the index ends
abbrev pub cipher_at : {P : Type 0} → Meaning P → List ℕ → ℕ → ℕ → Result Framed FrameFault
cipher_at m bs index at = sized m bs index at (keyed 18 (drop at bs))

abbrev pub indexed : {P : Type 0} → Meaning P → List ℕ → Option (ℕ × ℕ) → Result Framed FrameFault
indexed m bs None = Err Index
indexed m bs (Some (index, k)) = cipher_at m bs index (2 + k)

-- the parts of a message, or the first that is wrong of the start, the index, the cipher and its length
unfoldable pub framed : {P : Type 0} → Meaning P → List ℕ → Result Framed FrameFault
framed m bs = cond (starts m bs) (indexed m bs (keyed 8 (drop 1 bs))) (Err Start)

-- the cipher ends the body
abbrev pub place_of : Framed → Frame
place_of f = record { index = f.index; from = length f.body - length f.cipher; size = length f.cipher }

-- the index of a message and where its cipher stands, or what is wrong
abbrev pub placed : {P : Type 0} → Meaning P → List ℕ → Result Frame FrameFault
placed m bs = result_map_both place_of (λ e. e) (framed m bs)

-- a message is read as it was laid out, by the place of its cipher
abbrev pub FrameLaw : {P : Type 0} → Meaning P → Type 0
FrameLaw m =
    (index : ℕ) (cipher tag : List ℕ) → index < 2 ^ 32 → m.allowed (length cipher) ≡ true → length cipher ≤ 4112 → length tag ≡ 8
    → placed m (message_bytes m index cipher tag) ≡ Ok (frame_of m index cipher)

-- a message lays out the parts that it tells
pub record LaysOut {P : Type 0} (m : Meaning P) (bs : List ℕ) (f : Framed) : Type 0 where
  pub whole : message_bytes m f.index f.cipher f.tag ≡ bs
  pub tagged : body m f.index f.cipher ≡ f.body
  pub small : f.index < 2 ^ 32
  pub allowed : m.allowed (length f.cipher) ≡ true
  pub tag_size : length f.tag ≡ 8
  pub short : length bs ≤ 4130

pub record FrameLaws {P : Type 0} (m : Meaning P) : Type 0 where
  -- a message is read as it was laid out
  pub back : (bs : List ℕ) (f : Framed) → LaysOut m bs f → framed m bs ≡ Ok f
  -- and nothing else is a message
  pub forth : (bs : List ℕ) (f : Framed) → AllByRecursion Byte bs → framed m bs ≡ Ok f → LaysOut m bs f
  -- index and cipher are found where they were laid out
  pub place : FrameLaw m
