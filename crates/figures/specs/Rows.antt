-- A worked figure, and its test by the definitions that the contracts name.
use Rattle.std.specs.Prelude.{ℕ, Bool, ◌&&◌, List, [], ◌∷◌, take, Ok, Err, fold, Option, Result, nat_eq}
use Rattle.std.proofs.Common.{arith}
use Rattle.std.specs.Str.{bytes_eq}
use Rattle.ratchet.specs.declared.ids.Id.{Id}
use Rattle.ratchet.specs.declared.copies.SessionCopy.{SessionCopy}
use Rattle.ratchet.specs.declared.copies.Holding.{Holding}
use Rattle.ratchet.specs.declared.copies.Holding.TheVariants.{Held}
use Rattle.ratchet.specs.declared.copies.Advanced.{Advanced}
use Rattle.ratchet.specs.declared.copies.AdvanceRefusal.{AdvanceRefusal}
use Rattle.ratchet.specs.Advance.{advanced, stepped}
use Rattle.ratchet.specs.Ids.{id_number}
use Rattle.ratchet.specs.Join.{join, raised}
use Rattle.ratchet.specs.Numbers.{advance_number}
use Rattle.store.specs.declared.sighting.Sighting.{Sighting}
use Rattle.store.specs.declared.spot.Spot.{Spot}
use Rattle.store.specs.Keys.{spot_number}
use Rattle.store.specs.Meaning.{looked, taken}
use Rattle.store.specs.Sightings.{join_sightings, unraised}
use Rattle.message.specs.Seal.{sealed}
use Rattle.message.specs.Varint.{varint, read_varint}
use Rattle.opening.specs.declared.unseal.Opened.{Opened}
use Rattle.opening.specs.declared.unseal.OpenRefusal.{OpenRefusal}
use Rattle.opening.specs.Numbers.{open_number}
use Rattle.opening.specs.Open.{Unsealed, unsealed, opened, open_output}
use Rattle.bench_suite.specs.declared.word.Word.{Word}
use Rattle.bench_suite.specs.Bench.{word, bench}
use Rattle.figures.specs.Alike.{same_result, same_holding, same_sighting, some_passes}

pub data Row : Type 0 where
  -- an advance from one index to another, and its hashes or its refusal
  advance : ℕ → ℕ → Result ℕ ℕ → Row
  -- the part R3 that one step from four zero parts makes
  one_step : ℕ → Row
  -- a number and its varint, each from the other
  in_groups : ℕ → List ℕ → Row
  -- a text, and the message that four zero parts seal for it at index 0
  seals : List ℕ → List ℕ → Row
  -- a message, and the text or the refusal that four zero parts held at index 0 give
  opens : List ℕ → Result (List ℕ) ℕ → Row
  -- what a store takes in under one id, one after another, and what is then held
  held : List (Holding Word) → Holding Word → Row
  -- the sightings of one message, and what the book then has of it
  sighted : List Sighting → Sighting → Row

-- a copy of the bench suite whose parts are 0, but for R3
abbrev pub copy : ℕ → ℕ → SessionCopy Word
copy index r3 = record { index = index; r0 = word 0; r1 = word 0; r2 = word 0; r3 = word r3 }

abbrev pub id : Id
id = record { w0 = 0; w1 = 0; w2 = 0; w3 = 1; fits0 = omega arith; fits1 = omega arith; fits2 = omega arith; fits3 = omega arith }

abbrev pub spot : Spot
spot = record { id = id; index = 0; fits = omega arith }

-- what an empty store with one place shows under a key, once it has taken all of these
abbrev pub shown : {K V : Type 0} → (K → ℕ) → (V → V → V) → (ℕ → V → V) → K → List V → Option V
shown rank join raise k vs =
    looked rank (fold (λ m v. taken rank join raise m k v) (record { entries = []; floor = 0; places = 1 }) vs) k

abbrev pub holdings : List (Holding Word) → Option (Holding Word)
holdings hs = shown id_number (join bench) (raised bench) id hs

abbrev pub sightings : List Sighting → Option Sighting
sightings ss = shown spot_number join_sightings unraised spot ss

abbrev pub hashes_of : Result (Advanced Word) AdvanceRefusal → Result ℕ ℕ
hashes_of (Ok there) = Ok there.hashes
hashes_of (Err refusal) = Err (advance_number refusal)

-- the text is as much of the output as the answer says
abbrev pub text_of : Result Opened OpenRefusal → List ℕ → Result (List ℕ) ℕ
text_of (Ok told) out = Ok (take told.size out)
text_of (Err refusal) out = Err (open_number refusal)

-- an output of four bytes
abbrev pub opened_text : Result Unsealed OpenRefusal → Result (List ℕ) ℕ
opened_text u = let out = 0 ∷ 0 ∷ 0 ∷ 0 ∷ [] in text_of (opened u out) (open_output u out)

abbrev pub holds : Row → Bool
holds (advance from to answer) = same_result nat_eq (hashes_of (advanced bench.hash (copy from 0) to)) answer
holds (one_step r3) = some_passes (λ c. nat_eq c.r3.value r3) (stepped bench.hash (copy 0 0))
holds (in_groups n bytes) = bytes_eq (varint n) bytes && some_passes (λ read. nat_eq read.0 n) (read_varint bytes)
holds (seals text message) = bytes_eq (sealed bench (copy 0 0) text) message
holds (opens message answer) = same_result bytes_eq (opened_text (unsealed bench (holdings (Held (copy 0 0) ∷ [])) message)) answer
holds (held hs h) = some_passes (same_holding h) (holdings hs)
holds (sighted ss s) = some_passes (same_sighting s) (sightings ss)
