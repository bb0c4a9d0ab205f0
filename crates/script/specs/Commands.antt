-- Which commands there are, and how each is written.
use Rattle.std.specs.Prelude.{◌≡◌, ◌≢◌, ℕ, ◌^◌, ◌<◌, ◌≤◌, List, ◌∷◌, ◌++◌, Some, None, Result, MatchResult, vec_items, codes, decimal}
use Rattle.std.specs.Global.{Vec}
use Rattle.std.specs.List.{AllByRecursion}
use Rattle.ratchet.specs.Bytes.{Byte}
use Rattle.ratchet.specs.declared.ids.Id.{Id}
use Rattle.ratchet.specs.Ids.{id_bytes}
use Rattle.script.specs.declared.fault.LineFault.{LineFault}
use Rattle.script.specs.declared.fault.LineFault.TheVariants.{BadLine}
use Rattle.script.specs.declared.commands.Plan.{Plan}
use Rattle.script.specs.declared.commands.Call.{Call as AnyCall}
use Rattle.script.specs.declared.commands.Call.TheVariants.{Sender, Seal, Share, Take, Dispute, Look, Next, Open, Free, Floor, Advance}
use Rattle.script.specs.declared.commands.Command.{Command}
use Rattle.script.specs.declared.commands.Command.TheVariants.{Archive, Space, Call}
use Rattle.script.specs.Words.{hex_word}

-- two words with a space between them
abbrev pub spaced : List ℕ → List ℕ → List ℕ
spaced a b = a ++ (32 ∷ b)

abbrev pub id_word : Id → List ℕ
id_word k = hex_word (id_bytes k)

abbrev pub plan_words : Plan → List ℕ
plan_words p = spaced (decimal p.places) (spaced (decimal p.sightings) (decimal p.floor))

abbrev pub archive_words : Plan → List ℕ
archive_words p = spaced (codes "bench") (spaced (codes "slots") (plan_words p))

abbrev pub call_line : AnyCall → List ℕ
call_line (Sender k start) = spaced (codes "sender") (spaced (id_word k) (hex_word (vec_items start)))
call_line (Seal text) = spaced (codes "seal") (hex_word (vec_items text))
call_line (Share n) = spaced (codes "share") (decimal n)
call_line (Take copy) = spaced (codes "take") (hex_word (vec_items copy))
call_line (Dispute k) = spaced (codes "dispute") (id_word k)
call_line (Look k) = spaced (codes "look") (id_word k)
call_line (Next (Some k)) = spaced (codes "next") (id_word k)
call_line (Next None) = spaced (codes "next") (codes "-")
call_line (Open k message) = spaced (codes "open") (spaced (id_word k) (hex_word (vec_items message)))
call_line Free = codes "free"
call_line Floor = codes "floor"
call_line (Advance copy n) = spaced (codes "advance") (spaced (hex_word (vec_items copy)) (decimal n))

abbrev pub command_line : Command → List ℕ
command_line (Archive p) = spaced (codes "archive") (archive_words p)
command_line (Space n) = spaced (codes "space") (decimal n)
command_line (Call c) = call_line c

-- index, target and floor
abbrev pub IsIndex : ℕ → Type 0
IsIndex n = n < 2 ^ 32

-- places, sightings and space
abbrev pub IsCount : ℕ → Type 0
IsCount n = n ≤ 2 ^ 20

abbrev pub AreBytes : Vec ℕ → Type 0
AreBytes v = AllByRecursion Byte (vec_items v)

abbrev pub LawfulPlan : Plan → Type 0
LawfulPlan p = IsCount p.places × IsCount p.sightings × IsIndex p.floor

-- bytes are bytes, and an index is one; every id is lawful
abbrev pub LawfulCall : AnyCall → Type 0
LawfulCall (Sender k start) = AreBytes start
LawfulCall (Seal text) = AreBytes text
LawfulCall (Share n) = IsIndex n
LawfulCall (Take copy) = AreBytes copy
LawfulCall (Open k message) = AreBytes message
LawfulCall (Advance copy n) = AreBytes copy × IsIndex n
LawfulCall _ = Unit {0}

-- the commands that there are: numbers are no larger than they may be, and bytes are bytes
abbrev pub Lawful : Command → Type 0
Lawful (Archive p) = LawfulPlan p
Lawful (Space n) = IsCount n
Lawful (Call c) = LawfulCall c

-- what is read is lawful and written so, and a bad line is how nothing lawful is written
abbrev pub Reads : {T : Type 0} → (T → List ℕ) → (T → Type 0) → List ℕ → Result T LineFault → Type 0
Reads {T} words Lawful line r = MatchResult r (λ x. (line ≡ words x) × Lawful x) (λ e. e ≡ BadLine → (x : T) → Lawful x → line ≢ words x)
