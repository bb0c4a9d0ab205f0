-- For private contracts: the words that commands begin with.
use Rattle.std.specs.Prelude.{ℕ, List, codes}
use Rattle.script.specs.declared.verbs.Verb.{Verb}
use Rattle.script.specs.declared.verbs.Verb.TheVariants.{Archive, Space, Sender, Seal, Share, Take, Dispute, Look, Next, Open, Advance, Free, Floor}

abbrev pub verb_word : Verb → List ℕ
verb_word Archive = codes "archive"
verb_word Space = codes "space"
verb_word Sender = codes "sender"
verb_word Seal = codes "seal"
verb_word Share = codes "share"
verb_word Take = codes "take"
verb_word Dispute = codes "dispute"
verb_word Look = codes "look"
verb_word Next = codes "next"
verb_word Open = codes "open"
verb_word Advance = codes "advance"
verb_word Free = codes "free"
verb_word Floor = codes "floor"
