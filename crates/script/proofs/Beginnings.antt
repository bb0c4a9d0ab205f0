-- A line begins with the word of a command, or is the line of none.
use Rattle.std.proofs.Common.{◌≡◌, ◌≢◌, ℕ, List, Some, None, get_or, drop, codes, refl, ap, ◌∙◌, arith}
use Rattle.script.specs.declared.commands.Plan.{Plan}
use Rattle.script.specs.declared.commands.Call.TheVariants.{Sender, Seal, Share, Take, Dispute, Look, Next, Open, Free, Floor, Advance}
use Rattle.script.specs.declared.commands.Command.{Command}
use Rattle.script.specs.declared.commands.Command.TheVariants.{Archive, Space, Call}
use Rattle.script.specs.declared.verbs.Verb.{Verb}
use Rattle.script.specs.declared.verbs.Verb.TheVariants as V
use Rattle.script.specs.Commands.{spaced, archive_words, command_line, LawfulPlan, Lawful}
use Rattle.script.specs.Verbs.{verb_word}
use Rattle.script.specs.Words.{upto}

begins : (c : Command) → (v : Verb) × (upto 32 (command_line c) ≡ verb_word v)
begins (Archive p) = (V.Archive, refl)
begins (Space n) = (V.Space, refl)
begins (Call (Sender k start)) = (V.Sender, refl)
begins (Call (Seal text)) = (V.Seal, refl)
begins (Call (Share n)) = (V.Share, refl)
begins (Call (Take copy)) = (V.Take, refl)
begins (Call (Dispute k)) = (V.Dispute, refl)
begins (Call (Look k)) = (V.Look, refl)
begins (Call (Next (Some k))) = (V.Next, refl)
begins (Call (Next None)) = (V.Next, refl)
begins (Call (Open k message)) = (V.Open, refl)
begins (Call Free) = (V.Free, refl)
begins (Call Floor) = (V.Floor, refl)
begins (Call (Advance copy n)) = (V.Advance, refl)

pub no_verb : (line word : List ℕ) → word ≡ upto 32 line → ((v : Verb) → word ≢ verb_word v) → (c : Command) → line ≢ command_line c
no_verb line word is none c e = let t = begins c in none t.0 (is ∙ ap (upto 32) e ∙ t.1)

-- every other word has another first or second byte
pub no_archive : (rest : List ℕ) → ((p : Plan) → LawfulPlan p → rest ≢ archive_words p) → (c : Command) → Lawful c → spaced (codes "archive") rest ≢ command_line c
no_archive rest none (Archive p) lawful e = none p lawful (ap (drop 8) e)
no_archive rest none (Call (Next None)) lawful e = omega (arith, ap (λ w. get_or w 0 0) e)
no_archive rest none c lawful e = omega (arith, ap (λ w. get_or w 0 0) e, ap (λ w. get_or w 1 0) e)
