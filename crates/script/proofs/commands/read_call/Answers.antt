use Rattle.std.proofs.Common.{◌≡◌, ℕ, ◌≢◌, vec_items, rules}
use Rattle.std.specs.Global.{Vec}
use Rattle.ratchet.specs.declared.ids.Id.{Id}
use Rattle.script.specs.declared.fault.LineFault.TheVariants.{BadLine}
use Rattle.script.specs.Commands.{spaced, id_word, AreBytes}
use Rattle.script.specs.Words.{hex_word}
use Rattle.script.proofs.commands.read_call.Goals as goal

pub returns-in_err-id-in-Sender : goal.returns-in_err-id-in-Sender
returns-in_err-id-in-Sender c =
    let none : c.in_err-id-in-Sender.field-0.0 ≡ BadLine → (k : Id) (v : Vec ℕ) → AreBytes v → c.args.rest.now ≢ spaced (id_word k) (hex_word (vec_items v)) = λ is k v.
    c.in_err-id-in-Sender.ensures is (k, v) in
    search rules

pub returns-in_err-id-in-Open : goal.returns-in_err-id-in-Open
returns-in_err-id-in-Open c =
    let none : c.in_err-id-in-Open.field-0.0 ≡ BadLine → (k : Id) (v : Vec ℕ) → AreBytes v → c.args.rest.now ≢ spaced (id_word k) (hex_word (vec_items v)) = λ is k v.
    c.in_err-id-in-Open.ensures is (k, v) in
    search rules
