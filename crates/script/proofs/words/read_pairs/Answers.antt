use Rattle.std.proofs.Common.{ℕ, List, ◌<◌, ◌≢◌, length, vec_items, rules}
use Rattle.std.specs.List.{AllByRecursion}
use Rattle.ratchet.specs.Bytes.{Byte}
use Rattle.script.specs.Words.{hex}
use Rattle.script.proofs.Hex.{one_more, no_pair, odd}
use Rattle.script.proofs.words.read_pairs.Goals as goal

pub loop-rest-preserved : goal.loop-rest-preserved
loop-rest-preserved c =
    one_more c.args.word.now (vec_items c.loop-rest.read) (vec_items c.push.new.self) c.loop-rest.rest.now c.in_ok-ok_or.field-0
    c.loop-rest.invariant c.in-len2-up.len_at_least (search rules) c.in_ok-push.ensures.items

pub returns-in_err-ok_or : goal.returns-in_err-ok_or
returns-in_err-ok_or c =
    let none : (bs : List ℕ) → AllByRecursion Byte bs → c.args.word.now ≢ hex bs = λ bs all.
    no_pair c.args.word.now (vec_items c.loop-rest.read) c.loop-rest.rest.now bs c.loop-rest.invariant.0 c.in-len2-up.len_at_least (search rules) all in
    search rules

pub returns-else-is_empty : goal.returns-else-is_empty
returns-else-is_empty c = λ _ bs all.
    let some : 0 < length c.loop-rest.rest.now = search rules in
    let one : length c.loop-rest.rest.now < 2 = search rules in
    odd c.args.word.now (vec_items c.loop-rest.read) c.loop-rest.rest.now bs c.loop-rest.invariant.0 some one all
