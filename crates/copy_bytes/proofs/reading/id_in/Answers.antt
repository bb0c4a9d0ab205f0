use Rattle.std.proofs.Common.{◌≡◌, ℕ, ◌-◌, List, length, take, drop, ap, ◌∙◌, take_all, length-drop, arith}
use Rattle.ratchet.specs.Ids.{id_of, word}
use Rattle.copy_bytes.proofs.Ids.{id_path}
use Rattle.copy_bytes.proofs.reading.id_in.Goals as goal

rest : (n : ℕ) (bs : List ℕ) → word (take (length bs - n) (drop n bs)) ≡ word (drop n bs)
rest n bs = ap word (take_all (length bs - n) (drop n bs) (simp length-drop (omega arith)))

pub returns : goal.returns
unfolding id_of
returns c =
    let bs = c.args.bytes.now in
    id_path _ _ c.word_in.ensures (c.word_in-2.ensures ∙ rest 8 bs) (c.word_in-3.ensures ∙ rest 16 bs) (c.word_in-4.ensures ∙ rest 24 bs)
