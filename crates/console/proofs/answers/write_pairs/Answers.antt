use Rattle.std.proofs.Common.{rules, ◌≡◌, ◌++◌, append_assoc, sym, ap, ◌∙◌}
use Rattle.std.proofs.Output.{has_written_append, has_written_of_eq}
use Rattle.script.proofs.Hex.{hex-append}
use Rattle.console.proofs.answers.write_pairs.Goals as goal

pub loop-piece-preserved : goal.loop-piece-preserved
loop-piece-preserved g c =
    let whole : c.loop-piece.piece-iterator.rest.now ≡ c.in-Some.piece.now ++ c.next.new.self.rest.now = search rules in (
      search rules,
      λ plain.
          let so_far = c.loop-piece.invariant.1 plain in (
            so_far.0 ++ c.in-Some.piece.now,
            so_far.1 ∙ ap (λ xs. so_far.0 ++ xs) whole ∙ sym (append_assoc so_far.0 c.in-Some.piece.now c.next.new.self.rest.now),
            has_written_of_eq _ _ _ _ _ (sym (hex-append so_far.0 c.in-Some.piece.now)) (has_written_append _ _ _ _ _ _ so_far.2 (search rules)),
          ),
    )
