use Rattle.std.proofs.Common.{◌≤◌, length, sym, subst, ◌∙◌}
use Rattle.message.specs.Frame.{Framed}
use Rattle.message.proofs.LaidOut.{cipher_in_body}
use Rattle.message.proofs.frame.read_frame.Goals as goal

pub overflow_sub-from : goal.overflow_sub-from
overflow_sub-from g c =
    subst (λ (f : Framed). length f.cipher ≤ length f.body) (sym c.parts.view_is) (cipher_in_body _ _ _ (sym c.read_parts.ensures ∙ c.in_ok-parts.was))
