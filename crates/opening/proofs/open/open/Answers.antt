use Rattle.opening.proofs.Opens.{put_text}
use Rattle.opening.proofs.open.open.Goals as goal

pub returns-clause-after : goal.returns-clause-after
returns-clause-after g c =
    rw (← c.look.ensures) (put_text _ c.in_ok-told.told _ _ _ _ c.in_ok-told.ensures.value c.in_ok-told.ensures.after c.in_ok-put.ensures.after)
