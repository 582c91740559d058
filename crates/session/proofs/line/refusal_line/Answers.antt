use Rattle.session.proofs.Spares.{new_grown, still_grown}
use Rattle.session.proofs.line.refusal_line.Goals as goal

pub returns-clause-spare : goal.returns-clause-spare
returns-clause-spare c =
    (still_grown _ _ _ c.push-2.ensures.bytes c.push-2.ensures.spare
    (still_grown _ _ _ c.number-3.ensures.value c.number-3.ensures.spare
    (still_grown _ _ _ c.number-2.ensures.value c.number-2.ensures.spare
    (still_grown _ _ _ c.number.ensures.value c.number.ensures.spare
    (still_grown _ _ _ c.push.ensures.bytes c.push.ensures.spare
    (new_grown _ c.new-text.ensures.bytes c.new-text.ensures.spare)))))).spare
