use Rattle.std.proofs.Common.{sym, subst}
use Rattle.session.proofs.Spares.{Grown, new_grown, still_grown}
use Rattle.session.proofs.line.render.Goals as goal
use Rattle.session.proofs.line.render.Goals.{in-None, in-Bind2, in-Load2}

pub returns-clause-spare : goal.returns-clause-spare
returns-clause-spare c =
    let word = still_grown _ _ _ c.push.ensures.bytes c.push.ensures.spare
    (new_grown _ c.new-text.ensures.bytes c.new-text.ensures.spare) in
    (still_grown _ _ _ c.push-2.ensures.bytes c.push-2.ensures.spare
    (elim c.match-line.branch [
      | in-None w ↦ subst Grown (sym w.text-is) (still_grown _ _ _ w.write.ensures.value w.write.ensures.spare word)
      | in-Bind2 w ↦
          subst Grown (sym w.text-is)
          (still_grown _ _ _ w.number-in-Bind.ensures.value w.number-in-Bind.ensures.spare
          (still_grown _ _ _ w.number.ensures.value w.number.ensures.spare
          (still_grown _ _ _ w.write-in-Bind.ensures.value w.write-in-Bind.ensures.spare word)))
      | in-Load2 w ↦
          subst Grown (sym w.text-is) (still_grown _ _ _ w.number-in-Load.ensures.value w.number-in-Load.ensures.spare word)
    ])).spare
