use Rattle.std.proofs.Common.{◌∙◌}
use Rattle.session.proofs.Joins.{join_turn}
use Rattle.session.proofs.join.join_all.Goals as goal

pub loop-object-preserved : goal.loop-object-preserved
loop-object-preserved g c =
    record {
      objects = c.join.ensures.objects ∙ c.loop-object.invariant.objects;
      order =
          c.join.ensures.order
          ∙ join_turn (g.S.Scope.objects c.args.scope.now) (g.S.Scope.order c.args.scope.now) c.args.list.now c.requires.listed
          c.requires.apart c.loop-object.object-index c.loop-object-test.true (g.S.Scope.objects c.loop-object.scope)
          (g.S.Scope.order c.loop-object.scope) c.loop-object.invariant.objects c.loop-object.invariant.order;
    }
