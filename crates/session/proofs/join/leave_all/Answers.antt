use Rattle.std.proofs.Common.{ℕ, ◌+◌, not, List, drop, filter, ap, ◌∙◌}
use Rattle.graph.specs.Graph.{among}
use Rattle.session.proofs.Joins.{leave_turn, leave_end}
use Rattle.session.proofs.join.leave_all.Goals as goal

pub loop-object-preserved : goal.loop-object-preserved
loop-object-preserved g c =
    let xs : List ℕ = c.args.list.now in
    let order : List ℕ = g.S.Scope.order c.loop-object.scope in
    let i : ℕ = c.loop-object.object-index in
    record {
      objects = c.leave.ensures.objects ∙ c.loop-object.invariant.objects;
      order =
          ap (filter (λ (o : ℕ). not (among o (drop (i + 1) xs)))) c.leave.ensures.order
          ∙ leave_turn order xs i c.loop-object-test.true ∙ c.loop-object.invariant.order;
    }

pub returns-clause-order : goal.returns-clause-order
returns-clause-order g c =
    leave_end (g.S.Scope.order c.loop-object.scope) c.args.list.now c.loop-object.object-index c.loop-object-test.false
    ∙ c.loop-object.invariant.order
