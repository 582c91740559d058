use Rattle.std.proofs.Common.{◌≡◌, not, drop, filter}
use Rattle.graph.specs.Graph.{among}
use Rattle.session.proofs.join.leave_all.Given as goal

-- the objects that are left give the order
abbrev pub invariant-loop-object : goal.invariant-loop-object
invariant-loop-object g l =
    record {
      objects : g.S.Scope.objects l.scope ≡ g.S.Scope.objects l.initial.scope;
      order : filter (λ o. not (among o (drop l.object-index l.list))) (g.S.Scope.order l.scope)
          ≡ filter (λ o. not (among o l.list)) (g.S.Scope.order l.initial.scope);
    }
