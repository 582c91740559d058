use Rattle.std.proofs.Common.{◌≡◌, [], length, drop}
use Rattle.graph.specs.Graph.{visit_all}
use Rattle.elf.specs.Meaning.{targets}
use Rattle.scope.specs.Orders.{LawfulOrder}
use Rattle.session.proofs.start.start_order.Given as goal

-- the objects that are left give the marks
abbrev pub invariant-loop-object : goal.invariant-loop-object
invariant-loop-object g l =
    record {
      marks : visit_all (targets (g.S.Scope.objects l.scope)) l.new (length (g.S.Scope.objects l.scope))
          (drop l.object-index l.from) l.marks
          ≡ visit_all (targets (g.S.Scope.objects l.scope)) l.new (length (g.S.Scope.objects l.scope))
          l.from (record { entered = []; finished = [] });
      lawful : LawfulOrder (g.S.Scope.objects l.scope) l.marks.entered;
    }
