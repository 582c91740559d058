use Rattle.std.proofs.Common.{◌≡◌, ◌+◌, ◌-◌, map, length, drop}
use Rattle.graph.specs.Graph.{each, visit}
use Rattle.elf.specs.Names.{somes}
use Rattle.elf.specs.Meaning.{object, target, targets}
use Rattle.scope.specs.Orders.{LawfulOrder}
use Rattle.session.proofs.start.+visit.Given as goal

abbrev pub decreases-visit : goal.decreases-visit
decreases-visit g l = l.depth

-- the entries that are left give the marks
abbrev pub invariant-loop-entry : goal.invariant-loop-entry
invariant-loop-entry g l =
    record {
      marks : each (visit (targets (g.S.Scope.objects l.scope)) l.new (l.depth - 1))
          (somes (map (target (g.S.Scope.objects l.scope)) (drop l.entry (object (g.S.Scope.objects l.scope) l.object).needed)))
          l.marks
          ≡ each (visit (targets (g.S.Scope.objects l.scope)) l.new (l.depth - 1))
          (targets (g.S.Scope.objects l.scope) l.object) l.initial.marks;
      lawful : LawfulOrder (g.S.Scope.objects l.scope) l.marks.entered;
      even : length l.marks.finished + length l.initial.marks.entered
          ≡ length l.initial.marks.finished + length l.marks.entered;
    }
