use Rattle.std.proofs.Common.{◌≡◌, map, drop}
use Rattle.graph.specs.Graph.{grow}
use Rattle.elf.specs.Names.{somes}
use Rattle.elf.specs.Meaning.{object, target, targets}
use Rattle.session.proofs.walk.NewList.add_needed.Given as goal

-- the entries that are left give the list
abbrev pub invariant-loop-entry : goal.invariant-loop-entry
invariant-loop-entry g l =
    let os = g.S.Scope.objects l.initial.self.scope.now in
    let old = g.S.Scope.order l.initial.self.scope.now in
    record {
      scope : l.self.scope.now ≡ l.initial.self.scope.now;
      list : grow old l.self.list.items (somes (map (target os) (drop l.entry (object os l.object).needed)))
          ≡ grow old l.initial.self.list.items (targets os l.object);
    }
