use Rattle.std.proofs.Common.{◌≡◌, ◌++◌, take}
use Rattle.session.proofs.join.join_all.Given as goal

-- the objects so far stand behind the order
abbrev pub invariant-loop-object : goal.invariant-loop-object
invariant-loop-object g l =
    record {
      objects : g.S.Scope.objects l.scope ≡ g.S.Scope.objects l.initial.scope;
      order : g.S.Scope.order l.scope ≡ g.S.Scope.order l.initial.scope ++ take l.object-index l.list;
    }
