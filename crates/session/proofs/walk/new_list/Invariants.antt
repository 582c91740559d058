use Rattle.std.proofs.Common.{◌≡◌, ◌-◌, [], length, take, drop}
use Rattle.graph.specs.Graph.{grow, walk}
use Rattle.elf.specs.Meaning.{targets}
use Rattle.session.specs.Walks.{new_list}
use Rattle.session.proofs.walk.new_list.Given as goal

-- the objects that are left give the list
abbrev pub invariant-loop-object : goal.invariant-loop-object
invariant-loop-object g l =
    record {
      scope : l.new.scope.now ≡ l.scope;
      list : grow (g.S.Scope.order l.scope) l.new.list.items (drop l.object-index l.from)
          ≡ grow (g.S.Scope.order l.scope) [] l.from;
    }

-- the places that are left give the list
abbrev pub invariant-loop-place : goal.invariant-loop-place
invariant-loop-place g l =
    record {
      scope : l.new.scope.now ≡ l.scope;
      list : walk (targets (g.S.Scope.objects l.scope)) (g.S.Scope.order l.scope)
          (length (g.S.Scope.objects l.scope) - l.place) (take l.place l.new.list.items) (drop l.place l.new.list.items)
          ≡ new_list (g.S.Scope.objects l.scope) (g.S.Scope.order l.scope) l.from;
    }
