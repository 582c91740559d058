use Rattle.std.proofs.Common.{◌≡◌, ◌+◌, ◌≤◌, ◌++◌, length, drop}
use Rattle.session.specs.Binding.{bindings_of_all}
use Rattle.session.specs.Checks.{references_of_all}
use Rattle.session.specs.View.{recorded}
use Rattle.session.proofs.rows.bind_all.Given as goal

-- with the bindings of the objects that are left, all is recorded, and there is room for them
abbrev pub invariant-loop-object : goal.invariant-loop-object
invariant-loop-object g l =
    let os = g.S.Scope.objects l.initial.scope in
    let order = g.S.Scope.order l.initial.scope in
    let left = drop l.object-index l.list in
    record {
      same_objects : g.S.Scope.objects l.scope ≡ os;
      same_order : g.S.Scope.order l.scope ≡ order;
      room : length l.rows + references_of_all os left ≤ 4096;
      rows :
          recorded os l.rows ++ bindings_of_all os order left
          ≡ recorded os l.initial.rows ++ bindings_of_all os order l.list;
    }
