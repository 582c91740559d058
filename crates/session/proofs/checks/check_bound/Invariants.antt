use Rattle.std.proofs.Common.{◌≡◌, drop}
use Rattle.elf.specs.Names.{first}
use Rattle.session.specs.Checks.{unbound}
use Rattle.session.proofs.checks.check_bound.Given as goal

-- the objects that are left give the answer
abbrev pub invariant-loop-object : goal.invariant-loop-object
invariant-loop-object g l =
    let os = g.S.Scope.objects l.initial.scope in
    let order = g.S.Scope.order l.initial.scope in
    record {
      same_objects : g.S.Scope.objects l.scope ≡ os;
      same_order : g.S.Scope.order l.scope ≡ order;
      left : first (unbound os order) (drop l.object-index l.list) ≡ first (unbound os order) l.list;
    }
