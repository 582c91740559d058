use Rattle.std.proofs.Common.{◌≡◌, length}
use Rattle.session.proofs.join.empty.Given as goal

abbrev pub invariant-loop-object : goal.invariant-loop-object
invariant-loop-object g l = g.S.Scope.objects l.scope ≡ g.S.Scope.objects l.initial.scope

abbrev pub decreases-loop-object : goal.decreases-loop-object
decreases-loop-object g l = length (g.S.Scope.order l.scope)
