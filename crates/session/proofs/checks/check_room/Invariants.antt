use Rattle.std.proofs.Common.{◌≡◌, drop}
use Rattle.session.specs.Checks.{many_bindings}
use Rattle.session.proofs.checks.check_room.Given as goal

-- the objects and the room that are left give the answer
abbrev pub invariant-loop-object : goal.invariant-loop-object
invariant-loop-object g l =
    let os = g.S.Scope.objects l.scope in
    many_bindings os l.room (drop l.object-index l.object-items) ≡ many_bindings os 4096 l.object-items
