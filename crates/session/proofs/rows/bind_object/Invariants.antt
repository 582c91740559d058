use Rattle.std.proofs.Common.{◌≡◌, ◌+◌, ◌++◌, map, length, take}
use Rattle.elf.specs.Meaning.{object}
use Rattle.session.specs.Binding.{taken}
use Rattle.session.specs.View.{recorded}
use Rattle.session.proofs.rows.bind_object.Given as goal

-- the bindings of the references so far are recorded
abbrev pub invariant-loop-place : goal.invariant-loop-place
invariant-loop-place g l =
    let os = g.S.Scope.objects l.initial.scope in
    let order = g.S.Scope.order l.initial.scope in
    let o = l.object in
    record {
      same_objects : g.S.Scope.objects l.scope ≡ os;
      same_order : g.S.Scope.order l.scope ≡ order;
      used : length l.rows ≡ length l.initial.rows + l.place;
      rows :
          recorded os l.rows
          ≡ recorded os l.initial.rows
          ++ map (λ r. record { object = o; reference = r; taken = taken os order o r }) (take l.place (object os o).references);
    }
