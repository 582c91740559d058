use Rattle.std.proofs.Common.{◌≡◌, not, ◌&&◌, drop}
use Rattle.elf.specs.declared.refusal.Refusal.TheVariants.{Unbound}
use Rattle.elf.specs.Names.{first, only_if}
use Rattle.elf.specs.Meaning.{object}
use Rattle.session.specs.Binding.{taken}
use Rattle.session.specs.Checks.{is_none, unbound}
use Rattle.session.proofs.checks.check_references.Given as goal

-- the references that are left give the answer
abbrev pub invariant-loop-place : goal.invariant-loop-place
invariant-loop-place g l =
    let os = g.S.Scope.objects l.initial.scope in
    let order = g.S.Scope.order l.initial.scope in
    let o = l.object in
    record {
      same_objects : g.S.Scope.objects l.scope ≡ os;
      same_order : g.S.Scope.order l.scope ≡ order;
      left :
          first (λ r. only_if (not r.weak && is_none (taken os order o r)) (Unbound o r.number)) (drop l.place (object os o).references)
          ≡ unbound os order o;
    }
