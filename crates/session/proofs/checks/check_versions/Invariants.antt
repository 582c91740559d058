use Rattle.std.proofs.Common.{◌≡◌, drop}
use Rattle.elf.specs.Names.{first_from}
use Rattle.elf.specs.Meaning.{object}
use Rattle.session.specs.Checks.{no_version}
use Rattle.session.proofs.Asked.{ask_need}
use Rattle.session.proofs.checks.check_versions.Given as goal

-- the needs that are left give the answer
abbrev pub invariant-loop-need : goal.invariant-loop-need
invariant-loop-need g l =
    let os = g.S.Scope.objects l.scope in
    let order = g.S.Scope.order l.scope in
    first_from l.need (ask_need os order l.object) (drop l.need (object os l.object).needs) ≡ no_version os order l.object
