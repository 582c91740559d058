use Rattle.std.proofs.Common.{◌≡◌, drop}
use Rattle.elf.specs.Names.{first_from}
use Rattle.elf.specs.Meaning.{object}
use Rattle.session.specs.Checks.{no_target}
use Rattle.session.proofs.Asked.{ask_entry}
use Rattle.session.proofs.checks.check_entries.Given as goal

-- the entries that are left give the answer
abbrev pub invariant-loop-entry : goal.invariant-loop-entry
invariant-loop-entry g l =
    let os = g.S.Scope.objects l.scope in
    first_from l.entry (ask_entry os l.object) (drop l.entry (object os l.object).needed) ≡ no_target os l.object
