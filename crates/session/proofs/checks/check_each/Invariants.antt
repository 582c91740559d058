use Rattle.std.proofs.Common.{◌≡◌, ℕ, Option, drop}
use Rattle.elf.specs.declared.refusal.Refusal.{Refusal}
use Rattle.elf.specs.Names.{first}
use Rattle.elf.specs.Refusals.{answer}
use Rattle.session.proofs.checks.check_each.Given as goal

-- the objects that are left give the answer
abbrev pub invariant-loop-object : goal.invariant-loop-object
invariant-loop-object g l =
    (f : ℕ → Option Refusal) → ((o : ℕ) (r : _) → g.F.Fn.post l.check (o, tt) r → r ≡ answer (f o) tt) →
    first f (drop l.object-index l.list) ≡ first f l.list
