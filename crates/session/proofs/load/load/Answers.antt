use Rattle.std.proofs.Common.{◌≡◌, ℕ, true, not, List, ◌++◌, Some, None, filter, refl, ap, ◌∙◌, ap₂, Option}
use Rattle.std.specs.Result.{is_err}
use Rattle.graph.specs.Graph.{among}
use Rattle.elf.specs.declared.refusal.Refusal.{Refusal}
use Rattle.elf.specs.Meaning.{Object}
use Rattle.elf.specs.Refusals.{answer, after}
use Rattle.session.specs.Checks.{batch_refusal, check_refusal}
use Rattle.session.proofs.Joins.{left_alone}
use Rattle.session.proofs.load.load.Goals as goal

-- what is refused leaves things as they were
refused : (r : Option Refusal) (was next : List ℕ) → true ≡ is_err (answer {A = Unit {0}} r tt) → was ≡ after r was next
refused None was next e = cc
refused (Some f) was next e = refl

pub returns-then-is_err-clause-order : goal.returns-then-is_err-clause-order
returns-then-is_err-clause-order g c =
    let os : List Object = g.S.Scope.objects c.args.scope.now in
    let order : List ℕ = g.S.Scope.order c.args.scope.now in
    let new : List ℕ = c.args.list.now in
    let said =
    c.if-is_err.ensures.value
    ∙ ap is_err (c.check_all-checked.ensures.answer
    ∙ ap₂ (λ p o. answer {A = Unit {0}} (check_refusal p o new) tt) c.join_all.ensures.objects c.join_all.ensures.order) in
    c.leave_all.ensures.order
    ∙ ap (filter (λ o. not (among o new))) (c.check_all-checked.ensures.order ∙ c.join_all.ensures.order)
    ∙ left_alone order new c.requires.apart
    ∙ refused (batch_refusal os order new) order (order ++ new) said
