use Rattle.std.proofs.Common.{◌≡◌, ℕ, ◌<◌, List, length, get_or, sym, ap, subst, ◌∙◌, arith}
use Rattle.scope.specs.Orders.{left}
use Rattle.session.proofs.Joins.{left_first}
use Rattle.session.proofs.join.empty.Goals as goal

pub loop-object-smaller : goal.loop-object-smaller
loop-object-smaller g c =
    let xs : List ℕ = g.S.Scope.order c.loop-object.scope in
    let l : 0 < length xs = grind (arith, c.in-Some.ensures, c.order.ensures) in
    let here : c.in-Some.field-0.now ≡ get_or xs 0 0 = grind (arith, c.in-Some.ensures, c.order.ensures) in
    subst (λ (n : ℕ). n < length xs) (sym (ap length (c.leave.ensures.order ∙ ap (left xs) here))) (left_first xs l)
