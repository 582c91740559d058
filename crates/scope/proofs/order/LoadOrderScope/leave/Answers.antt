use Rattle.std.proofs.Common.{rules, tests, refl, arith}
use Rattle.std.proofs.lemmas.Bool.Decides.{nat_tests}
use Rattle.scope.proofs.Changes.{lawful_without, retained}
use Rattle.scope.proofs.order.LoadOrderScope.leave.Goals as goal

pub invariant_of-self : goal.invariant_of-self
invariant_of-self g c =
    record {
      lawful =
          lawful_without _ _ _ c.args.object c.args.self.now.lawful
          (retained _ _ _ _ c.args.object c.retain.ensures.filtered (λ x b f y r. search (rules, tests)));
    }

pub returns : goal.returns
returns g c =
    let e = retained _ _ _ _ c.args.object c.retain.ensures.filtered (λ x b f y r. search (rules, tests)) in
    record { objects = refl; answer = grind (arith, nat_tests, c.if-not-contains.ensures.value); order = grind (arith, nat_tests, c.if-not-contains.ensures.value, e) }
