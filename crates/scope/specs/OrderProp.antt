-- An order is lawful in at most one way.
use Rattle.std.specs.Prelude.{ℕ, List, [], ◌∷◌}
use Rattle.std.proofs.Props.{props}
use Rattle.graph.specs.Graph.{Distinct}
use Rattle.elf.specs.Meaning.{Object}
use Rattle.scope.specs.Orders.{LawfulOrder}

distinct_prop : (xs : List ℕ) → IsProp (Distinct xs)
distinct_prop [] = hlevel props
distinct_prop (x ∷ xs) = hlevel (props, distinct_prop xs)

pub lawful_order_prop : (c : List Object) (order : List ℕ) → IsProp (LawfulOrder c order)
lawful_order_prop c order = hlevel (props, distinct_prop order)
