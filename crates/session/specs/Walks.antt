-- Which objects a link or an open brings, which are reached, and in which order new objects start.
use Rattle.std.specs.Prelude.{ℕ, cond, List, [], ◌∷◌, ◌++◌, length, Some, None, ◌==◌}
use Rattle.graph.specs.Graph.{spread, order}
use Rattle.elf.specs.Meaning.{Object, targets}
use Rattle.session.specs.State.{Binding}

-- The list of a link or an open: the objects it starts from, then needed targets in turn, none that is loaded.
abbrev pub new_list : List Object → List ℕ → List ℕ → List ℕ
new_list c loaded from = spread (targets c) loaded from (length c)

-- The objects that an object's recorded bindings lead to.
abbrev pub bound_to : List Binding → ℕ → List ℕ
bound_to [] o = []
bound_to (b ∷ bs) o =
    elim b.taken [ None ↦ bound_to bs o | Some f ↦ cond (b.object == o) (f.0 ∷ bound_to bs o) (bound_to bs o) ]

-- The objects reached from some by needed entries and recorded bindings; each object reaches itself.
abbrev pub reached : List Object → List Binding → List ℕ → List ℕ
reached c bs from = spread (λ o. targets c o ++ bound_to bs o) [] from (length c)

-- The start order of new objects: from some objects in turn, depth first along needed entries through new objects,
-- each put down after its targets.
abbrev pub start_order : List Object → List ℕ → List ℕ → List ℕ
start_order c new from = order (targets c) new from (length c)
