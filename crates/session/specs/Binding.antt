-- The binding rule.
use Rattle.std.specs.Prelude.{ℕ, cond, ◌&&◌, List, [], ◌∷◌, ◌++◌, map, Some, None, Option}
use Rattle.std.specs.Option.{option_or}
use Rattle.elf.specs.Meaning.{Object, Reference, object}
use Rattle.elf.specs.Offers.{offer}
use Rattle.scope.specs.Orders.{Found, found_in, find}
use Rattle.session.specs.State.{Binding}

-- A symbolic object's own offer for a reference.
abbrev pub symbolic_offer : List Object → ℕ → Reference → Option Found
symbolic_offer c o r =
    cond (object c o).symbolic (found_in o (offer (object c o) r.name r.version)) None

-- A protected own reference takes itself; else a symbolic object's own offer is taken; else find decides.
abbrev pub taken : List Object → List ℕ → ℕ → Reference → Option Found
taken c order o r =
    cond (r.own && r.protected) (Some (o, r.number)) (option_or (symbolic_offer c o r) (find c order r.name r.version))

-- The bindings of an object's references, in their order.
abbrev pub bindings_of : List Object → List ℕ → ℕ → List Binding
bindings_of c order o = map (λ r. record { object = o; reference = r; taken = taken c order o r }) (object c o).references

-- The bindings of some objects in turn.
abbrev pub bindings_of_all : List Object → List ℕ → List ℕ → List Binding
bindings_of_all c order [] = []
bindings_of_all c order (o ∷ os) = bindings_of c order o ++ bindings_of_all c order os
