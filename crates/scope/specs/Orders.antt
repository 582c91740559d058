-- What a scope means: a catalogue and an order of different objects from it.
use Rattle.std.specs.Prelude.{ℕ, not, List, [], ◌∷◌, ◌++◌, length, Some, None, filter, Option, Result, ◌==◌, nat_le}
use Rattle.graph.specs.Graph.{among, Distinct, Below}
use Rattle.elf.specs.declared.refusal.Refusal.{Refusal}
use Rattle.elf.specs.declared.refusal.Refusal.TheVariants.{Unknown, Twice, NotThere}
use Rattle.elf.specs.Names.{Name, first, only_if}
use Rattle.elf.specs.Meaning.{Object, object}
use Rattle.elf.specs.Offers.{offer}
use Rattle.elf.specs.Refusals.{first_refusal, answer, after}

-- An order has different objects of the catalogue.
pub record LawfulOrder (c : List Object) (order : List ℕ) : Type 0 where
  pub once : Distinct order
  pub known : Below (length c) order

-- A definition found: its object and its symbol.
abbrev pub Found : Type 0
Found = ℕ × ℕ

-- A symbol of an object.
abbrev pub found_in : ℕ → Option ℕ → Option Found
found_in o None = None
found_in o (Some s) = Some (o, s)

-- The first object in the order that makes an offer, with its symbol.
abbrev pub find : List Object → List ℕ → Name → Option Name → Option Found
find c order n v = first (λ o. found_in o (offer (object c o) n v)) order

-- An object past the catalogue is unknown.
abbrev pub unknown : List Object → ℕ → Option Refusal
unknown c o = only_if (nat_le (length c) o) (Unknown o)

-- Join refuses an unknown object, and one already there.
abbrev pub join_refusal : List Object → List ℕ → ℕ → Option Refusal
join_refusal c order o = first_refusal (unknown c o ∷ (only_if (among o order) (Twice o) ∷ []))

-- A join's answer.
abbrev pub join_answer : List Object → List ℕ → ℕ → Result (Unit {0}) Refusal
join_answer c order o = answer (join_refusal c order o) tt

-- The order after a join.
abbrev pub joined : List Object → List ℕ → ℕ → List ℕ
joined c order o = after (join_refusal c order o) order (order ++ (o ∷ []))

-- An order without an object; the others keep their order.
abbrev pub without : ℕ → List ℕ → List ℕ
without o order = filter (λ p. not (p == o)) order

-- Leave refuses an object that is not there.
abbrev pub leave_refusal : List ℕ → ℕ → Option Refusal
leave_refusal order o = only_if (not (among o order)) (NotThere o)

-- A leave's answer.
abbrev pub leave_answer : List ℕ → ℕ → Result (Unit {0}) Refusal
leave_answer order o = answer (leave_refusal order o) tt

-- The order after a leave.
abbrev pub left : List ℕ → ℕ → List ℕ
left order o = after (leave_refusal order o) order (without o order)
