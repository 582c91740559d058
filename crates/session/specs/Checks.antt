-- The checks on the new objects of a link or an open.
use Rattle.std.specs.Prelude.{ℕ, ◌+◌, ◌-◌, Bool, true, false, cond, not, ◌&&◌, ◌||◌, List, [], ◌∷◌, ◌++◌, length, Some, None, Option, nat_lt}
use Rattle.elf.specs.declared.refusal.Refusal.{Refusal}
use Rattle.elf.specs.declared.refusal.Refusal.TheVariants.{NoTarget, NoVersion, Unbound, ManyBindings}
use Rattle.graph.specs.Graph.{among}
use Rattle.elf.specs.Names.{first, first_from, only_if}
use Rattle.elf.specs.Meaning.{Object, VersionNeed, object, target}
use Rattle.elf.specs.Refusals.{first_refusal}
use Rattle.catalogue.specs.Questions.{provides}
use Rattle.session.specs.Binding.{taken}

-- Does none answer?
abbrev pub is_none : {A : Type 0} → Option A → Bool
is_none None = true
is_none (Some x) = false

-- The first needed entry that leads to none.
abbrev pub no_target : List Object → ℕ → Option Refusal
no_target c o = first_from 0 (λ k n. only_if (is_none (target c n)) (NoTarget o k)) (object c o).needed

-- A version need is met by an object in the order that provides the version.
abbrev pub is_met : List Object → List ℕ → VersionNeed → Bool
is_met c order n = elim (target c n.file) [ None ↦ false | Some t ↦ among t order && provides (object c t) n.version ]

-- The first version need, not weak, that is not met.
abbrev pub no_version : List Object → List ℕ → ℕ → Option Refusal
no_version c order o =
    first_from 0 (λ k n. only_if (not (n.weak || is_met c order n)) (NoVersion o k)) (object c o).needs

-- How many references some objects have.
abbrev pub references_of_all : List Object → List ℕ → ℕ
references_of_all c [] = 0
references_of_all c (o ∷ os) = length (object c o).references + references_of_all c os

-- The first object whose references no longer fit in the room.
abbrev pub many_bindings : List Object → ℕ → List ℕ → Option Refusal
many_bindings c room [] = None
many_bindings c room (o ∷ os) =
    let n : ℕ = length (object c o).references in
    cond (nat_lt room n) (Some (ManyBindings o)) (many_bindings c (room - n) os)

-- The first strong reference that takes nothing.
abbrev pub unbound : List Object → List ℕ → ℕ → Option Refusal
unbound c order o =
    first (λ r. only_if (not r.weak && is_none (taken c order o r)) (Unbound o r.number)) (object c o).references

-- The checks in their order, each over the new objects in list order, which stand in the order too.
abbrev pub check_refusal : List Object → List ℕ → List ℕ → Option Refusal
check_refusal c order new =
    first_refusal
    (first (no_target c) new
    ∷ (first (no_version c order) new ∷ (many_bindings c 4096 order ∷ (first (unbound c order) new ∷ []))))

-- The checks on new objects behind those already loaded.
abbrev pub batch_refusal : List Object → List ℕ → List ℕ → Option Refusal
batch_refusal c loaded new = check_refusal c (loaded ++ new) new
