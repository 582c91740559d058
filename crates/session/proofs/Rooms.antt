-- Where the check of the room passes, all references fit.
use Rattle.std.proofs.Common.{◌≡◌, ℕ, ◌+◌, ◌-◌, ◌≤◌, List, [], ◌∷◌, ◌++◌, length, None, arith}
use Rattle.std.proofs.lemmas.Bool.Decides.{nat_tests}
use Rattle.elf.specs.Meaning.{Object, object}
use Rattle.session.specs.Checks.{references_of_all, many_bindings}

all_fit : (c : List Object) (room : ℕ) (os : List ℕ) → many_bindings c room os ≡ None → references_of_all c os ≤ room
all_fit c room [] e = omega arith
all_fit c room (o ∷ os) e =
    let h = all_fit c (room - length (object c o).references) os in
    grind (arith, nat_tests, h)

both_of :
    (c : List Object) (os ps : List ℕ) → references_of_all c (os ++ ps) ≡ references_of_all c os + references_of_all c ps
both_of c [] ps = omega arith
both_of c (o ∷ os) ps = let h = both_of c os ps in omega arith

pub both_fit :
    (c : List Object) (loaded new : List ℕ) → many_bindings c 4096 (loaded ++ new) ≡ None →
    references_of_all c loaded + references_of_all c new ≤ 4096
both_fit c loaded new e = omega (arith, all_fit c 4096 (loaded ++ new) e, both_of c loaded new)
