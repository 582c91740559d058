-- What a join and a leave keep of an order.
use Rattle.std.proofs.Common.{◌≡◌, ℕ, ◌<◌, Bool, false, not, eqb, List, [], ◌∷◌, ◌++◌, length, sym, subst, inl, inr, arith, Ok}
use Rattle.std.proofs.lemmas.List.{length_push}
use Rattle.std.specs.List.Retain.{RetainsInTurn}
use Rattle.arrayvec.proofs.ArrayVecLemmas.{filter-from_retain}
use Rattle.std.proofs.lemmas.Bool.Decides.{nat_tests}
use Rattle.graph.specs.Graph.{among, Below}
use Rattle.graph.proofs.Members.{in_one, in_append, not_in, distinct_push}
use Rattle.graph.proofs.Room.{distinct_length}
use Rattle.graph.proofs.Laws.{kept_in, distinct_kept}
use Rattle.elf.specs.Meaning.{Object}
use Rattle.catalogue.specs.Lawful.{Lawful}
use Rattle.elf.specs.Refusals.{answer}
use Rattle.scope.specs.Orders.{LawfulOrder, unknown, without}

below_push : (n : ℕ) (order : List ℕ) (o : ℕ) → Below n order → o < n → Below n (order ++ o ∷ [])
below_push n order o b h x i =
    elim (in_append order i) [ inl j ↦ b x j | inr j ↦ (let e = in_one j in omega arith) ]

pushed :
    (c : List Object) (order : List ℕ) (o : ℕ) → LawfulOrder c order → o < length c → among o order ≡ false →
    LawfulOrder c (order ++ o ∷ [])
pushed c order o l h n =
    record {
      once = distinct_push order o l.once (not_in o order n);
      known = below_push (length c) order o l.known h;
    }

-- a known object that is not there is put behind the others
pub lawful_push :
    (c : List Object) (order after : List ℕ) (o : ℕ) →
    LawfulOrder c order → o < length c → among o order ≡ false → after ≡ order ++ o ∷ [] → LawfulOrder c after
lawful_push c order after o l h n e = subst (λ (os : List ℕ). LawfulOrder c os) (sym e) (pushed c order o l h n)

-- and there is room for it
pub room_left :
    (c : List Object) (order : List ℕ) (o : ℕ) →
    Lawful c → LawfulOrder c order → o < length c → among o order ≡ false → length order < 64
room_left c order o k l h n =
    let p = pushed c order o l h n in
    let m = distinct_length (length c) (order ++ o ∷ []) p.once p.known in
    let e = length_push order o in
    omega (arith, k.1)

pub lawful_without :
    (c : List Object) (order after : List ℕ) (o : ℕ) →
    LawfulOrder c order → after ≡ without o order → LawfulOrder c after
lawful_without c order after o l e =
    subst (λ (os : List ℕ). LawfulOrder c os) (sym e)
    (record {
      once = distinct_kept (λ p. not (eqb p o)) order l.once;
      known = λ x i. l.known x (kept_in (λ p. not (eqb p o)) x order i).0;
    })

-- what `retain` leaves of an order, where each call keeps the others
pub retained :
    {F : Type 0} (R : F → ℕ → Bool → F → ℕ → Type 0) (f : F) (order after : List ℕ) (o : ℕ) → RetainsInTurn R f order after →
    ((x : ℕ) (b : Bool) (h : F) (y : ℕ) → R f x b h y → (b ≡ not (eqb x o)) × (h ≡ f) × (y ≡ x)) →
    after ≡ without o order
retained R f order after o r says = filter-from_retain R (λ p. not (eqb p o)) f says order after r

-- an object that passes the test stands in the catalogue
pub in_catalogue :
    (c : List Object) (o : ℕ) (u : Unit {0}) → Ok u ≡ answer (unknown c o) tt → o < length c
in_catalogue c o u e = grind (arith, nat_tests)
