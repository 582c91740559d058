-- The list of new objects as it grows.
use Rattle.std.proofs.Common.{◌≡◌, ℕ, ◌<◌, true, ◌||◌, List, [], ◌∷◌, ◌++◌, length, sym, ap, ◌∙◌, inl, inr}
use Rattle.std.proofs.lemmas.Bool.{cases_Bool}
use Rattle.graph.specs.Graph.{among, grow}
use Rattle.graph.proofs.Members.{among_in}
use Rattle.graph.proofs.Loops.{grow_none, grow_seen, grow_new}
use Rattle.elf.specs.Meaning.{Object}
use Rattle.scope.specs.Orders.{LawfulOrder}

pub lawful_known : (c : List Object) (xs : List ℕ) (o : ℕ) → LawfulOrder c xs → among o xs ≡ true → o < length c
lawful_known c xs o h e = h.known o ((among_in o xs).0 e)

-- objects are added one by one
pub grow_on : (old xs ys : List ℕ) (y : ℕ) → grow old (grow old xs (y ∷ [])) ys ≡ grow old xs (y ∷ ys)
grow_on old xs ys y = elim (cases_Bool (among y old || among y xs)) [
  | inl e ↦ ap (λ l. grow old l ys) (grow_seen old xs [] y e ∙ grow_none old xs) ∙ sym (grow_seen old xs ys y e)
  | inr e ↦ ap (λ l. grow old l ys) (grow_new old xs [] y e ∙ grow_none old (xs ++ y ∷ [])) ∙ sym (grow_new old xs ys y e)
]
