-- The needed targets of an object, which stand in the catalogue.
use Rattle.std.proofs.Common.{◌≡◌, ℕ, suc, ◌+◌, ◌<◌, ◌≤◌, Bool, true, false, List, [], ◌∷◌, map, length, get_or, drop, Some, None, Option, sym, ap, ◌∙◌, subst, inl, inr, arith}
use Rattle.std.specs.Option.{option_or}
use Rattle.std.proofs.lemmas.Option.{slice_get-get_or}
use Rattle.std.proofs.lemmas.List.{at_drop_more}
use Rattle.graph.specs.Graph.{Below, Bounded}
use Rattle.graph.proofs.Members.{in_none, in_cases}
use Rattle.elf.specs.Names.{Name, is_name, only_if, and_then, first_from, somes}
use Rattle.elf.specs.Meaning.{Object, object, target, targets}
use Rattle.catalogue.specs.Questions.{needed_target}

-- a target found lies within the catalogue
abbrev Within : ℕ → Option ℕ → Type 0
Within n None = Unit {0}
Within n (Some t) = t < n

within_from :
    (os : List Object) (f : Name) (k n : ℕ) → k + length os ≤ n →
    Within n (first_from k (λ i o. only_if (is_name o.soname f) i) os)
within_from [] f k n l = tt
within_from (o ∷ os) f k n l = go (is_name o.soname f) (within_from os f (suc k) n (omega arith))
  where
    go : (b : Bool) → Within n (first_from (suc k) (λ i p. only_if (is_name p.soname f) i) os) →
        Within n (option_or (only_if b k) (first_from (suc k) (λ i p. only_if (is_name p.soname f) i) os))
    go true h = omega arith
    go false h = h

target_within : (c : List Object) (f : Name) → Within (length c) (target c f)
target_within c f = within_from c f 0 (length c) (omega arith)

somes_below : (n : ℕ) (f : Name → Option ℕ) → ((m : Name) → Within n (f m)) → (ms : List Name) → Below n (somes (map f ms))
somes_below n f h [] = λ x i. in_none i
somes_below n f h (m ∷ ms) = go (f m) (h m) (somes_below n f h ms)
  where
    go : (o : Option ℕ) → Within n o → Below n (somes (map f ms)) → Below n (somes (o ∷ map f ms))
    go None w b = b
    go (Some t) w b = λ x i. elim (in_cases i) [ inl e ↦ subst (λ z. z < n) (sym e) w | inr j ↦ b x j ]

pub targets_bounded : (c : List Object) → Bounded (targets c) (length c)
targets_bounded c o t l = somes_below (length c) (target c) (target_within c) (object c o).needed t

-- a turn of a loop over the needed entries, at a place within them
module _ (c : List Object) (o i : ℕ) (l : i < length (object c o).needed) where
  needed_read : needed_target c o i ≡ target c (get_or (object c o).needed i [])
  needed_read = ap (λ n. and_then n (target c)) (slice_get-get_or (object c o).needed i [] l)

  pub needed_below : (t : ℕ) → Some t ≡ needed_target c o i → t < length c
  needed_below t e = subst (Within (length c)) (sym (e ∙ needed_read)) (target_within c (get_or (object c o).needed i []))

  pub needed_more :
      (r : Option ℕ) → r ≡ needed_target c o i →
      somes (map (target c) (drop i (object c o).needed)) ≡
      somes (r ∷ map (target c) (drop (i + 1) (object c o).needed))
  needed_more r e =
      at_drop_more (λ ns. somes (map (target c) ns)) (object c o).needed i [] l
      ∙ ap (λ t. somes (t ∷ map (target c) (drop (i + 1) (object c o).needed))) (sym (e ∙ needed_read))
