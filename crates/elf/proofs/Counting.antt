-- The definitions of a name that pass a test, as a search or a filter over the stored ones finds them.
use Rattle.std.proofs.Common.{◌≡◌, ℕ, ◌+◌, Bool, true, false, ltb, ◌&&◌, List, [], ◌∷◌, map, length, get_or, drop, Some, None, filter, Option, refl, ap, sym, ◌∙◌, arith}
use Rattle.std.specs.Iterator.{AlwaysYields}
use Rattle.std.specs.List.{find, list_any, position_or_len}
use Rattle.std.specs.Option.{option_map}
use Rattle.std.specs.Str.{bytes_eq}
use Rattle.std.proofs.lemmas.Bool.Decides.{nat_tests}
use Rattle.std.proofs.lemmas.Iterator.{YieldsList}
use Rattle.elf.specs.declared.symbol.Definition.{Definition as StoredDefinition}
use Rattle.elf.specs.Names.{Name, only_if}
use Rattle.elf.specs.Meaning.{Definition}
use Rattle.elf.specs.Offers.{definitions_of, lowest, sole}
use Rattle.elf.specs.Stored.{definition_of}
use Rattle.elf.proofs.Choices.{only_if_some, only_if_none}

-- the stored definitions of a name
abbrev pub named : Name → List StoredDefinition → List StoredDefinition
named n ds = filter (λ d. bytes_eq d.name.now n) ds

named_all :
    (n : Name) (ds : List StoredDefinition) → definitions_of (map definition_of ds) n ≡ map definition_of (named n ds)
named_all n [] = refl
named_all n (d ∷ ds) = grind (arith, named_all n ds)

-- the first stored one that passes is the lowest of all that pass
lowest_found :
    (p : Definition → Bool) (ds : List StoredDefinition) →
    option_map (λ d. d.number) (find (λ d. p (definition_of d)) ds) ≡ lowest (filter p (map definition_of ds))
lowest_found p [] = refl
lowest_found p (d ∷ ds) = grind (arith, lowest_found p ds)

pub lowest_named :
    (p : Definition → Bool) (n : Name) (ds : List StoredDefinition) →
    option_map (λ d. d.number) (find (λ d. p (definition_of d)) (named n ds))
    ≡ lowest (filter p (definitions_of (map definition_of ds) n))
lowest_named p n ds =
    lowest_found p (named n ds) ∙ ap (λ ms. lowest (filter p ms)) (sym (named_all n ds))

-- the first of them, where all count
pub lowest_next :
    {S A : Type 0} {steps : S → Option A → S → Type 0} {v : A → StoredDefinition} (s t : S) (n : Name)
    (ds : List StoredDefinition) (r : Option A) → steps s r t → YieldsList steps v s (named n ds) →
    option_map (λ x. (v x).number) r ≡ lowest (definitions_of (map definition_of ds) n)
lowest_next {S} {A} {steps} {v} s t n ds r f y = front (named n ds) r f y.runs ∙ ap lowest (sym (named_all n ds)) where
  front :
      (all : List StoredDefinition) (r : Option A) → steps s r t → AlwaysYields steps v s all →
      option_map (λ x. (v x).number) r ≡ lowest (map definition_of all)
  front [] None f a = refl
  front [] (Some x) f a = absurd (a x t f)
  front (d ∷ ds) None f a = absurd (a.0 t f)
  front (d ∷ ds) (Some x) f a = ap (λ e. Some e.number) (a.1 x t f).0

-- whether a stored definition has the name and passes
abbrev pub counts : (Definition → Bool) → Name → StoredDefinition → Bool
counts p n d = bytes_eq d.name.now n && p (definition_of d)

pub counting :
    (p : Definition → Bool) (n : Name) (ds : List StoredDefinition) →
    filter p (definitions_of (map definition_of ds) n) ≡ map definition_of (filter (counts p n) ds)
counting p n [] = refl
counting p n (d ∷ ds) = grind (arith, counting p n ds)

-- what is read past the end
abbrev pub no_definition : StoredDefinition
no_definition =
    record {
      number = 0;
      name = record { ref_ptr = (0, 0); now = [] };
      index = 0;
      hidden = false;
      weak = false;
      protected = false;
      version = None;
    }

-- The place of the first that passes, and whether a later one does, show whether it is the only one.
module _ (p : StoredDefinition → Bool) where
  none_passes : (ds : List StoredDefinition) → ltb (position_or_len p ds) (length ds) ≡ false → filter p ds ≡ []
  none_passes [] e = refl
  none_passes (d ∷ ds) e = let h = none_passes ds in grind (arith, nat_tests, h)

  first_passes :
      (ds : List StoredDefinition) (z : StoredDefinition) → ltb (position_or_len p ds) (length ds) ≡ true →
      filter p ds ≡ get_or ds (position_or_len p ds) z ∷ filter p (drop (position_or_len p ds + 1) ds)
  first_passes [] z e = grind (arith, nat_tests)
  first_passes (d ∷ ds) z e = let h = first_passes ds z in grind (arith, nat_tests, h)

  none_later : (ds : List StoredDefinition) → list_any p ds ≡ false → filter p ds ≡ []
  none_later [] e = refl
  none_later (d ∷ ds) e = let h = none_later ds in grind (arith, h)

  several_later : (x : StoredDefinition) (ds : List StoredDefinition) → list_any p ds ≡ true → None ≡ sole (map definition_of (x ∷ filter p ds))
  several_later x [] e = grind arith
  several_later x (d ∷ ds) e = let h = several_later x ds in grind (arith, h)

  -- the place of the first that passes, as the library finds it
  abbrev pub placed : List StoredDefinition → Option ℕ
  placed ds = only_if (ltb (position_or_len p ds) (length ds)) (position_or_len p ds)

  pub sole_of_none : (ds : List StoredDefinition) → None ≡ placed ds → None ≡ sole (map definition_of (filter p ds))
  sole_of_none ds e = ap (λ xs. sole (map definition_of xs)) (sym (none_passes ds (only_if_none _ _ (sym e))))

  module _ (ds later : List StoredDefinition) (k : ℕ) (z : StoredDefinition) (e : Some k ≡ placed ds) (rest : later ≡ drop (k + 1) ds) where
    split_there : filter p ds ≡ get_or ds k z ∷ filter p later
    split_there =
        let found = only_if_some _ _ _ (sym e) in
        first_passes ds z found.0
        ∙ ap (λ i. get_or ds i z ∷ filter p (drop (i + 1) ds)) found.1
        ∙ ap (λ xs. get_or ds k z ∷ filter p xs) (sym rest)

    pub sole_of_several : list_any p later ≡ true → None ≡ sole (map definition_of (filter p ds))
    sole_of_several l = several_later (get_or ds k z) later l ∙ ap (λ xs. sole (map definition_of xs)) (sym split_there)

    pub sole_of_one : list_any p later ≡ false → Some (get_or ds k z).number ≡ sole (map definition_of (filter p ds))
    sole_of_one l =
        ap (λ xs. sole (map definition_of (get_or ds k z ∷ xs))) (sym (none_later later l))
        ∙ ap (λ xs. sole (map definition_of xs)) (sym split_there)
