-- Names among those of a book: the object with a soname, and a version of an object.
use Rattle.std.proofs.Common.{◌≡◌, ℕ, suc, ◌+◌, Bool, List, [], ◌∷◌, ◌||◌, map, Some, None, Option, sym, refl, ap, ◌∙◌, zero-add, arith, Bor}
use Rattle.std.specs.List.{list_any, position}
use Rattle.std.specs.Option.{option_map, option_eq}
use Rattle.std.specs.Str.{bytes_eq}
use Rattle.std.proofs.lemmas.Bool.Decides.{nat_tests}
use Rattle.elf.specs.Names.{Name, bytes_of, is_name, named_in, only_if, first_from}
use Rattle.elf.specs.Meaning.{target}
use Rattle.book.specs.Held.{objects_of}
use Rattle.book.specs.declared.object.BookObject.{BookObject}

-- Whether a soname is told, and this one.
pub soname_is : (o : Option (Bor (List ℕ))) (n : Bor (List ℕ))
    → option_eq (λ (x y : Bor (List ℕ)). bytes_eq x.now y.now) o (Some n) ≡ is_name (bytes_of o) n.now
soname_is None n = refl
soname_is (Some m) n = refl

-- The first object with a soname, counted from k.
first_named : (k : ℕ) (os : List BookObject) (n : Name)
    → first_from k (λ i o. only_if (is_name o.soname n) i) (objects_of os)
    ≡ option_map (λ i. k + i) (position (λ o. is_name (bytes_of o.soname) n) os)
first_named k [] n = refl
first_named k (o ∷ os) n = let e = first_named (suc k) os n in grind (arith, nat_tests, e)

pub target_found : (os : List BookObject) (n : Name) (r : Option ℕ)
    → r ≡ position (λ o. is_name (bytes_of o.soname) n) os → r ≡ target (objects_of os) n
target_found os n None e = ap (option_map (λ i. 0 + i)) e ∙ sym (first_named 0 os n)
target_found os n (Some i) e = ap Some (sym (zero-add i)) ∙ ap (option_map (λ i. 0 + i)) e ∙ sym (first_named 0 os n)

-- A version among those of an object.
pub any_is_named : (vs : List (Bor (List ℕ) × ℕ)) (n : Name)
    → list_any (λ v. bytes_eq v.0.now n) vs ≡ named_in n (map (λ v. v.0.now) vs)
any_is_named [] n = refl
any_is_named (v ∷ vs) n = ap (λ (b : Bool). bytes_eq v.0.now n || b) (any_is_named vs n)
