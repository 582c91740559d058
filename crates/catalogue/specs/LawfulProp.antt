-- A catalogue keeps the rules in at most one way, as a ghost field asks.
use Rattle.std.specs.Prelude.{ℕ, List, [], ◌∷◌, Some, None, Option}
use Rattle.std.specs.List.{AllByRecursion}
use Rattle.std.proofs.Props.{props}
use Rattle.elf.specs.Names.{Name}
use Rattle.elf.specs.Meaning.{Object}
use Rattle.catalogue.specs.Lawful.{LawfulIfTold, Rising, LawfulObject, Lawful}

all_prop : {A : Type 0} (P : A → Type 0) → ((x : A) → IsProp (P x)) → (xs : List A) → IsProp (AllByRecursion P xs)
all_prop P p [] = hlevel props
all_prop P p (x ∷ xs) = hlevel (props, p x, all_prop P p xs)

told_prop : (n : Option Name) → IsProp (LawfulIfTold n)
told_prop None = hlevel props
told_prop (Some n) = hlevel props

rising_prop : (low : ℕ) (ns : List ℕ) → IsProp (Rising low ns)
rising_prop low [] = hlevel props
rising_prop low (n ∷ ns) = hlevel (props, rising_prop n ns)

object_prop : (o : Object) → IsProp (LawfulObject o)
object_prop o = hlevel (props, told_prop, rising_prop, all_prop)

pub lawful_prop : (c : List Object) → IsProp (Lawful c)
lawful_prop c = hlevel (props, all_prop LawfulObject object_prop c)
