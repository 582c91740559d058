-- An offer: the definition that an object gives to a name and a wanted version, or none.
use Rattle.std.specs.Prelude.{ℕ, Bool, cond, not, ◌&&◌, ◌||◌, List, [], ◌∷◌, Some, None, filter, Option, ◌==◌, nat_le}
use Rattle.std.specs.Option.{option_or}
use Rattle.std.specs.Str.{bytes_eq}
use Rattle.elf.specs.Names.{Name, is_name}
use Rattle.elf.specs.Meaning.{Definition, Object}

-- The definitions of a name.
abbrev pub definitions_of : List Definition → Name → List Definition
definitions_of ds n = filter (λ d. bytes_eq d.name n) ds

-- The lowest-numbered of some definitions, which stand by rising number.
abbrev pub lowest : List Definition → Option ℕ
lowest [] = None
lowest (d ∷ ds) = Some d.number

-- The only one of some definitions; of several, none.
abbrev pub sole : List Definition → Option ℕ
sole [] = None
sole (d ∷ []) = Some d.number
sole (d ∷ (e ∷ ds)) = None

-- A definition serves a wanted version if it has it, hidden or not, or if it has index 1 and is not hidden.
abbrev pub serves : Name → Definition → Bool
serves v d = is_name d.version v || (d.index == 1 && not d.hidden)

-- A definition of index 1 or 2, hidden or not, comes first where no version is wanted.
abbrev pub basic : Definition → Bool
basic d = d.index == 1 || d.index == 2

-- A definition of index 3 or more that is not hidden comes second.
abbrev pub visible : Definition → Bool
visible d = nat_le 3 d.index && not d.hidden

-- The pick among the definitions of a name in an object with symbol versions.
abbrev pub versioned_pick : List Definition → Option Name → Option ℕ
versioned_pick ds (Some v) = lowest (filter (serves v) ds)
versioned_pick ds None = option_or (lowest (filter basic ds)) (sole (filter visible ds))

-- The symbol number offered; without symbol versions the wanted version does not count.
abbrev pub offer_among : Bool → List Definition → Name → Option Name → Option ℕ
offer_among versioned ds n v = cond versioned (versioned_pick (definitions_of ds n) v) (lowest (definitions_of ds n))

-- What an object offers.
abbrev pub offer : Object → Name → Option Name → Option ℕ
offer o n v = offer_among o.versioned o.definitions n v
