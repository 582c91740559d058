-- A catalogue's questions, answered from its meaning; past the end the answer is none.
use Rattle.std.specs.Prelude.{ℕ, Bool, ◌||◌, List, length, Option, ◌==◌}
use Rattle.std.specs.Option.{option_map}
use Rattle.std.specs.List.{slice_get}
use Rattle.elf.specs.Names.{Name, named_in, and_then}
use Rattle.elf.specs.Meaning.{Reference, Object, object, target}
use Rattle.elf.specs.Offers.{offer}
use Rattle.catalogue.specs.declared.heads.ObjectHead.{ObjectHead}
use Rattle.catalogue.specs.declared.heads.ReferenceHead.{ReferenceHead}

-- Whether an object is symbolic, and how long its lists are.
abbrev pub object_head : Object → ObjectHead
object_head o =
    record {
      symbolic = o.symbolic;
      needed = length o.needed;
      needs = length o.needs;
      references = length o.references;
    }

-- What is asked of an object.
abbrev pub asked : {A : Type 0} → List Object → ℕ → (Object → A) → Option A
asked c i f = option_map f (slice_get c i)

-- A field of an entry of one of an object's lists.
abbrev pub asked_at : {A B : Type 0} → List Object → ℕ → (Object → List A) → ℕ → (A → B) → Option B
asked_at c i rows k f = option_map f (slice_get (rows (object c i)) k)

-- The object that a needed entry leads to.
abbrev pub needed_target : List Object → ℕ → ℕ → Option ℕ
needed_target c i k = and_then (slice_get (object c i).needed k) (target c)

-- The object that a version need leads to.
abbrev pub need_target : List Object → ℕ → ℕ → Option ℕ
need_target c i k = and_then (slice_get (object c i).needs k) (λ v. target c v.file)

-- What a reference says besides its name and its version.
abbrev pub reference_head : Reference → ReferenceHead
reference_head r = record { number = r.number; weak = r.weak; protected = r.protected; own = r.own }

-- The version of a reference, none where it has none or does not exist.
abbrev pub reference_version : List Object → ℕ → ℕ → Option Name
reference_version c i k = and_then (slice_get (object c i).references k) (λ r. r.version)

-- An object provides a version if it defines it, or defines none at all.
abbrev pub provides : Object → Name → Bool
provides o v = length o.versions == 0 || named_in v o.versions

-- Whether an object provides the version of another object's need.
abbrev pub need_provided : List Object → ℕ → ℕ → ℕ → Option Bool
need_provided c i k t = asked_at c i (λ o. o.needs) k (λ n. provides (object c t) n.version)

-- What an object offers; an unknown object offers nothing.
abbrev pub offered : List Object → ℕ → Name → Option Name → Option ℕ
offered c i n v = offer (object c i) n v
