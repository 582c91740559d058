-- What a shared object is, and what a list of them leads to; an object's number is its place in the list.
use Rattle.std.specs.Prelude.{ℕ, Bool, false, List, [], map, None, Option, ◌==◌, slice_index_or}
use Rattle.elf.specs.Names.{Name, is_name, only_if, first, first_from, somes}

-- A symbol that an object defines. Its version index is 0 in an object without symbol versions, else 1 to 255.
pub record Definition : Type 0 where
  pub number : ℕ
  pub name : Name
  pub index : ℕ
  pub hidden : Bool
  pub weak : Bool
  pub protected : Bool
  pub version : Option Name

-- A symbol that an object refers to; it is own where the object defines that symbol.
pub record Reference : Type 0 where
  pub number : ℕ
  pub name : Name
  pub weak : Bool
  pub protected : Bool
  pub own : Bool
  pub version : Option Name

-- A version that an object needs of the file with a soname.
pub record VersionNeed : Type 0 where
  pub file : Name
  pub version : Name
  pub weak : Bool

-- A shared object.
pub record Object : Type 0 where
  pub symbolic : Bool
  pub versioned : Bool
  pub soname : Option Name
  pub needed : List Name
  pub needs : List VersionNeed
  pub versions : List Name
  pub definitions : List Definition
  pub references : List Reference

-- What is read past the end of a list of objects.
abbrev pub no_object : Object
no_object =
    record {
      symbolic = false;
      versioned = false;
      soname = None;
      needed = [];
      needs = [];
      versions = [];
      definitions = [];
      references = [];
    }

-- What is read past the end of an object's references.
abbrev pub no_reference : Reference
no_reference = record { number = 0; name = []; weak = false; protected = false; own = false; version = None }

-- The object of a number.
abbrev pub object : List Object → ℕ → Object
object c i = slice_index_or c i no_object

-- The reference at a place of an object.
abbrev pub reference_at : List Object → ℕ → ℕ → Reference
reference_at c i k = slice_index_or (object c i).references k no_reference

-- The object that a file name leads to: the first with that soname, or none.
abbrev pub target : List Object → Name → Option ℕ
target c n = first_from 0 (λ i o. only_if (is_name o.soname n) i) c

-- The objects that an object's needed entries lead to, in their order.
abbrev pub targets : List Object → ℕ → List ℕ
targets c i = somes (map (target c) (object c i).needed)

-- The definition of a symbol number.
abbrev pub numbered : List Definition → ℕ → Option Definition
numbered ds n = first (λ d. only_if (d.number == n) d) ds
