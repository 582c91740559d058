-- The rules that every catalogue's meaning keeps.
use Rattle.std.specs.Prelude.{◌≡◌, ℕ, ◌<◌, ◌≤◌, Bool, true, false, cond, not, ◌&&◌, List, [], ◌∷◌, map, length, Some, None, Option, ◌==◌, nat_le}
use Rattle.std.specs.Bool.{beq}
use Rattle.std.specs.List.{AllByRecursion}
use Rattle.std.specs.Str.{bytes_eq}
use Rattle.elf.specs.Names.{Name, lawful}
use Rattle.elf.specs.Meaning.{Definition, Reference, Object, numbered}

-- A name is lawful.
abbrev pub LawfulName : Name → Type 0
LawfulName n = lawful n ≡ true

-- A name or version that is told is lawful.
abbrev pub LawfulIfTold : Option Name → Type 0
LawfulIfTold None = Unit {0}
LawfulIfTold (Some n) = LawfulName n

-- Numbers above a first one, rising strictly, at most 65,535.
abbrev pub Rising : ℕ → List ℕ → Type 0
Rising low [] = Unit {0}
Rising low (n ∷ ns) = (low < n) × (n ≤ 65535) × Rising n ns

-- An index is 1 to 255 in an object with symbol versions, else 0 and never hidden.
abbrev pub index_fits : Bool → Definition → Bool
index_fits versioned d =
    cond versioned (nat_le 1 d.index && nat_le d.index 255) (d.index == 0 && not d.hidden)

-- A version stands exactly from index 2 on.
abbrev pub version_fits : ℕ → Option Name → Bool
version_fits i None = not (nat_le 2 i)
version_fits i (Some v) = nat_le 2 i

-- Both lack a version, or have the same.
abbrev pub same_version : Option Name → Option Name → Bool
same_version None None = true
same_version None (Some w) = false
same_version (Some v) None = false
same_version (Some v) (Some w) = bytes_eq v w

-- A reference is own exactly where its number is defined, and then says the same; only an own one is protected.
abbrev pub agrees : Reference → Option Definition → Bool
agrees r None = not r.own && not r.protected
agrees r (Some d) =
    r.own && bytes_eq r.name d.name && same_version r.version d.version && beq r.weak d.weak
    && beq r.protected d.protected

-- A definition keeps the rules of its object.
abbrev pub LawfulDefinition : Object → Definition → Type 0
LawfulDefinition o d =
    LawfulName d.name × LawfulIfTold d.version × (index_fits o.versioned d ≡ true)
    × (version_fits d.index d.version ≡ true)

-- A reference keeps the rules of its object.
abbrev pub LawfulReference : Object → Reference → Type 0
LawfulReference o r =
    LawfulName r.name × LawfulIfTold r.version × (agrees r (numbered o.definitions r.number) ≡ true)

-- An object keeps the rules on names, numbers, flags and limits.
pub record LawfulObject (o : Object) : Type 0 where
  pub soname : LawfulIfTold o.soname
  pub needed : (length o.needed ≤ 32) × AllByRecursion LawfulName o.needed
  pub needs : (length o.needs ≤ 64) × AllByRecursion (λ n. LawfulName n.file × LawfulName n.version) o.needs
  pub versions : (length o.versions ≤ 64) × AllByRecursion LawfulName o.versions
  pub definitions : (length o.definitions ≤ 4096) × AllByRecursion (LawfulDefinition o) o.definitions
  pub references : (length o.references ≤ 4096) × AllByRecursion (LawfulReference o) o.references
  pub definitions_rise : Rising 0 (map (λ d. d.number) o.definitions)
  pub references_rise : Rising 0 (map (λ r. r.number) o.references)

-- A catalogue has 1 to 64 lawful objects.
abbrev pub Lawful : List Object → Type 0
Lawful c = (1 ≤ length c) × (length c ≤ 64) × AllByRecursion LawfulObject c
