-- The names of a lawful catalogue fit in the buffers that they are copied to.
use Rattle.std.proofs.Common.{◌≡◌, ℕ, zero, suc, false, ltb, List, [], ◌∷◌, length, take, drop, IfSome, Some, None, Option, Result, unwrap_or, refl, ap, arith}
use Rattle.std.specs.Option.{option_map}
use Rattle.std.specs.Result as results
use Rattle.std.specs.List.{AllByRecursion, slice_get}
use Rattle.std.proofs.lemmas.List.{take_at}
use Rattle.std.proofs.lemmas.Bool.Decides.{nat_tests}
use Rattle.elf.specs.declared.refusal.Refusal.{Refusal}
use Rattle.elf.specs.Names.{Name, and_then}
use Rattle.elf.specs.Meaning.{Object, Reference, object, no_reference, reference_at}
use Rattle.catalogue.specs.Lawful.{Lawful, LawfulObject, LawfulReference, LawfulIfTold}
use Rattle.catalogue.specs.Questions.{asked_at, reference_version}
use Rattle.catalogue.specs.Buffers.{name_answer, name_buffer}
use Rattle.session.proofs.Told.{led_at}

-- what holds of each element holds at a place
all_at : {X : Type 0} (P : X → Type 0) (xs : List X) (k : ℕ) → AllByRecursion P xs → IfSome (slice_get xs k) P
all_at P [] k h = tt
all_at P (x ∷ xs) zero h = h.0
all_at P (x ∷ xs) (suc k) h = all_at P xs k h.1

-- each reference keeps the rules of its object
lawful_at :
    (c : List Object) (o k : ℕ) → AllByRecursion LawfulObject c →
    IfSome (slice_get (object c o).references k) (LawfulReference (object c o))
lawful_at [] o k h = tt
lawful_at (p ∷ ps) zero k h = all_at (LawfulReference p) p.references k h.0.references.1
lawful_at (p ∷ ps) (suc o) k h = lawful_at ps o k h.1

module _ (o : Object) where
  name_told : (r : Option Reference) → IfSome r (LawfulReference o) → LawfulIfTold (option_map (λ x. x.name) r)
  name_told None h = tt
  name_told (Some r) h = h.0

  version_told : (r : Option Reference) → IfSome r (LawfulReference o) → LawfulIfTold (and_then r (λ x. x.version))
  version_told None h = tt
  version_told (Some r) h = h.1

module _ (c : List Object) (o k : ℕ) (h : Lawful c) where
  pub lawful_name : LawfulIfTold (asked_at c o (λ p. p.references) k (λ r. r.name))
  lawful_name = name_told (object c o) (slice_get (object c o).references k) (lawful_at c o k h.2)

  pub lawful_version : LawfulIfTold (reference_version c o k)
  lawful_version = version_told (object c o) (slice_get (object c o).references k) (lawful_at c o k h.2)

-- past the end there is no version
pub version_at : (c : List Object) (o k : ℕ) → reference_version c o k ≡ (reference_at c o k).version
version_at c o k = led_at (object c o).references k no_reference (λ r. r.version) refl

front :
    (l : Option ℕ) (v : Option Name) (b : List ℕ) → option_map (λ n. take n b) l ≡ v → take (unwrap_or l 0) b ≡ unwrap_or v []
front None v b e = ap (λ w. unwrap_or w []) e
front (Some n) v b e = ap (λ w. unwrap_or w []) e

-- a name asked for with a buffer of 255 bytes
module _ (out out' : List ℕ) (ans : Result (Option ℕ) Refusal) (room : length out ≡ 255) where
  pub copied :
      (v : Option Name) → LawfulIfTold v → ans ≡ name_answer v (length out) → out' ≡ name_buffer v out →
      option_map (λ n. take n out') (results.result_unwrap_or ans None) ≡ v
  copied None h p q = rw p
  copied (Some n) h p q =
      let e : ltb (length out) (length n) ≡ false = grind (arith, nat_tests) in
      rw (p, q, e) (ap Some (take_at n (drop (length n) out) (length n) refl))

  pub copied_front :
      (v : Option Name) → LawfulIfTold v → ans ≡ name_answer v (length out) → out' ≡ name_buffer v out →
      take (unwrap_or (results.result_unwrap_or ans None) 0) out' ≡ unwrap_or v []
  copied_front v h p q = front (results.result_unwrap_or ans None) v out' (copied v h p q)
