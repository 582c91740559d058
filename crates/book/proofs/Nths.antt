-- What a look-up in a list of objects finds.
use Rattle.std.proofs.Common.{◌≡◌, ℕ, List, map, length, Some, None, vec_items, Option, sym, refl, ap, ◌∙◌, Bor}
use Rattle.std.specs.Option.{option_map, unwrap_or}
use Rattle.std.specs.List.{slice_get}
use Rattle.elf.specs.declared.symbol.Definition.{Definition as StoredDefinition}
use Rattle.elf.specs.Meaning.{Object, object, no_object}
use Rattle.std.specs.Slice.{IsItemAt}
use Rattle.std.proofs.lemmas.Option.{get_or_from_slice_get, slice_get-map, slice_get_past, slice_get_read, unwrap_or-slice_get}
use Rattle.elf.specs.Names.{Name}
use Rattle.elf.specs.Offers.{offer, offer_among}
use Rattle.elf.specs.Stored.{definition_of}
use Rattle.book.specs.Held.{object_of, objects_of}
use Rattle.catalogue.specs.Questions.{offered}
use Rattle.book.specs.declared.object.BookObject.{BookObject}

object_found : (c : List Object) (n : ℕ) (o : Object) → Some o ≡ slice_get c n → o ≡ object c n
object_found c n o e = sym (get_or_from_slice_get c n o no_object (sym e))

object_missed : (c : List Object) (n : ℕ) → None ≡ slice_get c n → no_object ≡ object c n
object_missed c n e = ap (λ (o : Option Object). unwrap_or o no_object) e ∙ unwrap_or-slice_get c n no_object

-- What is asked of an object that is there.
pub of_found : {A : Type 0} (f : Object → A) (os : List BookObject) (n : ℕ) {o : Object}
    → Some o ≡ slice_get (objects_of os) n → f o ≡ f (object (objects_of os) n)
of_found f os n {o} e = ap f (object_found (objects_of os) n o e)

-- What is asked of an object that is not there.
pub of_missed : {A : Type 0} (f : Object → A) (os : List BookObject) (n : ℕ)
    → None ≡ slice_get (objects_of os) n → f no_object ≡ f (object (objects_of os) n)
of_missed f os n e = ap f (object_missed (objects_of os) n e)

-- What `get` finds of a list, copied.
got_copied : {X : Type 0} (xs : List X) (k : ℕ) (r : Option (Bor X)) → IsItemAt xs k r → option_map (λ x. x.now) r ≡ slice_get xs k
got_copied xs k None item = sym (slice_get_past xs k item.3)
got_copied xs k (Some x) item = sym (slice_get_read xs (length xs) k x.now refl item.3.0 item.1)

-- An entry of an object that is there, read from what stores it.
pub entry_found : {X Y : Type 0} (rows : Object → List Y) (f : X → Y) (os : List BookObject) (n k : ℕ)
    → (r : Option (Bor X)) {o : Object} {xs ys : List X} {e : Option X} → Some o ≡ slice_get (objects_of os) n → rows o ≡ map f xs
    → ys ≡ xs → IsItemAt ys k r → e ≡ option_map (λ x. x.now) r → option_map f e ≡ slice_get (rows (object (objects_of os) n)) k
entry_found rows f os n k r {xs = xs} {ys = ys} there stored same item copied =
    let found = of_found rows os n there in
    let got = got_copied ys k r item in
    let m = slice_get-map f xs k in
    cc

-- What an object that is there offers.
pub offer_found : (os : List BookObject) (n : ℕ) (o : BookObject) (name : Name) (version : Option Name)
    → {ds : List StoredDefinition} {r : Option ℕ} → Some (object_of o) ≡ slice_get (objects_of os) n
    → ds ≡ vec_items o.definitions → r ≡ offer_among o.versioned (map definition_of ds) name version
    → r ≡ offered (objects_of os) n name version
offer_found os n o name version there stored e =
    let found = of_found (λ x. offer x name version) os n there in
    cc
