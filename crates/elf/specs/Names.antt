-- Names, and small words on lists and choices.
use Rattle.std.specs.Prelude.{ℕ, suc, Bool, false, cond, ◌&&◌, ◌||◌, List, [], ◌∷◌, map, length, Some, None, Option, nat_le}
use Rattle.std.specs.Borrow.{Bor}
use Rattle.std.specs.List.{list_all}
use Rattle.std.specs.Option.{option_or}
use Rattle.std.specs.Str.{bytes_eq}

-- A name or a version is its bytes.
abbrev pub Name : Type 0
Name = List ℕ

-- A lawful name has 1 to 255 bytes from 0x21 to 0x7E.
abbrev pub lawful : Name → Bool
lawful n = nat_le 1 (length n) && nat_le (length n) 255 && list_all (λ b. nat_le 0x21 b && nat_le b 0x7E) n

-- Is a name told, and this one?
abbrev pub is_name : Option Name → Name → Bool
is_name None n = false
is_name (Some m) n = bytes_eq m n

-- Does a name stand in a list?
abbrev pub named_in : Name → List Name → Bool
named_in n [] = false
named_in n (m ∷ ms) = bytes_eq m n || named_in n ms

-- An answer led on, none where there is none.
abbrev pub and_then : {A B : Type 0} → Option A → (A → Option B) → Option B
and_then None f = None
and_then (Some x) f = f x

-- An answer only where a test holds.
abbrev pub only_if : {A : Type 0} → Bool → A → Option A
only_if b x = cond b (Some x) None

-- The first answer that a question gets along a list.
abbrev pub first : {A B : Type 0} → (A → Option B) → List A → Option B
first f [] = None
first f (x ∷ xs) = option_or (f x) (first f xs)

-- The same, where the question also takes the place, counted from k.
abbrev pub first_from : {A B : Type 0} → ℕ → (ℕ → A → Option B) → List A → Option B
first_from k f [] = None
first_from k f (x ∷ xs) = option_or (f k x) (first_from (suc k) f xs)

-- The answers there are, in order.
abbrev pub somes : {A : Type 0} → List (Option A) → List A
somes [] = []
somes (None ∷ xs) = somes xs
somes (Some x ∷ xs) = x ∷ somes xs

-- The bytes behind a reference that may be absent.
abbrev pub bytes_of : Option (Bor (List ℕ)) → Option Name
bytes_of None = None
bytes_of (Some r) = Some r.now

-- The bytes behind some references.
abbrev pub names_of : List (Bor (List ℕ)) → List Name
names_of rs = map (λ x. x.now) rs
