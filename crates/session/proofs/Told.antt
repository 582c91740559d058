-- What the answer to a question comes to where a default stands for none.
use Rattle.std.proofs.Common.{◌≡◌, ℕ, zero, suc, List, [], ◌∷◌, get_or, None, Option, unwrap_or, sym, refl}
use Rattle.std.specs.Option.{option_map, UnwrapsOrElse}
use Rattle.std.specs.List.{slice_get}
use Rattle.elf.specs.Names.{and_then}

pub told_at :
    {X Y : Type 0} (xs : List X) (i : ℕ) (d : X) (f : X → Y) → unwrap_or (option_map f (slice_get xs i)) (f d) ≡ f (get_or xs i d)
told_at [] i d f = refl
told_at (x ∷ xs) zero d f = refl
told_at (x ∷ xs) (suc i) d f = told_at xs i d f

-- the same where the default is one of which P holds
pub told_else :
    {X Y : Type 0} (xs : List X) (i : ℕ) (d : X) (f : X → Y) (P : Y → Type 0) (y : Y) → (P y → y ≡ f d) →
    UnwrapsOrElse (option_map f (slice_get xs i)) P y → y ≡ f (get_or xs i d)
told_else [] i d f P y default u = default u
told_else (x ∷ xs) zero d f P y default u = u
told_else (x ∷ xs) (suc i) d f P y default u = told_else xs i d f P y default u

pub led_at :
    {X Y : Type 0} (xs : List X) (i : ℕ) (d : X) (f : X → Option Y) → f d ≡ None → and_then (slice_get xs i) f ≡ f (get_or xs i d)
led_at [] i d f e = sym e
led_at (x ∷ xs) zero d f e = refl
led_at (x ∷ xs) (suc i) d f e = led_at xs i d f e
