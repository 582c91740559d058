-- The value of decimal digits, one digit on.
use Rattle.std.proofs.Common.{◌≡◌, ℕ, ◌+◌, ◌-◌, ◌*◌, ◌<◌, ◌≤◌, Bool, cond, ◌&&◌, leb, List, [], ◌∷◌, length, get_or, drop, None, Option, ◌∙◌, arith}
use Rattle.std.proofs.lemmas.List.{at_drop_more}
use Rattle.std.proofs.lemmas.Bool.Decides.{nat_tests}
use Rattle.std.specs.List.{list_all}
use Rattle.elf.specs.Names.{only_if}
use Rattle.format.specs.Lines.{value}

abbrev digit : ℕ → Bool
digit d = leb 48 d && leb d 57

-- The value of digits behind a number, if all are digits and it is at most a limit.
abbrev pub number_on : ℕ → ℕ → List ℕ → Option ℕ
number_on most n ds = only_if (list_all digit ds && leb (value n ds) most) (value n ds)

-- More digits never make a value smaller.
value_grows : (n : ℕ) (ds : List ℕ) → n ≤ value n ds
value_grows n [] = omega arith
value_grows n (d ∷ ds) = omega (arith, value_grows (10 * n + (d - 48)) ds)

number_step :
    (most n d : ℕ) (ds : List ℕ)
    → number_on most n (d ∷ ds)
    ≡ cond (digit d && leb (10 * n + (d - 48)) most) (number_on most (10 * n + (d - 48)) ds) None
number_step most n d ds = let g = value_grows (10 * n + (d - 48)) ds in grind (arith, nat_tests)

pub number_more :
    (most n : ℕ) (ds : List ℕ) (i : ℕ) → i < length ds
    → number_on most n (drop i ds)
    ≡ cond (digit (get_or ds i 0) && leb (10 * n + (get_or ds i 0 - 48)) most)
    (number_on most (10 * n + (get_or ds i 0 - 48)) (drop (i + 1) ds)) None
number_more most n ds i h = at_drop_more (number_on most n) ds i 0 h ∙ number_step most n (get_or ds i 0) (drop (i + 1) ds)
