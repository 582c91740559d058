-- The last number of some lines, the definition of a number, and an index among those of some versions.
use Rattle.std.proofs.Common.{◌≡◌, ℕ, suc, ◌-◌, ◌<◌, eqb, List, [], ◌∷◌, map, length, get_or, Some, None, Option, refl, ap, ◌∙◌, arith, Bor}
use Rattle.std.specs.List.{find, list_any}
use Rattle.std.specs.Option.{MatchOption, option_map}
use Rattle.std.specs.Slice.{IsGetResult}
use Rattle.std.proofs.lemmas.Bool.Decides.{nat_tests}
use Rattle.graph.specs.Graph.{among}
use Rattle.elf.specs.Meaning.{numbered}
use Rattle.elf.specs.Stored.{definition_of}
use Rattle.elf.specs.declared.symbol.Definition.{Definition}
use Rattle.format.specs.Lines.{last}
use Rattle.bookline.specs.Rows.{version_of}

-- The last number is that of the last line.
pub last_found :
    {X Y : Type 0} (meaning : X → Y) (number : Y → ℕ) (xs : List X) (x : X) → 0 < length xs
    → x ≡ get_or xs (length xs - 1) x → number (meaning x) ≡ last (map number (map meaning xs))
last_found meaning number [] x n e = absurd (omega arith)
last_found meaning number (y ∷ []) x n e = ap (λ z. number (meaning z)) e
last_found meaning number (y ∷ (z ∷ zs)) x n e =
    let one : length (y ∷ (z ∷ zs)) - 1 ≡ suc (length (z ∷ zs) - 1) = omega arith in
    last_found meaning number (z ∷ zs) x (omega arith) (e ∙ ap (λ (k : ℕ). get_or (y ∷ (z ∷ zs)) k x) one)

-- The number that is asked of the last line, or 0 without lines.
pub last_number :
    {X Y : Type 0} (meaning : X → Y) (number : Y → ℕ) (xs : List X) (r : Option (Bor X)) (n : ℕ)
    → IsGetResult xs 0 (length xs - 1) r → MatchOption r (n ≡ 0) (λ x. n ≡ number (meaning x.now))
    → n ≡ last (map number (map meaning xs))
last_number meaning number [] None n item is = is
last_number meaning number [] (Some x) n item is = absurd (omega (arith, item.3.0))
last_number meaning number (y ∷ ys) None n item is = absurd (omega (arith, item.3))
last_number meaning number (y ∷ ys) (Some x) n item is = is ∙ last_found meaning number (y ∷ ys) x.now (omega arith) item.1

-- The definition that a search for a number finds.
pub found_is_numbered :
    (ds : List Definition) (number : ℕ)
    → option_map definition_of (find (λ d. eqb d.number number) ds) ≡ numbered (map definition_of ds) number
found_is_numbered [] number = refl
found_is_numbered (d ∷ ds) number = grind (arith, found_is_numbered ds number)

-- An index among those of some versions.
pub any_is_among :
    (vs : List (Bor (List ℕ) × ℕ)) (index : ℕ)
    → list_any (λ v. eqb v.1 index) vs ≡ among index (map (λ w. w.1) (map version_of vs))
any_is_among [] index = refl
any_is_among (v ∷ vs) index = grind (arith, nat_tests, any_is_among vs index)
