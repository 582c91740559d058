-- Where the lines of a report stand, and how a line is put together.
use Rattle.std.proofs.Common.{◌≡◌, ℕ, zero, suc, ◌+◌, ◌<◌, List, [], ◌∷◌, ◌++◌, map, length, get_or, Some, sym, ap, ◌∙◌, arith}
use lib.ListN.{length-map}
use Rattle.std.specs.Option.{option_map}
use Rattle.std.specs.List.{slice_get}
use Rattle.std.proofs.lemmas.List.{append_assoc}
use Rattle.std.proofs.lemmas.Option.{slice_get-map, slice_get-get_or}
use Rattle.elf.specs.Meaning.{Object}
use Rattle.session.specs.declared.table.Row.{Row}
use Rattle.session.specs.Lines.{Line, load, init, binding_line, written}
use Rattle.session.specs.View.{binding_of, recorded}

nth_behind : {A : Type 0} (xs ys : List A) (i k : ℕ) → i ≡ length xs + k → slice_get (xs ++ ys) i ≡ slice_get ys k
nth_behind [] ys i k e = let same : i ≡ k = omega arith in ap (slice_get ys) same
nth_behind (x ∷ xs) ys zero k e = absurd (omega arith)
nth_behind (x ∷ xs) ys (suc i) k e = nth_behind xs ys i k (omega arith)

-- the lines of the rows stand behind the load lines and the init lines
pub row_at :
    (c : List Object) (loaded started : List ℕ) (rows : List Row) (n k : ℕ) (r : Row) →
    n ≡ length loaded + (length started + k) → k < length rows → r ≡ get_or rows k r →
    Some (binding_line (binding_of c r)) ≡ slice_get (map load loaded ++ (map init started ++ map binding_line (recorded c rows))) n
row_at c loaded started rows n k r e l p =
    let lines : List Line = map binding_line (recorded c rows) in
    ap (λ x. Some (binding_line (binding_of c x))) p
    ∙ sym (nth_behind (map load loaded) (map init started ++ lines) n (length started + k) (omega (arith, length-map loaded load))
    ∙ nth_behind (map init started) lines (length started + k) k (omega (arith, length-map started init))
    ∙ slice_get-map binding_line (recorded c rows) k
    ∙ ap (option_map binding_line) (slice_get-map (binding_of c) rows k)
    ∙ ap (λ x. option_map binding_line (option_map (binding_of c) x)) (slice_get-get_or rows k r l))

-- a word and three fields, one put behind another, and a line feed
pub three_written : (word a b c : List ℕ) → (((word ++ a) ++ b) ++ c) ++ (10 ∷ []) ≡ written word (a ++ (b ++ c))
three_written word a b c =
    ap (λ l. l ++ (10 ∷ [])) (append_assoc (word ++ a) b c ∙ append_assoc word a (b ++ c)) ∙ append_assoc word (a ++ (b ++ c)) (10 ∷ [])
