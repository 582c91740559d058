-- The lines of the parts between line feeds, from a place on.
use Rattle.std.proofs.Common.{◌≡◌, ℕ, zero, suc, ◌-◌, ◌<◌, ◌≤◌, eqb, leb, true, false, List, [], ◌∷◌, length, get_or, drop, sym, refl, ap, ◌∙◌, arith, Bor}
use lib.ListN.{length-map}
use Rattle.std.proofs.lemmas.Bool.Decides.{nat_tests}
use Rattle.std.proofs.lemmas.List.{drop_all, length-drop}
use Rattle.elf.specs.Names.{Name, names_of}
use Rattle.format.specs.Lines.{Fields, split, lines_of}
use Rattle.book.specs.Sections.{lines_in}

-- A part that is not the last is a line.
lines_cons : (p q : Name) (ps : List Name) → lines_of (p ∷ (q ∷ ps)) ≡ split 32 p ∷ lines_of (q ∷ ps)
lines_cons [] q ps = refl
lines_cons (b ∷ bs) q ps = refl

-- There are no more lines than parts.
pub lines_most : (ps : List Name) → length (lines_of ps) ≤ length ps
lines_most [] = omega arith
lines_most ([] ∷ []) = omega arith
lines_most ((b ∷ bs) ∷ []) = omega arith
lines_most (p ∷ (q ∷ ps)) = omega (arith, ap length (lines_cons p q ps), lines_most (q ∷ ps))

pub lines_fit : (ps : List (Bor (List ℕ))) → length (lines_in ps) ≤ length ps
lines_fit ps = omega (arith, lines_most (names_of ps), length-map ps (λ x. x.now))

-- The lines that are left are those of the parts that are left.
lines_left : (k : ℕ) (ps : List (Bor (List ℕ))) → lines_in (drop k ps) ≡ drop k (lines_in ps)
lines_left zero ps = refl
lines_left (suc k) [] = refl
lines_left (suc k) (p ∷ []) =
    ap lines_in (drop_all k [] (omega arith))
    ∙ sym (drop_all (suc k) (lines_of (p.now ∷ [])) (omega (arith, lines_most (p.now ∷ []))))
lines_left (suc k) (p ∷ (q ∷ ps)) =
    lines_left k (q ∷ ps) ∙ sym (ap (drop (suc k)) (lines_cons p.now q.now (names_of ps)))

-- The first of the lines that are left.
pub first_left : (ls : List Fields) (k : ℕ) → get_or (drop k ls) 0 [] ≡ get_or ls k []
first_left ls zero = refl
first_left [] (suc k) = refl
first_left (l ∷ ls) (suc k) = first_left ls k

-- What is left of some parts from a place on tells the next line, and how many are left.
module _ (ps : List (Bor (List ℕ))) (k : ℕ) (rest : List (Bor (List ℕ))) (left : rest ≡ drop k ps) where
  next_is : get_or (lines_in rest) 0 [] ≡ get_or (lines_in ps) k []
  next_is = ap (λ (r : List (Bor (List ℕ))). get_or (lines_in r) 0 []) left ∙ ap (λ (ls : List Fields). get_or ls 0 []) (lines_left k ps)
      ∙ first_left (lines_in ps) k

  left_is : length (lines_in rest) ≡ length (lines_in ps) - k
  left_is = ap (λ (r : List (Bor (List ℕ))). length (lines_in r)) left ∙ ap length (lines_left k ps) ∙ length-drop k (lines_in ps)

-- The fields of the first line of some parts: none from the last part on.
first_none : (ps : List (Bor (List ℕ))) → length ps < 2 → [] ≡ get_or (lines_in ps) 0 []
first_none [] h = refl
first_none (p ∷ []) h = one p.now
  where
    one : (p : Name) → [] ≡ get_or (lines_of (p ∷ [])) 0 []
    one [] = refl
    one (b ∷ bs) = refl
first_none (p ∷ (q ∷ ps)) h = absurd (omega arith)

first_some : (ps : List (Bor (List ℕ))) (d : Bor (List ℕ)) → 2 ≤ length ps
    → split 32 (get_or ps 0 d).now ≡ get_or (lines_in ps) 0 []
first_some [] d h = absurd (omega arith)
first_some (p ∷ []) d h = absurd (omega arith)
first_some (p ∷ (q ∷ ps)) d h = ap (λ (ls : List Fields). get_or ls 0 []) (sym (lines_cons p.now q.now (names_of ps)))

pub fields_none : (ps : List (Bor (List ℕ))) (k : ℕ) (rest : List (Bor (List ℕ))) → rest ≡ drop k ps → length rest < 2
    → [] ≡ get_or (lines_in ps) k []
fields_none ps k rest left h = first_none rest h ∙ next_is ps k rest left

pub fields_some : (ps : List (Bor (List ℕ))) (k : ℕ) (rest : List (Bor (List ℕ))) (d : Bor (List ℕ)) → rest ≡ drop k ps
    → 2 ≤ length rest → split 32 (get_or rest 0 d).now ≡ get_or (lines_in ps) k []
fields_some ps k rest d left h = first_some rest d h ∙ next_is ps k rest left

-- Whether no line is left, by the parts that are left: none, a last one, or more.
pub end_of_none : (ps : List (Bor (List ℕ))) (k : ℕ) (rest : List (Bor (List ℕ))) → rest ≡ drop k ps → length rest < 1
    → leb (length (lines_in ps)) k ≡ true
end_of_none ps k rest left h = grind (arith, nat_tests, left_is ps k rest left, lines_fit rest)

pub end_of_one : (ps : List (Bor (List ℕ))) (k : ℕ) (rest : List (Bor (List ℕ))) (d : Bor (List ℕ)) → rest ≡ drop k ps
    → 1 ≤ length rest → length rest < 2 → eqb (length (get_or rest 0 d).now) 0 ≡ leb (length (lines_in ps)) k
end_of_one ps k [] d left low high = absurd (omega arith)
end_of_one ps k (p ∷ []) d left low high = one p.now (left_is ps k (p ∷ []) left)
  where
    one : (p : Name) → length (lines_of (p ∷ [])) ≡ length (lines_in ps) - k → eqb (length p) 0 ≡ leb (length (lines_in ps)) k
    one [] e = grind (arith, nat_tests, e)
    one (b ∷ bs) e = grind (arith, nat_tests, e)
end_of_one ps k (p ∷ (q ∷ qs)) d left low high = absurd (omega arith)

pub end_of_more : (ps : List (Bor (List ℕ))) (k : ℕ) (rest : List (Bor (List ℕ))) → rest ≡ drop k ps → 2 ≤ length rest
    → leb (length (lines_in ps)) k ≡ false
end_of_more ps k [] left h = absurd (omega arith)
end_of_more ps k (p ∷ []) left h = absurd (omega arith)
end_of_more ps k (p ∷ (q ∷ qs)) left h =
    let e = ap length (lines_cons p.now q.now (names_of qs)) in
    grind (arith, nat_tests, left_is ps k (p ∷ (q ∷ qs)) left, e)
