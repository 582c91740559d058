-- Orders as objects join and leave.
use Rattle.std.proofs.Common.{◌≡◌, ℕ, ◌+◌, ◌<◌, ◌≤◌, Bool, true, false, cond, not, ◌&&◌, ◌||◌, eqb, leb, List, [], ◌∷◌, ◌++◌, length, get_or, take, drop, filter, sym, refl, ap, ◌∙◌, subst, ap₂, inl, inr, arith}
use Rattle.std.proofs.lemmas.List.Elements.{filter-append}
use Rattle.std.proofs.lemmas.List.Filters.{length-filter_both}
use Rattle.std.proofs.lemmas.List.{append-nil, append_assoc, take_more, drop_more, take-append-drop, at_drop_more, at_drop_all}
use Rattle.std.proofs.lemmas.Bool.Decides.{nat_tests}
use Rattle.std.proofs.lemmas.Bool.{cases_Bool, ne_eqb, lt-leb, not_from_true, not_from_false}
use Rattle.graph.specs.Graph.{In, In.here, In.there, Distinct, among}
use Rattle.graph.proofs.Members.{among_in, in_append, in_same, not_in, not_among, distinct_apart}
use Rattle.graph.proofs.Loops.{In-get_or}
use Rattle.elf.specs.Meaning.{Object}
use Rattle.scope.specs.Orders.{LawfulOrder, joined, left, without}

-- a turn of the loop that lets a list join, at the place i
module _ (c : List Object) (order xs : List ℕ) (h : LawfulOrder c xs) (apart : (x : ℕ) → In x xs → In x order → ⊥) (i : ℕ) (l : i < length xs) where
  fresh : among (get_or xs i 0) (order ++ take i xs) ≡ false
  fresh =
      let o : ℕ = get_or xs i 0 in
      let whole : take i xs ++ o ∷ drop (i + 1) xs ≡ xs =
      ap (λ d. take i xs ++ d) (sym (drop_more xs i 0 l)) ∙ take-append-drop i xs in
      not_among o (order ++ take i xs) (λ j. elim (in_append order j) [
        | inl k ↦ apart o (In-get_or xs i l) k
        | inr k ↦ distinct_apart (take i xs) o (drop (i + 1) xs) (subst Distinct (sym whole) h.once) k
      ])

  pub join_turn :
      (d : List Object) (so_far : List ℕ) → d ≡ c → so_far ≡ order ++ take i xs →
      joined d so_far (get_or xs i 0) ≡ order ++ take (i + 1) xs
  join_turn d so_far p q =
      let known : leb (length c) (get_or xs i 0) ≡ false = lt-leb (length c) (get_or xs i 0) (h.known (get_or xs i 0) (In-get_or xs i l)) in
      rw (p, q, known, fresh, take_more xs i 0 l) (append_assoc order (take i xs) (get_or xs i 0 ∷ []))

kept_all : (keep : ℕ → Bool) (xs : List ℕ) → ((x : ℕ) → In x xs → keep x ≡ true) → filter keep xs ≡ xs
kept_all keep [] h = refl
kept_all keep (x ∷ xs) h = rw (h x (here refl), kept_all keep xs (λ y i. h y (there i)))

kept_none : (keep : ℕ → Bool) (xs : List ℕ) → ((x : ℕ) → In x xs → keep x ≡ false) → filter keep xs ≡ []
kept_none keep [] h = refl
kept_none keep (x ∷ xs) h = rw (h x (here refl)) (kept_none keep xs (λ y i. h y (there i)))

-- what is kept by one test and then by another
kept_twice :
    (one two both : ℕ → Bool) → ((x : ℕ) → both x ≡ (one x && two x)) → (xs : List ℕ) →
    filter two (filter one xs) ≡ filter both xs
kept_twice one two both h [] = refl
kept_twice one two both h (x ∷ xs) =
    go (one x) (kept_twice one two both h xs) ∙ ap (λ b. cond b (x ∷ filter both xs) (filter both xs)) (sym (h x))
  where
    go : (b : Bool) → filter two (filter one xs) ≡ filter both xs →
        filter two (cond b (x ∷ filter one xs) (filter one xs)) ≡ cond (b && two x) (x ∷ filter both xs) (filter both xs)
    go true e = ap₂ (cond (two x)) (ap (λ l. x ∷ l) e) e
    go false e = e

-- an order that an object leaves is without it
left_is : (order : List ℕ) (o : ℕ) → left order o ≡ without o order
left_is order o = elim (cases_Bool (among o order)) [
  | inl e ↦ rw e
  | inr e ↦
      let same : without o order ≡ order =
      kept_all (λ p. not (eqb p o)) order (λ x i. not_from_false (eqb x o) (ne_eqb x o (λ q. not_in o order e (in_same q i)))) in
      rw (e, same)
]

-- a turn of the loop that takes a list out, at the place i
pub leave_turn :
    (order xs : List ℕ) (i : ℕ) → i < length xs →
    filter (λ o. not (among o (drop (i + 1) xs))) (left order (get_or xs i 0)) ≡ filter (λ o. not (among o (drop i xs))) order
leave_turn order xs i l =
    let y : ℕ = get_or xs i 0 in
    let one : (x : ℕ) (b : Bool) → not (eqb y x || b) ≡ (not (eqb x y) && not b) = λ x b. grind (arith, nat_tests) in
    ap (filter (λ o. not (among o (drop (i + 1) xs)))) (left_is order y)
    ∙ kept_twice (λ o. not (eqb o y)) (λ o. not (among o (drop (i + 1) xs))) (λ o. not (among o (drop i xs)))
    (λ x. ap not (at_drop_more (among x) xs i 0 l) ∙ one x (among x (drop (i + 1) xs))) order

pub leave_end :
    (order xs : List ℕ) (i : ℕ) → length xs ≤ i → order ≡ filter (λ o. not (among o (drop i xs))) order
leave_end order xs i l = sym (kept_all (λ o. not (among o (drop i xs))) order (λ x _. ap not (at_drop_all (among x) xs i l)))

-- taking out what joined leaves the others
pub left_alone :
    (loaded new : List ℕ) → ((x : ℕ) → In x new → In x loaded → ⊥) →
    filter (λ o. not (among o new)) (loaded ++ new) ≡ loaded
left_alone loaded new h =
    filter-append (λ o. not (among o new)) loaded new
    ∙ ap₂ (λ a b. a ++ b)
    (kept_all (λ o. not (among o new)) loaded (λ x i. not_from_false (among x new) (not_among x new (λ j. h x j i))))
    (kept_none (λ o. not (among o new)) new (λ x i. not_from_true (among x new) ((among_in x new).1 i)))
    ∙ append-nil loaded

-- an order gets shorter as its first object leaves
pub left_first : (xs : List ℕ) → 0 < length xs → length (left xs (get_or xs 0 0)) < length xs
left_first [] l = absurd (omega arith)
left_first (x ∷ xs) l =
    let gone : without x (x ∷ xs) ≡ without x xs = grind (arith, nat_tests) in
    let few = length-filter_both (λ p. not (eqb p x)) (λ p. not (not (eqb p x))) (λ p. refl) xs in
    omega (arith, few, ap length (left_is (x ∷ xs) x ∙ gone))
