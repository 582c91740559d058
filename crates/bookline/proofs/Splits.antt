-- The parts of a text, split one byte on.
use Rattle.std.proofs.Common.{◌≡◌, ℕ, ◌+◌, ◌-◌, ◌<◌, ◌≤◌, eqb, List, [], ◌∷◌, ◌++◌, length, get_or, take, drop, sym, refl, ap, ◌∙◌, arith, Bor}
use Rattle.std.proofs.lemmas.List.{append-nil, append_assoc, at_drop_more, at_drop_all, take_more, get_or-drop, length-drop, map_push}
use Rattle.std.proofs.lemmas.Bool.{cond-true, cond-false, eq-eqb, ne_eqb}
use Rattle.format.specs.Lines.{split, onto}
use Rattle.elf.specs.Names.{names_of}

-- The first of some parts with some bytes in front.
abbrev pub onto_all : List ℕ → List (List ℕ) → List (List ℕ)
onto_all front [] = []
onto_all front (p ∷ ps) = (front ++ p) ∷ ps

-- The parts that are done, those of the rest, and between them the part that began at `start`, are all parts.
abbrev pub SplitAt : ℕ → List ℕ → List (List ℕ) → ℕ → ℕ → Type 0
SplitAt mark text done start i =
    done ++ onto_all (take (i - start) (drop start text)) (split mark (drop i text)) ≡ split mark text

onto_none : (ps : List (List ℕ)) → onto_all [] ps ≡ ps
onto_none [] = refl
onto_none (p ∷ ps) = refl

onto_push : (front : List ℕ) (b : ℕ) (ps : List (List ℕ)) → onto_all front (onto b ps) ≡ onto_all (front ++ (b ∷ [])) ps
onto_push front b [] = refl
onto_push front b (p ∷ ps) = ap (λ (q : List ℕ). q ∷ ps) (sym (append_assoc front (b ∷ []) p))

-- The part that began grows by the byte at i.
part_more :
    (text : List ℕ) (start i : ℕ) → start ≤ i → i < length text
    → take (i + 1 - start) (drop start text) ≡ take (i - start) (drop start text) ++ (get_or text i 0 ∷ [])
part_more text start i low h =
    let n : i - start < length (drop start text) = omega (arith, length-drop start text) in
    ap (λ (k : ℕ). take k (drop start text)) (omega arith)
    ∙ take_more (drop start text) (i - start) 0 n
    ∙ ap (λ (b : ℕ). take (i - start) (drop start text) ++ (b ∷ []))
    (get_or-drop start text (i - start) 0 ∙ ap (λ (k : ℕ). get_or text k 0) (omega arith))

-- At a mark the part ends, and the next begins behind the mark.
pub split_mark :
    (mark : ℕ) (text : List ℕ) (done : List (List ℕ)) (start i : ℕ) (done' : List (List ℕ)) (start' : ℕ)
    → done' ≡ done ++ (take (i - start) (drop start text) ∷ []) → start' ≡ i + 1 → i < length text
    → get_or text i 0 ≡ mark → SplitAt mark text done start i → SplitAt mark text done' start' (i + 1)
split_mark mark text done start i done' start' p q h e inv =
    let part = take (i - start) (drop start text) in
    let rest = split mark (drop (i + 1) text) in
    let s = at_drop_more (split mark) text i 0 h
    ∙ cond-true (eqb (get_or text i 0) mark) ([] ∷ rest) (onto (get_or text i 0) rest) (eq-eqb (get_or text i 0) mark e) in
    let z : i + 1 - start' ≡ 0 = omega arith in
    ap (λ (ds : List (List ℕ)). ds ++ onto_all (take (i + 1 - start') (drop start' text)) rest) p
    ∙ ap (λ (k : ℕ). (done ++ (part ∷ [])) ++ onto_all (take k (drop start' text)) rest) z
    ∙ ap (λ (ps : List (List ℕ)). (done ++ (part ∷ [])) ++ ps) (onto_none rest)
    ∙ append_assoc done (part ∷ []) rest
    ∙ ap (λ (p : List ℕ). done ++ (p ∷ rest)) (sym (append-nil part))
    ∙ ap (λ (ps : List (List ℕ)). done ++ onto_all part ps) (sym s)
    ∙ inv

-- At another byte the part goes on.
pub split_same :
    (mark : ℕ) (text : List ℕ) (done : List (List ℕ)) (start i : ℕ) (done' : List (List ℕ)) (start' : ℕ)
    → done' ≡ done → start' ≡ start → start ≤ i → i < length text
    → (get_or text i 0 ≡ mark → ⊥) → SplitAt mark text done start i → SplitAt mark text done' start' (i + 1)
split_same mark text done start i done' start' p q low h e inv =
    let part = take (i - start) (drop start text) in
    let b = get_or text i 0 in
    let rest = split mark (drop (i + 1) text) in
    let s = at_drop_more (split mark) text i 0 h ∙ cond-false (eqb b mark) ([] ∷ rest) (onto b rest) (ne_eqb b mark e) in
    ap (λ (ds : List (List ℕ)). ds ++ onto_all (take (i + 1 - start') (drop start' text)) rest) p
    ∙ ap (λ (k : ℕ). done ++ onto_all (take (i + 1 - k) (drop k text)) rest) q
    ∙ ap (λ (p : List ℕ). done ++ onto_all p rest) (part_more text start i low h)
    ∙ ap (λ (ps : List (List ℕ)). done ++ ps) (sym (onto_push part b rest))
    ∙ ap (λ (ps : List (List ℕ)). done ++ onto_all part ps) (sym s)
    ∙ inv

-- At the end the part is the last.
pub split_all :
    (mark : ℕ) (text : List ℕ) (done : List (List ℕ)) (start i : ℕ) → i ≡ length text
    → SplitAt mark text done start i → done ++ (take (length text - start) (drop start text) ∷ []) ≡ split mark text
split_all mark text done start i h inv =
    let part = take (i - start) (drop start text) in
    ap (λ (k : ℕ). done ++ (take (k - start) (drop start text) ∷ [])) (sym h)
    ∙ ap (λ (p : List ℕ). done ++ (p ∷ [])) (sym (append-nil part))
    ∙ ap (λ (ps : List (List ℕ)). done ++ onto_all part ps) (sym (at_drop_all (split mark) text i (omega arith)))
    ∙ inv

-- The parts behind some references and one more.
pub names_push :
    (items : List (Bor (List ℕ))) (r : Bor (List ℕ)) (items' : List (Bor (List ℕ))) → items' ≡ items ++ (r ∷ [])
    → names_of items' ≡ names_of items ++ (r.now ∷ [])
names_push items r items' e = ap names_of e ∙ map_push (λ x. x.now) items r
