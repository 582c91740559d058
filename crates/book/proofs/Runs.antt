-- Runs of lines that a rule reads, line by line.
use Rattle.std.proofs.Common.{◌≡◌, ℕ, zero, suc, ◌+◌, ◌-◌, ◌<◌, ◌≤◌, Bool, true, cond, List, [], ◌∷◌, ◌++◌, length, get_or, drop, Some, None, Option, sym, refl, ap, ◌∙◌, arith}
use Rattle.std.proofs.lemmas.List.{drop_more, get_or_past, length_push}
use Rattle.std.proofs.lemmas.Bool.{cond-false}
use Rattle.elf.specs.Names.{and_then, only_if}
use Rattle.format.specs.Lines.{Fields}
use Rattle.format.specs.Book.{run}
use Rattle.book.specs.Sections.{Section}
use Rattle.elf.proofs.Choices.{only_if_none}
use Rattle.book.proofs.LinesTold.{first_left}

-- The row of a line, if a rule reads it and it fits behind those before.
abbrev pub next_row : {A : Type 0} → (Fields → Option A) → (List A → A → Bool) → List A → Fields → Option A
next_row reads fits before l = and_then (reads l) (λ x. only_if (fits before x) x)

-- Where a line is no further row, a run stops.
stops : {A R : Type 0} (o : Option A) (test : A → Bool) (more : A → R) (stop : R)
    → and_then o (λ x. only_if (test x) x) ≡ None → elim o [ None ↦ stop | Some x ↦ cond (test x) (more x) stop ] ≡ stop
stops None test more stop e = refl
stops (Some x) test more stop e = cond-false (test x) (more x) stop (only_if_none (test x) x e)

module _ {A : Type 0} (reads : Fields → Option A) (fits : List A → A → Bool) where
  -- A run ends at a line that is no further row.
  run_ends : (k : ℕ) (before : List A) (ls : List Fields) → next_row reads fits before (get_or ls 0 []) ≡ None
      → run k reads fits before ls ≡ (before, ls)
  run_ends zero before ls e = refl
  run_ends (suc k) before [] e = refl
  run_ends (suc k) before (l ∷ ls) e =
      stops (reads l) (fits before) (λ x. run k reads fits (before ++ (x ∷ [])) ls) (before, l ∷ ls) e

  -- A run goes on behind a line that is a further row.
  run_goes : (k : ℕ) (before : List A) (l : Fields) (ls : List Fields) (x : A) → reads l ≡ Some x → fits before x ≡ true
      → run (suc k) reads fits before (l ∷ ls) ≡ run k reads fits (before ++ (x ∷ [])) ls
  run_goes k before l ls x e f = rw (run, e, f) refl

  -- The rows so far, and what is left to read.
  pub record Begun (most from : ℕ) (ls : List Fields) (rows : List A) (next : ℕ) : Type 0 where
    pub few : length rows ≤ most
    pub within : next ≤ length ls
    pub left : run (most - length rows) reads fits rows (drop next ls) ≡ run most reads fits [] (drop from ls)

  -- The rows with one more, behind its line.
  pub begun_more : (nothing : reads [] ≡ None) (most from : ℕ) (ls : List Fields) (rows : List A) (next : ℕ) (x : A)
      → Begun most from ls rows next → length rows < most → reads (get_or ls next []) ≡ Some x → fits rows x ≡ true
      → Begun most from ls (rows ++ (x ∷ [])) (next + 1)
  begun_more nothing most from ls rows next x b h e f =
      record {
        few = omega (arith, length_push rows x);
        within = omega (arith, w);
        left = ap (λ (k : ℕ). run k reads fits (rows ++ (x ∷ [])) (drop (next + 1) ls)) n ∙ sym s ∙ b.left;
      }
    where
      w : next < length ls
      w = grind (arith, get_or_past)

      n : most - length (rows ++ (x ∷ [])) ≡ most - (length rows + 1)
      n = ap (λ (k : ℕ). most - k) (length_push rows x)

      m : most - length rows ≡ suc (most - (length rows + 1))
      m = omega arith

      s : run (most - length rows) reads fits rows (drop next ls)
          ≡ run (most - (length rows + 1)) reads fits (rows ++ (x ∷ [])) (drop (next + 1) ls)
      s =
          ap (λ (k : ℕ). run k reads fits rows (drop next ls)) m
          ∙ ap (run (suc (most - (length rows + 1))) reads fits rows) (drop_more ls next [] w)
          ∙ run_goes (most - (length rows + 1)) rows (get_or ls next []) (drop (next + 1) ls) x e f

  -- The section at a line that is no further row.
  pub begun_ends : (most from : ℕ) (ls : List Fields) (rows : List A) (next : ℕ)
      → Begun most from ls rows next → next_row reads fits rows (get_or ls next []) ≡ None → Section most reads fits ls from rows next
  begun_ends most from ls rows next b e =
      record {
        is_run =
            sym b.left
            ∙ run_ends (most - length rows) rows (drop next ls) (ap (next_row reads fits rows) (first_left ls next) ∙ e);
        within = b.within;
      }
