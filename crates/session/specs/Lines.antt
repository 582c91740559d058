-- The report's lines and their bytes.
use Rattle.std.specs.Prelude.{ℕ, cond, not, ◌&&◌, List, [], ◌∷◌, ◌++◌, map, Some, None, codes, decimal, Result, ◌==◌}
use Rattle.elf.specs.declared.refusal.Refusal.{Refusal}
use Rattle.elf.specs.Names.{Name}
use Rattle.std.specs.List.{slice_get}
use Rattle.elf.specs.Refusals.{row}
use Rattle.catalogue.specs.Buffers.{write_answer, written_front}
use Rattle.session.specs.State.{Linkage, Binding}

-- A line of the report.
pub data Line : Type 0 where
  load : ℕ → Line
  init : ℕ → Line
  bind : ℕ → ℕ → Name → ℕ → ℕ → Line
  over : ℕ → ℕ → Name → ℕ → ℕ → Line
  none : ℕ → ℕ → Name → Line

-- The line of a recorded binding; an own reference that took another definition is over.
abbrev pub binding_line : Binding → Line
binding_line b =
    let o : ℕ = b.object in
    let s : ℕ = b.reference.number in
    let n : Name = b.reference.name in
    elim b.taken [
      | None ↦ none o s n
      | Some f ↦
          cond (b.reference.own && not (f.0 == o && f.1 == s)) (over o s n f.0 f.1) (bind o s n f.0 f.1)
    ]

-- The report's lines.
abbrev pub lines : Linkage → List Line
lines s = map load s.loaded ++ (map init s.started ++ map binding_line s.bindings)

-- A space and then a number, or a name.
abbrev pub number_field : ℕ → List ℕ
number_field n = 32 ∷ decimal n

abbrev pub name_field : Name → List ℕ
name_field n = 32 ∷ n

-- The fields of an object, a symbol and a name.
abbrev pub symbol_fields : ℕ → ℕ → Name → List ℕ
symbol_fields o s n = number_field o ++ (number_field s ++ name_field n)

-- A word, its fields and a line feed.
abbrev pub written : List ℕ → List ℕ → List ℕ
written word fields = word ++ (fields ++ (10 ∷ []))

-- A line's bytes.
abbrev pub render : Line → List ℕ
render (load o) = written (codes "load") (number_field o)
render (init o) = written (codes "init") (number_field o)
render (bind o s n p t) = written (codes "bind") (symbol_fields o s n ++ (number_field p ++ number_field t))
render (over o s n p t) = written (codes "over") (symbol_fields o s n ++ (number_field p ++ number_field t))
render (none o s n) = written (codes "none") (symbol_fields o s n)

-- A refusal line's bytes.
abbrev pub refusal_line : Refusal → List ℕ
refusal_line r =
    let t : ℕ × ℕ × ℕ = row r in
    written (codes "refused") (number_field t.0 ++ (number_field t.1 ++ number_field t.2))

-- The bytes of line n; past the last one there are none.
abbrev pub line_bytes : List Line → ℕ → List ℕ
line_bytes ls n = elim (slice_get ls n) [ None ↦ [] | Some l ↦ render l ]

-- A line call answers the line's length, or refuses a buffer shorter than the line.
abbrev pub line_answer : Linkage → ℕ → ℕ → Result ℕ Refusal
line_answer s n room = write_answer (line_bytes (lines s) n) room

-- A line call writes the line at the front of the buffer.
abbrev pub line_buffer : Linkage → ℕ → List ℕ → List ℕ
line_buffer s n buffer = written_front (line_bytes (lines s) n) buffer
