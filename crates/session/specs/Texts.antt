-- What the names and lines that the code holds mean.
use Rattle.std.specs.Prelude.{ℕ, List, take}
use Rattle.session.specs.Lines.{Line, load, init, bind, over, none}
use Rattle.session.specs.declared.line.Line.{Line as StoredLine}
use Rattle.session.specs.declared.line.Line.TheVariants.{Load, Init, Bind, Over, None}
use Rattle.session.specs.declared.name.Name.{Name as StoredName}

-- The bytes of a name.
abbrev pub name_of : StoredName → List ℕ
name_of n = take n.len n.bytes

-- The line of a report.
abbrev pub line_of : StoredLine → Line
line_of (Load o) = load o
line_of (Init o) = init o
line_of (Bind s p t) = bind s.object s.number (name_of s.name) p t
line_of (Over s p t) = over s.object s.number (name_of s.name) p t
line_of (None s) = none s.object s.number (name_of s.name)
