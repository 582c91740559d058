-- What a call writes at the front of a buffer.
use Rattle.std.specs.Prelude.{ℕ, List, ◌++◌, length, drop, Some, None, Ok, Option, Result, nat_lt}
use Rattle.elf.specs.declared.refusal.Refusal.{Refusal}
use Rattle.elf.specs.declared.refusal.Refusal.TheVariants.{ShortBuffer}
use Rattle.elf.specs.Names.{Name, only_if}
use Rattle.elf.specs.Refusals.{answer, after}

-- A buffer shorter than the bytes is refused, with the bytes needed.
abbrev pub short : List ℕ → ℕ → Option Refusal
short bytes room = only_if (nat_lt room (length bytes)) (ShortBuffer (length bytes))

-- The answer is how many bytes stand at the front.
abbrev pub write_answer : List ℕ → ℕ → Result ℕ Refusal
write_answer bytes room = answer (short bytes room) (length bytes)

-- The bytes stand at the front and the rest stays; a refusal writes nothing.
abbrev pub written_front : List ℕ → List ℕ → List ℕ
written_front bytes buffer = after (short bytes (length buffer)) buffer (bytes ++ drop (length bytes) buffer)

-- A name asked for: its length, none past the end, or a buffer too short.
abbrev pub name_answer : Option Name → ℕ → Result (Option ℕ) Refusal
name_answer None room = Ok None
name_answer (Some n) room = answer (short n room) (Some (length n))

-- The buffer after a name was asked for.
abbrev pub name_buffer : Option Name → List ℕ → List ℕ
name_buffer None buffer = buffer
name_buffer (Some n) buffer = written_front n buffer
