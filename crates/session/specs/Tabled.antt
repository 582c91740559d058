-- Bytes in a fixed table.
use Rattle.std.specs.Prelude.{ℕ, ◌-◌, List, [], length, drop, replicate}

-- The bytes that count, and those behind them that don't.
pub record Tabled : Type 0 where
  pub bytes : List ℕ
  pub spare : List ℕ

-- No byte of 320 counts yet, and all are zero.
abbrev pub blank : Tabled
blank = record { bytes = []; spare = replicate 320 0 }

-- What stays spare once a text has grown to some bytes: the first spare ones made room.
abbrev pub spare_behind : Tabled → List ℕ → List ℕ
spare_behind old bytes = drop (length bytes - length old.bytes) old.spare
