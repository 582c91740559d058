use Rattle.std.proofs.Common.{◌≡◌, ◌%◌, true, false, ◌&&◌, leb, is_some, codes, refl, arith}
use Rattle.std.specs.Bool.{beq}
use Rattle.std.specs.Str.{bytes_eq}
use Rattle.elf.specs.Names.{bytes_of, lawful}
use Rattle.bookline.proofs.RowsRead.{stored, none_both, is_some-bytes_of, def_told}
use Rattle.bookline.proofs.rows.def_row.Goals as goal

pub returns-then-ne : goal.returns-then-ne
returns-then-ne c =
    let t : (bytes_eq (stored c.args.fields.now 0) (codes "def") && lawful (stored c.args.fields.now 2)) ≡ false = grind arith in
    rw (def_told c.args.fields.now (omega arith), t) refl

pub returns-in_err-symbol : goal.returns-in_err-symbol
returns-in_err-symbol c =
    rw (c.from_residual.ensures, def_told c.args.fields.now (omega arith), ← c.in_err-symbol.ensures) (none_both _)

pub returns-in_err-versym : goal.returns-in_err-versym
returns-in_err-versym c =
    rw (
      c.from_residual-in_err-versym.ensures,
      def_told c.args.fields.now (omega arith),
      ← c.in_ok-symbol.ensures,
      ← c.in_err-versym.ensures,
    ) (none_both _)

pub returns-in_err-flags : goal.returns-in_err-flags
returns-in_err-flags c =
    rw (
      c.from_residual-in_err-flags.ensures,
      def_told c.args.fields.now (omega arith),
      ← c.in_ok-symbol.ensures,
      ← c.in_ok-versym.ensures,
      ← c.in_err-flags.ensures,
    ) (none_both _)

pub returns-in_err-version : goal.returns-in_err-version
returns-in_err-version c =
    rw (
      c.from_residual-in_err-version.ensures,
      def_told c.args.fields.now (omega arith),
      ← c.in_ok-symbol.ensures,
      ← c.in_ok-versym.ensures,
      ← c.in_ok-flags.ensures,
      ← c.in_err-version.ensures,
    ) (none_both _)

pub returns-then-is_some-index : goal.returns-then-is_some-index
returns-then-is_some-index c =
    let told : beq (is_some (bytes_of c.in_ok-version.version)) (leb 2 (c.in_ok-versym.versym % 32768)) ≡ false =
    grind (arith, is_some-bytes_of) in
    rw (
      def_told c.args.fields.now (omega arith),
      ← c.in_ok-symbol.ensures,
      ← c.in_ok-versym.ensures,
      ← c.in_ok-flags.ensures,
      ← c.in_ok-version.ensures,
      told,
    ) (none_both _)

pub returns : goal.returns
returns c =
    let t : (bytes_eq (stored c.args.fields.now 0) (codes "def") && lawful (stored c.args.fields.now 2)) ≡ true = grind arith in
    let told : beq (is_some (bytes_of c.in_ok-version.version)) (leb 2 (c.in_ok-versym.versym % 32768)) ≡ true =
    grind (arith, is_some-bytes_of) in
    rw (
      def_told c.args.fields.now (omega arith),
      ← c.in_ok-symbol.ensures,
      ← c.in_ok-versym.ensures,
      ← c.in_ok-flags.ensures,
      ← c.in_ok-version.ensures,
      t,
      told,
    ) cc
