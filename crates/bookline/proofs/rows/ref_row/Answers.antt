use Rattle.std.proofs.Common.{◌≡◌, true, false, ◌&&◌, codes, refl, arith}
use Rattle.std.specs.Str.{bytes_eq}
use Rattle.elf.specs.Names.{lawful}
use Rattle.bookline.proofs.RowsRead.{stored, none_both, ref_told}
use Rattle.bookline.proofs.rows.ref_row.Goals as goal

pub returns-then-ne : goal.returns-then-ne
returns-then-ne c =
    let t : (bytes_eq (stored c.args.fields.now 0) (codes "ref") && lawful (stored c.args.fields.now 2)) ≡ false =
    grind arith in
    rw (ref_told c.args.fields.now (omega arith), t) refl

pub returns-in_err-symbol : goal.returns-in_err-symbol
returns-in_err-symbol c =
    rw (c.from_residual.ensures, ref_told c.args.fields.now (omega arith), ← c.in_err-symbol.ensures) (none_both _)

pub returns-in_err-flags : goal.returns-in_err-flags
returns-in_err-flags c =
    rw (
      c.from_residual-in_err-flags.ensures,
      ref_told c.args.fields.now (omega arith),
      ← c.in_ok-symbol.ensures,
      ← c.in_err-flags.ensures,
    ) (none_both _)

pub returns-in_err-version : goal.returns-in_err-version
returns-in_err-version c =
    rw (
      c.from_residual-in_err-version.ensures,
      ref_told c.args.fields.now (omega arith),
      ← c.in_ok-symbol.ensures,
      ← c.in_ok-flags.ensures,
      ← c.in_err-version.ensures,
    ) (none_both _)

pub returns : goal.returns
returns c =
    let t : (bytes_eq (stored c.args.fields.now 0) (codes "ref") && lawful (stored c.args.fields.now 2)) ≡ true = grind arith in
    rw (
      ref_told c.args.fields.now (omega arith),
      ← c.in_ok-symbol.ensures,
      ← c.in_ok-flags.ensures,
      ← c.in_ok-version.ensures,
      t,
    ) cc
