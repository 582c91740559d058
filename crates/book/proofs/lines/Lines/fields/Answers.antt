use Rattle.std.proofs.Common.{◌≡◌, IfOk, vec_items, ap, ◌∙◌, subst}
use Rattle.elf.specs.Names.{names_of}
use Rattle.format.specs.Lines.{Fields}
use Rattle.book.proofs.LinesTold.{fields_none, fields_some}
use Rattle.book.proofs.lines.Lines.fields.Goals as goal

pub returns-in_default : goal.returns-in_default
returns-in_default c =
    ap names_of c.new.ensures.items ∙ fields_none _ c.args.self.now.next _ c.rest.ensures c.in_default.len_below

pub returns-in-len2-up : goal.returns-in-len2-up
returns-in-len2-up c =
    subst (λ (l : Fields). IfOk c.split.result (λ v. names_of (vec_items v) ≡ l))
    (fields_some _ c.args.self.now.next _ _ c.rest.ensures c.in-len2-up.len_at_least) c.split.ensures
