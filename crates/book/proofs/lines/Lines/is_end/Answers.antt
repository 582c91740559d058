use Rattle.std.proofs.Common.{sym, ◌∙◌}
use Rattle.book.proofs.LinesTold.{end_of_none, end_of_one, end_of_more}
use Rattle.book.proofs.lines.Lines.is_end.Goals as goal

pub returns-in-empty : goal.returns-in-empty
returns-in-empty c = sym (end_of_none _ _ _ c.rest.ensures c.in-empty.len_below)

pub returns-in-len1 : goal.returns-in-len1
returns-in-len1 c =
    c.is_empty.ensures ∙ end_of_one _ _ _ _ c.rest.ensures c.in-len1.len_at_least c.in-len1.len_below

pub returns-in_default : goal.returns-in_default
returns-in_default c = sym (end_of_more _ _ _ c.rest.ensures c.in_default.len_at_least)
