use Rattle.std.proofs.Common.{◌≡◌, List, false, ap, ◌∙◌}
use Rattle.elf.specs.Meaning.{Object, no_object}
use Rattle.catalogue.specs.declared.heads.ObjectHead.{ObjectHead}
use Rattle.catalogue.specs.Questions.{object_head, asked}
use Rattle.session.proofs.Told.{told_else}
use Rattle.session.proofs.reference.head.Goals as goal

-- past the end each field has its default
no_head :
    (h : ObjectHead) → (h.symbolic ≡ false) × ((h.needed ≡ 0) × ((h.needs ≡ 0) × (h.references ≡ 0))) →
    h ≡ object_head no_object
no_head h e i = record { symbolic = e.0 i; needed = e.1.0 i; needs = e.1.1.0 i; references = e.1.1.1 i }

pub returns : goal.returns
returns g c =
    let same = c.object.ensures ∙ ap (λ (os : List Object). asked os c.args.object object_head) c.catalogue.ensures in
    told_else (g.S.Scope.objects c.args.scope.now) c.args.object no_object object_head _
    c.unwrap_or_default.result (no_head _) (rw same at c.unwrap_or_default.ensures)
