use Rattle.std.proofs.Common.{◌≡◌, List, false, ap, ◌∙◌}
use Rattle.elf.specs.Meaning.{Object, object, no_reference}
use Rattle.catalogue.specs.declared.heads.ReferenceHead.{ReferenceHead}
use Rattle.catalogue.specs.Questions.{reference_head, asked_at}
use Rattle.session.proofs.Told.{told_else}
use Rattle.session.proofs.reference.reference.Goals as goal

-- past the end each field has its default
no_head :
    (h : ReferenceHead) → (h.number ≡ 0) × ((h.weak ≡ false) × ((h.protected ≡ false) × (h.own ≡ false))) →
    h ≡ reference_head no_reference
no_head h e i = record { number = e.0 i; weak = e.1.0 i; protected = e.1.1.0 i; own = e.1.1.1 i }

pub returns : goal.returns
returns g c =
    let same =
    c.reference.ensures
    ∙ ap (λ (os : List Object). asked_at os c.args.object (λ o. o.references) c.args.place reference_head) c.catalogue.ensures in
    told_else (object (g.S.Scope.objects c.args.scope.now) c.args.object).references c.args.place no_reference reference_head _
    c.unwrap_or_default.result (no_head _) (rw same at c.unwrap_or_default.ensures)
