use Rattle.std.proofs.Common.{vec_items, refl}
use Rattle.std.specs.List.{slice_get}
use Rattle.elf.specs.Stored.{reference_of}
use Rattle.book.proofs.Nths.{of_missed, entry_found}
use Rattle.book.proofs.whole.Book.reference_at.Goals as goal

pub returns-in_err-object_at : goal.returns-in_err-object_at
returns-in_err-object_at c =
    rw c.from_residual.ensures
    (of_missed (λ o. slice_get o.references c.args.place) (vec_items c.args.self.now.objects) c.args.number c.in_err-object_at.ensures)

pub returns : goal.returns
returns c =
    entry_found (λ o. o.references) reference_of (vec_items c.args.self.now.objects) c.args.number c.args.place c.get.result
    c.in_ok-object_at.ensures refl c.deref.ensures.value c.get.ensures.lookup c.copied.ensures
