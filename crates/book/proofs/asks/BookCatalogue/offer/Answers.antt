use Rattle.std.proofs.Common.{vec_items, ◌∙◌}
use Rattle.elf.specs.Names.{bytes_of}
use Rattle.elf.specs.Offers.{offer}
use Rattle.book.proofs.Nths.{of_missed, offer_found}
use Rattle.book.proofs.asks.BookCatalogue.offer.Goals as goal

pub returns-in_err-object : goal.returns-in_err-object
returns-in_err-object c =
    c.from_residual.ensures
    ∙ of_missed (λ o. offer o c.args.wanted.name.now (bytes_of c.args.wanted.version)) (vec_items c.args.self.now.objects)
    c.args.object c.in_err-object.ensures

pub returns : goal.returns
returns c =
    offer_found (vec_items c.args.self.now.objects) c.args.object c.in_ok-object.object.now c.args.wanted.name.now
    (bytes_of c.args.wanted.version) c.in_ok-object.ensures c.deref.ensures.value c.offer.ensures
