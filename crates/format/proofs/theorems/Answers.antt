use Rattle.format.proofs.BookLawful.{book_lawful}
use Rattle.format.proofs.theorems.Goals as goal

pub returns : goal.returns
returns c = record { lawful = book_lawful }
