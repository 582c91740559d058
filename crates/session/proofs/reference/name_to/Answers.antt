use Rattle.std.proofs.Common.{ℕ, List, arith}
use Rattle.elf.specs.Meaning.{Object, object, no_reference}
use Rattle.catalogue.specs.Questions.{asked_at}
use Rattle.session.proofs.Told.{told_at}
use Rattle.session.proofs.Copies.{lawful_name, copied_front}
use Rattle.session.proofs.reference.name_to.Goals as goal

pub returns-clause-name : goal.returns-clause-name
returns-clause-name g c =
    let os : List Object = g.S.Of.Catalogue.meaning c.catalogue.result.now in
    let o : ℕ = c.args.object in
    let k : ℕ = c.args.place in
    let n =
    copied_front c.args.out.now c.reference_name.new.out c.reference_name.result (omega arith)
    (asked_at os o (λ p. p.references) k (λ r. r.name)) (lawful_name os o k (g.S.Of.Catalogue.kept c.catalogue.result.now))
    c.reference_name.ensures.answer c.reference_name.ensures.buffer in
    cc (told_at (object os o).references k no_reference (λ r. r.name))
