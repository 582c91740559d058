use Rattle.std.proofs.Common.{ℕ, List, Option, take, ap, ◌∙◌, arith}
use Rattle.std.specs.Option.{option_map}
use Rattle.elf.specs.Meaning.{Object, reference_at}
use Rattle.catalogue.specs.Questions.{reference_version}
use Rattle.session.proofs.Copies.{lawful_version, version_at, copied}
use Rattle.session.proofs.reference.version_to.Goals as goal

pub returns-clause-version : goal.returns-clause-version
returns-clause-version g c =
    let os : List Object = g.S.Of.Catalogue.meaning c.catalogue.result.now in
    let o : ℕ = c.args.object in
    let k : ℕ = c.args.place in
    let told =
    copied c.args.out.now c.reference_version.new.out c.reference_version.result (omega arith)
    (reference_version os o k) (lawful_version os o k (g.S.Of.Catalogue.kept c.catalogue.result.now))
    c.reference_version.ensures.answer c.reference_version.ensures.buffer in
    ap (λ (l : Option ℕ). option_map (λ n. take n c.reference_version.new.out) l) c.unwrap_or.ensures
    ∙ told ∙ version_at os o k ∙ ap (λ (cs : List Object). (reference_at cs o k).version) c.catalogue.ensures
