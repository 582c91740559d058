use Rattle.std.proofs.Common.{ℕ, List, [], map, get_or, vec_items, ap, ◌∙◌, subst, arith, Bor}
use Rattle.std.specs.List.{slice_get}
use Rattle.elf.specs.declared.symbol.Definition.{Definition}
use Rattle.elf.specs.Names.{bytes_of, names_of}
use Rattle.elf.specs.Stored.{definition_of, reference_of, need_of}
use Rattle.format.specs.Lines.{number_at, ref_row, ref_fits}
use Rattle.book.specs.Sections.{lines_in, Section}
use Rattle.book.proofs.LinesTold.{lines_fit}
use Rattle.book.proofs.ObjectsTold.{first_name, object_made, object_told, object_within}
use Rattle.book.proofs.lines.Lines.object.Goals as goal

pub overflow_add-self : goal.overflow_add-self
overflow_add-self c =
    let ps = vec_items c.args.self.now.parts in
    let l = get_or (lines_in ps) c.args.self.now.next [] in
    let f = ap names_of c.deref.ensures.value ∙ c.in_ok-fields.ensures in
    let t = object_told l (names_of c.deref.result.now) c.in-Some.flags f c.in-Some.ensures in
    omega (arith, object_within (lines_in ps) c.args.self.now.next t.0, lines_fit ps)

pub returns-clause-object : goal.returns-clause-object
returns-clause-object c =
    let ps = vec_items c.args.self.now.parts in
    let l = get_or (lines_in ps) c.args.self.now.next [] in
    let f = ap names_of c.deref.ensures.value ∙ c.in_ok-fields.ensures in
    let t = object_told l (names_of c.deref.result.now) c.in-Some.flags f c.in-Some.ensures in
    let sonames = vec_items c.in_ok-sonames.sonames in
    let versions = vec_items c.in_ok-versions.versions in
    let defs = vec_items c.in_ok-definitions.definitions in
    let refs = map reference_of (vec_items c.in_ok-references.references) in
    let first = c.copied.ensures ∙ c.first.ensures.value ∙ ap (λ (xs : List (Bor (List ℕ))). slice_get xs 0) c.deref-3.ensures.value in
    let soname = first_name sonames c.copied.result first in
    let s =
    subst (λ (ds : List Definition). Section 4096 ref_row (ref_fits (map definition_of ds))
    (lines_in (vec_items c.rows-5.new.self.parts)) c.rows-5.new.self.next refs c.rows-6.new.self.next)
    c.deref-2.ensures.value c.in_ok-references.ensures.rows in (
      t.0,
      object_made (number_at l 1) c.in-Some.flags ps _ _ _ _ _ _ _ _ _ _ _ _ (bytes_of c.copied.result) (names_of sonames)
          (names_of (vec_items c.in_ok-needed.needed)) (map need_of (vec_items c.in_ok-needs.needs)) versions (map definition_of defs) refs
          t.1 soname c.rows.ensures.same c.rows-2.ensures.same c.rows-3.ensures.same c.rows-4.ensures.same c.rows-5.ensures.same
          c.in_ok-sonames.ensures.rows c.in_ok-needed.ensures.rows c.in_ok-needs.ensures.rows c.in_ok-versions.ensures.rows
          c.in_ok-definitions.ensures.rows s,
    )
