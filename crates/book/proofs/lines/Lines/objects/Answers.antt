use Rattle.std.proofs.Common.{ℕ, ◌<◌, List, length, vec_items, sym, refl, ap, ◌∙◌, subst, arith}
use lib.ListN.{length-map}
use Rattle.std.proofs.lemmas.List.{length_push, map_push}
use Rattle.elf.specs.Meaning.{Object}
use Rattle.book.specs.declared.object.BookObject.{BookObject}
use Rattle.book.specs.Held.{object_of, objects_of}
use Rattle.book.specs.Sections.{lines_in, ObjectsIn}
use Rattle.book.proofs.ObjectsTold.{Gathered, gathered_none, gathered_more, gathered_ends, gathered_full}
use Rattle.book.proofs.lines.Lines.objects.Goals as goal

pub loop-init : goal.loop-init
loop-init c =
    record {
      same = refl;
      count = omega (arith, ap length c.new-objects.ensures.items);
      gathered =
          subst (λ (os : List BookObject). Gathered (lines_in (vec_items c.args.self.now.parts)) (objects_of os) c.args.self.now.next)
          (sym c.new-objects.ensures.items) (gathered_none _ _ c.requires);
    }

pub returns-in_default-clause-objects : goal.returns-in_default-clause-objects
returns-in_default-clause-objects c =
    let read = rw (c.in_default.is, c.loop.invariant.same) at c.in_ok-object.ensures.object in
    subst (λ (n : ℕ). ObjectsIn (lines_in (vec_items c.args.self.now.parts)) (objects_of (vec_items c.loop.objects)) n) (sym read.1)
    (gathered_ends _ _ _ c.loop.invariant.gathered read.0)

pub loop-preserved : goal.loop-preserved
loop-preserved c =
    let os = vec_items c.loop.objects in
    let o = c.in-Some.object in
    let read = rw (c.in-Some.is, c.loop.invariant.same) at c.in_ok-object.ensures.object in
    let h : length (objects_of os) < 64 = omega (arith, length-map os object_of) in
    let g = gathered_more _ (objects_of os) _ (object_of o) _ c.loop.invariant.gathered h read.0 read.1 in
    record {
      same = c.object.ensures.same ∙ c.loop.invariant.same;
      count = omega (arith, ap length c.in_ok-push.ensures.items, length_push os o);
      gathered =
          subst (λ (xs : List Object). Gathered (lines_in (vec_items c.args.self.now.parts)) xs c.object.new.self.next)
          (sym (ap objects_of c.in_ok-push.ensures.items ∙ map_push object_of os o)) g;
    }

pub returns-clause-objects : goal.returns-clause-objects
returns-clause-objects c =
    let os = vec_items c.loop.objects in
    gathered_full _ (objects_of os) _ c.loop.invariant.gathered (omega (arith, length-map os object_of))
