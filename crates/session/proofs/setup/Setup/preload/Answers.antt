use Rattle.std.proofs.Common.{rules, ◌≡◌, ℕ, ◌+◌, ◌<◌, ◌≤◌, false, List, [], ◌∷◌, ◌++◌, length, IsOk, Ok, Err, OnOk, OnErr, Result, sym, ap, ◌∙◌, subst, arith}
use Rattle.std.specs.Prelude.{◌↔◌}
use Rattle.arrayvec.specs.ArrayVec.{ArrayVec, array_vec_len}
use Rattle.graph.specs.Graph.{among}
use Rattle.elf.specs.Meaning.{Object}
use Rattle.elf.specs.Refusals.{answer}
use Rattle.scope.specs.Orders.{LawfulOrder, unknown}
use Rattle.scope.proofs.Changes.{lawful_push, in_catalogue}
use Rattle.session.proofs.setup.Setup.preload.Goals as goal

-- an object was put behind a list, or there was no room for it
module _ {E : Type 0} (before after : ArrayVec ℕ) (o : ℕ) where
  tried :
      (c : List Object) (r : Result (Unit {0}) E) → LawfulOrder c before.items → o < length c → among o before.items ≡ false →
      OnOk r (after.items ≡ before.items ++ o ∷ []) → OnErr r (after ≡ before) → LawfulOrder c after.items
  tried c (Ok u) h l n ok err = lawful_push c before.items after.items o h l n ok
  tried c (Err e) h l n ok err = subst (λ (v : ArrayVec ℕ). LawfulOrder c v.items) (sym err) h

  room :
      (r : Result (Unit {0}) E) → length before.items ≤ 4 → IsOk r ↔ (array_vec_len before < 4) →
      OnOk r (array_vec_len after ≡ array_vec_len before + 1) → OnErr r (after ≡ before) → length after.items ≤ 4
  room (Ok u) h ok len err = let l : array_vec_len before < 4 = ok.0 (search rules) in omega (arith, l, len)
  room (Err e) h ok len err = subst (λ (v : ArrayVec ℕ). length v.items ≤ 4) (sym err) h

pub invariant_of-self : goal.invariant_of-self
invariant_of-self g c =
    let os : List Object = g.S.Scope.objects c.self.inside.scope in
    let before : ArrayVec ℕ = c.self.inside.tables.preloads in
    let new : among c.args.object before.items ≡ false = cc in (
      tried before c.try_push.new.self c.args.object os c.try_push.result c.self.invariant.0
          (in_catalogue os c.args.object c.in_ok-check_known.field-0
          (c.in_ok-check_known.ensures ∙ ap (λ (cs : List Object). answer {A = Unit {0}} (unknown cs c.args.object) tt) c.catalogue.ensures)) new
          c.try_push.ensures.ok c.try_push.ensures.err,
      room before c.try_push.new.self c.args.object c.try_push.result c.self.invariant.1 c.try_push.ensures.variant
          c.try_push.ensures.len c.try_push.ensures.err,
    )

pub returns-clause-preloads : goal.returns-clause-preloads
returns-clause-preloads g c =
    let os : List Object = g.S.Scope.objects c.self.inside.scope in
    let before : ArrayVec ℕ = c.self.inside.tables.preloads in
    let new : among c.args.object before.items ≡ false = cc in
    tried before c.try_push.new.self c.args.object os c.try_push.result c.self.invariant.0
    (in_catalogue os c.args.object c.in_ok-check_known.field-0
    (c.in_ok-check_known.ensures ∙ ap (λ (cs : List Object). answer {A = Unit {0}} (unknown cs c.args.object) tt) c.catalogue.ensures)) new
    c.try_push.ensures.ok c.try_push.ensures.err
