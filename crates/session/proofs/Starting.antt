-- What a visit comes to, on either way.
use Rattle.std.proofs.Common.{◌≡◌, ℕ, zero, suc, ◌+◌, ◌-◌, ◌<◌, true, false, not, ◌&&◌, List, [], ◌∷◌, length, sym, refl, ap, ◌∙◌, arith}
use Rattle.std.proofs.lemmas.List.{length_push}
use Rattle.std.proofs.lemmas.Bool.{and_parts, not-true, and_from, not_from_false}
use Rattle.graph.specs.Graph.{among, Marks, enter, leave, each, visit}
use Rattle.graph.proofs.Members.{if_both}
use Rattle.graph.proofs.Loops.{visit_enters}
use Rattle.elf.specs.Meaning.{Object}
use Rattle.scope.specs.Orders.{LawfulOrder}
use Rattle.scope.proofs.Changes.{lawful_push}
use Rattle.session.proofs.Walking.{lawful_known}

-- a visit puts down as many as it enters, and enters lawful objects alone
pub record Goes (c : List Object) (m after : Marks) : Type 0 where
  pub even : length after.finished + length m.entered ≡ length m.finished + length after.entered
  pub lawful : LawfulOrder c m.entered → LawfulOrder c after.entered

module _ (c : List Object) (next : ℕ → List ℕ) (new : List ℕ) where
  each_goes :
      (f : ℕ → Marks → Marks) → ((u : ℕ) (m : Marks) → Goes c m (f u m)) → (us : List ℕ) (m : Marks) → Goes c m (each f us m)
  each_goes f h [] m = record { even = refl; lawful = λ l. l }
  each_goes f h (u ∷ us) m =
      let one = h u m in
      let rest = each_goes f h us (f u m) in
      record { even = omega arith; lawful = λ l. rest.lawful (one.lawful l) }

  pub visit_goes : LawfulOrder c new → (k u : ℕ) (m : Marks) → Goes c m (visit next new k u m)
  visit_goes h zero u m = record { even = refl; lawful = λ l. l }
  visit_goes h (suc k) u m =
      if_both (among u new && not (among u m.entered)) (leave u (each (visit next new k) (next u) (enter u m))) m (Goes c m)
      (λ e. let p = and_parts (among u new) (not (among u m.entered)) e in entered (p.0, not-true (among u m.entered) p.1) _ (each_goes (visit next new k) (visit_goes h k) (next u) (enter u m)))
      (λ _. record { even = refl; lawful = λ l. l })
    where
      entered : (among u new ≡ true) × (among u m.entered ≡ false) → (b : Marks) → Goes c (enter u m) b → Goes c m (leave u b)
      entered s b g =
          let p = length_push m.entered u in
          let q = length_push b.finished u in
          record {
            even = omega (arith, g.even);
            lawful = λ l. g.lawful (lawful_push c m.entered _ u l (lawful_known c new u h s.0) s.1 refl);
          }

module _ (next : ℕ → List ℕ) (new : List ℕ) where
  pub entered_done :
      (d u : ℕ) (m b : Marks) → 0 < d → among u new ≡ true → among u m.entered ≡ false →
      b ≡ each (visit next new (d - 1)) (next u) (enter u m) → leave u b ≡ visit next new d u m
  entered_done d u m b l e f q =
      let s : suc (d - 1) ≡ d = omega arith in
      ap (leave u) q
      ∙ sym (visit_enters next new (d - 1) u m
      (and_from (among u new) (not (among u m.entered)) e (not_from_false (among u m.entered) f)))
      ∙ ap (λ k. visit next new k u m) s
