-- What the checks ask of one needed entry and one version need.
use Rattle.std.proofs.Common.{◌≡◌, ℕ, ◌+◌, ◌<◌, false, not, ◌||◌, List, [], length, drop, Option, unwrap_or, ◌∙◌, add-one}
use Rattle.std.specs.Option.{option_or}
use Rattle.std.proofs.lemmas.Option.{slice_get-get_or}
use Rattle.std.proofs.lemmas.List.{at_drop_more}
use Rattle.elf.specs.declared.refusal.Refusal.{Refusal}
use Rattle.elf.specs.declared.refusal.Refusal.TheVariants.{NoTarget, NoVersion}
use Rattle.elf.specs.Names.{Name, only_if, first_from}
use Rattle.elf.specs.Meaning.{Object, VersionNeed, object, target}
use Rattle.catalogue.specs.Questions.{asked_at, needed_target}
use Rattle.session.specs.Checks.{is_none, is_met}

abbrev pub ask_entry : List Object → ℕ → ℕ → Name → Option Refusal
ask_entry c o k n = only_if (is_none (target c n)) (NoTarget o k)

abbrev pub ask_need : List Object → List ℕ → ℕ → ℕ → VersionNeed → Option Refusal
ask_need c order o k n = only_if (not (n.weak || is_met c order n)) (NoVersion o k)

-- what is left gives the answer at the next place, or else what is left behind it does
module _ (c : List Object) (o k : ℕ) where
  pub entry_left :
      k < length (object c o).needed →
      first_from k (ask_entry c o) (drop k (object c o).needed)
      ≡ option_or (only_if (is_none (needed_target c o k)) (NoTarget o k))
      (first_from (k + 1) (ask_entry c o) (drop (k + 1) (object c o).needed))
  entry_left l =
      let e = slice_get-get_or (object c o).needed k [] l in
      at_drop_more (first_from k (ask_entry c o)) (object c o).needed k [] l ∙ rw (e, add-one)

  pub need_left :
      (order : List ℕ) → k < length (object c o).needs →
      first_from k (ask_need c order o) (drop k (object c o).needs)
      ≡ option_or
      (only_if
      (not
      (unwrap_or (asked_at c o (λ p. p.needs) k (λ n. n.weak)) false
      || unwrap_or (asked_at c o (λ p. p.needs) k (is_met c order)) false))
      (NoVersion o k))
      (first_from (k + 1) (ask_need c order o) (drop (k + 1) (object c o).needs))
  need_left order l =
      let none : VersionNeed = record { file = []; version = []; weak = false } in
      let e = slice_get-get_or (object c o).needs k none l in
      at_drop_more (first_from k (ask_need c order o)) (object c o).needs k none l ∙ rw (e, add-one)
