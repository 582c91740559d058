-- Answers under a test.
use Rattle.std.proofs.Common.{◌≡◌, Bool, true, false, is_some, Some, None, refl, ap}
use Rattle.std.proofs.lemmas.Bool.{false≢true, true≢false}
use Rattle.elf.specs.Names.{only_if}

-- An answer was given, so the test holds.
pub only_if_some : {A : Type 0} (b : Bool) (x y : A) → only_if b x ≡ Some y → (b ≡ true) × (x ≡ y)
only_if_some true x y e = (refl, cc)
only_if_some false x y e = absurd (false≢true (ap is_some e))

-- None was given, so the test fails.
pub only_if_none : {A : Type 0} (b : Bool) (x : A) → only_if b x ≡ None → b ≡ false
only_if_none true x e = absurd (true≢false (ap is_some e))
only_if_none false x e = refl
