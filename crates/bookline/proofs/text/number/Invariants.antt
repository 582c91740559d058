use Rattle.std.proofs.Common.{◌≡◌, ◌≤◌, drop}
use Rattle.bookline.proofs.Numbers.{number_on}
use Rattle.bookline.proofs.text.number.Given as goal

-- what is left gives the answer
abbrev pub invariant-loop-digit : goal.invariant-loop-digit
invariant-loop-digit l =
    (number_on l.most l.sum (drop l.digit-index l.digits) ≡ number_on l.most 0 l.digits) × (l.sum ≤ l.most)
