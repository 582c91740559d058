use Rattle.std.proofs.Common.{refl}
use Rattle.std.specs.Fmt.{digits}
use Rattle.checker.proofs.samples.samples_hold.Goals as goal

-- each row is computed
pub returns : goal.returns
unfolding digits
returns c = (refl, (refl, (refl, (refl, (refl, (refl, (refl, (refl, ((refl, refl), tt)))))))))
