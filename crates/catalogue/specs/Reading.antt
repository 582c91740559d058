-- What a call that reads answers.
use Rattle.std.specs.Prelude.{◌≡◌, Ok, Err, Result}
use Rattle.elf.specs.declared.refusal.Refusal.{Refusal}
use Rattle.catalogue.specs.declared.fault.Fault.{Fault}
use Rattle.catalogue.specs.declared.fault.Fault.TheVariants.{Refused, Memory}

-- The value that is meant, or the refusal that is meant; want of memory tells neither.
abbrev pub Reads : {A B : Type 0} → (A → B) → Result A Fault → Result B Refusal → Type 0
Reads meaning (Ok x) meant = meant ≡ Ok (meaning x)
Reads meaning (Err (Refused e)) meant = meant ≡ Err e
Reads meaning (Err (Memory e)) meant = Unit {0}
