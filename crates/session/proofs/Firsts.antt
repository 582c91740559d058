-- What an answer says of a check.
use Rattle.std.proofs.Common.{◌≡◌, Some, None, Ok, Err, Option}
use Rattle.elf.specs.declared.refusal.Refusal.{Refusal}
use Rattle.elf.specs.Refusals.{answer}

pub granted : (r : Option Refusal) (u : Unit {0}) → Ok u ≡ answer r tt → r ≡ None
granted None u e = cc
granted (Some f) u e = cc

pub refused : (r : Option Refusal) (f : Refusal) → Err f ≡ answer {A = Unit {0}} r tt → r ≡ Some f
refused None f e = cc
refused (Some h) f e = cc
