-- The refusals' numbers, objects and places, and how a refusal shapes an answer.
use Rattle.std.specs.Prelude.{ℕ, min, List, Some, None, Ok, Err, Option, Result}
use Rattle.elf.specs.declared.refusal.Limit.{Limit}
use Rattle.elf.specs.declared.refusal.Limit.TheVariants.{Definitions, References, Needed, Preloads}
use Rattle.elf.specs.declared.refusal.Refusal.{Refusal}
use Rattle.elf.specs.declared.refusal.Refusal.TheVariants.{PartOutside, BadHeader, BadSegments, TableOutside, BadName, BadTags, SetTooLong, HasVersions, TooMany, BookTooLong, BadLine, PartCount, Unknown, Twice, NotThere, NoTarget, NoVersion, Unbound, ManyBindings, OpensUsedUp, ShortBuffer}
use Rattle.elf.specs.Names.{first}

-- The place that tells what there is too much of.
abbrev pub limit_place : Limit → ℕ
limit_place Definitions = 1
limit_place References = 2
limit_place Needed = 3
limit_place Preloads = 4

-- Each refusal's number, object and place.
abbrev pub row : Refusal → ℕ × ℕ × ℕ
row (PartOutside p) = (1, p, 0)
row (BadHeader p) = (2, p, 0)
row (BadSegments p) = (3, p, 0)
row (TableOutside p tag) = (4, p, tag)
row (BadName p) = (5, p, 0)
row (BadTags p) = (6, p, 0)
row SetTooLong = (7, 0, 0)
row (HasVersions p) = (8, p, 0)
row (TooMany o l) = (9, o, limit_place l)
row BookTooLong = (10, 65535, 0)
row (BadLine n) = (10, 65535, min n 65535)
row PartCount = (11, 0, 0)
row (Unknown o) = (12, o, 0)
row (Twice o) = (13, o, 0)
row (NotThere o) = (14, o, 0)
row (NoTarget o e) = (15, o, e)
row (NoVersion o n) = (16, o, n)
row (Unbound o s) = (17, o, s)
row (ManyBindings o) = (18, o, 4096)
row (OpensUsedUp o) = (19, o, 65535)
row (ShortBuffer n) = (20, 0, n)

-- The first refusal of some checks in their order.
abbrev pub first_refusal : List (Option Refusal) → Option Refusal
first_refusal cs = first (λ r. r) cs

-- A call's answer: the refusal, or what it grants.
abbrev pub answer : {A : Type 0} → Option Refusal → A → Result A Refusal
answer (Some r) x = Err r
answer None x = Ok x

-- What a call leaves: after a refusal all is as it was.
abbrev pub after : {S : Type 0} → Option Refusal → S → S → S
after (Some r) was next = was
after None was next = next
