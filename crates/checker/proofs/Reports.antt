-- A report, line by line.
use Rattle.std.proofs.Common.{◌≡◌, ℕ, zero, suc, ◌+◌, ◌<◌, ◌≤◌, false, ltb, List, [], ◌∷◌, ◌++◌, length, take, drop, None, Ok, sym, refl, ap, ◌∙◌, append_assoc, append-nil, arith}
use Rattle.std.proofs.lemmas.List.{take_at}
use Rattle.std.proofs.lemmas.Bool.Decides.{nat_tests}
use Rattle.elf.specs.declared.refusal.Refusal.TheVariants.{ShortBuffer}
use Rattle.elf.specs.Names.{only_if}
use Rattle.elf.specs.Refusals.{answer, after}
use Rattle.catalogue.specs.Buffers.{short, write_answer, written_front}
use Rattle.session.specs.Lines.{Line, render, line_bytes}
use Rattle.checker.specs.Linkbook.{report}

-- one line more
pub report_more : (ls : List Line) (n : ℕ) → n < length ls → report (take (n + 1) ls) ≡ report (take n ls) ++ line_bytes ls n
report_more [] n h = absurd (omega arith)
report_more (l ∷ ls) zero h = append-nil (render l)
report_more (l ∷ ls) (suc n) h =
    let next : suc n + 1 ≡ suc (n + 1) = omega arith in
    ap (λ k. report (take k (l ∷ ls))) next
    ∙ ap (λ xs. render l ++ xs) (report_more ls n (omega arith))
    ∙ sym (append_assoc (render l) (report (take n ls)) (line_bytes ls n))

-- a buffer that is long enough begins with the bytes after a call that was granted
pub front :
    (bytes buffer after_call : List ℕ) (n : ℕ) → length bytes ≤ length buffer → Ok n ≡ write_answer bytes (length buffer) →
    after_call ≡ written_front bytes buffer → take n after_call ≡ bytes
front bytes buffer after_call n fits e f =
    let s : ltb (length buffer) (length bytes) ≡ false = grind (arith, nat_tests) in
    let none : short bytes (length buffer) ≡ None = ap (λ b. only_if b (ShortBuffer (length bytes))) s in
    let granted : write_answer bytes (length buffer) ≡ Ok (length bytes) = ap (λ r. answer r (length bytes)) none in
    let count : n ≡ length bytes = cc in
    ap (λ k. take k after_call) count
    ∙ ap (take (length bytes)) (f ∙ ap (λ r. after r buffer (bytes ++ drop (length bytes) buffer)) none)
    ∙ take_at bytes (drop (length bytes) buffer) (length bytes) refl
