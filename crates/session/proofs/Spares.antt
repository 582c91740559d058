-- What is spare in a text that grows.
use Rattle.std.proofs.Common.{◌≡◌, ℕ, ◌+◌, ◌-◌, ◌≤◌, List, [], ◌++◌, length, take, drop, sym, ap, ◌∙◌, arith, drop-drop, length-append}
use borrow.Rule.Slice.PartMut.{put_mid}
use Rattle.std.proofs.lemmas.Slice.{take-put_mid, drop-put_mid}
use Rattle.session.specs.Tabled.{Tabled, blank, spare_behind}

-- the library's `drop-drop`, under a name that an attribute can write
pub drop_twice : (m n : ℕ) (l : List ℕ) → drop m (drop n l) ≡ drop (n + m) l
drop_twice m n l = drop-drop m n l

-- after a write to a text's table, behind the bytes that counted and up to an end
pub behind_written :
    (len end : ℕ) (table written : List ℕ) (t : Tabled) → record { bytes = take len table; spare = drop len table } ≡ t → len ≤ end
    → end ≤ length table → length written ≡ end - len
    → drop end (put_mid len (end - len) table written) ≡ spare_behind t (take end (put_mid len (end - len) table written))
behind_written len end table written t is low high same =
    let now = put_mid len (end - len) table written in
    let front = take-put_mid len (end - len) table written end (omega arith) (omega arith) in
    let came : end - len ≡ length (take end now) - length (take len table) =
    omega (arith, ap length front, length-append (take len table) written) in
    let there : end ≡ len + (end - len) = omega arith in
    drop-put_mid len (end - len) table written end (omega arith) (omega arith) same
    ∙ ap (λ n. drop n table) there
    ∙ sym (drop-drop (end - len) len table)
    ∙ ap (λ n. drop n (drop len table)) came
    ∙ ap (λ (t : Tabled). spare_behind t (take end now)) is

-- a text that was new, and only grew
pub record Grown (t : Tabled) : Type 0 where
  pub spare : t.spare ≡ spare_behind blank t.bytes

pub new_grown : (t : Tabled) → t.bytes ≡ [] → t.spare ≡ blank.spare → Grown t
new_grown t bytes spare =
    let none : 0 ≡ length t.bytes - 0 = omega (arith, ap length bytes) in
    record { spare = spare ∙ ap (λ n. drop n blank.spare) none }

pub still_grown :
    (t next : Tabled) (more : List ℕ) → next.bytes ≡ t.bytes ++ more → next.spare ≡ spare_behind t next.bytes → Grown t → Grown next
still_grown t next more bytes spare grown =
    let came = length next.bytes - length t.bytes in
    let all : length t.bytes - 0 + came ≡ length next.bytes - 0 = omega (arith, length-append t.bytes more, ap length bytes) in
    record {
      spare =
          spare ∙ ap (drop came) grown.spare ∙ drop_twice came (length t.bytes - 0) blank.spare ∙ ap (λ n. drop n blank.spare) all;
    }
