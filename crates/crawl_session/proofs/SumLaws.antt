-- A log that was written with checksums has no wrong one, and a wrong one is found.
use Rattle.std.proofs.Common.{◌≡◌, ◌≢◌, ◌⊎◌, inl, inr, ℕ, suc, ◌+◌, ◌-◌, ◌/◌, ◌%◌, ◌^◌, codes, ◌<◌, ◌==◌, ◌&&◌, Bool, true, false, not, if◌then◌else◌, List, [], ◌∷◌, ◌++◌, length, take, drop, None, refl, sym, ap, subst, ◌∙◌, arith, append-nil, append_assoc, eqb-true, ne_eqb, length-append, Some}
use Rattle.std.proofs.lemmas.Bool.{false_from_ne_true, false≢true}
use Rattle.std.proofs.lemmas.Option.{none-some}
use Rattle.std.proofs.lemmas.List.Elements.{All-nil, All-cons, All-append, All-from_recursion, All-get_or, All-head, All-tail}
use Rattle.std.proofs.lemmas.Slice.Eq.{bytes_eq-Decides}
use Rattle.std.proofs.Math.Seq.{take-append_seam, drop-append_seam}
use Rattle.std.specs.Hash.DefaultHasher.{finish, initial, write}
use Rattle.std.specs.List.{All, concat, list_all}
use Rattle.std.specs.Str.{bytes_eq}
use Rattle.std.specs.declared.hash.DefaultHasher.{DefaultHasher}
use Rattle.crawl_session.specs.Input.{IsUnfinished}
use Rattle.crawl_session.specs.Sums.{Checked, after_line, checked_after, digit, ended_lines, first_wrong, is_right, is_sum, kept, kept_byte, lines_len, next_line, sum_after, summed, sum_line, summed_each, summed_lines, unchecked, unfinished_after, with_first, wrong_after}
use Rattle.crawl_session.proofs.SumLines.{IsOther, ended_lines-cut, ended_lines-unfinished, lines_len-cut, lines_len-unfinished, summed_lines-some, write_append, write_nil}

-- ---- lines of whole lines

ended_lines-some : (front : List ℕ) → 0 < length (ended_lines (front ++ 10 ∷ []))
ended_lines-some [] = omega arith
ended_lines-some (byte ∷ front) = by_byte (byte == 10) (ended_lines (front ++ 10 ∷ [])) (ended_lines-some front)
  where
    by_byte : (b : Bool) (ls : List (List ℕ)) → 0 < length ls → 0 < length (if b then (10 ∷ []) ∷ ls else with_first byte ls)
    by_byte true ls some = omega arith
    by_byte false [] some = absurd (omega (arith, some))
    by_byte false (line ∷ ls) some = omega arith

with_first-append : (byte : ℕ) (ls ms : List (List ℕ)) → 0 < length ls → with_first byte (ls ++ ms) ≡ with_first byte ls ++ ms
with_first-append byte [] ms some = absurd (omega (arith, some))
with_first-append byte (line ∷ ls) ms some = refl

-- whole lines, and then those of the bytes after them
pub ended_lines-append : (front rest : List ℕ) → ended_lines (front ++ 10 ∷ rest) ≡ ended_lines (front ++ 10 ∷ []) ++ ended_lines rest
ended_lines-append [] rest = refl
ended_lines-append (byte ∷ front) rest = by_byte (byte == 10) (ended_lines-append front rest)
  where
    by_byte : (b : Bool) → ended_lines (front ++ 10 ∷ rest) ≡ ended_lines (front ++ 10 ∷ []) ++ ended_lines rest
        → (if b then (10 ∷ []) ∷ ended_lines (front ++ 10 ∷ rest) else with_first byte (ended_lines (front ++ 10 ∷ rest))) ≡ (if b then (10 ∷ []) ∷ ended_lines (front ++ 10 ∷ []) else with_first byte (ended_lines (front ++ 10 ∷ []))) ++ ended_lines rest
    by_byte true is = ap (λ l. (10 ∷ []) ∷ l) is
    by_byte false is = ap (with_first byte) is ∙ with_first-append byte (ended_lines (front ++ 10 ∷ [])) (ended_lines rest) (ended_lines-some front)

concat-first : (byte : ℕ) (ls : List (List ℕ)) → 0 < length ls → concat (with_first byte ls) ≡ byte ∷ concat ls
concat-first byte [] some = absurd (omega (arith, some))
concat-first byte (line ∷ ls) some = refl

concat_lines : (front : List ℕ) → concat (ended_lines (front ++ 10 ∷ [])) ≡ front ++ 10 ∷ []
concat_lines [] = refl
concat_lines (byte ∷ front) = by_byte (byte == 10) refl (concat_lines front)
  where
    by_byte : (b : Bool) → (byte == 10) ≡ b → concat (ended_lines (front ++ 10 ∷ [])) ≡ front ++ 10 ∷ [] → concat (if b then (10 ∷ []) ∷ ended_lines (front ++ 10 ∷ []) else with_first byte (ended_lines (front ++ 10 ∷ []))) ≡ byte ∷ front ++ 10 ∷ []
    by_byte true is more = ap (λ l. 10 ∷ l) more ∙ ap (λ b. b ∷ front ++ 10 ∷ []) (sym (eqb-true byte 10 is))
    by_byte false is more = concat-first byte (ended_lines (front ++ 10 ∷ [])) (ended_lines-some front) ∙ ap (λ l. byte ∷ l) more

-- ---- more lines are checked

pub wrong_after-append : (c : Checked) (ls ms : List (List ℕ)) → wrong_after c ls ≡ None → wrong_after c (ls ++ ms) ≡ wrong_after (checked_after c ls) ms
wrong_after-append c [] ms none = refl
wrong_after-append c (line ∷ ls) ms none = by_line (is_right c line) none (wrong_after-append (after_line c line (is_sum line)) ls ms)
  where
    next : Checked
    next = after_line c line (is_sum line)

    by_line : (b : Bool) → (if b then wrong_after next ls else Some (c.right, next_line c.line)) ≡ None → (wrong_after next ls ≡ None → wrong_after next (ls ++ ms) ≡ wrong_after (checked_after next ls) ms)
        → (if b then wrong_after next (ls ++ ms) else Some (c.right, next_line c.line)) ≡ wrong_after (checked_after next ls) ms
    by_line true is more = more is
    by_line false is more = absurd (none-some (c.right, next_line c.line) (sym is))

pub checked_after-append : (c : Checked) (ls ms : List (List ℕ)) → checked_after c (ls ++ ms) ≡ checked_after (checked_after c ls) ms
checked_after-append c [] ms = refl
checked_after-append c (line ∷ ls) ms = checked_after-append (after_line c line (is_sum line)) ls ms

pub hash_after : (c : Checked) (ls : List (List ℕ)) → (checked_after c ls).hash ≡ write c.hash (concat ls)
hash_after c [] = sym (write_nil c.hash)
hash_after c (line ∷ ls) = hash_after (after_line c line (is_sum line)) ls ∙ sym (write_append c.hash line (concat ls))

-- the hash after whole lines
hash_after_lines : (c : Checked) (front : List ℕ) → (checked_after c (ended_lines (front ++ 10 ∷ []))).hash ≡ write c.hash (front ++ 10 ∷ [])
hash_after_lines c front = hash_after c (ended_lines (front ++ 10 ∷ [])) ∙ ap (write c.hash) (concat_lines front)

-- ---- lines that are no checksums

abbrev no_sums : List (List ℕ) → Bool
no_sums ls = list_all (λ line. not (is_sum line)) ls

and_both : (a b : Bool) → (a && b) ≡ true → (a ≡ true) × (b ≡ true)
and_both a b is = grind arith

not_true : (b : Bool) → not b ≡ true → b ≡ false
not_true b is = grind arith

right_without_sums : (c : Checked) (ls : List (List ℕ)) → no_sums ls ≡ true → wrong_after c ls ≡ None
right_without_sums c [] none = refl
right_without_sums c (line ∷ ls) none =
    let both = and_both (not (is_sum line)) (no_sums ls) none in
    rw (not_true (is_sum line) both.0) (right_without_sums (after_line c line false) ls both.1)

pub kept_byte-other : (start : Bool) (byte : ℕ) → IsOther byte → IsOther (kept_byte start byte)
kept_byte-other start byte is = grind arith

kept_byte-unmarked : (byte : ℕ) → (kept_byte true byte == 35) ≡ false
kept_byte-unmarked byte = grind arith

kept_byte-later : (byte : ℕ) → kept_byte false byte ≡ byte
kept_byte-later byte = refl

pub kept-unfinished : (start : Bool) (bytes : List ℕ) → IsUnfinished bytes → IsUnfinished (kept start bytes)
kept-unfinished start [] is = All-nil IsOther
kept-unfinished start (byte ∷ more) is =
    All-cons IsOther (kept_byte start byte) (kept (byte == 10) more) (kept_byte-other start byte (All-head IsOther byte more is)) (kept-unfinished (byte == 10) more (All-tail IsOther byte more is))

-- the beginning of a line that is no checksum, and more of that line
beginning : (line bytes : List ℕ) → is_sum line ≡ false → is_sum (line ++ kept (length line == 0) bytes) ≡ false
beginning [] [] is = refl
beginning [] (byte ∷ more) is = kept_byte-unmarked byte
beginning (byte ∷ line) bytes is = is

pub kept_lf : (start : Bool) → kept_byte start 10 ≡ 10
kept_lf true = refl
kept_lf false = refl

beginning_lf : (line : List ℕ) → is_sum line ≡ false → is_sum (line ++ 10 ∷ []) ≡ false
beginning_lf [] is = refl
beginning_lf (byte ∷ line) is = is

beginning_byte : (line : List ℕ) (byte : ℕ) → is_sum line ≡ false → is_sum (line ++ kept_byte (length line == 0) byte ∷ []) ≡ false
beginning_byte [] byte is = kept_byte-unmarked byte
beginning_byte (first ∷ line) byte is = is

pub length-kept : (start : Bool) (bytes : List ℕ) → length (kept start bytes) ≡ length bytes
length-kept start [] = refl
length-kept start (byte ∷ more) = ap suc (length-kept (byte == 10) more)

-- bytes with an LF at their end, around the last one
pub record Cut (bytes : List ℕ) : Type 0 where
  pub front : List ℕ
  pub rest : List ℕ
  pub split : bytes ≡ front ++ 10 ∷ rest
  pub unfinished : IsUnfinished rest

pub cut : (bytes : List ℕ) → IsUnfinished bytes ⊎ Cut bytes
cut [] = inl (All-nil IsOther)
cut (byte ∷ more) = by_rest (cut more)
  where
    by_byte : (b : Bool) → (byte == 10) ≡ b → IsUnfinished more → IsUnfinished (byte ∷ more) ⊎ Cut (byte ∷ more)
    by_byte true is rest = inr (record { front = []; rest = more; split = ap (λ b. b ∷ more) (eqb-true byte 10 is); unfinished = rest })
    by_byte false is rest = inl (All-cons IsOther byte more is rest)

    by_rest : IsUnfinished more ⊎ Cut more → IsUnfinished (byte ∷ more) ⊎ Cut (byte ∷ more)
    by_rest (inl is) = by_byte (byte == 10) refl is
    by_rest (inr c) = inr (record { front = byte ∷ c.front; rest = c.rest; split = ap (λ l. byte ∷ l) c.split; unfinished = c.unfinished })

-- no line is a checksum, if it begins with bytes of requests
lines_kept : (line front : List ℕ) → IsUnfinished line → is_sum line ≡ false → no_sums (ended_lines (line ++ kept (length line == 0) (front ++ 10 ∷ []))) ≡ true
lines_kept line [] is none =
    ap (λ k. no_sums (ended_lines (line ++ k ∷ []))) (kept_lf (length line == 0)) ∙ ap no_sums (ended_lines-cut line [] is) ∙ rw (beginning_lf line none) refl
lines_kept line (byte ∷ front) is none = by_byte (byte == 10) refl (λ l unfinished first. lines_kept l front unfinished first)
  where
    start : Bool
    start = length line == 0

    by_byte : (b : Bool) → (byte == 10) ≡ b → ((l : List ℕ) → IsUnfinished l → is_sum l ≡ false → no_sums (ended_lines (l ++ kept (length l == 0) (front ++ 10 ∷ []))) ≡ true)
        → no_sums (ended_lines (line ++ kept_byte start byte ∷ kept b (front ++ 10 ∷ []))) ≡ true
    by_byte true at more =
        let lf : kept_byte start byte ≡ 10 = ap (kept_byte start) (eqb-true byte 10 at) ∙ kept_lf start in
        ap (λ k. no_sums (ended_lines (line ++ k ∷ kept true (front ++ 10 ∷ [])))) lf
        ∙ ap no_sums (ended_lines-cut line (kept true (front ++ 10 ∷ [])) is)
        ∙ rw (beginning_lf line none) (more [] (All-nil IsOther) refl)
    by_byte false at more =
        let longer = line ++ kept_byte start byte ∷ [] in
        let later : (length longer == 0) ≡ false = ne_eqb (length longer) 0 (λ e. absurd (omega (arith, e, length-append line (kept_byte start byte ∷ [])))) in
        ap (λ l. no_sums (ended_lines l)) (sym (append_assoc line (kept_byte start byte ∷ []) (kept false (front ++ 10 ∷ []))))
        ∙ ap (λ b. no_sums (ended_lines (longer ++ kept b (front ++ 10 ∷ [])))) (sym later)
        ∙ more longer (All-append IsOther line (kept_byte start byte ∷ []) is (All-cons IsOther (kept_byte start byte) [] (kept_byte-other start byte at) (All-nil IsOther))) (beginning_byte line byte none)

-- ---- checksum lines

abbrev digits : List ℕ
digits = codes "0123456789abcdef"

digits_other : All IsOther digits
digits_other =
    All-from_recursion IsOther digits (refl, (refl, (refl, (refl, (refl, (refl, (refl, (refl, (refl, (refl, (refl, (refl, (refl, (refl, (refl, (refl, tt))))))))))))))))

digit_other : (n : ℕ) → IsOther (digit n)
digit_other n = All-get_or IsOther digits (n % 16) 0 (omega arith) digits_other

-- a checksum line without its end
abbrev pub sum_front : ℕ → List ℕ
sum_front n = 35 ∷ digit (n / 2 ^ 28) ∷ digit (n / 2 ^ 24) ∷ digit (n / 2 ^ 20) ∷ digit (n / 2 ^ 16) ∷ digit (n / 2 ^ 12) ∷ digit (n / 2 ^ 8) ∷ digit (n / 2 ^ 4) ∷ digit n ∷ []

pub sum_front_unfinished : (n : ℕ) → IsUnfinished (sum_front n)
sum_front_unfinished n = All-from_recursion IsOther (sum_front n) (refl, (digit_other (n / 2 ^ 28), (digit_other (n / 2 ^ 24), (digit_other (n / 2 ^ 20), (digit_other (n / 2 ^ 16), (digit_other (n / 2 ^ 12), (digit_other (n / 2 ^ 8), (digit_other (n / 2 ^ 4), (digit_other n, tt)))))))))

-- the first line after a checksum line
lines_after_sum : (hash : DefaultHasher) (more : List ℕ) → ended_lines (sum_after hash ++ more) ≡ sum_after hash ∷ ended_lines more
lines_after_sum hash more = ended_lines-cut (sum_front (finish hash)) more (sum_front_unfinished (finish hash))

same_bytes : (a b : List ℕ) → a ≡ b → bytes_eq a b ≡ true
same_bytes a b is = grind (arith, bytes_eq-Decides)

-- a right checksum line, and more
sum_is_right : (c : Checked) (hash : DefaultHasher) (more : List ℕ) → c.hash ≡ hash → wrong_after c (ended_lines (sum_after hash ++ more)) ≡ wrong_after (after_line c (sum_after hash) true) (ended_lines more)
sum_is_right c hash more is =
    ap (wrong_after c) (lines_after_sum hash more)
    ∙ ap (λ b. if b then wrong_after (after_line c (sum_after hash) true) (ended_lines more) else Some (c.right, next_line c.line)) (same_bytes (sum_after hash) (sum_after c.hash) (ap sum_after (sym is)))

-- ---- appends

pub kept_end : (start : Bool) (front : List ℕ) → kept start (front ++ 10 ∷ []) ≡ kept start front ++ 10 ∷ []
kept_end start [] = ap (λ b. b ∷ []) (kept_lf start)
kept_end start (byte ∷ front) = ap (λ l. kept_byte start byte ∷ l) (kept_end (byte == 10) front)

pub unfinished_text : (hash : DefaultHasher) (start : Bool) (bytes : List ℕ) → IsUnfinished bytes → summed hash start bytes ≡ kept start bytes
unfinished_text hash start bytes is = rw (lines_len-unfinished bytes is) refl

pub unfinished_more : (before : ℕ) (bytes : List ℕ) → IsUnfinished bytes → unfinished_after before bytes ≡ before + length bytes
unfinished_more before bytes is = rw (lines_len-unfinished bytes is) refl

pub whole_text : (hash : DefaultHasher) (start : Bool) (front rest : List ℕ) → IsUnfinished rest
    → summed hash start (front ++ 10 ∷ rest) ≡ kept start (front ++ 10 ∷ []) ++ (sum_after (write hash (kept start (front ++ 10 ∷ []))) ++ kept true rest)
whole_text hash start front rest is =
    let bytes = front ++ 10 ∷ rest in
    let n = lines_len bytes in
    let len : n ≡ length (front ++ 10 ∷ []) = lines_len-cut front rest is ∙ sym (length-append front (10 ∷ [])) in
    let parts : bytes ≡ (front ++ 10 ∷ []) ++ rest = sym (append_assoc front (10 ∷ []) rest) in
    let first : take n bytes ≡ front ++ 10 ∷ [] = ap (λ k. take k bytes) len ∙ ap (take (length (front ++ 10 ∷ []))) parts ∙ take-append_seam (front ++ 10 ∷ []) rest in
    let second : drop n bytes ≡ rest = ap (λ k. drop k bytes) len ∙ ap (drop (length (front ++ 10 ∷ []))) parts ∙ drop-append_seam (front ++ 10 ∷ []) rest in
    ap (λ l. summed_lines hash start l (drop n bytes)) first ∙ ap (summed_lines hash start (front ++ 10 ∷ [])) second
    ∙ summed_lines-some hash start (front ++ 10 ∷ []) rest (omega (arith, length-append front (10 ∷ [])))

pub whole_more : (before : ℕ) (front rest : List ℕ) → IsUnfinished rest → unfinished_after before (front ++ 10 ∷ rest) ≡ length rest
whole_more before front rest is = after (lines_len (front ++ 10 ∷ rest)) (length (front ++ 10 ∷ rest)) (length front) (length rest) (lines_len-cut front rest is) (length-append front (10 ∷ rest))
  where
    after : (n len front rest : ℕ) → n ≡ front + 1 → len ≡ front + suc rest → (if n == 0 then before + len else len - n) ≡ rest
    after n len front rest is whole = grind arith

-- ---- a log as it was written

-- what is known after appends: the lines are right, and what is left is a line that is no checksum
abbrev Right : Checked → List ℕ → List (List ℕ) → Type 0
Right c line pieces = wrong_after c (ended_lines (line ++ summed_each (write c.hash line) (length line) pieces)) ≡ None

abbrev AllRight : List (List ℕ) → Type 0
AllRight pieces = (c : Checked) (line : List ℕ) → IsUnfinished line → is_sum line ≡ false → Right c line pieces

-- an append without LF
part : (c : Checked) (line bytes : List ℕ) (more : List (List ℕ)) → IsUnfinished line → is_sum line ≡ false → IsUnfinished bytes → AllRight more → Right c line (bytes ∷ more)
part c line bytes more is none unfinished rest =
    let start = length line == 0 in
    let hash = write c.hash line in
    let text = kept start bytes in
    let longer = line ++ text in
    let len : unfinished_after (length line) bytes ≡ length longer = unfinished_more (length line) bytes unfinished ∙ ap (λ n. length line + n) (sym (length-kept start bytes)) ∙ sym (length-append line text) in
    ap (λ t. wrong_after c (ended_lines (line ++ (t ++ summed_each (write hash t) (unfinished_after (length line) bytes) more)))) (unfinished_text hash start bytes unfinished)
    ∙ ap (λ n. wrong_after c (ended_lines (line ++ (text ++ summed_each (write hash text) n more)))) len
    ∙ ap (λ h. wrong_after c (ended_lines (line ++ (text ++ summed_each h (length longer) more)))) (sym (write_append c.hash line text))
    ∙ ap (λ l. wrong_after c (ended_lines l)) (sym (append_assoc line text (summed_each (write c.hash longer) (length longer) more)))
    ∙ rest c longer (All-append IsOther line text is (kept-unfinished start bytes unfinished)) (beginning line bytes none)

-- an append with an LF
whole : (c : Checked) (line front rest : List ℕ) (more : List (List ℕ)) → IsUnfinished line → is_sum line ≡ false → IsUnfinished rest → AllRight more → Right c line ((front ++ 10 ∷ rest) ∷ more)
whole c line front rest more is none unfinished later =
    let start = length line == 0 in
    let hash = write c.hash line in
    let before = kept start front in
    let first = kept start (front ++ 10 ∷ []) in
    let sum = sum_after (write hash first) in
    let left = kept true rest in
    let text = first ++ (sum ++ left) in
    let lines = line ++ before in
    let ls = ended_lines (lines ++ 10 ∷ []) in
    let d = checked_after c ls in
    let e = after_line d sum true in
    let ends : line ++ first ≡ lines ++ 10 ∷ [] = ap (λ l. line ++ l) (kept_end start front) ∙ sym (append_assoc line before (10 ∷ [])) in
    let summed_at : d.hash ≡ write hash first = hash_after_lines c lines ∙ ap (write c.hash) (sym ends) ∙ write_append c.hash line first in
    let at : write hash text ≡ write e.hash left = write_append hash first (sum ++ left) ∙ write_append (write hash first) sum left ∙ ap (λ h. write (write h sum) left) (sym summed_at) in
    let tail = summed_each (write e.hash left) (length left) more in
    let no_wrong : wrong_after c ls ≡ None = right_without_sums c ls (ap (λ l. no_sums (ended_lines l)) (sym ends) ∙ lines_kept line front is none) in
    ap (λ t. wrong_after c (ended_lines (line ++ (t ++ summed_each (write hash t) (unfinished_after (length line) (front ++ 10 ∷ rest)) more)))) (whole_text hash start front rest unfinished)
    ∙ ap (λ n. wrong_after c (ended_lines (line ++ (text ++ summed_each (write hash text) n more)))) (whole_more (length line) front rest unfinished ∙ sym (length-kept true rest))
    ∙ ap (λ h. wrong_after c (ended_lines (line ++ (text ++ summed_each h (length left) more)))) at
    ∙ ap (λ l. wrong_after c (ended_lines l)) (joined line first sum left tail)
    ∙ ap (λ l. wrong_after c (ended_lines (l ++ (sum ++ (left ++ tail))))) ends
    ∙ ap (λ l. wrong_after c (ended_lines l)) (append_assoc lines (10 ∷ []) (sum ++ (left ++ tail)))
    ∙ ap (wrong_after c) (ended_lines-append lines (sum ++ (left ++ tail)))
    ∙ wrong_after-append c ls (ended_lines (sum ++ (left ++ tail))) no_wrong
    ∙ sum_is_right d (write hash first) (left ++ tail) summed_at
    ∙ later e left (kept-unfinished true rest unfinished) (beginning [] rest refl)
  where
    joined : (a b d e f : List ℕ) → a ++ ((b ++ (d ++ e)) ++ f) ≡ (a ++ b) ++ (d ++ (e ++ f))
    joined a b d e f = ap (λ l. a ++ l) (append_assoc b (d ++ e) f ∙ ap (λ l. b ++ l) (append_assoc d e f)) ∙ sym (append_assoc a b (d ++ (e ++ f)))

all_right : (pieces : List (List ℕ)) → AllRight pieces
all_right [] c line is none = ap (λ l. wrong_after c (ended_lines l)) (append-nil line) ∙ ap (wrong_after c) (ended_lines-unfinished line is)
all_right (bytes ∷ more) c line is none = by_cut (cut bytes) (all_right more)
  where
    by_cut : IsUnfinished bytes ⊎ Cut bytes → AllRight more → Right c line (bytes ∷ more)
    by_cut (inl unfinished) rest = part c line bytes more is none unfinished rest
    by_cut (inr found) rest = subst (λ b. Right c line (b ∷ more)) (sym found.split) (whole c line found.front found.rest more is none found.unfinished rest)

-- what was appended from the beginning has no wrong checksum
pub written_is_right : (pieces : List (List ℕ)) → first_wrong (summed_each initial 0 pieces) ≡ None
written_is_right pieces =
    ap (λ h. first_wrong (summed_each h 0 pieces)) (sym (write_nil initial)) ∙ all_right pieces unchecked [] (All-nil IsOther) refl

-- ---- a wrong checksum

found_later : (c : Checked) (ls : List (List ℕ)) (line : List ℕ) (ms : List (List ℕ)) → is_right (checked_after c ls) line ≡ false → wrong_after c (ls ++ line ∷ ms) ≢ None
found_later c [] line ms wrong = λ none. absurd (none-some (c.right, next_line c.line) (sym (ap (λ b. if b then wrong_after (after_line c line (is_sum line)) ms else Some (c.right, next_line c.line)) (sym wrong) ∙ none)))
found_later c (first ∷ ls) line ms wrong = by_line (is_right c first) (found_later (after_line c first (is_sum first)) ls line ms wrong)
  where
    next : Checked
    next = after_line c first (is_sum first)

    by_line : (b : Bool) → wrong_after next (ls ++ line ∷ ms) ≢ None → (if b then wrong_after next (ls ++ line ∷ ms) else Some (c.right, next_line c.line)) ≢ None
    by_line true later = later
    by_line false later = λ none. absurd (none-some (c.right, next_line c.line) (sym none))

-- a line that begins with `#` and is not the checksum of what is before it is found
pub wrong_is_found : (front line more : List ℕ) → IsUnfinished line → is_sum line ≡ true → line ++ 10 ∷ [] ≢ sum_line (front ++ 10 ∷ []) → first_wrong ((front ++ 10 ∷ []) ++ (line ++ 10 ∷ more)) ≢ None
wrong_is_found front line more is sum other =
    let ls = ended_lines (front ++ 10 ∷ []) in
    let d = checked_after unchecked ls in
    let split : ended_lines ((front ++ 10 ∷ []) ++ (line ++ 10 ∷ more)) ≡ ls ++ (line ++ 10 ∷ []) ∷ ended_lines more =
    ap ended_lines (append_assoc front (10 ∷ []) (line ++ 10 ∷ more)) ∙ ended_lines-append front (line ++ 10 ∷ more) ∙ ap (λ l. ls ++ l) (ended_lines-cut line more is) in
    let begins : is_sum (line ++ 10 ∷ []) ≡ true = longer_sum line sum in
    let hash : d.hash ≡ write initial (front ++ 10 ∷ []) = hash_after_lines unchecked front in
    let wrong : is_right d (line ++ 10 ∷ []) ≡ false =
    ap (λ b. if b then bytes_eq (line ++ 10 ∷ []) (sum_after d.hash) else true) begins ∙ other_bytes (line ++ 10 ∷ []) (sum_after d.hash) (λ e. other (e ∙ ap sum_after hash)) in
    λ none. found_later unchecked ls (line ++ 10 ∷ []) (ended_lines more) wrong (sym (ap (wrong_after unchecked) split) ∙ none)
  where
    longer_sum : (l : List ℕ) → is_sum l ≡ true → is_sum (l ++ 10 ∷ []) ≡ true
    longer_sum [] e = absurd (false≢true e)
    longer_sum (byte ∷ l) e = e

    other_bytes : (a b : List ℕ) → a ≢ b → bytes_eq a b ≡ false
    other_bytes a b differ = false_from_ne_true (bytes_eq a b) (λ e. differ (equal a b e))
      where
        equal : (a b : List ℕ) → bytes_eq a b ≡ true → a ≡ b
        equal a b e = grind (arith, bytes_eq-Decides)
