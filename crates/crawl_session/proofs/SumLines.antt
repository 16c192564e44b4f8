-- Checksums of logs: how bytes are cut into lines, kept and hashed.
use Rattle.std.proofs.Common.{◌≡◌, ℕ, zero, suc, ◌+◌, ◌<◌, ◌≤◌, ◌==◌, ◌&&◌, ◌||◌, nat_lt, is_some, Option, Some, None, Bool, true, false, if◌then◌else◌, List, [], ◌∷◌, ◌++◌, length, take, drop, get_or, slice_index, refl, sym, ap, subst, ◌∙◌, arith, append_assoc, eqb-true}
use Rattle.std.proofs.Math.Seq.{split_at}
use Rattle.std.proofs.lemmas.Bool.{false_from_ne_true, false≢true}
use Rattle.std.proofs.lemmas.List.{drop_more, take_more, length-take-le, length-drop, get_or-drop, get_or-take}
use Rattle.std.proofs.lemmas.List.Elements.{All-from_get_or, All-head, All-tail}
use Rattle.std.proofs.lemmas.List.Sums.{fold-append}
use Rattle.std.specs.Hash.DefaultHasher.{write, write_byte}
use Rattle.std.specs.declared.hash.DefaultHasher.{DefaultHasher}
use Rattle.memchr.specs.Find.{FindsNeedle, Nowhere, OccursAt}
use Rattle.crawl_session.specs.Input.{IsUnfinished}
use Rattle.crawl_session.specs.Sums.{ended_lines, is_sum, kept, kept_byte, lines_len, sum_after, summed, summed_lines}

abbrev pub IsOther : ℕ → Type 0
IsOther byte = (byte == 10) ≡ false

-- ---- the hash

-- bytes after other bytes
pub write_append : (hash : DefaultHasher) (front rest : List ℕ) → write hash (front ++ rest) ≡ write (write hash front) rest
unfolding write
write_append hash front rest = fold-append write_byte hash front rest

pub write_nil : (hash : DefaultHasher) → write hash [] ≡ hash
unfolding write
write_nil hash = refl

-- ---- whole lines

pub lines_len-unfinished : (bytes : List ℕ) → IsUnfinished bytes → lines_len bytes ≡ 0
lines_len-unfinished [] is = refl
lines_len-unfinished (byte ∷ more) is = rw (lines_len-unfinished more (All-tail IsOther byte more is), All-head IsOther byte more is) refl

one_more : (b : Bool) (n m : ℕ) → n ≡ m + 1 → (if nat_lt 0 n || b then suc n else 0) ≡ suc m + 1
one_more b n m is = grind arith

pub lines_len-cut : (front rest : List ℕ) → IsUnfinished rest → lines_len (front ++ 10 ∷ rest) ≡ length front + 1
lines_len-cut [] rest is = rw (lines_len-unfinished rest is) refl
lines_len-cut (byte ∷ front) rest is = one_more (byte == 10) (lines_len (front ++ 10 ∷ rest)) (length front) (lines_len-cut front rest is)

-- what follows an index, if no LF is there
pub unfinished_from : (bytes : List ℕ) (n : ℕ) → ((k : ℕ) → n ≤ k → k < length bytes → ¬ ((get_or bytes k 0 == 10) ≡ true)) → IsUnfinished (drop n bytes)
unfinished_from bytes n none = All-from_get_or IsOther (drop n bytes) 0 (λ i below. subst IsOther (sym (get_or-drop n bytes i 0)) (false_from_ne_true (get_or bytes (n + i) 0 == 10) (none (n + i) (omega arith) (omega (arith, below, length-drop n bytes)))))

unfinished_before : (bytes : List ℕ) (n : ℕ) → n ≤ length bytes → ((k : ℕ) → 0 ≤ k → k < n → ¬ ((get_or bytes k 0 == 10) ≡ true)) → IsUnfinished (take n bytes)
unfinished_before bytes n fits none = All-from_get_or IsOther (take n bytes) 0 (λ i below. let inside : i < n = omega (arith, below, length-take-le n bytes fits) in subst IsOther (sym (get_or-take n bytes i 0 inside)) (false_from_ne_true (get_or bytes i 0 == 10) (none i (omega arith) inside)))

-- bytes around an LF
around : (bytes : List ℕ) (at : ℕ) → at < length bytes → (get_or bytes at 0 == 10) ≡ true → bytes ≡ take at bytes ++ 10 ∷ drop (at + 1) bytes
around bytes at below is =
    let next : suc at ≡ at + 1 = omega arith in
    split_at bytes at 0 below ∙ ap (λ n. take at bytes ++ get_or bytes at 0 ∷ drop n bytes) next ∙ ap (λ b. take at bytes ++ b ∷ drop (at + 1) bytes) (eqb-true (get_or bytes at 0) 10 is)

-- the last LF ends the whole lines
pub lines_len-last : (bytes : List ℕ) (at : ℕ) → at < length bytes → (get_or bytes at 0 == 10) ≡ true → ((k : ℕ) → at + 1 ≤ k → k < length bytes → ¬ ((get_or bytes k 0 == 10) ≡ true)) → at + 1 ≡ lines_len bytes
lines_len-last bytes at below is none =
    let cut = lines_len-cut (take at bytes) (drop (at + 1) bytes) (unfinished_from bytes (at + 1) none) in
    let len : length (take at bytes) ≡ at = length-take-le at bytes (omega (arith, below)) in
    sym (ap lines_len (around bytes at below is) ∙ cut ∙ ap (λ n. n + 1) len)

pub lines_len-none : (bytes : List ℕ) → ((k : ℕ) → 0 ≤ k → k < length bytes → ¬ ((get_or bytes k 0 == 10) ≡ true)) → 0 ≡ lines_len bytes
lines_len-none bytes none = sym (lines_len-unfinished bytes (unfinished_from bytes 0 none))

-- ---- lines with their ends

pub ended_lines-unfinished : (bytes : List ℕ) → IsUnfinished bytes → ended_lines bytes ≡ []
ended_lines-unfinished [] is = refl
ended_lines-unfinished (byte ∷ more) is = rw (All-head IsOther byte more is, ended_lines-unfinished more (All-tail IsOther byte more is)) refl

pub ended_lines-cut : (line rest : List ℕ) → IsUnfinished line → ended_lines (line ++ 10 ∷ rest) ≡ (line ++ 10 ∷ []) ∷ ended_lines rest
ended_lines-cut [] rest is = refl
ended_lines-cut (byte ∷ line) rest is = rw (All-head IsOther byte line is, ended_lines-cut line rest (All-tail IsOther byte line is)) refl

pub ended_lines-first : (bytes : List ℕ) (at : ℕ) → at < length bytes → (get_or bytes at 0 == 10) ≡ true → ((k : ℕ) → 0 ≤ k → k < at → ¬ ((get_or bytes k 0 == 10) ≡ true)) → ended_lines bytes ≡ take (at + 1) bytes ∷ ended_lines (drop (at + 1) bytes)
ended_lines-first bytes at below is none =
    let line : take (at + 1) bytes ≡ take at bytes ++ 10 ∷ [] = take_more bytes at 0 below ∙ ap (λ b. take at bytes ++ b ∷ []) (eqb-true (get_or bytes at 0) 10 is) in
    ap ended_lines (around bytes at below is)
    ∙ ended_lines-cut (take at bytes) (drop (at + 1) bytes) (unfinished_before bytes at (omega (arith, below)) none)
    ∙ ap (λ l. l ∷ ended_lines (drop (at + 1) bytes)) (sym line)

pub ended_lines-none : (bytes : List ℕ) → ((k : ℕ) → 0 ≤ k → k < length bytes → ¬ ((get_or bytes k 0 == 10) ≡ true)) → ended_lines bytes ≡ []
ended_lines-none bytes none = ended_lines-unfinished bytes (unfinished_from bytes 0 none)

-- ---- bytes of requests

-- one byte is kept, and then what is left
pub kept_more : (out : List ℕ) (start : Bool) (bytes : List ℕ) (i : ℕ) → i < length bytes → (out ++ kept_byte start (get_or bytes i 0) ∷ []) ++ kept (get_or bytes i 0 == 10) (drop (i + 1) bytes) ≡ out ++ kept start (drop i bytes)
kept_more out start bytes i below = append_assoc out _ _ ∙ ap (λ l. out ++ kept start l) (sym (drop_more bytes i 0 below))

abbrev pub marks : List ℕ
marks = 10 ∷ 35 ∷ []

later : (byte : ℕ) (more : List ℕ) (k : ℕ) → OccursAt more marks k → OccursAt (byte ∷ more) marks (k + 1)
later byte more k occurs = record {
  fits = omega (arith, occurs.fits);
  reads = λ j below. let next : k + 1 + j ≡ suc (k + j) = omega arith in ap (slice_index (byte ∷ more)) next ∙ occurs.reads j below;
}

both : (byte next : ℕ) (more : List ℕ) → byte ≡ 10 → next ≡ 35 → OccursAt (byte ∷ next ∷ more) marks 0
both byte next more first second = record { fits = omega arith; reads = reads }
  where
    reads : (j : ℕ) → j < 2 → slice_index (byte ∷ next ∷ more) (0 + j) ≡ slice_index marks j
    reads zero below = first
    reads (suc zero) below = second
    reads (suc (suc j)) below = absurd (omega (arith, below))

next_line : (byte : ℕ) (more : List ℕ) → Nowhere (OccursAt (byte ∷ more) marks) 0 (length (byte ∷ more) + 1) → ((byte == 10) && is_sum more) ≡ false
next_line byte [] none = by_byte (byte == 10)
  where
    by_byte : (b : Bool) → (b && false) ≡ false
    by_byte true = refl
    by_byte false = refl
next_line byte (next ∷ more) none = by_bytes (byte == 10) refl (next == 35) refl
  where
    by_bytes : (b : Bool) → (byte == 10) ≡ b → (c : Bool) → (next == 35) ≡ c → (b && c) ≡ false
    by_bytes true is true second = absurd (none 0 (omega arith) (omega arith) (both byte next more (eqb-true byte 10 is) (eqb-true next 35 second)))
    by_bytes true is false second = refl
    by_bytes false is c second = refl

-- bytes of which no line begins with `#` are kept as they are
pub kept-unmarked : (start : Bool) (bytes : List ℕ) → (start && is_sum bytes) ≡ false → Nowhere (OccursAt bytes marks) 0 (length bytes + 1) → kept start bytes ≡ bytes
kept-unmarked start [] first none = refl
kept-unmarked start (byte ∷ more) first none =
    ap (λ b. (if b then 32 else byte) ∷ kept (byte == 10) more) first
    ∙ ap (λ l. byte ∷ l) (kept-unmarked (byte == 10) more (next_line byte more none) (λ k low below occurs. none (k + 1) (omega arith) (omega (arith, below)) (later byte more k occurs)))

-- the search for an LF and `#` found nothing
pub kept-unfound : (start : Bool) (bytes : List ℕ) (found : Option ℕ) → FindsNeedle bytes marks 0 found → is_some found ≡ false → (start && is_sum bytes) ≡ false → kept start bytes ≡ bytes
kept-unfound start bytes None nowhere none first = kept-unmarked start bytes first nowhere
kept-unfound start bytes (Some k) there none first = absurd (false≢true (sym none))

-- ---- appends

pub summed_lines-some : (hash : DefaultHasher) (start : Bool) (lines rest : List ℕ) → 0 < length lines → summed_lines hash start lines rest ≡ kept start lines ++ (sum_after (write hash (kept start lines)) ++ kept true rest)
summed_lines-some hash start [] rest some = absurd (omega (arith, some))
summed_lines-some hash start (byte ∷ lines) rest some = refl

-- lines, their checksum and what is left are pushed one after another
pub push_each : (hash : DefaultHasher) (start : Bool) (bytes lines rest : List ℕ) (first second third : DefaultHasher) → lines ≡ take (lines_len bytes) bytes → rest ≡ drop (lines_len bytes) bytes → 0 < length lines
    → first ≡ write hash (kept start lines) → second ≡ write first (sum_after first) → third ≡ write second (kept true rest) → third ≡ write hash (summed hash start bytes)
push_each hash start bytes lines rest first second third front back some one two three =
    let text : summed hash start bytes ≡ kept start lines ++ (sum_after (write hash (kept start lines)) ++ kept true rest) =
    ap (λ l. summed_lines hash start l (drop (lines_len bytes) bytes)) (sym front) ∙ ap (summed_lines hash start lines) (sym back) ∙ summed_lines-some hash start lines rest some in
    three
    ∙ ap (λ h. write h (kept true rest)) (two ∙ ap (λ h. write h (sum_after h)) one)
    ∙ sym (ap (write hash) text ∙ write_append hash (kept start lines) _ ∙ write_append (write hash (kept start lines)) _ (kept true rest))
