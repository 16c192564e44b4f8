-- Checksums in a log: a line after each append that ends a line, over all bytes before it.
use Rattle.std.specs.Prelude.{ℕ, suc, ◌+◌, ◌/◌, ◌%◌, ◌^◌, ◌==◌, Bool, true, false, ◌&&◌, ◌||◌, List, [], ◌∷◌, ◌++◌, codes, ◌-◌, drop, if◌then◌else◌, length, min, nat_lt, Option, Some, None, slice_index, take, bytes_eq}
use Rattle.std.specs.Hash.DefaultHasher.{finish, initial, write}
use Rattle.std.specs.declared.hash.DefaultHasher.{DefaultHasher}

-- the hexadecimal digit of the low four bits
abbrev pub digit : ℕ → ℕ
digit n = slice_index (codes "0123456789abcdef") (n % 16)

-- `#`, the digits of the low 32 bits, and LF
abbrev pub sum_text : ℕ → List ℕ
sum_text n = 35 ∷ digit (n / 2 ^ 28) ∷ digit (n / 2 ^ 24) ∷ digit (n / 2 ^ 20) ∷ digit (n / 2 ^ 16) ∷ digit (n / 2 ^ 12) ∷ digit (n / 2 ^ 8) ∷ digit (n / 2 ^ 4) ∷ digit n ∷ 10 ∷ []

-- the checksum line after the bytes that led to this state of the hash
abbrev pub sum_after : DefaultHasher → List ℕ
sum_after hash = sum_text (finish hash)

-- the checksum line after these bytes of a log, which are all from its beginning
abbrev pub sum_line : List ℕ → List ℕ
sum_line front = sum_after (write initial front)

-- a line is a checksum if and only if it begins with `#`
abbrev pub is_sum : List ℕ → Bool
is_sum [] = false
is_sum (first ∷ rest) = first == 35

-- a byte of a request, at the start of a line or later: no request begins with `#` in a log with checksums
abbrev pub kept_byte : Bool → ℕ → ℕ
kept_byte start byte = if start && (byte == 35) then 32 else byte

-- the bytes of requests, of which the first is at the start of a line or not
abbrev pub kept : Bool → List ℕ → List ℕ
kept start [] = []
kept start (byte ∷ more) = kept_byte start byte ∷ kept (byte == 10) more

-- how many bytes are in whole lines
abbrev pub lines_len : List ℕ → ℕ
lines_len [] = 0
lines_len (byte ∷ more) = if nat_lt 0 (lines_len more) || (byte == 10) then suc (lines_len more) else 0

-- bytes of requests as they are appended after bytes that led to this state: whole lines, their checksum, and what is left
abbrev pub summed_lines : DefaultHasher → Bool → List ℕ → List ℕ → List ℕ
summed_lines hash start [] rest = kept start rest
summed_lines hash start lines rest = kept start lines ++ (sum_after (write hash (kept start lines)) ++ kept true rest)

abbrev pub summed : DefaultHasher → Bool → List ℕ → List ℕ
summed hash start bytes = summed_lines hash start (take (lines_len bytes) bytes) (drop (lines_len bytes) bytes)

-- how many bytes of an unfinished line there are after these, if there were this many before
abbrev pub unfinished_after : ℕ → List ℕ → ℕ
unfinished_after before bytes = if lines_len bytes == 0 then before + length bytes else length bytes - lines_len bytes

-- bytes of requests as they are appended one after another, from this state, and after this many bytes of an unfinished line
abbrev pub summed_each : DefaultHasher → ℕ → List (List ℕ) → List ℕ
summed_each hash unfinished [] = []
summed_each hash unfinished (bytes ∷ more) =
    let text = summed hash (unfinished == 0) bytes in text ++ summed_each (write hash text) (unfinished_after unfinished bytes) more

-- lines, each with its LF; bytes after the last LF are left out
abbrev pub with_first : ℕ → List (List ℕ) → List (List ℕ)
with_first byte [] = []
with_first byte (line ∷ more) = (byte ∷ line) ∷ more

abbrev pub ended_lines : List ℕ → List (List ℕ)
ended_lines [] = []
ended_lines (byte ∷ more) = if byte == 10 then (10 ∷ []) ∷ ended_lines more else with_first byte (ended_lines more)

-- what is known after some lines that are right: the state of the hash, the number of lines, and the number of the last checksum
-- (1 if there is none)
pub record Checked : Type 0 where
  pub hash : DefaultHasher
  pub line : ℕ
  pub right : ℕ

abbrev pub unchecked : Checked
unchecked = record { hash = initial; line = 0; right = 1 }

-- numbers of lines go up to the largest that the program counts to
abbrev pub next_line : ℕ → ℕ
next_line line = min (line + 1) (2 ^ 64 - 1)

-- after one more line, which may be a right checksum
abbrev pub after_line : Checked → List ℕ → Bool → Checked
after_line c line sum = record { hash = write c.hash line; line = next_line c.line; right = if sum then next_line c.line else c.right }

-- a line is not wrong
abbrev pub is_right : Checked → List ℕ → Bool
is_right c line = if is_sum line then bytes_eq line (sum_after c.hash) else true

-- the last checksum before the first wrong one and that one, by their lines
abbrev pub wrong_after : Checked → List (List ℕ) → Option (ℕ × ℕ)
wrong_after c [] = None
wrong_after c (line ∷ more) = if is_right c line then wrong_after (after_line c line (is_sum line)) more else Some (c.right, next_line c.line)

-- what is known after lines that are right
abbrev pub checked_after : Checked → List (List ℕ) → Checked
checked_after c [] = c
checked_after c (line ∷ more) = checked_after (after_line c line (is_sum line)) more

-- the first wrong checksum of a log
abbrev pub first_wrong : List ℕ → Option (ℕ × ℕ)
first_wrong bytes = wrong_after unchecked (ended_lines bytes)
