-- Style sheets: comments over runs of bytes, and URLs one after another.
use Rattle.html_links.proofs.Prelude.{◌≡◌, ℕ, zero, suc, ◌<◌, ◌≤◌, ◌==◌, Bool, true, false, not, cond, List, [], ◌∷◌, Option, None, Some, length, refl, ap, ◌∙◌, arith, front, following, Stopped}
use Rattle.html_links.specs.declared.style.Run.{Run}
use Rattle.html_links.specs.declared.style.Run.TheVariants as run
use Rattle.html_links.specs.declared.escapes.State.{State}
use Rattle.html_links.specs.declared.escapes.State.TheVariants as state
use Rattle.html_links.specs.Escapes.{state_after}
use Rattle.html_links.specs.Refresh.{after_letter, and_then, is_quote}
use Rattle.html_links.specs.Styles.{is_wide_space, Found, or_found, continues, after_run, before, run_in, closed, quoted, after_closed, after_quoted, some_url, plain, in_brackets, after_url, after_import, opened, past_comment, found_after, found_at, after_name, passed, pass, founds_after, founds_within, founds_of}
use Rattle.html_links.proofs.Jumps.{shorter}
use Rattle.html_links.proofs.Sources.{front_all}

-- a comment up to a `*`

pub to_star : (bytes : List ℕ) → past_comment false bytes ≡ past_comment false (following (λ c. not (c == 42)) bytes)
to_star [] = refl
to_star (c ∷ rest) = grind (arith, to_star rest)

pub star_slash : (bytes starred more : List ℕ) → 42 ∷ starred ≡ following (λ c. not (c == 42)) bytes → starred ≡ 47 ∷ more → past_comment false bytes ≡ more
star_slash bytes starred more cut is = grind (arith, to_star)

pub star_other : (bytes starred : List ℕ) → 42 ∷ starred ≡ following (λ c. not (c == 42)) bytes → Stopped (λ c. c == 47) starred → past_comment false bytes ≡ past_comment false starred
star_other bytes starred cut other = grind (arith, to_star)

-- if the byte is not there, all bytes are in front
pub no_less : (bytes : List ℕ) → following (λ c. not (c == 60)) bytes ≡ [] → front (λ c. not (c == 60)) bytes ≡ bytes
no_less bytes none = front_all (λ c. not (c == 60)) bytes none

-- there are fewer bytes after a URL

two_less : (a b : ℕ) (bytes n : List ℕ) → and_then (after_letter a bytes) (after_letter b) ≡ Some n → length n < length bytes
two_less a b bytes n e = grind arith

more_less : (a : ℕ) (next : List ℕ → Option (List ℕ)) → ((m n : List ℕ) → next m ≡ Some n → length n < length m) → (bytes n : List ℕ) → and_then (after_letter a bytes) next ≡ Some n → length n < length bytes
more_less a next less bytes n e = grind arith

url_less : (bytes n : List ℕ) → after_url bytes ≡ Some n → length n < length bytes
url_less = more_less 117 _ (more_less 114 _ (two_less 108 40))

import_less : (bytes n : List ℕ) → after_import bytes ≡ Some n → length n < length bytes
import_less = more_less 64 _ (more_less 105 _ (more_less 109 _ (more_less 112 _ (more_less 111 _ (two_less 114 116)))))

run_at : (is : Bool) (more rest : List ℕ) (c : ℕ) → length more ≤ length rest → length (cond is more (c ∷ rest)) ≤ length (c ∷ rest)
run_at is more rest c less = grind arith

pub run_less : (kind : Run) (here : State) (bytes : List ℕ) → length (after_run kind here bytes) ≤ length bytes
run_less kind here [] = omega arith
run_less kind here (c ∷ rest) = run_at (continues kind here c) (after_run kind (state_after here c) rest) rest c (run_less kind (state_after here c) rest)

closed_less : (quote : ℕ) (bytes left : List ℕ) (f : Found) → closed quote bytes left ≡ Some f → length f.rest ≤ length left
closed_less quote bytes [] f e = grind arith
closed_less quote bytes (c ∷ left) f e = grind arith

quote_at : (b : Bool) (o : Option Found) (n : ℕ) (f : Found) → ((f : Found) → o ≡ Some f → length f.rest ≤ n) → cond b o None ≡ Some f → length f.rest ≤ n
quote_at true o n f less e = less f e
quote_at false o n f less e = absurd (cc)

quoted_less : (bytes : List ℕ) (f : Found) → quoted bytes ≡ Some f → length f.rest < length bytes
quoted_less [] f e = absurd (cc)
quoted_less (c ∷ rest) f e =
    let left = after_run (run_in c) state.Plain rest in
    let le : length f.rest ≤ length left = quote_at (is_quote c) (closed c rest left) (length left) f (closed_less c rest left) e in
    omega (arith, le, run_less (run_in c) state.Plain rest)

text_at : (b : Bool) (x n : List ℕ) → cond b (Some x) None ≡ Some n → length n ≤ length x
text_at b x n e = grind arith

closing_less : (quote : ℕ) (left : List ℕ) → length (after_closed quote left) ≤ length left
closing_less quote [] = omega arith
closing_less quote (c ∷ left) = grind arith

text_less : (bytes n : List ℕ) → after_quoted bytes ≡ Some n → length n < length bytes
text_less [] n e = absurd (cc)
text_less (c ∷ rest) n e =
    let left = after_run (run_in c) state.Plain rest in
    let le : length n ≤ length (after_closed c left) = text_at (is_quote c) (after_closed c left) n e in
    omega (arith, le, closing_less c left, run_less (run_in c) state.Plain rest)

name_less : (c : ℕ) (rest : List ℕ) → length (after_name c rest) ≤ length rest
name_less c rest = grind (arith, run_less run.Word (state_after state.Plain c) rest)

some_less : (url : List ℕ) (left : ℕ) (bytes : List ℕ) (f : Found) → some_url url left bytes ≡ Some f → length f.rest ≤ length bytes
some_less url left bytes f e = grind arith

or_less : (a b : Option Found) (n : ℕ) → ((f : Found) → a ≡ Some f → length f.rest ≤ n) → ((f : Found) → b ≡ Some f → length f.rest ≤ n) → (f : Found) → or_found a b ≡ Some f → length f.rest ≤ n
or_less a b n less other f e = grind arith

brackets_less : (bytes : List ℕ) (f : Found) → in_brackets bytes ≡ Some f → length f.rest ≤ length bytes
brackets_less bytes f e =
    let inner = following is_wide_space bytes in
    let le : length f.rest ≤ length inner = or_less (quoted inner) (plain inner) (length inner) (λ f e. omega (arith, quoted_less inner f e))
    (λ f e. omega (arith, some_less (before inner (after_run run.Plain state.Plain inner)) (length inner) (after_run run.Plain state.Plain inner) f e, run_less run.Plain state.Plain inner)) f e in
    omega (arith, le, shorter is_wide_space bytes)

after_less : (url : Option (List ℕ)) (imports : Bool) (bytes : List ℕ) → ((n : List ℕ) → url ≡ Some n → length n < length bytes) → (f : Found) → found_after url imports bytes ≡ Some f → length f.rest < length bytes
after_less (Some inner) imports bytes less f e = omega (arith, less inner refl, brackets_less inner f e)
after_less None true bytes less f e = quoted_less bytes f e
after_less None false bytes less f e = absurd (cc)

pub found_less : (imports : Bool) (bytes : List ℕ) (f : Found) → found_at imports bytes ≡ Some f → length f.rest < length bytes
found_less imports bytes f e = after_less (after_url bytes) imports bytes (url_less bytes) f e

-- and after bytes that name no URL

comment_less : (starred : Bool) (bytes : List ℕ) → length (past_comment starred bytes) ≤ length bytes
comment_less starred [] = omega arith
comment_less starred (c ∷ rest) = grind (arith, comment_less (c == 42) rest)

passed_less : (imports : Bool) (c : ℕ) (rest : List ℕ) (comment text word : Option (List ℕ)) → ((n : List ℕ) → comment ≡ Some n → length n < length (c ∷ rest)) →
    ((n : List ℕ) → text ≡ Some n → length n < length (c ∷ rest)) → ((n : List ℕ) → word ≡ Some n → length n < length (c ∷ rest)) →
    length (passed imports (c ∷ rest) comment text word).0 < length (c ∷ rest)
passed_less imports c rest (Some n) text word p q r = omega (arith, comment_less false n, p n refl)
passed_less imports c rest None (Some n) word p q r = q n refl
passed_less imports c rest None None (Some n) p q r = r n refl
passed_less imports c rest None None None p q r = omega (arith, name_less c rest)

byte_less : (imports : Bool) (c : ℕ) (rest : List ℕ) → length (pass imports (c ∷ rest)).0 < length (c ∷ rest)
byte_less imports c rest =
    passed_less imports c rest (opened (c ∷ rest)) (after_quoted (c ∷ rest)) (after_import (c ∷ rest)) (two_less 47 42 (c ∷ rest)) (text_less (c ∷ rest)) (import_less (c ∷ rest))

pub pass_less : (imports more : Bool) (bytes rest left : List ℕ) (c : ℕ) → bytes ≡ c ∷ rest → (left, more) ≡ pass imports bytes → length left < length bytes
pass_less imports more bytes rest left c is passes =
    let same : length left ≡ length (pass imports (c ∷ rest)).0 = ap (λ (x : List ℕ × Bool). length x.0) (passes ∙ ap (pass imports) is) in
    let all : length bytes ≡ length (c ∷ rest) = ap length is in
    omega (arith, same, all, byte_less imports c rest)

-- allowing more bytes gives the same URLs

after_same : (o : Option Found) (left : List ℕ × Bool) (n : ℕ) (on other : Bool → List ℕ → List Found) → ((f : Found) → o ≡ Some f → length f.rest < n) → length left.0 < n →
    ((imports : Bool) (bytes : List ℕ) → length bytes < n → on imports bytes ≡ other imports bytes) → founds_after o left on ≡ founds_after o left other
after_same o left n on other less passes same = grind arith

within : (n m : ℕ) (imports : Bool) (bytes : List ℕ) → length bytes ≤ n → length bytes ≤ m → founds_within n imports bytes ≡ founds_within m imports bytes
within zero zero imports bytes a b = refl
within zero (suc m) imports [] a b = refl
within zero (suc m) imports (c ∷ rest) a b = absurd (omega (arith, a))
within (suc n) zero imports [] a b = refl
within (suc n) zero imports (c ∷ rest) a b = absurd (omega (arith, b))
within (suc n) (suc m) imports [] a b = refl
within (suc n) (suc m) imports (c ∷ rest) a b =
    after_same (found_at imports (c ∷ rest)) (pass imports (c ∷ rest)) (length (c ∷ rest)) (founds_within n) (founds_within m) (found_less imports (c ∷ rest)) (byte_less imports c rest)
    (λ imports bytes less. within n m imports bytes (omega (arith, less, a)) (omega (arith, less, b)))

pub next_found : (imports : Bool) (bytes rest : List ℕ) (c : ℕ) (f : Found) → bytes ≡ c ∷ rest → Some f ≡ found_at imports bytes → founds_of imports bytes ≡ f ∷ founds_of false f.rest
next_found imports bytes rest c f is found = grind (arith, after_same, found_less, byte_less, within)

pub none_found : (imports more : Bool) (bytes rest left : List ℕ) (c : ℕ) → bytes ≡ c ∷ rest → None ≡ found_at imports bytes → (left, more) ≡ pass imports bytes → founds_of imports bytes ≡ founds_of more left
none_found imports more bytes rest left c is found passes = grind (arith, after_same, found_less, byte_less, within)
