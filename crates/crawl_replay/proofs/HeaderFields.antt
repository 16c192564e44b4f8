-- The header on the first line of a script is the one that the format defines.
use Rattle.crawl_replay.proofs.Prelude.{◌≡◌, ℕ, Bool, true, ◌&&◌, List, ◌∷◌, ◌++◌, Option, Some, None, Result, Ok, Err, refl, sym, ap, subst, ◌∙◌, codes, ok_or, option_and_then, arith, if◌then◌else◌, bytes_eq, le-leb, and_parts, bytes_eq-Decides, AreLimits, worker_limit, pending_limit, text_of, at_space, LineError, number_of, is_within, header_of, header_in, with_text, IsLineText, IsHeaderLine, HeaderSays, Header, ScriptError}
use Rattle.crawl_replay.specs.declared.script.error.ScriptError.TheVariants as wrong
use Rattle.crawl_replay.proofs.NumberText.{number_is, number_of_is, at_space-joined, at_space-number, joined-at_space}
use Rattle.crawl_replay.proofs.LineFields.{TextHolds, text_holds, text_of-text, text_of-too_long, text_of-not_text}

-- ---- the limits

pub within_limits : (workers max : ℕ) → is_within workers max ≡ true → AreLimits workers max
within_limits workers max e = grind arith

limits_within : (workers max : ℕ) → AreLimits workers max → is_within workers max ≡ true
limits_within workers max are = rw (le-leb 1 workers are.some_worker, le-leb workers worker_limit are.few_workers, le-leb 1 max are.some_pending, le-leb max pending_limit are.few_pending) refl

-- ---- if a line has a header, its bytes are those of the header

-- a chain of two steps
by_step : {A B : Type 0} (f : A → Option B) (o : Option A) (y : B) → option_and_then f o ≡ Some y → (x : A) × (o ≡ Some x) × (f x ≡ Some y)
by_step f o y e = grind arith

-- a test that is passed
by_check : {A : Type 0} (b : Bool) (o : Option A) (y : A) → (if b then o else None) ≡ Some y → (b ≡ true) × (o ≡ Some y)
by_check b o y e = grind arith

pub header_holds : (line : List ℕ) (header : Header) → header_of line ≡ Some header → IsHeaderLine header.workers header.max line
header_holds line header e =
    let a = by_step _ (at_space line) header e in
    let b = by_step _ (at_space a.0.1) header a.2 in
    let d = by_step _ (at_space b.0.1) header b.2 in
    let words = by_check (bytes_eq a.0.0 (codes "workers") && bytes_eq d.0.0 (codes "max")) _ header d.2 in
    let both = and_parts (bytes_eq a.0.0 (codes "workers")) (bytes_eq d.0.0 (codes "max")) words.0 in
    let workers = by_step _ (number_of 32 b.0.0) header words.1 in
    let max = by_step _ (number_of 64 d.0.1) header workers.2 in
    let within = by_check (is_within workers.0 max.0) _ header max.2 in
    let made : record { workers = workers.0; max = max.0 } ≡ header = cc in
    let cut_a = joined-at_space line a.0 a.1 in
    let cut_b = joined-at_space a.0.1 b.0 b.1 in
    let cut_d = joined-at_space b.0.1 d.0 d.1 in
    let first_is = (bytes_eq-Decides a.0.0 (codes "workers")).0 both.0 in
    let second_is = (bytes_eq-Decides d.0.0 (codes "max")).0 both.1 in
    let written : line ≡ codes "workers" ++ 32 ∷ (b.0.0 ++ 32 ∷ (codes "max" ++ 32 ∷ d.0.1)) =
    cut_a ∙ (λ i. first_is i ++ 32 ∷ cut_b i) ∙ ap (λ r. codes "workers" ++ 32 ∷ (b.0.0 ++ 32 ∷ r)) (cut_d ∙ ap (λ w. w ++ 32 ∷ d.0.1) second_is) in
    let P : Header → Type 0 = λ h. IsHeaderLine h.workers h.max line in
    subst P made (record {
      first = b.0.0;
      second = d.0.1;
      written = written;
      workers_are = number_is 32 b.0.0 workers.0 workers.1;
      max_is = number_is 64 d.0.1 max.0 max.1;
      within = within_limits workers.0 max.0 within.0;
    })

-- ---- if the bytes are those of a header, the line has it

pub header_said : (workers max : ℕ) (line : List ℕ) → IsHeaderLine workers max line → header_of line ≡ Some (record { workers = workers; max = max })
header_said workers max line is =
    let rest_a = is.first ++ 32 ∷ (codes "max" ++ 32 ∷ is.second) in
    let rest_b = codes "max" ++ 32 ∷ is.second in
    rw (
      at_space-joined line (codes "workers") rest_a refl is.written,
      at_space-number rest_a is.first rest_b is.workers_are.digits refl,
      at_space-joined rest_b (codes "max") is.second refl refl,
      number_of_is 32 is.first workers is.workers_are,
      number_of_is 64 is.second max is.max_is,
      limits_within workers max is.within,
    ) refl

-- ---- the first line

header_by : (line : List ℕ) (found : Option Header) → IsLineText line → header_of line ≡ found → HeaderSays line (ok_or found wrong.BadHeader)
header_by line (Some header) text is = (text, header_holds line header is)
header_by line None text is = (text, λ workers max there. let says = header_said workers max line there in absurd (cc))

first_by : (line : List ℕ) (read : Result (List ℕ) LineError) → TextHolds 1 line read → HeaderSays line (with_text read (λ text. ok_or (header_of text) wrong.BadHeader))
first_by line read there = grind (arith, ok_or, header_by)

first_holds : (line : List ℕ) → HeaderSays line (header_in line)
first_holds line = first_by line (text_of 1 line) (text_holds 1 line)

no_header : (line : List ℕ) (found : Option Header) → header_of line ≡ found → ((workers max : ℕ) → IsHeaderLine workers max line → ⊥) → found ≡ None
no_header line None is none = refl
no_header line (Some header) is none = absurd (none header.workers header.max (header_holds line header is))

with_header : (line : List ℕ) (found : Option Header) → IsLineText line → header_of line ≡ found → header_in line ≡ ok_or found wrong.BadHeader
with_header line found text is = ap (λ r. with_text r (λ t. ok_or (header_of t) wrong.BadHeader)) (text_of-text 1 line text) ∙ ap (λ o. ok_or o wrong.BadHeader) is

first_said : (line : List ℕ) (said : Result Header ScriptError) → HeaderSays line said → header_in line ≡ said
first_said line (Ok header) there = with_header line (Some header) there.0 (header_said header.workers header.max line there.1)
first_said line (Err (wrong.LineTooLong n)) there = ap (λ r. with_text r (λ t. ok_or (header_of t) wrong.BadHeader)) (text_of-too_long 1 line there.1) ∙ ap (λ m. Err (wrong.LineTooLong m)) (sym there.0)
first_said line (Err (wrong.NotText n)) there = ap (λ r. with_text r (λ t. ok_or (header_of t) wrong.BadHeader)) (text_of-not_text 1 line there.1 there.2) ∙ ap (λ m. Err (wrong.NotText m)) (sym there.0)
first_said line (Err wrong.BadHeader) there = with_header line None there.0 (no_header line (header_of line) refl there.1)
first_said line (Err (wrong.BadLine n)) there = absurd there
first_said line (Err (wrong.BadUrl n)) there = absurd there
first_said line (Err wrong.NoMemory) there = absurd there

pub header_means : (line : List ℕ) (said : Result Header ScriptError) → (header_in line ≡ said → HeaderSays line said) × (HeaderSays line said → header_in line ≡ said)
header_means line said = (λ is. subst (HeaderSays line) is (first_holds line), first_said line said)
