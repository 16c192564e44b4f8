-- The content of all lines of a script together is the one that the format defines.
use Rattle.crawl_replay.proofs.Prelude.{◌≡◌, ℕ, ◌+◌, List, [], ◌∷◌, Option, Some, None, Result, Ok, Err, refl, sym, ap, subst, ◌∙◌, inl, inr, arith, Event, Said, script_in, header_in, with_header, with_events, unless_error, least_error, events_in, said_from, said_by, HeaderSays, LinesSay, IsScript, Header, ScriptError}
use Rattle.crawl_replay.proofs.HeaderFields.{header_means}
use Rattle.crawl_replay.proofs.LineFields.{line_means}

-- ---- if the lines have a content, their bytes are those of the content

by_line : (workers number : ℕ) (line : List ℕ) (more : List (List ℕ)) (said : Result (Option Event) ScriptError) → said_by workers number line ≡ said → least_error (said ∷ said_from workers (number + 1) more) ≡ None → (least_error (said_from workers (number + 1) more) ≡ None → LinesSay workers (number + 1) more (events_in (said_from workers (number + 1) more))) → LinesSay workers number (line ∷ more) (events_in (said ∷ said_from workers (number + 1) more))
by_line workers number line more (Err error) is none later = absurd (cc)
by_line workers number line more (Ok None) is none later = inl ((line_means workers number line (Ok None)).0 is, later none)
by_line workers number line more (Ok (Some event)) is none later = inr (event, events_in (said_from workers (number + 1) more), refl, (line_means workers number line (Ok (Some event))).0 is, later none)

lines_hold : (workers number : ℕ) (more : List (List ℕ)) → least_error (said_from workers number more) ≡ None → LinesSay workers number more (events_in (said_from workers number more))
lines_hold workers number [] none = refl
lines_hold workers number (line ∷ more) none = by_line workers number line more (said_by workers number line) refl none (lines_hold workers (number + 1) more)

record Without (header : Header) (error : Option ScriptError) (events : List Event) (script : Said) : Type 0 where
  pub none : error ≡ None
  pub workers : script.workers ≡ header.workers
  pub max : script.max ≡ header.max
  pub same : script.events ≡ events

without : (header : Header) (error : Option ScriptError) (events : List Event) (script : Said) → with_events header (unless_error error events) ≡ Ok script → Without header error events script
without header error events script e = grind arith

by_header : (line : List ℕ) (more : List (List ℕ)) (script : Said) (read : Result Header ScriptError) → header_in line ≡ read → with_header read more ≡ Ok script → IsScript (line ∷ more) script
by_header line more script (Err error) is e = absurd (cc)
by_header line more script (Ok header) is e =
    let found = without header (least_error (said_from header.workers 2 more)) (events_in (said_from header.workers 2 more)) script e in
    let there = lines_hold header.workers 2 more found.none in
    let headed = (header_means line (Ok header)).0 is in
    let P : ℕ × ℕ → Type 0 = λ x. HeaderSays line (Ok (record { workers = x.0; max = x.1 })) in
    let Q : ℕ × List Event → Type 0 = λ x. LinesSay x.0 2 more x.1 in record {
      first = line;
      more = more;
      split = refl;
      headed = subst P (λ i. (sym found.workers i, sym found.max i)) headed;
      events = subst Q (λ i. (sym found.workers i, sym found.same i)) there;
    }

script_holds : (lines : List (List ℕ)) (script : Said) → script_in lines ≡ Ok script → IsScript lines script
script_holds lines script e = grind (arith, by_header)

-- ---- if the bytes are those of a content, the lines have it

record AllSaid (workers number : ℕ) (more : List (List ℕ)) (events : List Event) : Type 0 where
  pub none : least_error (said_from workers number more) ≡ None
  pub are : events_in (said_from workers number more) ≡ events

lines_said : (workers number : ℕ) (more : List (List ℕ)) (events : List Event) → LinesSay workers number more events → AllSaid workers number more events
lines_said workers number [] events is = record { none = refl; are = sym is }
lines_said workers number (line ∷ more) events (inl (nothing, rest)) =
    let later = lines_said workers (number + 1) more events rest in
    let is = (line_means workers number line (Ok None)).1 nothing in record {
      none = ap (λ s. least_error (s ∷ said_from workers (number + 1) more)) is ∙ later.none;
      are = ap (λ s. events_in (s ∷ said_from workers (number + 1) more)) is ∙ later.are;
    }
lines_said workers number (line ∷ more) events (inr (event, rest, split, says, others)) =
    let later = lines_said workers (number + 1) more rest others in
    let is = (line_means workers number line (Ok (Some event))).1 says in record {
      none = ap (λ s. least_error (s ∷ said_from workers (number + 1) more)) is ∙ later.none;
      are = ap (λ s. events_in (s ∷ said_from workers (number + 1) more)) is ∙ ap (λ es. event ∷ es) later.are ∙ sym split;
    }

script_said : (lines : List (List ℕ)) (script : Said) → IsScript lines script → script_in lines ≡ Ok script
script_said lines script is =
    let header : Header = record { workers = script.workers; max = script.max } in
    let all = lines_said script.workers 2 is.more script.events is.events in
    ap script_in is.split ∙ ap (λ r. with_header r is.more) ((header_means is.first (Ok header)).1 is.headed)
    ∙ ap (λ o. with_events header (unless_error o (events_in (said_from script.workers 2 is.more)))) all.none
    ∙ ap (λ es. with_events header (Ok es)) all.are

pub script_means : (lines : List (List ℕ)) (script : Said) → (script_in lines ≡ Ok script → IsScript lines script) × (IsScript lines script → script_in lines ≡ Ok script)
script_means lines script = (script_holds lines script, script_said lines script)
