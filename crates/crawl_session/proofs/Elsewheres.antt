-- A compacted log gives the same `elsewhere` answers as the whole log, each URL once.
use Rattle.crawl_session.proofs.Prelude.{◌≡◌, Bool, true, false, not, ◌||◌, if◌then◌else◌, ℕ, List, [], ◌∷◌, ◌++◌, Option, Some, None, Result, Ok, Err, refl, sym, ap, ◌∙◌, arith, append-nil, cons_option, filter_map, filter_map-append, lines, has_text, Answer, Unasked, Request, RequestError, line_answers, elsewhere_of, first_of_each, elsewhere_url, Had, compacted, had_none, having, is_needed, log_text, needed, says_closed, with_elsewhere, Outcome, exchange, Frontier, start, request_for, answered, line_exchange, state_after, Settings}
use Rattle.crawl_session.specs.declared.request.RequestError.TheVariants as wrong
use Rattle.crawl_session.specs.Seen.{seen_lines}
use Rattle.crawl_session.proofs.Compactions.{compacted_holds, numbers_fit}
use Rattle.crawl_session.proofs.SeenLines.{AllFit, each_asks}

-- ---- the `elsewhere` answers follow from what the lines request

abbrev answered_by : Result Request RequestError → Option (List ℕ)
answered_by (Err (wrong.Elsewhere part url)) = Some url
answered_by _ = None

abbrev IsReported : Outcome → Type 0
IsReported x = elsewhere_url x.answer ≡ None

request_answered : (state : Frontier) (request : Request) → IsReported (exchange state request)
request_answered state request = grind arith

answer_says : (state : Frontier) (r : Result Request RequestError) → elsewhere_url (answered state r).answer ≡ answered_by r
answer_says state r = grind (arith, request_answered)

abbrev answered_in : Settings → List (List ℕ) → List (List ℕ)
answered_in settings ls = filter_map (λ line. answered_by (request_for settings line)) ls

answered_requested : (settings : Settings) (state : Frontier) (ls : List (List ℕ)) → elsewhere_of (line_answers settings state ls) ≡ answered_in settings ls
answered_requested settings state [] = refl
answered_requested settings state (line ∷ more) =
    let done = line_exchange settings state line in
    ap (λ o. cons_option o (elsewhere_of (line_answers settings done.state more))) (answer_says state (request_for settings line))
    ∙ ap (cons_option (answered_by (request_for settings line))) (answered_requested settings done.state more)

-- ---- the lines that are needed

answered_stays : (texts : List (List ℕ)) (answer : Answer) → elsewhere_url answer ≡ None → with_elsewhere texts answer ≡ texts
answered_stays texts answer none = grind arith

-- what is known after an `elsewhere` answer, by whether its URL had such an answer before
abbrev knowing : Had → ℕ → List ℕ → Bool → Had
knowing had part url b = record { closed = says_closed (Unasked (wrong.Elsewhere part url)) || had.closed; elsewhere = if b then had.elsewhere else had.elsewhere ++ url ∷ [] }

kept_answered : (settings : Settings) (had : Had) (state : Frontier) (ls : List (List ℕ)) → answered_in settings (needed settings had state ls) ≡ first_of_each had.elsewhere (answered_in settings ls)
kept_answered settings had state [] = refl
kept_answered settings had state (line ∷ more) = by_asked (request_for settings line) refl (λ had state. kept_answered settings had state more)
  where
    by_asked : (r : Result Request RequestError) → request_for settings line ≡ r
        → ((had : Had) (state : Frontier) → answered_in settings (needed settings had state more) ≡ first_of_each had.elsewhere (answered_in settings more))
        → answered_in settings (if is_needed had r (answered state r).answer then line ∷ needed settings (having had (answered state r).answer) (answered state r).state more else needed settings (having had (answered state r).answer) (answered state r).state more)
        ≡ first_of_each had.elsewhere (cons_option (answered_by r) (answered_in settings more))
    by_asked (Ok request) is later = by_need (is_needed had (Ok request) (exchange state request).answer)
      where
        same : first_of_each (having had (exchange state request).answer).elsewhere (answered_in settings more) ≡ first_of_each had.elsewhere (answered_in settings more)
        same = ap (λ texts. first_of_each texts (answered_in settings more)) (answered_stays had.elsewhere (exchange state request).answer (request_answered state request))

        by_need : (b : Bool) → answered_in settings (if b then line ∷ needed settings (having had (exchange state request).answer) (exchange state request).state more else needed settings (having had (exchange state request).answer) (exchange state request).state more)
            ≡ first_of_each had.elsewhere (answered_in settings more)
        by_need true =
            ap (λ r. cons_option (answered_by r) (answered_in settings (needed settings (having had (exchange state request).answer) (exchange state request).state more))) is
            ∙ later (having had (exchange state request).answer) (exchange state request).state
            ∙ same
        by_need false = later (having had (exchange state request).answer) (exchange state request).state ∙ same
    by_asked (Err (wrong.Elsewhere part url)) is later = by_known (has_text had.elsewhere url)
      where
        by_known : (b : Bool) → answered_in settings (if not b then line ∷ needed settings (knowing had part url b) state more else needed settings (knowing had part url b) state more)
            ≡ (if b then first_of_each had.elsewhere (answered_in settings more) else url ∷ first_of_each (had.elsewhere ++ url ∷ []) (answered_in settings more))
        by_known true = later (knowing had part url true) state
        by_known false =
            ap (λ r. cons_option (answered_by r) (answered_in settings (needed settings (knowing had part url false) state more))) is
            ∙ ap (λ l. url ∷ l) (later (knowing had part url false) state)
    by_asked (Err _) is later = later had state

-- lines `seen` are answered otherwise
none_answered : (settings : Settings) (seen : List ℕ) → AllFit 0 seen → answered_in settings (seen_lines 0 seen) ≡ []
none_answered settings seen fit =
    each_asks (λ ls. answered_in settings ls ≡ []) settings 0 seen fit refl
    (λ named count more asks none. ap (λ r. cons_option (answered_by r) (answered_in settings more)) asks ∙ none)

pub compacted_elsewhere : (settings : Settings) (max : ℕ) (bytes : List ℕ)
    → elsewhere_of (line_answers settings (start settings.workers max) (lines (log_text (compacted settings (start settings.workers max) (lines bytes))))) ≡ first_of_each [] (elsewhere_of (line_answers settings (start settings.workers max) (lines bytes)))
compacted_elsewhere settings max bytes =
    let begun = start settings.workers max in
    let all = lines bytes in
    let front = needed settings had_none begun all in
    let seen = (state_after settings begun all).seen in
    ap (λ ls. elsewhere_of (line_answers settings begun ls)) (compacted_holds settings max bytes)
    ∙ answered_requested settings begun (compacted settings begun all)
    ∙ filter_map-append (λ line. answered_by (request_for settings line)) front (seen_lines 0 seen)
    ∙ ap (λ l. answered_in settings front ++ l) (none_answered settings seen (numbers_fit settings max all))
    ∙ append-nil (answered_in settings front)
    ∙ kept_answered settings had_none begun all
    ∙ ap (first_of_each []) (sym (answered_requested settings begun all))
