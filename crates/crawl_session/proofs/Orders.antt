-- The URLs of a host wait in a rebuilt session in the order in which they waited in the old one.
use Rattle.crawl_session.proofs.Prelude.{◌≡◌, ℕ, zero, suc, ◌+◌, ◌≤◌, ◌<◌, Bool, true, false, not, cond, if◌then◌else◌, nat_eq, nat_lt, List, [], ◌∷◌, ◌++◌, length, take, drop, map, Option, Some, None, inl, inr, refl, sym, ap, ◌∙◌, true≢false, arith, append-nil, nat_tests, cons_option, option_to_list, bytes_eq, bytes_eq-Decides, sum_by-cons, slice_get, filter_map-append, same_text, eqb_same, eqb-true, take_all, subqueue_of, Row, line_answers, busy_in, done_in, joined_of, taken_of, times, Frontier, start, state_after, pending_at, Settings}
use Rattle.std.specs.List.{filter}
use Rattle.std.proofs.lemmas.List.{drop_at}
use Rattle.std.proofs.lemmas.Bool.{cases_lt}
use Rattle.std.proofs.lemmas.List.Elements.{filter-append}
use Rattle.crawl_keys.specs.Assignment.{assign}
use Rattle.crawl_keys.specs.HostKey.{host_key}
use Rattle.crawl_session.specs.declared.list.Kind.{Kind}
use Rattle.crawl_session.specs.declared.list.Kind.TheVariants as kinds
use Rattle.crawl_session.specs.declared.list.Row.TheVariants as variant
use Rattle.crawl_session.specs.Listing.{in_progress_below, pending_below, url_of_queue, urls_of}
use Rattle.crawl_session.specs.Rebuilding.{by_turns, in_queue, inventory, is_left_out, kept, longest, of_host, queues_below, row_url, turn, turns_below, unless_empty, urls_in, waits_of}
use Rattle.crawl_session.proofs.Conserved.{line_of}
use Rattle.crawl_session.proofs.Drained.{Fit, pends}
use Rattle.crawl_session.proofs.Inventories.{AreOwn, busy_own, one, pending_own, queues_state, read_lines, take_next, turns_none}
use Rattle.crawl_session.proofs.Listed.{busy_answered, done_after, is_below, lists_answered, pending_answered}
use Rattle.crawl_session.proofs.Onces.{each_once, joined_is}
use Rattle.crawl_session.proofs.Rebuilt.{Flows, all_kept, done_kept, filter_on}
use Rattle.crawl_session.proofs.Returns.{times_in, times_on}

abbrev is_of : List ℕ → List ℕ → Bool
is_of host url = bytes_eq (host_key url) host

-- a URL of the host, or none
abbrev of : List ℕ → Option (List ℕ) → List (List ℕ)
of host o = of_host host (option_to_list o)

of_cons : (host : List ℕ) (o : Option (List ℕ)) (urls : List (List ℕ)) → of_host host (cons_option o urls) ≡ of host o ++ of_host host urls
of_cons host None urls = refl
of_cons host (Some u) urls = filter-append (is_of host) (u ∷ []) urls

of_append : (host : List ℕ) (front back : List (List ℕ)) → of_host host (front ++ back) ≡ of_host host front ++ of_host host back
of_append host front back = filter-append (is_of host) front back

-- a list of one URL, or none, by a test
one_by : (p : List ℕ → Bool) (u : List ℕ) (b : Bool) → p u ≡ b → filter p (u ∷ []) ≡ (if b then u ∷ [] else [])
one_by p u b is = filter_on p u [] ∙ ap (λ (c : Bool). cons_option (if c then Some u else None) []) is ∙ either b
  where
    either : (c : Bool) → cons_option (if c then Some u else None) [] ≡ (if c then u ∷ [] else [])
    either true = refl
    either false = refl

cons_is : (o : Option (List ℕ)) (urls : List (List ℕ)) → cons_option o urls ≡ option_to_list o ++ urls
cons_is None urls = refl
cons_is (Some u) urls = refl

-- two tests drop the same URLs in any order
filters : (p q : List ℕ → Bool) (urls : List (List ℕ)) → filter p (filter q urls) ≡ filter q (filter p urls)
filters p q [] = refl
filters p q (u ∷ urls) =
    ap (filter p) (filter_on q u urls ∙ cons_is (if q u then Some u else None) (filter q urls))
    ∙ filter-append p (option_to_list (if q u then Some u else None)) (filter q urls)
    ∙ (λ i. swap (p u) (q u) refl refl i ++ filters p q urls i)
    ∙ sym (filter-append q (option_to_list (if p u then Some u else None)) (filter p urls))
    ∙ sym (ap (filter q) (filter_on p u urls ∙ cons_is (if p u then Some u else None) (filter p urls)))
  where
    swap : (b c : Bool) → p u ≡ b → q u ≡ c → filter p (option_to_list (if c then Some u else None)) ≡ filter q (option_to_list (if b then Some u else None))
    swap true true is_p is_q = one_by p u true is_p ∙ sym (one_by q u true is_q)
    swap true false is_p is_q = sym (one_by q u false is_q)
    swap false true is_p is_q = one_by p u false is_p
    swap false false is_p is_q = refl

host_kept : (settings : Settings) (host : List ℕ) (urls : List (List ℕ)) → of_host host (kept settings urls) ≡ kept settings (of_host host urls)
host_kept settings host urls = filters (is_of host) (λ u. not (is_left_out settings u)) urls

-- the URLs of the host are in its queue
host_in_queue : (workers : ℕ) (host : List ℕ) (urls : List (List ℕ)) → of_host host (in_queue workers (assign host workers) urls) ≡ of_host host urls
host_in_queue workers host [] = refl
host_in_queue workers host (u ∷ urls) =
    ap (of_host host) (filter_on (λ v. nat_eq (subqueue_of v workers) (assign host workers)) u urls)
    ∙ of_cons host (if nat_eq (subqueue_of u workers) (assign host workers) then Some u else None) (in_queue workers (assign host workers) urls)
    ∙ (λ i. by_host (is_of host u) refl i ++ host_in_queue workers host urls i)
    ∙ sym (of_cons host (Some u) urls)
  where
    by_host : (b : Bool) → is_of host u ≡ b → of host (if nat_eq (subqueue_of u workers) (assign host workers) then Some u else None) ≡ of host (Some u)
    by_host true is =
        ap (λ (c : Bool). of host (if c then Some u else None)) (ap (λ h. nat_eq (assign h workers) (assign host workers)) (same_text (host_key u) host is) ∙ eqb_same (assign host workers))
    by_host false is = either (nat_eq (subqueue_of u workers) (assign host workers))
      where
        none : of host (Some u) ≡ []
        none = one_by (is_of host) u false is

        either : (c : Bool) → of host (if c then Some u else None) ≡ of host (Some u)
        either true = refl
        either false = sym none

-- ---- the URLs of a host in rows

times_own : (url : List ℕ) → times_in url (Some url) ≡ 1
times_own url = let all = sum_by-cons (one url) url [] in let first : one url url ≡ 1 = ap {B = ℕ} (λ b. cond b 1 0) ((bytes_eq-Decides url url).1 refl) in omega (arith, all, first)

row_times : (kind : Kind) (there : ℕ) (u : List ℕ) (rows : List Row) → 1 ≤ times u (urls_of there (variant.Url kind there u ∷ rows))
row_times kind there u rows =
    let all = times_on u (url_of_queue there (variant.Url kind there u)) (urls_of there rows) in
    let here : times_in u (url_of_queue there (variant.Url kind there u)) ≡ times_in u (Some u) = ap (λ (b : Bool). times_in u (if b then Some u else None)) (eqb_same there) in
    let own = times_own u in
    omega (arith, all, here, own)

own_tail : (workers : ℕ) (row : Row) (rows : List Row) → AreOwn workers (row ∷ rows) → AreOwn workers rows
own_tail workers row rows own q u some = own q u (let all = times_on u (url_of_queue q row) (urls_of q rows) in omega (arith, all, some))

own_row : (workers : ℕ) (host : List ℕ) (row : Row) (rows : List Row) → AreOwn workers (row ∷ rows) → of host (row_url row) ≡ of host (url_of_queue (assign host workers) row)
own_row workers host (variant.Stats queue stats) rows own = refl
own_row workers host (variant.Url kind there u) rows own = by_host (is_of host u) refl
  where
    by_host : (b : Bool) → is_of host u ≡ b → of host (Some u) ≡ of host (if nat_eq there (assign host workers) then Some u else None)
    by_host true is =
        let is_there : there ≡ assign host workers = own there u (row_times kind there u rows) ∙ ap (λ h. assign h workers) (same_text (host_key u) host is) in
        sym (ap (λ (c : Bool). of host (if c then Some u else None)) (ap (λ q. nat_eq q (assign host workers)) is_there ∙ eqb_same (assign host workers)))
    by_host false is = either (nat_eq there (assign host workers))
      where
        none : of host (Some u) ≡ []
        none = one_by (is_of host) u false is

        either : (c : Bool) → of host (Some u) ≡ of host (if c then Some u else None)
        either true = refl
        either false = none

host_rows : (workers : ℕ) (host : List ℕ) (rows : List Row) → AreOwn workers rows → of_host host (urls_in rows) ≡ of_host host (urls_of (assign host workers) rows)
host_rows workers host [] own = refl
host_rows workers host (row ∷ rows) own =
    of_cons host (row_url row) (urls_in rows)
    ∙ (λ i. own_row workers host row rows own i ++ host_rows workers host rows (own_tail workers row rows own) i)
    ∙ sym (of_cons host (url_of_queue (assign host workers) row) (urls_of (assign host workers) rows))

-- ---- turns

turn_push : (position : ℕ) (queues : List (List (List ℕ))) (urls : List (List ℕ)) → turn position (queues ++ unless_empty urls) ≡ turn position queues ++ option_to_list (slice_get urls position)
turn_push position queues [] = ap (turn position) (append-nil queues) ∙ sym (append-nil (turn position queues))
turn_push position queues (u ∷ urls) = filter_map-append (λ (q : List (List ℕ)). slice_get q position) queues ((u ∷ urls) ∷ []) ∙ ap (λ l. turn position queues ++ l) (one_of (slice_get (u ∷ urls) position))
  where
    one_of : (o : Option (List ℕ)) → cons_option o [] ≡ option_to_list o
    one_of None = refl
    one_of (Some v) = refl

of_take : (host : List ℕ) (n : ℕ) (urls : List (List ℕ)) → of_host host (take (suc n) urls) ≡ of_host host (take n urls) ++ of host (slice_get urls n)
of_take host n urls = ap (of_host host) (take_next n urls) ∙ of_append host (take n urls) (option_to_list (slice_get urls n))

nil_left : (a b : List (List ℕ)) → a ++ b ≡ [] → a ≡ []
nil_left [] b e = refl
nil_left (x ∷ a) b e = absurd (cc)

nil_right : (a b : List (List ℕ)) → a ++ b ≡ [] → b ≡ []
nil_right [] b e = e
nil_right (x ∷ a) b e = absurd (cc)

-- a queue without a URL of the host
turns_other : (host : List ℕ) (n : ℕ) (queues : List (List (List ℕ))) (urls : List (List ℕ)) → of_host host urls ≡ [] → of_host host (turns_below n (queues ++ unless_empty urls)) ≡ of_host host (turns_below n queues)
turns_other host zero queues urls none = refl
turns_other host (suc n) queues urls none =
    of_append host (turns_below n (queues ++ unless_empty urls)) (turn n (queues ++ unless_empty urls))
    ∙ (λ i. turns_other host n queues urls none i ++ of_host host (turn_push n queues urls i))
    ∙ ap (λ l. of_host host (turns_below n queues) ++ l) (of_append host (turn n queues) (option_to_list (slice_get urls n)) ∙ ap (λ l. of_host host (turn n queues) ++ l) (here n urls none) ∙ append-nil (of_host host (turn n queues)))
    ∙ sym (of_append host (turns_below n queues) (turn n queues))
  where
    here : (n : ℕ) (urls : List (List ℕ)) → of_host host urls ≡ [] → of host (slice_get urls n) ≡ []
    here n [] none = refl
    here zero (u ∷ urls) none = nil_left (of host (Some u)) (of_host host urls) (sym (of_cons host (Some u) urls) ∙ none)
    here (suc n) (u ∷ urls) none = here n urls (nil_right (of host (Some u)) (of_host host urls) (sym (of_cons host (Some u) urls) ∙ none))

-- the first queue with URLs of the host
turns_first : (host : List ℕ) (n : ℕ) (queues : List (List (List ℕ))) (urls : List (List ℕ)) → ((m : ℕ) → of_host host (turns_below m queues) ≡ []) → of_host host (turns_below n (queues ++ unless_empty urls)) ≡ of_host host (take n urls)
turns_first host zero queues urls none = refl
turns_first host (suc n) queues urls none =
    of_append host (turns_below n (queues ++ unless_empty urls)) (turn n (queues ++ unless_empty urls))
    ∙ (λ i. turns_first host n queues urls none i ++ of_host host (turn_push n queues urls i))
    ∙ ap (λ l. of_host host (take n urls) ++ l) (of_append host (turn n queues) (option_to_list (slice_get urls n)) ∙ ap (λ l. l ++ of host (slice_get urls n)) (nil_right (of_host host (turns_below n queues)) (of_host host (turn n queues)) (sym (of_append host (turns_below n queues) (turn n queues)) ∙ none (suc n))))
    ∙ sym (of_take host n urls)

-- ---- the queues of an old session

-- of the queues below a number, only this one has URLs of the host
abbrev Own : Frontier → List ℕ → ℕ → ℕ → Type 0
Own state host there limit = (queue : ℕ) → queue < limit → nat_eq queue there ≡ false → of_host host (line_of state queue) ≡ []

pending_line : (state : Frontier) (n : ℕ) → Fit state → urls_in (pending_at (queues_below n state).state n).rows ≡ line_of state n
pending_line state n fit =
    let before = pending_answered state n n fit in
    let mid = (pending_below n state).state in
    ap (λ (s : Frontier). urls_in (pending_at s n).rows) (queues_state n state)
    ∙ ap urls_in (pends mid n before.fit).rows
    ∙ urls_all n (line_of mid n)
    ∙ before.left (same_below n)
  where
    urls_all : (n : ℕ) (urls : List (List ℕ)) → urls_in (map (λ url. variant.Url kinds.Pending n url) urls) ≡ urls
    urls_all n [] = refl
    urls_all n (u ∷ urls) = ap (λ l. u ∷ l) (urls_all n urls)

    same_below : (n : ℕ) → nat_lt n n ≡ false
    same_below n = grind (arith, nat_tests)

-- the URLs of the host, at most this number of each queue below a number
turns_of : (state : Frontier) (host : List ℕ) (there limit n : ℕ) → Fit state → Own state host there limit → n ≤ limit → (most : ℕ) → of_host host (turns_below most (queues_below n state).queues) ≡ (if nat_lt there n then of_host host (take most (line_of state there)) else [])
turns_of state host there limit zero fit own within most = ap (of_host host) (turns_none most) ∙ none_below there (of_host host (take most (line_of state there)))
  where
    none_below : (queue : ℕ) (xs : List (List ℕ)) → [] ≡ (if nat_lt queue 0 then xs else [])
    none_below queue xs = grind arith
turns_of state host there limit (suc n) fit own within most = by_own (nat_eq n there) refl (turns_of state host there limit n fit own (omega (arith, within)))
  where
    urls : List (List ℕ)
    urls = line_of state n

    queues : List (List (List ℕ))
    queues = (queues_below n state).queues

    now : of_host host (turns_below most (queues_below (suc n) state).queues) ≡ of_host host (turns_below most (queues ++ unless_empty urls))
    now = ap (λ (l : List (List ℕ)). of_host host (turns_below most (queues ++ unless_empty l))) (pending_line state n fit)

    below : (b : Bool) → nat_eq n there ≡ b → (xs : List (List ℕ)) → (if nat_lt there (suc n) then xs else []) ≡ (if b then xs else (if nat_lt there n then xs else []))
    below b is xs = grind (arith, nat_tests, is)

    by_own : (b : Bool) → nat_eq n there ≡ b → ((m : ℕ) → of_host host (turns_below m queues) ≡ (if nat_lt there n then of_host host (take m (line_of state there)) else [])) → of_host host (turns_below most (queues_below (suc n) state).queues) ≡ (if nat_lt there (suc n) then of_host host (take most (line_of state there)) else [])
    by_own true is rest =
        now
        ∙ turns_first host most queues urls (λ m. rest m ∙ none_there (of_host host (take m (line_of state there))) (eqb-true n there is))
        ∙ ap (λ q. of_host host (take most (line_of state q))) (eqb-true n there is)
        ∙ sym (below true is (of_host host (take most (line_of state there))))
      where
        none_there : (xs : List (List ℕ)) → n ≡ there → (if nat_lt there n then xs else []) ≡ []
        none_there xs same = grind (arith, nat_tests, same)
    by_own false is rest = now ∙ turns_other host most queues urls (own n (omega (arith, within)) is) ∙ rest most ∙ sym (below false is (of_host host (take most (line_of state there))))

-- each queue is at most as long as the longest
longest_push : (queues : List (List (List ℕ))) (urls : List (List ℕ)) → (longest queues ≤ longest (queues ++ unless_empty urls)) × (length urls ≤ longest (queues ++ unless_empty urls))
longest_push [] [] = (omega arith, omega arith)
longest_push [] (u ∷ urls) = (omega arith, omega arith)
longest_push (queue ∷ more) urls = let rest = longest_push more urls in (omega (arith, rest.0), omega (arith, rest.1))

line_fits : (state : Frontier) (there n : ℕ) → Fit state → there < n → length (line_of state there) ≤ longest (queues_below n state).queues
line_fits state there zero fit below = absurd (omega (arith, below))
line_fits state there (suc n) fit below =
    let urls = urls_in (pending_at (queues_below n state).state n).rows in
    let push = longest_push (queues_below n state).queues urls in
    let same = ap length (pending_line state n fit) in
    elim (cases_lt there n) [
      | inl small ↦ (let rest = line_fits state there n fit small in omega (arith, push.0, rest))
      | inr least ↦ (let is : there ≡ n = omega (arith, below, least) in let own = ap (λ q. length (line_of state q)) is in omega (arith, push.1, same, own))
    ]

pub waits_in_order : (state : Frontier) (host : List ℕ) (there workers : ℕ) → Fit state → Own state host there workers → there < workers → of_host host (by_turns (queues_below workers state).queues) ≡ of_host host (line_of state there)
waits_in_order state host there workers fit own below =
    let queues = (queues_below workers state).queues in
    turns_of state host there workers workers fit own (omega arith) (longest queues)
    ∙ ap (λ (b : Bool). if b then of_host host (take (longest queues) (line_of state there)) else []) (is_below there workers below)
    ∙ ap (of_host host) (take_all (longest queues) (line_of state there) (line_fits state there workers fit below))

-- ---- the old session

none_of : (host : List ℕ) (urls : List (List ℕ)) → ((url : List ℕ) → 1 ≤ times url urls → is_of host url ≡ false) → of_host host urls ≡ []
none_of host [] each = refl
none_of host (u ∷ urls) each =
    of_cons host (Some u) urls
    ∙ ap (λ l. l ++ of_host host urls) (one_by (is_of host) u false (each u (let all = times_on u (Some u) urls in let first = times_own u in omega (arith, all, first))))
    ∙ none_of host urls (λ url some. each url (let all = times_on url (Some u) urls in omega (arith, all, some)))

line_own : (settings : Settings) (most : ℕ) (lines : List (List ℕ)) (host : List ℕ) → Own (state_after settings (start settings.workers most) lines) host (assign host settings.workers) settings.workers
line_own settings most lines host queue below apart =
    let end = state_after settings (start settings.workers most) lines in
    none_of host (line_of end queue) (λ url some. by_host url some (is_of host url) refl)
  where
    by_host : (url : List ℕ) → 1 ≤ times url (line_of (state_after settings (start settings.workers most) lines) queue) → (b : Bool) → is_of host url ≡ b → b ≡ false
    by_host url some false is = refl
    by_host url some true is =
        let rows = (pending_answered (state_after settings (start settings.workers most) lines) queue settings.workers (read_lines settings most lines).fit).rows in
        let in_rows = ap (λ (b : Bool). times url (if b then line_of (state_after settings (start settings.workers most) lines) queue else [])) (is_below queue settings.workers below) in
        let all = ap (times url) rows in
        let own = pending_own settings most lines queue url (omega (arith, all, in_rows, some)) in
        let same : queue ≡ assign host settings.workers = own ∙ ap (λ h. assign h settings.workers) (same_text (host_key url) host is) in
        absurd (true≢false (sym (eqb_same (assign host settings.workers)) ∙ ap (λ q. nat_eq q (assign host settings.workers)) (sym same) ∙ apart))

waited : (settings : Settings) (most : ℕ) (lines : List (List ℕ)) (host : List ℕ) → 1 ≤ settings.workers → of_host host ((inventory settings most lines).in_progress ++ by_turns (inventory settings most lines).pending)
    ≡ of_host host (option_to_list (busy_in (assign host settings.workers) (line_answers settings (start settings.workers most) lines)) ++ waits_of (assign host settings.workers) (line_answers settings (start settings.workers most) lines))
waited settings most lines host some =
    let begun = start settings.workers most in
    let end = state_after settings begun lines in
    let all = line_answers settings begun lines in
    let had = inventory settings most lines in
    let there = assign host settings.workers in
    let below : there < settings.workers = omega (arith, some) in
    let its_reply = lists_answered settings most lines there below in
    let busy_rows = (in_progress_below settings.workers end).rows in
    let after = done_after settings lines begun in
    let same : (in_progress_below settings.workers (done_in settings lines begun).state).state ≡ end = ap (λ (s : Frontier). (in_progress_below settings.workers s).state) after ∙ (busy_answered end there settings.workers).after in
    let busy =
    ap (λ (s : Frontier). of_host host (urls_in (in_progress_below settings.workers s).rows)) after
    ∙ host_rows settings.workers host busy_rows (busy_own settings most lines)
    ∙ ap (of_host host) its_reply.in_progress in
    let line : waits_of there all ≡ line_of end there = ap (drop (length (taken_of there all))) (joined_is settings most lines there) ∙ drop_at (taken_of there all) (line_of end there) (length (taken_of there all)) refl in
    let waits =
    ap (λ (s : Frontier). of_host host (by_turns (queues_below settings.workers s).queues)) same
    ∙ waits_in_order end host there settings.workers (read_lines settings most lines).fit (line_own settings most lines host) below
    ∙ ap (of_host host) (sym line) in
    of_append host had.in_progress (by_turns had.pending)
    ∙ (λ i. busy i ++ waits i)
    ∙ sym (of_append host (option_to_list (busy_in there all)) (waits_of there all))

-- ---- the new session

pub in_order : (old new : Settings) (most room : ℕ) (lines rebuilt_lines : List (List ℕ)) (host : List ℕ) → 1 ≤ old.workers → Flows new.workers (line_answers new (start new.workers room) rebuilt_lines) (all_kept new (inventory old most lines)) (done_kept new (inventory old most lines))
    → of_host host (waits_of (assign host new.workers) (line_answers new (start new.workers room) rebuilt_lines))
    ≡ of_host host (kept new (option_to_list (busy_in (assign host old.workers) (line_answers old (start old.workers most) lines)) ++ waits_of (assign host old.workers) (line_answers old (start old.workers most) lines)))
in_order old new most room lines rebuilt_lines host some flows =
    let had = inventory old most lines in
    let after = line_answers new (start new.workers room) rebuilt_lines in
    let queue = assign host new.workers in
    let own = in_queue new.workers queue in
    let done = kept new had.done in
    let waits = kept new had.in_progress ++ kept new (by_turns had.pending) in
    let joined : joined_of queue after ≡ own done ++ own waits =
    (each_once new room rebuilt_lines).plain queue (flows.back queue)
    ∙ flows.accepted queue
    ∙ ap own (append-nil (done ++ waits))
    ∙ filter-append (λ url. nat_eq (subqueue_of url new.workers) queue) done waits in
    let taken : taken_of queue after ≡ own done = flows.taken queue ∙ ap own (append-nil (done ++ []) ∙ append-nil done) in
    let left : waits_of queue after ≡ own waits = (λ i. drop (length (taken i)) (joined i)) ∙ drop_at (own done) (own waits) (length (own done)) refl in
    ap (of_host host) left
    ∙ host_in_queue new.workers host waits
    ∙ ap (of_host host) (sym (filter-append (λ u. not (is_left_out new u)) had.in_progress (by_turns had.pending)))
    ∙ host_kept new host (had.in_progress ++ by_turns had.pending)
    ∙ ap (kept new) (waited old most lines host some)
    ∙ sym (host_kept new host (option_to_list (busy_in (assign host old.workers) (line_answers old (start old.workers most) lines)) ++ waits_of (assign host old.workers) (line_answers old (start old.workers most) lines)))
