-- The answers of a new session to the lines of a rebuilt log.
use Rattle.crawl_session.proofs.Prelude.{◌≡◌, ℕ, ◌+◌, Bool, true, false, cond, not, ◌&&◌, ◌||◌, if◌then◌else◌, nat_eq, List, [], ◌∷◌, ◌++◌, codes, Option, Some, None, Result, Ok, Err, refl, sym, ap, subst, ◌∙◌, arith, and_parts, common_steps, cons_option, filter_map-append, sum_by-append, bytes_eq, subqueue_of, same_text, slice_get, at_space-joined, at_space, decimal, number_of_is, IsNumber, Answer, Replied, Request, Offer, Next, Again, Later, Done, EndSeeds, Seen, Stats, Reply, RequestError, IfOk, option_map, option_or, request_of, eqb_same, inl, inr, ◌⊎◌, ◌<◌, ◌^◌, LineAnswer, accepted_of, accepts, line_answers, busy_after, busy_before, busy_from, busy_in, done_urls, finishes, put_back_of, puts_back, taken_of, takes, exchange, Frontier, request_for, answered, line_exchange, state_after, says_closed, Settings}
use Rattle.std.specs.List.{filter}
use Rattle.std.specs.Option.{ok_or}
use Rattle.std.proofs.lemmas.List.Elements.{filter-append}
use Rattle.crawl_core.specs.declared.reply.Reply.TheVariants as says
use Rattle.crawl_session.specs.declared.request.RequestError.TheVariants as wrong
use Rattle.crawl_session.specs.Listing.{is_count}
use Rattle.crawl_session.specs.declared.rebuild.LeftOut.{LeftOut}
use Rattle.crawl_session.specs.Rebuilding.{Given, Inventory, asks_filtered, by_turns, closing, done_line, done_url, each_url, end_line, ended_urls, finish_url, in_queue, is_accepted, is_left_out, kept, line_if, next_line, no_line, offer_line, offered_by, offered_to, one_line, other_by, other_url, rebuilt, takes_url, then_give, unfinished_urls, waiting_url}
use Rattle.crawl_session.specs.Requests.{request_from}
use Rattle.crawl_session.proofs.Assigned.{IsAssigned, accepted_as_assigned, assigns_for}
use Rattle.crawl_session.proofs.Lines.{state_after-append}
use Rattle.crawl_session.proofs.Logs.{number_printed}
use Rattle.crawl_session.proofs.Placed.{for_keeps}

pub filter_on : (p : List ℕ → Bool) (u : List ℕ) (urls : List (List ℕ)) → filter p (u ∷ urls) ≡ cons_option (if p u then Some u else None) (filter p urls)
filter_on p u urls = grind (arith, common_steps)

-- ---- lines, one after another

line_answers-append : (settings : Settings) (state : Frontier) (front back : List (List ℕ)) → line_answers settings state (front ++ back) ≡ line_answers settings state front ++ line_answers settings (state_after settings state front) back
line_answers-append settings state [] back = refl
line_answers-append settings state (line ∷ more) back =
    let here = line_exchange settings state line in
    ap (λ (l : List LineAnswer). record { request = request_for settings line; answer = here.answer } ∷ l) (line_answers-append settings here.state more back)

busy_from-append : (queue : ℕ) (busy : Option (List ℕ)) (front back : List LineAnswer) → busy_from queue busy (front ++ back) ≡ busy_from queue (busy_from queue busy front) back
busy_from-append queue busy [] back = refl
busy_from-append queue busy (x ∷ more) back = busy_from-append queue (busy_after queue busy x) more back

busy_before-append : (test : LineAnswer → Bool) (queue : ℕ) (busy : Option (List ℕ)) (front back : List LineAnswer) → busy_before test queue busy (front ++ back) ≡ busy_before test queue busy front ++ busy_before test queue (busy_from queue busy front) back
busy_before-append test queue busy [] back = refl
busy_before-append test queue busy (x ∷ more) back = on_first (if test x then busy else None) _ _ _ (busy_before-append test queue (busy_after queue busy x) more back)
  where
    on_first : (o : Option (List ℕ)) (all front rest : List (List ℕ)) → all ≡ front ++ rest → cons_option o all ≡ cons_option o front ++ rest
    on_first None all front rest same = same
    on_first (Some u) all front rest same = ap (λ l. u ∷ l) same

-- what the answers say of each queue: these URLs were accepted, the others of them taken and done, and none is in progress
pub record Flows (workers : ℕ) (asks : List LineAnswer) (urls ended : List (List ℕ)) : Type 0 where
  pub accepted : (queue : ℕ) → accepted_of queue asks ≡ in_queue workers queue urls
  pub taken : (queue : ℕ) → taken_of queue asks ≡ in_queue workers queue ended
  pub done : (queue : ℕ) → done_urls queue asks ≡ in_queue workers queue ended
  pub back : (queue : ℕ) → put_back_of queue asks ≡ 0
  pub free : (queue : ℕ) → busy_in queue asks ≡ None

abbrev was_done : ℕ → LineAnswer → Bool
was_done queue x = finishes queue x.request x.answer

put_back_append : (queue : ℕ) (front back : List LineAnswer) → put_back_of queue (front ++ back) ≡ put_back_of queue front + put_back_of queue back
put_back_append queue front back = sum_by-append (λ (x : LineAnswer). cond (puts_back queue x.request x.answer) 1 0) front back

flows_both : (workers : ℕ) (front back : List LineAnswer) (a u b v : List (List ℕ)) → Flows workers front a u → Flows workers back b v → Flows workers (front ++ back) (a ++ b) (u ++ v)
flows_both workers front back a u b v one two = record {
  accepted = λ queue. filter_map-append (λ (x : LineAnswer). accepts queue x.request x.answer) front back ∙ (λ i. one.accepted queue i ++ two.accepted queue i) ∙ sym (filter-append (λ url. nat_eq (subqueue_of url workers) queue) a b);
  taken = λ queue. filter_map-append (λ (x : LineAnswer). takes queue x.request x.answer) front back ∙ (λ i. one.taken queue i ++ two.taken queue i) ∙ sym (filter-append (λ url. nat_eq (subqueue_of url workers) queue) u v);
  done = λ queue.
      busy_before-append (was_done queue) queue None front back
      ∙ ap (λ (o : Option (List ℕ)). done_urls queue front ++ busy_before (was_done queue) queue o back) (one.free queue)
      ∙ (λ i. one.done queue i ++ two.done queue i)
      ∙ sym (filter-append (λ url. nat_eq (subqueue_of url workers) queue) u v);
  back = λ queue. (let sum = put_back_append queue front back in let a = one.back queue in let b = two.back queue in omega (arith, sum, a, b));
  free = λ queue. busy_from-append queue None front back ∙ ap (λ (o : Option (List ℕ)). busy_from queue o back) (one.free queue) ∙ two.free queue;
}

-- what given lines add
pub record Adds (settings : Settings) (state : Frontier) (given : Given) (urls ended : List (List ℕ)) : Type 0 where
  pub after : given.state ≡ state_after settings state given.lines
  pub flows : Flows settings.workers (line_answers settings state given.lines) urls ended

adds_both : (settings : Settings) (state : Frontier) (first : Given) (second : Frontier → Given) (a u b v : List (List ℕ)) → Adds settings state first a u → Adds settings first.state (second first.state) b v → Adds settings state (then_give first second) (a ++ b) (u ++ v)
adds_both settings state first second a u b v one two =
    let back = second first.state in
    record {
      after = two.after ∙ ap (λ (s : Frontier). state_after settings s back.lines) one.after ∙ sym (state_after-append settings state first.lines back.lines);
      flows =
          subst (λ (asks : List LineAnswer). Flows settings.workers asks (a ++ b) (u ++ v)) (sym (line_answers-append settings state first.lines back.lines))
          (flows_both settings.workers (line_answers settings state first.lines) (line_answers settings (state_after settings state first.lines) back.lines) a u b v one.flows
          (subst (λ (s : Frontier). Flows settings.workers (line_answers settings s back.lines) b v) one.after two.flows));
    }

flows_none : (workers : ℕ) → Flows workers [] [] []
flows_none workers = record { accepted = λ queue. refl; taken = λ queue. refl; done = λ queue. refl; back = λ queue. refl; free = λ queue. refl }

adds_none : (settings : Settings) (state : Frontier) → Adds settings state (no_line state) [] []
adds_none settings state = record { after = refl; flows = flows_none settings.workers }

-- ---- one line

-- nothing is said of a URL by a line that asks something else
abbrev Quiet : LineAnswer → Type 0
Quiet x = (queue : ℕ) → (accepts queue x.request x.answer ≡ None) × ((takes queue x.request x.answer ≡ None) × ((finishes queue x.request x.answer ≡ false) × (puts_back queue x.request x.answer ≡ false)))

flows_quiet : (workers : ℕ) (x : LineAnswer) → Quiet x → Flows workers (x ∷ []) [] []
flows_quiet workers x quiet = record {
  accepted = λ queue. ap (λ (o : Option (List ℕ)). cons_option o []) (quiet queue).0;
  taken = λ queue. ap (λ (o : Option (List ℕ)). cons_option o []) (quiet queue).1.0;
  done = λ queue. none_of (was_done queue x);
  back = λ queue. ap (λ (b : Bool). 0 + cond b 1 0) (quiet queue).1.1.1;
  free = λ queue. (λ i. if (quiet queue).1.1.0 i || (quiet queue).1.1.1 i then None else option_or ((quiet queue).1.0 i) None);
}
  where
    none_of : (b : Bool) → (let o : Option (List ℕ) = if b then None else None in cons_option o []) ≡ []
    none_of true = refl
    none_of false = refl

adds_quiet : (settings : Settings) (state : Frontier) (line : List ℕ) (test : Answer → Bool) → Quiet (record { request = request_for settings line; answer = (line_exchange settings state line).answer }) → Adds settings state (one_line settings line test state) [] []
adds_quiet settings state line test quiet = record { after = refl; flows = flows_quiet settings.workers (record { request = request_for settings line; answer = (line_exchange settings state line).answer }) quiet }

-- what a line with a word and the number of a queue asks
-- what is read of a line with a text is what it asks, if anything
asks_from : (P : Request → Type 0) (workers : ℕ) (suffixes : List (List ℕ)) (line : List ℕ) → IfOk (request_from workers suffixes line (at_space line)) P → IfOk (request_of workers suffixes line) P
asks_from P workers suffixes line holds = grind arith

abbrev IsRequest : Request → Request → Type 0
IsRequest request r = r ≡ request

asks_one : (settings : Settings) (line : List ℕ) (request : Request) → request_from settings.workers settings.suffixes line (at_space line) ≡ Ok request → IfOk (request_for settings line) (IsRequest request)
asks_one settings line request is = for_keeps (IsRequest request) settings line (asks_from (IsRequest request) settings.workers settings.suffixes line (subst (λ (r : Result Request RequestError). IfOk r (IsRequest request)) (sym is) refl))

small : (n : ℕ) → n < 2 ^ 32 → IsNumber 32 n (decimal n)
small n fits = number_printed 32 n (omega (arith, fits)) fits

next_asks : (settings : Settings) (queue : ℕ) → queue < 2 ^ 32 → IfOk (request_for settings (next_line queue)) (IsRequest (Next queue))
next_asks settings queue fits =
    asks_one settings (next_line queue) (Next queue)
    (ap (request_from settings.workers settings.suffixes (next_line queue)) (at_space-joined (next_line queue) (codes "next") (decimal queue) refl refl)
    ∙ ap (λ (o : Option ℕ). ok_or (option_map Next o) wrong.BadLine) (number_of_is 32 (decimal queue) queue (small queue fits)))

done_asks : (settings : Settings) (queue : ℕ) → queue < 2 ^ 32 → IfOk (request_for settings (done_line queue)) (IsRequest (Done queue))
done_asks settings queue fits =
    asks_one settings (done_line queue) (Done queue)
    (ap (request_from settings.workers settings.suffixes (done_line queue)) (at_space-joined (done_line queue) (codes "done") (decimal queue) refl refl)
    ∙ ap (λ (o : Option ℕ). ok_or (option_map Done o) wrong.BadLine) (number_of_is 32 (decimal queue) queue (small queue fits)))

end_asks : (settings : Settings) → IfOk (request_for settings end_line) (IsRequest EndSeeds)
end_asks settings = asks_one settings end_line EndSeeds refl

-- ---- lines that say nothing of a URL

ends_quietly : (state : Frontier) (r : Result Request RequestError) → IfOk r (IsRequest EndSeeds) → Quiet (record { request = r; answer = (answered state r).answer })
ends_quietly state r is queue = grind arith

closes_quietly : (r : Result Request RequestError) (answer : Answer) → says_closed answer ≡ true → Quiet (record { request = r; answer = answer })
closes_quietly r answer closed queue = grind arith

others_quietly : (state : Frontier) (why : RequestError) → Quiet (record { request = Err why; answer = (answered state (Err why)).answer })
others_quietly state why queue = grind arith

-- ---- the offer of a URL

offer_flows : (workers : ℕ) (url : List ℕ) (named there number : ℕ) → there ≡ subqueue_of url workers → Flows workers (record { request = Ok (Offer url named); answer = Replied (says.Accepted there number) } ∷ []) (url ∷ []) []
offer_flows workers url named there number is = record {
  accepted = λ queue. ap (λ q. cons_option (if nat_eq q queue then Some url else None) []) is ∙ sym (filter_on (λ u. nat_eq (subqueue_of u workers) queue) url []);
  taken = λ queue. refl;
  done = λ queue. refl;
  back = λ queue. refl;
  free = λ queue. refl;
}

abbrev queue_in : Answer → ℕ
queue_in (Replied (says.Accepted there number)) = there
queue_in _ = 0

abbrev number_in : Answer → ℕ
number_in (Replied (says.Accepted there number)) = number
number_in _ = 0

accepted_is : (answer : Answer) → is_accepted answer ≡ true → answer ≡ Replied (says.Accepted (queue_in answer) (number_in answer))
accepted_is answer accepted = grind arith

accepted_flows : (settings : Settings) (state : Frontier) (url : List ℕ) (named : ℕ) → request_for settings (offer_line url) ≡ Ok (Offer url named) → is_accepted (exchange state (Offer url named)).answer ≡ true
    → Flows settings.workers (line_answers settings state (offer_line url ∷ [])) (url ∷ []) []
accepted_flows settings state url named asks accepted =
    let answer = (exchange state (Offer url named)).answer in
    let there = queue_in answer in
    let x : LineAnswer = record { request = Ok (Offer url named); answer = Replied (says.Accepted there (number_in answer)) } in
    let is : (line_exchange settings state (offer_line url)).answer ≡ Replied (says.Accepted there (number_in answer)) = ap (λ (r : Result Request RequestError). (answered state r).answer) asks ∙ accepted_is answer accepted in
    let same : line_answers settings state (offer_line url ∷ []) ≡ x ∷ [] = (λ i. record { request = asks i; answer = is i } ∷ []) in
    let own : accepted_of there (x ∷ []) ≡ url ∷ [] = ap (λ (b : Bool). cons_option (if b then Some url else None) []) (eqb_same there) in
    let at : slice_get (accepted_of there (line_answers settings state (offer_line url ∷ []))) 0 ≡ Some url = ap (λ (asks : List LineAnswer). slice_get (accepted_of there asks) 0) same ∙ ap (λ (l : List (List ℕ)). slice_get l 0) own in
    subst (λ (asks : List LineAnswer). Flows settings.workers asks (url ∷ []) []) (sym same) (offer_flows settings.workers url named there (number_in answer) (accepted_as_assigned settings state (offer_line url ∷ []) there 0 url at))

-- ---- a URL that is done

finish_flows : (workers : ℕ) (url : List ℕ) (named left : ℕ) → named ≡ subqueue_of url workers → Flows workers (record { request = Ok (Next named); answer = Replied (says.Taken url) } ∷ record { request = Ok (Done named); answer = Replied (says.Count left) } ∷ []) [] (url ∷ [])
finish_flows workers url named left is = record {
  accepted = λ queue. refl;
  taken = λ queue. own queue;
  done = λ queue. ended (nat_eq named queue) ∙ own queue;
  back = λ queue. refl;
  free = λ queue. after (nat_eq named queue);
}
  where
    own : (queue : ℕ) → cons_option (if nat_eq named queue then Some url else None) [] ≡ in_queue workers queue (url ∷ [])
    own queue = ap (λ q. cons_option (if nat_eq q queue then Some url else None) []) is ∙ sym (filter_on (λ u. nat_eq (subqueue_of u workers) queue) url [])

    ended : (b : Bool) → cons_option (if b then option_or (if b then Some url else None) None else None) [] ≡ cons_option (if b then Some url else None) []
    ended true = refl
    ended false = refl

    after : (b : Bool) → (let busy : Option (List ℕ) = if b then Some url else None in if b || false then None else option_or None (option_or busy None)) ≡ (let o : Option (List ℕ) = None in o)
    after true = refl
    after false = refl

abbrev left_in : Answer → ℕ
left_in (Replied (says.Count left)) = left
left_in _ = 0

counted_is : (answer : Answer) → is_count answer ≡ true → answer ≡ Replied (says.Count (left_in answer))
counted_is answer counted = grind arith

abbrev url_in : Answer → List ℕ
url_in (Replied (says.Taken url)) = url
url_in _ = []

taken_as : (url : List ℕ) (answer : Answer) → takes_url url answer ≡ true → (answer ≡ Replied (says.Taken (url_in answer))) × (bytes_eq (url_in answer) url ≡ true)
taken_as url answer passes = grind arith

taken_is : (url : List ℕ) (answer : Answer) → takes_url url answer ≡ true → answer ≡ Replied (says.Taken url)
taken_is url answer passes = let as_own = taken_as url answer passes in as_own.0 ∙ ap (λ u. Replied (says.Taken u)) (same_text (url_in answer) url as_own.1)

-- a line that the frontier answered is the request that it was written as
request_is : (state : Frontier) (r : Result Request RequestError) (request : Request) (reply : Reply) → IfOk r (IsRequest request) → (answered state r).answer ≡ Replied reply → r ≡ Ok request
request_is state r request reply holds is = grind arith

finish_adds : (settings : Settings) (state : Frontier) (url : List ℕ) (queue : ℕ) → queue ≡ subqueue_of url settings.workers → queue < 2 ^ 32 → (finish_url settings url queue state).fits ≡ true → Adds settings state (finish_url settings url queue state) [] (url ∷ [])
finish_adds settings state url queue is fits passes =
    let first = request_for settings (next_line queue) in
    let taken = answered state first in
    let second = request_for settings (done_line queue) in
    let done = answered taken.state second in
    let both = and_parts (takes_url url taken.answer) (is_count done.answer) passes in
    let one = taken_is url taken.answer both.0 in
    let two = counted_is done.answer both.1 in
    let left = left_in done.answer in
    let next : first ≡ Ok (Next queue) = request_is state first (Next queue) (says.Taken url) (next_asks settings queue fits) one in
    let end : second ≡ Ok (Done queue) = request_is taken.state second (Done queue) (says.Count left) (done_asks settings queue fits) two in
    record {
      after = refl;
      flows =
          subst (λ (asks : List LineAnswer). Flows settings.workers asks [] (url ∷ []))
          (λ i. (let x : LineAnswer = record { request = sym next i; answer = sym one i } in let y : LineAnswer = record { request = sym end i; answer = sym two i } in x ∷ y ∷ []))
          (finish_flows settings.workers url queue left is);
    }

-- ---- the lines of a URL

-- the offer of a URL that fits is for this URL, or is filtered
abbrev Fitting : List ℕ → Result Request RequestError → Type 0
Fitting url r = (r ≡ Err wrong.Filtered) ⊎ ((queue : ℕ) × (r ≡ Ok (Offer url queue)))

fitting : (one : LeftOut) (more : ℕ → Frontier → Given) (url : List ℕ) (r : Result Request RequestError) (state : Frontier) → (offered_by one more url r state).fits ≡ true → Fitting url r
fitting one more url (Ok (Offer named queue)) state fits = inr (queue, ap (λ u. Ok (Offer u queue)) (same_text named url (and_parts (bytes_eq named url) (is_accepted (exchange state (Offer named queue)).answer && (more queue (exchange state (Offer named queue)).state).fits) fits).0))
fitting one more url (Ok (Next queue)) state fits = absurd (cc)
fitting one more url (Ok (Again queue)) state fits = absurd (cc)
fitting one more url (Ok (Later queue)) state fits = absurd (cc)
fitting one more url (Ok (Done queue)) state fits = absurd (cc)
fitting one more url (Ok EndSeeds) state fits = absurd (cc)
fitting one more url (Ok (Seen queue count)) state fits = absurd (cc)
fitting one more url (Ok (Stats queue)) state fits = absurd (cc)
fitting one more url (Err wrong.LineTooLong) state fits = absurd (cc)
fitting one more url (Err wrong.NotText) state fits = absurd (cc)
fitting one more url (Err wrong.BadLine) state fits = absurd (cc)
fitting one more url (Err wrong.NotUrl) state fits = absurd (cc)
fitting one more url (Err wrong.NotHttp) state fits = absurd (cc)
fitting one more url (Err wrong.Filtered) state fits = inl refl
fitting one more url (Err (wrong.Elsewhere part named)) state fits = absurd (cc)
fitting one more url (Err wrong.OtherQueue) state fits = absurd (cc)
fitting one more url (Err wrong.Sync) state fits = absurd (cc)
fitting one more url (Err (wrong.Identity text)) state fits = absurd (cc)
fitting one more url (Err wrong.NoMemory) state fits = absurd (cc)

offered_adds : (settings : Settings) (state : Frontier) (url : List ℕ) (queue : ℕ) (more : ℕ → Frontier → Given) (b v : List (List ℕ)) → request_for settings (offer_line url) ≡ Ok (Offer url queue) → is_accepted (exchange state (Offer url queue)).answer ≡ true
    → Adds settings (exchange state (Offer url queue)).state (more queue (exchange state (Offer url queue)).state) b v → Adds settings state (offered_to url more url queue state) (url ∷ b) v
offered_adds settings state url queue more b v asks accepted rest =
    let here = exchange state (Offer url queue) in
    let back = more queue here.state in
    let mid : (line_exchange settings state (offer_line url)).state ≡ here.state = ap (λ (r : Result Request RequestError). (answered state r).state) asks in
    record {
      after = rest.after ∙ ap (λ (s : Frontier). state_after settings s back.lines) (sym mid);
      flows =
          flows_both settings.workers (line_answers settings state (offer_line url ∷ [])) (line_answers settings (line_exchange settings state (offer_line url)).state back.lines) (url ∷ []) [] b v (accepted_flows settings state url queue asks accepted)
          (subst (λ (s : Frontier). Flows settings.workers (line_answers settings s back.lines) b v) (sym mid) rest.flows);
    }

-- what is kept of a URL, by what its offer asks
kept_one : (settings : Settings) (url : List ℕ) (b : Bool) → is_left_out settings url ≡ b → kept settings (url ∷ []) ≡ (if b then [] else url ∷ [])
kept_one settings url b is = filter_on (λ u. not (is_left_out settings u)) url [] ∙ ap (λ (c : Bool). cons_option (if not c then Some url else None) []) is ∙ either b
  where
    either : (c : Bool) → cons_option (if not c then Some url else None) [] ≡ (if c then [] else url ∷ [])
    either true = refl
    either false = refl

abbrev Fits32 : Settings → Type 0
Fits32 settings = (url : List ℕ) → subqueue_of url settings.workers < 2 ^ 32

-- a URL that waits adds itself, unless it is left out
waiting_adds : (settings : Settings) (state : Frontier) (url : List ℕ) → (waiting_url settings url state).fits ≡ true → Adds settings state (waiting_url settings url state) (kept settings (url ∷ [])) []
waiting_adds settings state url fits =
    let r = request_for settings (offer_line url) in
    elim (fitting (record { all = 1; unfinished = 1 }) (λ queue. no_line) url r state fits) [
      | inl filtered ↦ left filtered
      | inr x ↦ own x.0 x.1 fits
    ]
  where
    one : LeftOut
    one = record { all = 1; unfinished = 1 }

    left : request_for settings (offer_line url) ≡ Err wrong.Filtered → Adds settings state (waiting_url settings url state) (kept settings (url ∷ [])) []
    left filtered =
        subst (λ (urls : List (List ℕ)). Adds settings state (waiting_url settings url state) urls []) (sym (kept_one settings url true (ap asks_filtered filtered)))
        (subst (λ (r : Result Request RequestError). Adds settings state (offered_by one (λ queue. no_line) url r state) [] []) (sym filtered) (record { after = refl; flows = flows_none settings.workers }))

    own : (queue : ℕ) → request_for settings (offer_line url) ≡ Ok (Offer url queue) → (waiting_url settings url state).fits ≡ true → Adds settings state (waiting_url settings url state) (kept settings (url ∷ [])) []
    own queue asks fits =
        let here = exchange state (Offer url queue) in
        let fits_so : (offered_to url (λ queue. no_line) url queue state).fits ≡ true = ap (λ (r : Result Request RequestError). (offered_by one (λ queue. no_line) url r state).fits) (sym asks) ∙ fits in
        let accepted = (and_parts (is_accepted here.answer) true (and_parts (bytes_eq url url) (is_accepted here.answer && true) fits_so).1).0 in
        subst (λ (urls : List (List ℕ)). Adds settings state (waiting_url settings url state) urls []) (sym (kept_one settings url false (ap asks_filtered asks)))
        (subst (λ (r : Result Request RequestError). Adds settings state (offered_by one (λ queue. no_line) url r state) (url ∷ []) []) (sym asks)
        (offered_adds settings state url queue (λ queue. no_line) [] [] asks accepted (adds_none settings here.state)))

-- likewise for a URL that is done, which is then also taken and done
done_adds : (settings : Settings) (state : Frontier) (url : List ℕ) → Fits32 settings → (done_url settings url state).fits ≡ true → Adds settings state (done_url settings url state) (kept settings (url ∷ [])) (kept settings (url ∷ []))
done_adds settings state url small_queues fits =
    let r = request_for settings (offer_line url) in
    elim (fitting (record { all = 1; unfinished = 0 }) (finish_url settings url) url r state fits) [
      | inl filtered ↦ left filtered
      | inr x ↦ own x.0 x.1 fits
    ]
  where
    one : LeftOut
    one = record { all = 1; unfinished = 0 }

    left : request_for settings (offer_line url) ≡ Err wrong.Filtered → Adds settings state (done_url settings url state) (kept settings (url ∷ [])) (kept settings (url ∷ []))
    left filtered =
        subst (λ (urls : List (List ℕ)). Adds settings state (done_url settings url state) urls urls) (sym (kept_one settings url true (ap asks_filtered filtered)))
        (subst (λ (r : Result Request RequestError). Adds settings state (offered_by one (finish_url settings url) url r state) [] []) (sym filtered) (record { after = refl; flows = flows_none settings.workers }))

    own : (queue : ℕ) → request_for settings (offer_line url) ≡ Ok (Offer url queue) → (done_url settings url state).fits ≡ true → Adds settings state (done_url settings url state) (kept settings (url ∷ [])) (kept settings (url ∷ []))
    own queue asks fits =
        let here = exchange state (Offer url queue) in
        let rest = finish_url settings url queue here.state in
        let fits_so : (offered_to url (finish_url settings url) url queue state).fits ≡ true = ap (λ (r : Result Request RequestError). (offered_by one (finish_url settings url) url r state).fits) (sym asks) ∙ fits in
        let both = and_parts (is_accepted here.answer) rest.fits (and_parts (bytes_eq url url) (is_accepted here.answer && rest.fits) fits_so).1 in
        let assigned : queue ≡ subqueue_of url settings.workers = subst (λ (r : Result Request RequestError). IfOk r (IsAssigned settings.workers)) asks (assigns_for settings (offer_line url)) in
        subst (λ (urls : List (List ℕ)). Adds settings state (done_url settings url state) urls urls) (sym (kept_one settings url false (ap asks_filtered asks)))
        (subst (λ (r : Result Request RequestError). Adds settings state (offered_by one (finish_url settings url) url r state) (url ∷ []) (url ∷ [])) (sym asks)
        (offered_adds settings state url queue (finish_url settings url) [] (url ∷ []) asks both.0 (finish_adds settings here.state url queue assigned (subst (λ q. q < 2 ^ 32) (sym assigned) (small_queues url)) both.1)))

-- ---- URLs, one after another

kept_cons : (settings : Settings) (url : List ℕ) (more : List (List ℕ)) → kept settings (url ∷ []) ++ kept settings more ≡ kept settings (url ∷ more)
kept_cons settings url more = sym (filter-append (λ u. not (is_left_out settings u)) (url ∷ []) more)

each_waiting : (settings : Settings) (state : Frontier) (urls : List (List ℕ)) → (each_url (waiting_url settings) urls state).fits ≡ true → Adds settings state (each_url (waiting_url settings) urls state) (kept settings urls) []
each_waiting settings state [] fits = adds_none settings state
each_waiting settings state (url ∷ more) fits =
    let first = waiting_url settings url state in
    let both = and_parts first.fits (each_url (waiting_url settings) more first.state).fits fits in
    subst (λ (urls : List (List ℕ)). Adds settings state (each_url (waiting_url settings) (url ∷ more) state) urls []) (kept_cons settings url more)
    (adds_both settings state first (each_url (waiting_url settings) more) (kept settings (url ∷ [])) [] (kept settings more) [] (waiting_adds settings state url both.0) (each_waiting settings first.state more both.1))

each_done : (settings : Settings) (state : Frontier) (urls : List (List ℕ)) → Fits32 settings → (each_url (done_url settings) urls state).fits ≡ true → Adds settings state (each_url (done_url settings) urls state) (kept settings urls) (kept settings urls)
each_done settings state [] small_queues fits = adds_none settings state
each_done settings state (url ∷ more) small_queues fits =
    let first = done_url settings url state in
    let both = and_parts first.fits (each_url (done_url settings) more first.state).fits fits in
    subst (λ (urls : List (List ℕ)). Adds settings state (each_url (done_url settings) (url ∷ more) state) urls urls) (kept_cons settings url more)
    (adds_both settings state first (each_url (done_url settings) more) (kept settings (url ∷ [])) (kept settings (url ∷ [])) (kept settings more) (kept settings more) (done_adds settings state url small_queues both.0) (each_done settings first.state more small_queues both.1))

-- the offer of a URL of another part says nothing of a queue
others : (url : List ℕ) (r : Result Request RequestError) (state : Frontier) → (other_by url r state).fits ≡ true → (r ≡ Err wrong.Filtered) ⊎ ((part : ℕ) × (r ≡ Err (wrong.Elsewhere part url)))
others url (Ok (Offer named queue)) state fits = absurd (cc)
others url (Ok (Next queue)) state fits = absurd (cc)
others url (Ok (Again queue)) state fits = absurd (cc)
others url (Ok (Later queue)) state fits = absurd (cc)
others url (Ok (Done queue)) state fits = absurd (cc)
others url (Ok EndSeeds) state fits = absurd (cc)
others url (Ok (Seen queue count)) state fits = absurd (cc)
others url (Ok (Stats queue)) state fits = absurd (cc)
others url (Err wrong.LineTooLong) state fits = absurd (cc)
others url (Err wrong.NotText) state fits = absurd (cc)
others url (Err wrong.BadLine) state fits = absurd (cc)
others url (Err wrong.NotUrl) state fits = absurd (cc)
others url (Err wrong.NotHttp) state fits = absurd (cc)
others url (Err wrong.Filtered) state fits = inl refl
others url (Err (wrong.Elsewhere part named)) state fits = inr (part, ap (λ u. Err (wrong.Elsewhere part u)) (same_text named url fits))
others url (Err wrong.OtherQueue) state fits = absurd (cc)
others url (Err wrong.Sync) state fits = absurd (cc)
others url (Err (wrong.Identity text)) state fits = absurd (cc)
others url (Err wrong.NoMemory) state fits = absurd (cc)

other_adds : (settings : Settings) (state : Frontier) (url : List ℕ) → (other_url settings url state).fits ≡ true → Adds settings state (other_url settings url state) [] []
other_adds settings state url fits =
    elim (others url (request_for settings (offer_line url)) state fits) [
      | inl filtered ↦ subst (λ (r : Result Request RequestError). Adds settings state (other_by url r state) [] []) (sym filtered) (record { after = refl; flows = flows_none settings.workers })
      | inr x ↦ there x.0 x.1
    ]
  where
    there : (part : ℕ) → request_for settings (offer_line url) ≡ Err (wrong.Elsewhere part url) → Adds settings state (other_url settings url state) [] []
    there part asks =
        let line = offer_line url in
        let quiet : Quiet (record { request = request_for settings line; answer = (line_exchange settings state line).answer }) = subst (λ (r : Result Request RequestError). Quiet (record { request = r; answer = (answered state r).answer })) (sym asks) (others_quietly state (wrong.Elsewhere part url)) in
        let flows = flows_quiet settings.workers (record { request = request_for settings line; answer = (line_exchange settings state line).answer }) quiet in
        let after : state ≡ state_after settings state (line ∷ []) = sym (ap (λ (r : Result Request RequestError). (answered state r).state) asks) in
        let fits_so = ap (λ (r : Result Request RequestError). other_by url r state) asks in
        subst (λ (g : Given). Adds settings state g [] []) (sym fits_so) (record { after = after; flows = flows })

each_other : (settings : Settings) (state : Frontier) (urls : List (List ℕ)) → (each_url (other_url settings) urls state).fits ≡ true → Adds settings state (each_url (other_url settings) urls state) [] []
each_other settings state [] fits = adds_none settings state
each_other settings state (url ∷ more) fits =
    let first = other_url settings url state in
    let both = and_parts first.fits (each_url (other_url settings) more first.state).fits fits in
    adds_both settings state first (each_url (other_url settings) more) [] [] [] [] (other_adds settings state url both.0) (each_other settings first.state more both.1)

-- ---- all lines

end_adds : (settings : Settings) (is : Bool) (state : Frontier) → Adds settings state (line_if is settings end_line is_count state) [] []
end_adds settings true state = adds_quiet settings state end_line is_count (ends_quietly state (request_for settings end_line) (end_asks settings))
end_adds settings false state = adds_none settings state

close_adds : (settings : Settings) (is : Bool) (queue : ℕ) (state : Frontier) → (line_if is settings (next_line queue) says_closed state).fits ≡ true → Adds settings state (line_if is settings (next_line queue) says_closed state) [] []
close_adds settings true queue state fits = adds_quiet settings state (next_line queue) says_closed (closes_quietly (request_for settings (next_line queue)) (line_exchange settings state (next_line queue)).answer fits)
close_adds settings false queue state fits = adds_none settings state

-- the URLs that NEW accepts, and those of them that are done
abbrev pub all_kept : Settings → Inventory → List (List ℕ)
all_kept settings had = (kept settings had.done ++ (kept settings had.in_progress ++ kept settings (by_turns had.pending))) ++ []

abbrev pub done_kept : Settings → Inventory → List (List ℕ)
done_kept settings had = (kept settings had.done ++ []) ++ []

pub rebuilt_adds : (settings : Settings) (queue : ℕ) (had : Inventory) (state : Frontier) → Fits32 settings → (rebuilt settings queue had state).fits ≡ true → Adds settings state (rebuilt settings queue had state) (all_kept settings had) (done_kept settings had)
rebuilt_adds settings queue had state small_queues fits =
    let ends = line_if had.ended settings end_line is_count state in
    let done = ended_urls settings had state in
    let waits = unfinished_urls settings had done.state in
    let busy = each_url (waiting_url settings) had.in_progress done.state in
    let last = closing settings queue had waits.state in
    let others = each_url (other_url settings) had.elsewhere waits.state in
    let outer = and_parts (done.fits && waits.fits) last.fits fits in
    let inner = and_parts done.fits waits.fits outer.0 in
    let first = and_parts ends.fits (each_url (done_url settings) had.done ends.state).fits inner.0 in
    let second = and_parts busy.fits (each_url (waiting_url settings) (by_turns had.pending) busy.state).fits inner.1 in
    let third = and_parts others.fits (line_if had.closed settings (next_line queue) says_closed others.state).fits outer.1 in
    adds_both settings state (then_give done (unfinished_urls settings had)) (closing settings queue had) (kept settings had.done ++ (kept settings had.in_progress ++ kept settings (by_turns had.pending))) (kept settings had.done ++ []) [] []
    (adds_both settings state done (unfinished_urls settings had) (kept settings had.done) (kept settings had.done) (kept settings had.in_progress ++ kept settings (by_turns had.pending)) []
    (adds_both settings state ends (each_url (done_url settings) had.done) [] [] (kept settings had.done) (kept settings had.done) (end_adds settings had.ended state) (each_done settings ends.state had.done small_queues first.1))
    (adds_both settings done.state busy (each_url (waiting_url settings) (by_turns had.pending)) (kept settings had.in_progress) [] (kept settings (by_turns had.pending)) [] (each_waiting settings done.state had.in_progress second.0) (each_waiting settings busy.state (by_turns had.pending) second.1)))
    (adds_both settings waits.state others (line_if had.closed settings (next_line queue) says_closed) [] [] [] [] (each_other settings waits.state had.elsewhere third.0) (close_adds settings had.closed queue others.state third.1))
