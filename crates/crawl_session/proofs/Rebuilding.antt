-- An old session's lines are read one after another, and the lines of a new session are written one after another.
use Rattle.crawl_session.proofs.Prelude.{◌≡◌, ℕ, zero, suc, ◌+◌, ◌≤◌, ◌<◌, ◌&&◌, ◌||◌, Bool, true, false, take, drop, take-append-drop, inl, inr, List, [], ◌∷◌, ◌++◌, length, Option, Some, None, Result, Ok, Err, IfOk, bytes_eq, bytes_eq-Decides, refl, sym, ap, subst, ◌∙◌, arith, append_assoc, append-nil, cons_option, option_to_list, slice_get, filter_map-append, flat_map-append, Answer, Appends-nil, Appends-trans, Row, Frontier, Listed, done_by, done_in, each_below, pending_at, Request, RequestError, Offer, exchange, request_for, says_closed, Settings, SessionView}
use Rattle.std.specs.Prelude.{max}
use Rattle.std.proofs.lemmas.Bool.{cases_lt}
use Rattle.crawl_session.specs.declared.rebuild.LeftOut.{LeftOut}
use Rattle.crawl_session.specs.declared.rebuild.RebuildError.{RebuildError}
use Rattle.crawl_session.specs.declared.request.RequestError.TheVariants as wrong
use Rattle.crawl_session.specs.Frontiers.{Shows}
use Rattle.crawl_session.specs.Listing.{Gives, is_count}
use Rattle.crawl_session.specs.Rebuilding.{Collects, CollectsQueues, Given, Inventory, IsFull, IsRefused, Offers, ReadsLine, ReadsLines, Copies, Writes, by_turns, closing, done_line, done_url, each_url, end_line, ended_urls, finish_url, is_accepted, leaves_out, line_if, lines_text, longest, next_line, no_line, none_left_out, offer_line, offered, offered_by, offered_to, one_line, other_by, other_url, plus, queues_below, rebuilt, row_url, takes_url, then_give, turn, turns_below, unfinished_urls, unless_empty, urls_in, waiting_url, with_line, with_lines}

-- ---- lines that are read

done_append : (settings : Settings) (front back : List (List ℕ)) (state : Frontier) → (done_in settings back (done_in settings front state).state).state ≡ (done_in settings (front ++ back) state).state
done_append settings [] back state = refl
done_append settings (first ∷ more) back state = done_append settings more back (done_by settings first state).state

with_append : (settings : Settings) (state : Frontier) (had : Inventory) (front back : List (List ℕ))
    → with_lines settings (done_in settings front state).state (with_lines settings state had front) back ≡ with_lines settings state had (front ++ back)
with_append settings state had [] back = refl
with_append settings state had (first ∷ more) back = with_append settings (done_by settings first state).state (with_line settings state had first) more back

-- more lines were read
pub reads_both : (had : Inventory) (old : SessionView) (front : List (List ℕ)) (next : Inventory) (mid : SessionView) (back : List (List ℕ)) (last : Inventory) (new : SessionView)
    → ReadsLines had old front next mid → ReadsLines next mid back last new → ReadsLines had old (front ++ back) last new
reads_both had old front next mid back last new one two = grind (arith, done_append, with_append)

-- the first of all lines were read
abbrev pub ReadsFront : Inventory → SessionView → List (List ℕ) → List (List ℕ) → Inventory → SessionView → Type 0
ReadsFront had old all rest next mid = (front : List (List ℕ)) × (all ≡ front ++ rest) × ReadsLines had old front next mid

reads_more : (had : Inventory) (old : SessionView) (front : List (List ℕ)) (next : Inventory) (mid : SessionView) (line : List ℕ) (last : Inventory) (new : SessionView)
    → ReadsLines had old front next mid → ReadsLine next mid line last new → ReadsLines had old (front ++ line ∷ []) last new
reads_more had old front next mid line last new so_far one = reads_both had old front next mid (line ∷ []) last new so_far (record { settings = one.settings; comes = one.comes })

pub front_more : (had : Inventory) (old : SessionView) (all rest : List (List ℕ)) (next : Inventory) (mid : SessionView) (line : List ℕ) (more : List (List ℕ)) (last : Inventory) (new : SessionView)
    → ReadsFront had old all rest next mid → rest ≡ line ∷ more → ReadsLine next mid line last new → ReadsFront had old all more last new
front_more had old all rest next mid line more last new so_far cut one = (
  so_far.0 ++ line ∷ [],
  so_far.1 ∙ ap (λ l. so_far.0 ++ l) cut ∙ sym (append_assoc so_far.0 (line ∷ []) more),
  reads_more had old so_far.0 next mid line last new so_far.2 one,
)

-- ---- URLs that are collected

-- those of one number more
pub collects_more : (one : Frontier → ℕ → Listed) (n : ℕ) (old mid new : SessionView) (front more : List (List ℕ)) → Collects (each_below one n) old front mid → Collects (λ state. one state n) mid more new → Collects (each_below one (n + 1)) old (front ++ more) new
collects_more one n old mid new front more before here =
    let next : suc n ≡ n + 1 = omega arith in
    subst (λ m. Collects (each_below one m) old (front ++ more) new) next (record {
      settings = here.settings ∙ before.settings;
      comes = λ state shown.
          let first = before.comes state shown in
          let second = here.comes (each_below one n state).state first.1 in (
            (λ i. first.0 i ++ second.0 i) ∙ sym (filter_map-append row_url (each_below one n state).rows (one (each_below one n state).state n).rows),
            second.1,
          );
    })

-- a row more
pub collects_row : (one : Frontier → ℕ → Listed) (n : ℕ) (old mid new : SessionView) (front : List (List ℕ)) (row : Option Row) → Collects (each_below one n) old front mid → Gives (λ state. one state n) mid row new → Collects (each_below one (n + 1)) old (front ++ urls_in (option_to_list row)) new
collects_row one n old mid new front row before here =
    collects_more one n old mid new front (urls_in (option_to_list row)) before (record {
      settings = here.settings;
      comes = λ state shown. (let came = here.comes state shown in (ap urls_in came.0, came.1));
    })

pub queues_more : (n : ℕ) (old mid new : SessionView) (front : List (List (List ℕ))) (urls : List (List ℕ)) → CollectsQueues n old front mid → Collects (λ state. pending_at state n) mid urls new → CollectsQueues (n + 1) old (front ++ unless_empty urls) new
queues_more n old mid new front urls before here =
    let next : suc n ≡ n + 1 = omega arith in
    subst (λ m. CollectsQueues m old (front ++ unless_empty urls) new) next (record {
      settings = here.settings ∙ before.settings;
      comes = λ state shown.
          let first = before.comes state shown in
          let second = here.comes (queues_below n state).state first.1 in
          ((λ i. first.0 i ++ unless_empty (second.0 i)), second.1);
    })

-- ---- lines that are written

pub writes_none : (old : SessionView) (out : Option (List ℕ)) → Writes no_line old out out none_left_out old
writes_none old out = record { text = []; written = Appends-nil out; settings = refl; comes = λ state shown. (refl, (refl, (refl, shown))) }

pub writes_both : (first second : Frontier → Given) (old mid new : SessionView) (out_old out_mid out_new : Option (List ℕ)) (a b : LeftOut) → Writes first old out_old out_mid a mid → Writes second mid out_mid out_new b new
    → Writes (λ state. then_give (first state) second) old out_old out_new (plus a b) new
writes_both first second old mid new out_old out_mid out_new a b one two = record {
  text = one.text ++ two.text;
  written = Appends-trans out_old out_mid out_new one.text two.text one.written two.written;
  settings = two.settings ∙ one.settings;
  comes = λ state shown.
      let front = one.comes state shown in
      let back = two.comes (first state).state front.1.1.1 in (
        (λ i. front.0 i && back.0 i),
        (
          (λ i. front.1.0 i ++ back.1.0 i) ∙ sym (flat_map-append (λ line. line ++ 10 ∷ []) (first state).lines (second (first state).state).lines),
          ((λ i. plus (front.1.1.0 i) (back.1.1.0 i)), back.1.1.1),
        ),
      );
}

-- the same lines by another name
pub writes_as : (first second : Frontier → Given) (old new : SessionView) (out_old out_new : Option (List ℕ)) (a : LeftOut) → ((state : Frontier) → first state ≡ second state) → Writes first old out_old out_new a new → Writes second old out_old out_new a new
writes_as first second old new out_old out_new a same one = grind arith

no_line_first : (given : Frontier → Given) (state : Frontier) → then_give (no_line state) given ≡ given state
no_line_first given state = grind arith

then_assoc : (first : Given) (second third : Frontier → Given) → then_give (then_give first second) third ≡ then_give first (λ state. then_give (second state) third)
then_assoc first second third = grind (arith, append_assoc)

then_none : (given : Given) → then_give given no_line ≡ given
then_none given = grind (arith, append-nil)

pub each_append : (one : List ℕ → Frontier → Given) (front back : List (List ℕ)) (state : Frontier) → then_give (each_url one front state) (each_url one back) ≡ each_url one (front ++ back) state
each_append one [] back state = no_line_first (each_url one back) state
each_append one (url ∷ more) back state = then_assoc (one url state) (each_url one more) (each_url one back) ∙ ap (λ (given : Frontier → Given). then_give (one url state) given) (λ i mid. each_append one more back mid i)

each_one : (one : List ℕ → Frontier → Given) (url : List ℕ) (state : Frontier) → one url state ≡ each_url one (url ∷ []) state
each_one one url state = sym (then_none (one url state))

-- more URLs, one after another
pub each_both : (one : List ℕ → Frontier → Given) (front back : List (List ℕ)) (old mid new : SessionView) (out_old out_mid out_new : Option (List ℕ)) (a b : LeftOut) → Writes (each_url one front) old out_old out_mid a mid → Writes (each_url one back) mid out_mid out_new b new
    → Writes (each_url one (front ++ back)) old out_old out_new (plus a b) new
each_both one front back old mid new out_old out_mid out_new a b before here =
    writes_as (λ state. then_give (each_url one front state) (each_url one back)) (each_url one (front ++ back)) old new out_old out_new (plus a b) (each_append one front back) (writes_both (each_url one front) (each_url one back) old mid new out_old out_mid out_new a b before here)

-- more URLs, in a session with the same settings
each_more_in : (one : Settings → List ℕ → Frontier → Given) (front back : List (List ℕ)) (old mid new : SessionView) (out_old out_mid out_new : Option (List ℕ)) (a b : LeftOut) → Writes (each_url (one old.settings) front) old out_old out_mid a mid → Writes (each_url (one mid.settings) back) mid out_mid out_new b new
    → Writes (each_url (one old.settings) (front ++ back)) old out_old out_new (plus a b) new
each_more_in one front back old mid new out_old out_mid out_new a b before here =
    each_both (one old.settings) front back old mid new out_old out_mid out_new a b before (subst (λ (s : Settings). Writes (each_url (one s) back) mid out_mid out_new b new) before.settings here)

pub each_more : (one : Settings → List ℕ → Frontier → Given) (front : List (List ℕ)) (url : List ℕ) (old mid new : SessionView) (out_old out_mid out_new : Option (List ℕ)) (a b : LeftOut) → Writes (each_url (one old.settings) front) old out_old out_mid a mid → Writes (one mid.settings url) mid out_mid out_new b new
    → Writes (each_url (one old.settings) (front ++ url ∷ [])) old out_old out_new (plus a b) new
each_more one front url old mid new out_old out_mid out_new a b before here =
    each_more_in one front (url ∷ []) old mid new out_old out_mid out_new a b before (writes_as (one mid.settings url) (each_url (one mid.settings) (url ∷ [])) mid new out_mid out_new b (each_one (one mid.settings) url) here)

-- one position more
pub turns_more : (one : Settings → List ℕ → Frontier → Given) (n : ℕ) (queues : List (List (List ℕ))) (old mid new : SessionView) (out_old out_mid out_new : Option (List ℕ)) (a b : LeftOut) → Writes (each_url (one old.settings) (turns_below n queues)) old out_old out_mid a mid → Writes (each_url (one mid.settings) (turn n queues)) mid out_mid out_new b new
    → Writes (each_url (one old.settings) (turns_below (n + 1) queues)) old out_old out_new (plus a b) new
turns_more one n queues old mid new out_old out_mid out_new a b before here =
    let next : suc n ≡ n + 1 = omega arith in
    subst (λ m. Writes (each_url (one old.settings) (turns_below m queues)) old out_old out_new (plus a b) new) next (each_more_in one (turns_below n queues) (turn n queues) old mid new out_old out_mid out_new a b before here)

one_of : (o : Option (List ℕ)) → option_to_list o ≡ cons_option o []
one_of None = refl
one_of (Some u) = refl

-- one queue more
pub turn_more : (one : Settings → List ℕ → Frontier → Given) (position : ℕ) (front : List (List (List ℕ))) (queue : List (List ℕ)) (old mid new : SessionView) (out_old out_mid out_new : Option (List ℕ)) (a b : LeftOut) → Writes (each_url (one old.settings) (turn position front)) old out_old out_mid a mid
    → Writes (each_url (one mid.settings) (option_to_list (slice_get queue position))) mid out_mid out_new b new → Writes (each_url (one old.settings) (turn position (front ++ queue ∷ []))) old out_old out_new (plus a b) new
turn_more one position front queue old mid new out_old out_mid out_new a b before here =
    let same : turn position front ++ option_to_list (slice_get queue position) ≡ turn position (front ++ queue ∷ []) = ap (λ l. turn position front ++ l) (one_of (slice_get queue position)) ∙ sym (filter_map-append (λ (q : List (List ℕ)). slice_get q position) front (queue ∷ [])) in
    subst (λ l. Writes (each_url (one old.settings) l) old out_old out_new (plus a b) new) same (each_more_in one (turn position front) (option_to_list (slice_get queue position)) old mid new out_old out_mid out_new a b before here)

-- ---- one line

pub answered_line : (test : Answer → Bool) (line : List ℕ) (old : SessionView) (out_old out_new : Option (List ℕ)) (answer : Answer) (new : SessionView) → Copies old line out_old out_new answer new → test answer ≡ true → Writes (one_line old.settings line test) old out_old out_new none_left_out new
answered_line test line old out_old out_new answer new its_reply passes = record {
  text = line ++ 10 ∷ [];
  written = its_reply.written;
  settings = its_reply.serves.settings;
  comes = λ state shown.
      let came = its_reply.serves.comes state shown in
      (ap test came.0 ∙ passes, (sym (append-nil (line ++ 10 ∷ [])), (refl, came.1)));
}

-- what follows a line, in a session with the same settings
finish_both : (url : List ℕ) (queue : ℕ) (old mid new : SessionView) (out_old out_mid out_new : Option (List ℕ)) → Writes (one_line old.settings (next_line queue) (takes_url url)) old out_old out_mid none_left_out mid
    → Writes (one_line mid.settings (done_line queue) is_count) mid out_mid out_new none_left_out new → Writes (finish_url old.settings url queue) old out_old out_new none_left_out new
finish_both url queue old mid new out_old out_mid out_new before here =
    writes_both (one_line old.settings (next_line queue) (takes_url url)) (one_line old.settings (done_line queue) is_count) old mid new out_old out_mid out_new none_left_out none_left_out before
    (subst (λ (s : Settings). Writes (one_line s (done_line queue) is_count) mid out_mid out_new none_left_out new) before.settings here)

pub finish_ok : (url : List ℕ) (queue : ℕ) (old mid new : SessionView) (out_old out_mid out_new : Option (List ℕ)) (result : Result (Unit {0}) RebuildError) → Writes (one_line old.settings (next_line queue) (takes_url url)) old out_old out_mid none_left_out mid
    → IfOk result (λ _. Writes (one_line mid.settings (done_line queue) is_count) mid out_mid out_new none_left_out new) → IfOk result (λ _. Writes (finish_url old.settings url queue) old out_old out_new none_left_out new)
finish_ok url queue old mid new out_old out_mid out_new (Ok done) before here = finish_both url queue old mid new out_old out_mid out_new before here
finish_ok url queue old mid new out_old out_mid out_new (Err why) before here = tt

-- a URL that is done
pub done_more : (url : List ℕ) (queue : ℕ) (old mid new : SessionView) (out_old out_mid out_new : Option (List ℕ)) → Offers url old out_old out_mid (Some queue) mid → Writes (finish_url mid.settings url queue) mid out_mid out_new none_left_out new
    → Writes (done_url old.settings url) old out_old out_new none_left_out new
done_more url queue old mid new out_old out_mid out_new offers here =
    let settings = old.settings in
    let rest = subst (λ (s : Settings). Writes (finish_url s url queue) mid out_mid out_new none_left_out new) offers.settings here in
    let one : LeftOut = record { all = 1; unfinished = 0 } in
    let same : (state : Frontier) → offered_to url (finish_url settings url) url queue state ≡ done_url settings url state = λ state. ap (λ (r : Result Request RequestError). offered_by one (finish_url settings url) url r state) (sym offers.asks) in
    let own : bytes_eq url url ≡ true = (bytes_eq-Decides url url).1 refl in
    writes_as (offered_to url (finish_url settings url) url queue) (done_url settings url) old new out_old out_new none_left_out same (record {
      text = (offer_line url ++ 10 ∷ []) ++ rest.text;
      written = Appends-trans out_old out_mid out_new (offer_line url ++ 10 ∷ []) rest.text offers.written rest.written;
      settings = rest.settings ∙ offers.settings;
      comes = λ state shown.
          let came = offers.comes state shown in
          let back = rest.comes (exchange state (Offer url queue)).state came.1 in (
            (λ i. own i && (came.0 i && back.0 i)),
            (ap (λ l. (offer_line url ++ 10 ∷ []) ++ l) back.1.0, (back.1.1.0, back.1.1.1)),
          );
    })

-- a URL of another part that is left out
pub other_left : (url : List ℕ) (old : SessionView) (out : Option (List ℕ)) → request_for old.settings (offer_line url) ≡ Err wrong.Filtered → Writes (other_url old.settings url) old out out (record { all = 1; unfinished = 0 }) old
other_left url old out filtered = record {
  text = [];
  written = Appends-nil out;
  settings = refl;
  comes = λ state shown.
      let same : leaves_out (record { all = 1; unfinished = 0 }) state ≡ other_url old.settings url state = ap (λ (r : Result Request RequestError). other_by url r state) (sym filtered) in
      subst (λ (g : Given). (g.fits ≡ true) × (([] ≡ lines_text g.lines) × ((record { all = 1; unfinished = 0 } ≡ g.left_out) × Shows old.core g.state))) same (refl, (refl, (refl, shown)));
}

-- ---- all lines

plus_none : (a : LeftOut) → plus a none_left_out ≡ a
plus_none a = grind arith

none_plus : (a : LeftOut) → plus none_left_out a ≡ a
none_plus a = grind arith

pub ended_both : (had : Inventory) (old mid new : SessionView) (out_old out_mid out_new : Option (List ℕ)) (result : Result LeftOut RebuildError) → Writes (line_if had.ended old.settings end_line is_count) old out_old out_mid none_left_out mid
    → IfOk result (λ b. Writes (each_url (done_url mid.settings) had.done) mid out_mid out_new b new) → IfOk result (λ b. Writes (ended_urls old.settings had) old out_old out_new b new)
ended_both had old mid new out_old out_mid out_new (Ok b) before here =
    subst (λ (left : LeftOut). Writes (ended_urls old.settings had) old out_old out_new left new) (none_plus b)
    (writes_both (line_if had.ended old.settings end_line is_count) (each_url (done_url old.settings) had.done) old mid new out_old out_mid out_new none_left_out b before
    (subst (λ (s : Settings). Writes (each_url (done_url s) had.done) mid out_mid out_new b new) before.settings here))
ended_both had old mid new out_old out_mid out_new (Err why) before here = tt

pub unfinished_both : (had : Inventory) (old mid new : SessionView) (out_old out_mid out_new : Option (List ℕ)) (a b : LeftOut) → Writes (each_url (waiting_url old.settings) had.in_progress) old out_old out_mid a mid
    → Writes (each_url (waiting_url mid.settings) (by_turns had.pending)) mid out_mid out_new b new → Writes (unfinished_urls old.settings had) old out_old out_new (plus a b) new
unfinished_both had old mid new out_old out_mid out_new a b before here =
    writes_both (each_url (waiting_url old.settings) had.in_progress) (each_url (waiting_url old.settings) (by_turns had.pending)) old mid new out_old out_mid out_new a b before
    (subst (λ (s : Settings). Writes (each_url (waiting_url s) (by_turns had.pending)) mid out_mid out_new b new) before.settings here)

pub closing_both : (had : Inventory) (queue : ℕ) (old mid new : SessionView) (out_old out_mid out_new : Option (List ℕ)) (a : LeftOut) → Writes (each_url (other_url old.settings) had.elsewhere) old out_old out_mid a mid
    → Writes (line_if had.closed mid.settings (next_line queue) says_closed) mid out_mid out_new none_left_out new → Writes (closing old.settings queue had) old out_old out_new a new
closing_both had queue old mid new out_old out_mid out_new a before here =
    subst (λ (left : LeftOut). Writes (closing old.settings queue had) old out_old out_new left new) (plus_none a)
    (writes_both (each_url (other_url old.settings) had.elsewhere) (line_if had.closed old.settings (next_line queue) says_closed) old mid new out_old out_mid out_new a none_left_out before
    (subst (λ (s : Settings). Writes (line_if had.closed s (next_line queue) says_closed) mid out_mid out_new none_left_out new) before.settings here))

pub rebuilt_all : (had : Inventory) (queue : ℕ) (old mid next new : SessionView) (out_old out_mid out_next out_new : Option (List ℕ)) (a b c : LeftOut) → Writes (ended_urls old.settings had) old out_old out_mid a mid → Writes (unfinished_urls mid.settings had) mid out_mid out_next b next
    → Writes (closing next.settings queue had) next out_next out_new c new → Writes (rebuilt old.settings queue had) old out_old out_new (plus (plus a b) c) new
rebuilt_all had queue old mid next new out_old out_mid out_next out_new a b c first second third =
    let front =
    writes_both (ended_urls old.settings had) (unfinished_urls old.settings had) old mid next out_old out_mid out_next a b first
    (subst (λ (s : Settings). Writes (unfinished_urls s had) mid out_mid out_next b next) first.settings second) in
    writes_both (λ state. then_give (ended_urls old.settings had state) (unfinished_urls old.settings had)) (closing old.settings queue had) old next new out_old out_next out_new (plus a b) c front
    (subst (λ (s : Settings). Writes (closing s queue had) next out_next out_new c new) front.settings third)

-- ---- no room

true_second : (a b c : Bool) → b ≡ true → c ≡ true → (a || (b && c)) ≡ true
true_second true b c one two = refl
true_second false b c one two = λ i. one i && two i

full_first : (first second : Frontier → Given) (old : SessionView) → IsFull first old → IsFull (λ state. then_give (first state) second) old
full_first first second old full = λ state shown. ap (λ b. b || ((first state).fits && (second (first state).state).full)) (full state shown)

full_second : (first second : Frontier → Given) (old mid : SessionView) (out_old out_mid : Option (List ℕ)) (a : LeftOut) → Writes first old out_old out_mid a mid → IsFull second mid → IsFull (λ state. then_give (first state) second) old
full_second first second old mid out_old out_mid a before full = λ state shown. (let came = before.comes state shown in true_second (first state).full (first state).fits (second (first state).state).full came.0 (full (first state).state came.1.1.1))

full_as : (first second : Frontier → Given) (old : SessionView) → ((state : Frontier) → first state ≡ second state) → IsFull first old → IsFull second old
full_as first second old same full = λ state shown. sym (ap (λ (g : Given). g.full) (same state)) ∙ full state shown

full_offered : (one : LeftOut) (more : ℕ → Frontier → Given) (url : List ℕ) (old : SessionView) → IsRefused url old → IsFull (offered old.settings one more url) old
full_offered one more url old refused = λ state shown.
    let here = exchange state (Offer url refused.queue) in
    let own : bytes_eq url url ≡ true = (bytes_eq-Decides url url).1 refl in
    let full = refused.full state shown in
    subst (λ (r : Result Request RequestError). (offered_by one more url r state).full ≡ true) (sym refused.asks) (λ i. own i && (full i || (is_accepted here.answer && (more refused.queue here.state).full)))

pub full_done : (url : List ℕ) (old : SessionView) → IsRefused url old → IsFull (done_url old.settings url) old
full_done url old refused = full_offered (record { all = 1; unfinished = 0 }) (finish_url old.settings url) url old refused

pub full_waiting : (url : List ℕ) (old : SessionView) → IsRefused url old → IsFull (waiting_url old.settings url) old
full_waiting url old refused = full_offered (record { all = 1; unfinished = 1 }) (λ queue. no_line) url old refused

-- among URLs, after some of them
full_among : (one : Settings → List ℕ → Frontier → Given) (urls front here back : List (List ℕ)) (old mid : SessionView) (out_old out_mid : Option (List ℕ)) (a : LeftOut) → urls ≡ (front ++ here) ++ back → Writes (each_url (one old.settings) front) old out_old out_mid a mid
    → IsFull (each_url (one mid.settings) here) mid → IsFull (each_url (one old.settings) urls) old
full_among one urls front here back old mid out_old out_mid a parts before full =
    let each = each_url (one old.settings) in
    let now = subst (λ (s : Settings). IsFull (each_url (one s) here) mid) before.settings full in
    let both = full_as (λ state. then_give (each front state) (each here)) (each (front ++ here)) old (each_append (one old.settings) front here) (full_second (each front) (each here) old mid out_old out_mid a before now) in
    subst (λ l. IsFull (each l) old) (sym parts) (full_as (λ state. then_give (each (front ++ here) state) (each back)) (each ((front ++ here) ++ back)) old (each_append (one old.settings) (front ++ here) back) (full_first (each (front ++ here)) (each back) old both))

pub full_url : (one : Settings → List ℕ → Frontier → Given) (urls : List (List ℕ)) (i : ℕ) (url : List ℕ) (old mid : SessionView) (out_old out_mid : Option (List ℕ)) (a : LeftOut) → take (i + 1) urls ≡ take i urls ++ url ∷ [] → Writes (each_url (one old.settings) (take i urls)) old out_old out_mid a mid
    → IsFull (one mid.settings url) mid → IsFull (each_url (one old.settings) urls) old
full_url one urls i url old mid out_old out_mid a more before full =
    full_among one urls (take i urls) (url ∷ []) (drop (i + 1) urls) old mid out_old out_mid a (sym (take-append-drop (i + 1) urls) ∙ ap (λ l. l ++ drop (i + 1) urls) more) before
    (full_as (one mid.settings url) (each_url (one mid.settings) (url ∷ [])) mid (each_one (one mid.settings) url) full)

pub full_queue : (one : Settings → List ℕ → Frontier → Given) (position : ℕ) (queues : List (List (List ℕ))) (i : ℕ) (queue : List (List ℕ)) (old mid : SessionView) (out_old out_mid : Option (List ℕ)) (a : LeftOut) → take (i + 1) queues ≡ take i queues ++ queue ∷ []
    → Writes (each_url (one old.settings) (turn position (take i queues))) old out_old out_mid a mid → IsFull (each_url (one mid.settings) (option_to_list (slice_get queue position))) mid → IsFull (each_url (one old.settings) (turn position queues)) old
full_queue one position queues i queue old mid out_old out_mid a more before full =
    let at = λ (q : List (List ℕ)). slice_get q position in
    let front = take i queues in
    let back = drop (i + 1) queues in
    let parts : turn position queues ≡ (turn position front ++ option_to_list (slice_get queue position)) ++ turn position back =
    ap (turn position) (sym (take-append-drop (i + 1) queues) ∙ ap (λ l. l ++ back) more) ∙ filter_map-append at (front ++ queue ∷ []) back ∙ ap (λ l. l ++ turn position back) (filter_map-append at front (queue ∷ []) ∙ ap (λ l. turn position front ++ l) (sym (one_of (slice_get queue position)))) in
    full_among one (turn position queues) (turn position front) (option_to_list (slice_get queue position)) (turn position back) old mid out_old out_mid a parts before full

turns_rest : (n m : ℕ) (queues : List (List (List ℕ))) → n ≤ m → (rest : List (List ℕ)) × (turns_below m queues ≡ turns_below n queues ++ rest)
turns_rest n zero queues below = let none : n ≡ zero = omega (arith, below) in ([], ap (λ k. turns_below k queues) (sym none) ∙ sym (append-nil (turns_below n queues)))
turns_rest n (suc m) queues below =
    elim (cases_lt m n) [
      | inl less ↦ let all : n ≡ suc m = omega (arith, below, less) in ([], ap (λ k. turns_below k queues) (sym all) ∙ sym (append-nil (turns_below n queues)))
      | inr most ↦ let before = turns_rest n m queues most in (before.0 ++ turn m queues, ap (λ l. l ++ turn m queues) before.1 ∙ append_assoc (turns_below n queues) before.0 (turn m queues))
    ]

pub full_turn : (one : Settings → List ℕ → Frontier → Given) (n : ℕ) (queues : List (List (List ℕ))) (old mid : SessionView) (out_old out_mid : Option (List ℕ)) (a : LeftOut) → n < longest queues → Writes (each_url (one old.settings) (turns_below n queues)) old out_old out_mid a mid
    → IsFull (each_url (one mid.settings) (turn n queues)) mid → IsFull (each_url (one old.settings) (by_turns queues)) old
full_turn one n queues old mid out_old out_mid a below before full =
    let rest = turns_rest (suc n) (longest queues) queues (omega (arith, below)) in
    full_among one (by_turns queues) (turns_below n queues) (turn n queues) rest.0 old mid out_old out_mid a rest.1 before full

-- among all lines
pub ended_full : (had : Inventory) (old mid : SessionView) (out_old out_mid : Option (List ℕ)) → Writes (line_if had.ended old.settings end_line is_count) old out_old out_mid none_left_out mid → IsFull (each_url (done_url mid.settings) had.done) mid → IsFull (ended_urls old.settings had) old
ended_full had old mid out_old out_mid before full =
    full_second (line_if had.ended old.settings end_line is_count) (each_url (done_url old.settings) had.done) old mid out_old out_mid none_left_out before (subst (λ (s : Settings). IsFull (each_url (done_url s) had.done) mid) before.settings full)

pub busy_full : (had : Inventory) (old : SessionView) → IsFull (each_url (waiting_url old.settings) had.in_progress) old → IsFull (unfinished_urls old.settings had) old
busy_full had old full = full_first (each_url (waiting_url old.settings) had.in_progress) (each_url (waiting_url old.settings) (by_turns had.pending)) old full

pub pending_full : (had : Inventory) (old mid : SessionView) (out_old out_mid : Option (List ℕ)) (a : LeftOut) → Writes (each_url (waiting_url old.settings) had.in_progress) old out_old out_mid a mid → IsFull (each_url (waiting_url mid.settings) (by_turns had.pending)) mid → IsFull (unfinished_urls old.settings had) old
pending_full had old mid out_old out_mid a before full =
    full_second (each_url (waiting_url old.settings) had.in_progress) (each_url (waiting_url old.settings) (by_turns had.pending)) old mid out_old out_mid a before (subst (λ (s : Settings). IsFull (each_url (waiting_url s) (by_turns had.pending)) mid) before.settings full)

pub rebuilt_ended : (had : Inventory) (queue : ℕ) (old : SessionView) → IsFull (ended_urls old.settings had) old → IsFull (rebuilt old.settings queue had) old
rebuilt_ended had queue old full =
    full_first (λ state. then_give (ended_urls old.settings had state) (unfinished_urls old.settings had)) (closing old.settings queue had) old (full_first (ended_urls old.settings had) (unfinished_urls old.settings had) old full)

pub rebuilt_unfinished : (had : Inventory) (queue : ℕ) (old mid : SessionView) (out_old out_mid : Option (List ℕ)) (a : LeftOut) → Writes (ended_urls old.settings had) old out_old out_mid a mid → IsFull (unfinished_urls mid.settings had) mid → IsFull (rebuilt old.settings queue had) old
rebuilt_unfinished had queue old mid out_old out_mid a before full =
    full_first (λ state. then_give (ended_urls old.settings had state) (unfinished_urls old.settings had)) (closing old.settings queue had) old
    (full_second (ended_urls old.settings had) (unfinished_urls old.settings had) old mid out_old out_mid a before (subst (λ (s : Settings). IsFull (unfinished_urls s had) mid) before.settings full))

-- ---- queues

pub longest_push : (front : List (List (List ℕ))) (queue : List (List ℕ)) → longest (front ++ queue ∷ []) ≡ max (length queue) (longest front)
longest_push [] queue = refl
longest_push (first ∷ more) queue = ap (max (length first)) (longest_push more queue) ∙ swap (length first) (length queue) (longest more)
  where
    swap : (a b c : ℕ) → max a (max b c) ≡ max b (max a c)
    swap a b c = omega arith
