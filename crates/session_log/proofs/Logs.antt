-- Buffers, compactions and lists in turns, and sessions that break off.
use Rattle.session_log.proofs.Prelude.{◌≡◌, ℕ, ◌+◌, ◌-◌, ◌≤◌, Bool, true, List, [], ◌∷◌, ◌++◌, append-nil, append_assoc, Option, None, Some, drop, take, slice_range, refl, sym, ap, subst, ◌∙◌, arith, Appends-nil, Appends-trans, drop-take, drop-drop, IsBreak}
use Rattle.std.proofs.lemmas.Grind.{flat_map-append}
use Rattle.std.proofs.lemmas.List.Folds.{concat-append}
use Rattle.std.specs.Io.KnownBytes.{Appends}
use Rattle.std.specs.List.{concat}
use Rattle.std.specs.declared.hash.DefaultHasher.{DefaultHasher}
use Rattle.crawl_session.specs.Compacting.{Compacts, Had, had_none, log_line, log_text, needed}
use Rattle.crawl_session.specs.Frontiers.{Frontier, Shows, start}
use Rattle.crawl_session.specs.Listing.{Listed, Lists, done_in, in_progress_below, list_text, pending_below, stats_in}
use Rattle.crawl_session.specs.Seen.{seen_lines}
use Rattle.crawl_session.specs.Sessions.{state_after}
use Rattle.crawl_session.specs.Settings.{Settings, SessionView}
use Rattle.crawl_session.specs.declared.list.ListForm.{ListForm}
use Rattle.crawl_session.specs.declared.serving.ServeError.{ServeError}
use Rattle.crawl_session.proofs.Compacted.{compacts_both}
use Rattle.crawl_session.proofs.Listed.{done_after}
use Rattle.crawl_session.proofs.Listing.{done_both}
use Rattle.crawl_session.proofs.SumLaws.{checked_after-append, hash_after, wrong_after-append}
use Rattle.crawl_session.proofs.SumLines.{write_append, write_nil}
use Rattle.crawl_session.specs.Sums.{Checked, checked_after, unchecked, wrong_after}
use Rattle.session_log.specs.Compaction.{Compacted, Gained, IsCompacted, Summing, framed_pieces}
use Rattle.session_log.specs.Lists.{IsBegun, IsListed, ListsLines, ListsLog, listed_of}
use Rattle.session_log.specs.LogFile.{IsRightSum, error_of_break, framed, sum_with}
use Rattle.session_log.specs.Plans.{queues_of}
use Rattle.session_log.specs.declared.error.AppendError.{AppendError}
use Rattle.session_log.specs.declared.error.AppendError.TheVariants as append
use Rattle.session_log.specs.declared.listing.ListKind.TheVariants as kinds
use Rattle.session_log.specs.declared.listing.ListPlan.{ListPlan}

-- a buffer of which some bytes are handed on
pub consumed : (xs : List ℕ) (from to count : ℕ) → from + count ≤ to → slice_range xs (from + count) to ≡ drop count (slice_range xs from to)
consumed xs from to count inside =
    let parts : to - from ≡ count + (to - (from + count)) = omega arith in
    sym (ap (λ j. drop count (take j (drop from xs))) parts ∙ drop-take count _ (drop from xs) ∙ ap (take (to - (from + count))) (drop-drop count from xs))

-- ---- checksums

-- a log that was checked up to some point, and no checksum was wrong
pub record Checks (check : Checked) : Type 0 where
  pub lines : List (List ℕ)
  pub right : wrong_after unchecked lines ≡ None
  pub same : check ≡ checked_after unchecked lines

pub checks_none : Checks unchecked
checks_none = record { lines = []; right = refl; same = refl }

pub checks_more : (old new : Checked) (more : List (List ℕ)) → Checks old → None ≡ wrong_after old more → new ≡ checked_after old more → Checks new
checks_more old new more front right same = record {
  lines = front.lines ++ more;
  right = wrong_after-append unchecked front.lines more front.right ∙ ap (λ c. wrong_after c more) (sym front.same) ∙ sym right;
  same = same ∙ ap (λ c. checked_after c more) front.same ∙ sym (checked_after-append unchecked front.lines more);
}

pub right_sum : (check : Checked) → Checks check → IsRightSum check.hash
right_sum check front = (front.lines, (front.right, ap (λ c. c.hash) front.same ∙ hash_after unchecked front.lines))

-- ---- compactions

sum_nil : (sum : Option DefaultHasher) → sum ≡ sum_with sum []
sum_nil None = refl
sum_nil (Some hash) = ap (λ h. Some h) (sym (write_nil hash))

sum_append : (sum : Option DefaultHasher) (front back : List ℕ) → sum_with sum (front ++ back) ≡ sum_with (sum_with sum front) back
sum_append None front back = refl
sum_append (Some hash) front back = ap (λ h. Some h) (write_append hash front back)

pieces-append : (sum : Option DefaultHasher) (ps qs : List (List ℕ)) → framed_pieces sum (ps ++ qs) ≡ framed_pieces sum ps ++ framed_pieces (sum_with sum (framed_pieces sum ps)) qs
pieces-append sum [] qs = ap (λ s. framed_pieces s qs) (sum_nil sum)
pieces-append sum (piece ∷ ps) qs =
    let text = framed sum true piece in
    let more = framed_pieces (sum_with sum text) ps in
    ap (λ l. text ++ l) (pieces-append (sum_with sum text) ps qs)
    ∙ sym (append_assoc text more (framed_pieces (sum_with (sum_with sum text) more) qs))
    ∙ ap (λ s. (text ++ more) ++ framed_pieces s qs) (sym (sum_append sum text more))

pub gained_both : (ps qs : List (List ℕ)) (old mid new : Summing) → Gained ps old mid → Gained qs mid new → Gained (ps ++ qs) old new
gained_both ps qs old mid new one two =
    let first = framed_pieces old.sum ps in
    let parts : framed_pieces old.sum (ps ++ qs) ≡ first ++ framed_pieces mid.sum qs = pieces-append old.sum ps qs ∙ ap (λ s. first ++ framed_pieces s qs) (sym one.sum) in
    record {
      gained = subst (λ t. Appends old.contents new.contents t) (sym parts) (Appends-trans old.contents mid.contents new.contents first (framed_pieces mid.sum qs) one.gained two.gained);
      sum = two.sum ∙ ap (λ s. sum_with s (framed_pieces mid.sum qs)) one.sum ∙ sym (ap (sum_with old.sum) parts ∙ sum_append old.sum first (framed_pieces mid.sum qs));
    }

-- what a compaction did, and more of it
pub compacted_more : (had : Had) (old : SessionView) (next : Had) (mid : SessionView) (last : Had) (new : SessionView) (out_old out_mid out_new : Summing) → Compacted had old next mid out_old out_mid → Compacted next mid last new out_mid out_new → Compacted had old last new out_old out_new
compacted_more had old next mid last new out_old out_mid out_new one two = record {
  requests = one.requests ++ two.requests;
  pieces = one.pieces ++ two.pieces;
  gained = gained_both one.pieces two.pieces out_old out_mid out_new one.gained two.gained;
  compacts = subst (λ t. Compacts had old (one.requests ++ two.requests) t last new) (sym (concat-append one.pieces two.pieces)) (compacts_both had old one.requests (concat one.pieces) next mid two.requests (concat two.pieces) last new one.compacts two.compacts);
}

-- a piece that was appended
pub gained_one : (piece : List ℕ) (old new : Summing) → Appends old.contents new.contents (framed old.sum true piece) → new.sum ≡ sum_with old.sum (framed old.sum true piece) → Gained (piece ∷ []) old new
gained_one piece old new gained sum =
    let text = framed old.sum true piece in
    record {
      gained = subst (λ t. Appends old.contents new.contents t) (sym (append-nil text)) gained;
      sum = sum ∙ ap (sum_with old.sum) (sym (append-nil text));
    }

pub gained_none : (out : Summing) → Gained [] out out
gained_none out = record { gained = Appends-nil out.contents; sum = sum_nil out.sum }

-- no line was given yet
pub compacted_none : (had : Had) (session : SessionView) (out : Summing) → Compacted had session had session out out
compacted_none had session out = record { requests = []; pieces = []; gained = gained_none out; compacts = record { settings = refl; comes = λ state shown. (refl, (refl, shown)) } }

-- the lines of some bytes were given to a session, and those that are needed were appended
pub compacted_piece : (had : Had) (old : SessionView) (requests : List (List ℕ)) (front piece text : List ℕ) (next : Had) (new : SessionView) (out_old out_new : Summing) → front ≡ [] → piece ≡ front ++ text → Compacts had old requests text next new → Gained (piece ∷ []) out_old out_new → Compacted had old next new out_old out_new
compacted_piece had old requests front piece text next new out_old out_new none whole compacts gained = record {
  requests = requests;
  pieces = piece ∷ [];
  gained = gained;
  compacts = subst (λ t. Compacts had old requests t next new) (sym (whole ∙ ap (λ l. l ++ text) none) ∙ sym (append-nil piece)) compacts;
}

-- what a writer gained, of which the text is known
pub gained_text : (front piece text : List ℕ) (old new : Summing) → front ≡ [] → piece ≡ front ++ text → Gained (piece ∷ []) old new → Gained (text ∷ []) old new
gained_text front piece text old new none whole gained = subst (λ p. Gained (p ∷ []) old new) (whole ∙ ap (λ l. l ++ text) none) gained

-- after the lines that are needed, those that keep the numbers of `seen` were appended
pub compacted_whole : (had : Had) (old : SessionView) (next : Had) (mid : SessionView) (out_old out_mid out_new : Summing) → had ≡ had_none → Compacted had old next mid out_old out_mid → Gained (log_text (seen_lines 0 mid.core.seen) ∷ []) out_mid out_new → IsCompacted old [] out_old.sum out_old.contents out_new.contents
compacted_whole had old next mid out_old out_mid out_new none begun last =
    let one : Compacted had_none old next mid out_old out_mid = subst (λ h. Compacted h old next mid out_old out_mid) none begun in
    let text = log_text (seen_lines 0 mid.core.seen) in
    record {
      requests = one.requests;
      pieces = one.pieces ++ text ∷ [];
      gained = (gained_both one.pieces (text ∷ []) out_old out_mid out_new one.gained last).gained;
      shortest = λ state shown.
          let done = one.compacts.comes state shown in
          let front = needed old.settings had_none state one.requests in
          concat-append one.pieces (text ∷ [])
          ∙ ap (λ l. concat one.pieces ++ l) (append-nil text)
          ∙ ap (λ l. l ++ text) done.0
          ∙ ap (λ seen. log_text front ++ log_text (seen_lines 0 seen)) done.1.1.seen
          ∙ sym (flat_map-append log_line front (seen_lines 0 (state_after old.settings state one.requests).seen));
    }

-- the first line was appended, and then the other lines
pub compacted_first : (session : SessionView) (first : List ℕ) (old mid new : Summing) → Gained (first ∷ []) old mid → IsCompacted session [] mid.sum mid.contents new.contents → IsCompacted session (first ∷ []) old.sum old.contents new.contents
compacted_first session first old mid new one two = record {
  requests = two.requests;
  pieces = two.pieces;
  gained =
      let text = framed_pieces old.sum (first ∷ []) in
      let parts : framed_pieces old.sum (first ∷ two.pieces) ≡ text ++ framed_pieces mid.sum two.pieces = pieces-append old.sum (first ∷ []) two.pieces ∙ ap (λ s. text ++ framed_pieces s two.pieces) (sym one.sum) in
      subst (λ t. Appends old.contents new.contents t) (sym parts) (Appends-trans old.contents mid.contents new.contents text (framed_pieces mid.sum two.pieces) one.gained two.gained);
  shortest = two.shortest;
}

-- a session that breaks off
pub is_break : (failure : Option AppendError) (why : ServeError) → IsBreak (error_of_break failure why)
is_break None why = tt
is_break (Some append.CannotWrite) why = tt
is_break (Some append.Changed) why = tt
is_break (Some append.NoMemory) why = tt

-- ---- lists

-- no line was given
pub lists_none : (form : ListForm) (session : SessionView) (out : Option (List ℕ)) → ListsLines form session out out session
lists_none form session out = ([], record { text = []; written = Appends-nil out; settings = refl; comes = λ state shown. (refl, shown) })

-- more lines were given
pub lists_more : (form : ListForm) (old mid new : SessionView) (out_old out_mid out_new : Option (List ℕ)) (back : List (List ℕ)) → ListsLines form old out_old out_mid mid → Lists form (done_in mid.settings back) mid out_mid out_new new → ListsLines form old out_old out_new new
lists_more form old mid new out_old out_mid out_new back front one = (front.0 ++ back, done_both form old mid new out_old out_mid out_new front.0 back front.1 one)

-- what the lines end
pub lists_done : (form : ListForm) (old new : SessionView) (text : List ℕ) → ListsLines form old (Some []) (Some text) new → ListsLog kinds.Done form old text
lists_done form old new text given = record { requests = given.0; listed = λ state shown. given.1.written ∙ (given.1.comes state shown).0 }

-- what a list of the session after them has
lists_after : (form : ListForm) (list : ℕ → Frontier → Listed) (old mid new : SessionView) (out_old out_mid : Option (List ℕ)) (text : List ℕ) (given : ListsLines form old out_old out_mid mid) → Lists form (list mid.settings.workers) mid (Some []) (Some text) new
    → (state : Frontier) → Shows old.core state → text ≡ list_text form (list old.settings.workers (state_after old.settings state given.0)).rows
lists_after form list old mid new out_old out_mid text given one state shown =
    let after : Shows mid.core (state_after old.settings state given.0) = subst (λ s. Shows mid.core s) (done_after old.settings given.0 state) (given.1.comes state shown).1 in
    one.written ∙ (one.comes (state_after old.settings state given.0) after).0 ∙ ap (λ (settings : Settings). list_text form (list settings.workers (state_after old.settings state given.0)).rows) given.1.settings

pub lists_pending : (form : ListForm) (old mid new : SessionView) (out_old out_mid : Option (List ℕ)) (text : List ℕ) → ListsLines form old out_old out_mid mid → Lists form (pending_below mid.settings.workers) mid (Some []) (Some text) new → ListsLog kinds.Pending form old text
lists_pending form old mid new out_old out_mid text given one = record { requests = given.0; listed = lists_after form pending_below old mid new out_old out_mid text given one }

pub lists_in_progress : (form : ListForm) (old mid new : SessionView) (out_old out_mid : Option (List ℕ)) (text : List ℕ) → ListsLines form old out_old out_mid mid → Lists form (in_progress_below mid.settings.workers) mid (Some []) (Some text) new
    → ListsLog kinds.InProgress form old text
lists_in_progress form old mid new out_old out_mid text given one = record { requests = given.0; listed = lists_after form in_progress_below old mid new out_old out_mid text given one }

pub lists_stats : (form : ListForm) (old mid new : SessionView) (out_old out_mid : Option (List ℕ)) (text : List ℕ) → ListsLines form old out_old out_mid mid → Lists form (stats_in form mid.settings.workers) mid (Some []) (Some text) new → ListsLog kinds.Stats form old text
lists_stats form old mid new out_old out_mid text given one = record { requests = given.0; listed = lists_after form (stats_in form) old mid new out_old out_mid text given one }

-- the list of a session that begins with the first line of a log
pub lists_of_line : (plan : ListPlan) (line : List ℕ) (sums : Bool) (session : SessionView) (text : List ℕ) → IsBegun line sums session → ListsLog plan.kind plan.form session text → IsListed plan text
lists_of_line plan line sums session text begun lists = record {
  line = line;
  sums = sums;
  own = begun.own;
  filter = begun.filter;
  identity = begun.identity;
  first = begun.first;
  requests = lists.requests;
  listed =
      lists.listed (start (queues_of begun.own) begun.own.max) begun.start
      ∙ ap (λ settings. list_text plan.form (listed_of plan.kind plan.form settings lists.requests (start (queues_of begun.own) begun.own.max)).rows) begun.settings;
}
