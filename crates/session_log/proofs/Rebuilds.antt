-- The log of other settings: what is read of the old one, the text of the new one, and its pieces.
use Rattle.session_log.proofs.Prelude.{◌≡◌, ℕ, ◌-◌, ◌≤◌, Bool, true, List, [], ◌∷◌, ◌++◌, append-nil, append_assoc, Option, None, Some, refl, sym, ap, subst, ◌∙◌, arith}
use Rattle.std.specs.Prelude.{◌*◌, ◌<◌, ◌^◌, ◌==◌, false, if◌then◌else◌, min, Ok}
use Rattle.std.proofs.Math.Nat.{min-eq_left, mul_comm}
use Rattle.std.proofs.lemmas.Nat.{mul-le}
use Rattle.std.proofs.lemmas.Bool.{eqb-true}
use Rattle.std.proofs.lemmas.List.Folds.{concat-append}
use Rattle.std.specs.Io.KnownBytes.{Appends}
use Rattle.std.specs.Option.{option_or}
use Rattle.crawl_core.specs.Limits.{queue_limit}
use Rattle.crawl_limits.specs.Limits.{AreLimits, worker_limit}
use Rattle.crawl_keys.specs.HostFilter.{filter_of}
use Rattle.crawl_session.proofs.Rebuilding.{reads_both}
use Rattle.crawl_session.specs.Frontiers.{Shows, start}
use Rattle.crawl_session.specs.Listing.{done_in}
use Rattle.crawl_session.specs.Rebuilding.{Given, Inventory, ReadsLines, ReadsUnfinished, Writes, empty, lines_text, rebuilt, with_unfinished}
use Rattle.crawl_session.specs.Settings.{Settings, SessionView}
use Rattle.crawl_session.specs.declared.part.Part.{Part}
use Rattle.crawl_session.specs.declared.rebuild.LeftOut.{LeftOut}
use Rattle.session_log.proofs.Logs.{gained_both, gained_none, gained_one}
use Rattle.session_log.specs.Compaction.{InPieces, IsRebuilt, IsRebuiltText, AreNewSettings, ReadsUrls, Summing, first_line, first_queue, fixed_apart, framed_pieces, other_queues, rebuilt_log, suffixes_of}
use Rattle.session_log.specs.LogFile.{framed, part_apart, sum_with}
use Rattle.session_log.specs.Plans.{IsPartOf, IsSessionPlan, all_queues, part_of, queues_of, settings_of}
use Rattle.session_log.specs.declared.compact_plan.NamedSettings.{NamedSettings}
use Rattle.session_log.specs.declared.error.Setting.{Setting}
use Rattle.session_log.specs.declared.error.Setting.TheVariants as other
use Rattle.session_log.specs.declared.plan.SessionPlan.{SessionPlan}

-- ---- the lines of the old log

-- some lines were read
abbrev pub Reads : SessionView → Inventory → SessionView → Type 0
Reads old had new = (requests : List (List ℕ)) × ReadsLines empty old requests had new

pub reads_none : (session : SessionView) → Reads session empty session
reads_none session = ([], record { settings = refl; comes = λ state shown. (refl, shown) })

pub reads_more : (old mid new : SessionView) (had next : Inventory) (back : List (List ℕ)) → Reads old had mid → ReadsLines had mid back next new → Reads old next new
reads_more old mid new had next back front one = (front.0 ++ back, reads_both empty old front.0 had mid back next new front.1 one)

-- and then what is not done
pub reads_urls : (old mid new : SessionView) (had next : Inventory) → Reads old had mid → ReadsUnfinished had mid next new → ReadsUrls old next
reads_urls old mid new had next front one = record {
  requests = front.0;
  urls = λ state shown.
      let after = (done_in old.settings front.0 state).state in
      let came = front.1.comes state shown in
      one.comes after came.1 ∙ (λ i. with_unfinished (front.1.settings i).workers after (came.0 i));
}

-- ---- the lines of the new log

same_settings : (s : Settings) (workers : ℕ) (suffixes : List (List ℕ)) (part : Option Part) → s.workers ≡ workers → s.suffixes ≡ suffixes → s.part ≡ part → s ≡ record { workers = workers; suffixes = suffixes; part = part }
same_settings s workers suffixes part w x p = λ i. record { workers = w i; suffixes = x i; part = p i }

-- the new session was given the lines of a log that has these URLs
pub rebuilt_text : (had : Inventory) (plan : SessionPlan) (identity : List ℕ) (filter : List (List ℕ)) (old new : SessionView) (queue : ℕ) (text : List ℕ) (left_out : LeftOut) → filter_of (suffixes_of plan.within) ≡ Ok filter → Shows old.core (start (queues_of plan) plan.max)
    → old.settings.workers ≡ queues_of plan → old.settings.suffixes ≡ filter → old.settings.part ≡ part_of plan.workers identity plan.part → queue ≡ first_queue plan → Writes (rebuilt old.settings queue had) old (Some []) (Some text) left_out new → IsRebuiltText had plan identity text left_out
rebuilt_text had plan identity filter old new queue text left_out filtered shown workers suffixes part first writes =
    let settings = same_settings old.settings (queues_of plan) filter (part_of plan.workers identity plan.part) workers suffixes part in
    let begin = start (queues_of plan) plan.max in
    let same : rebuilt old.settings queue had begin ≡ rebuilt_log plan filter identity had = λ i. rebuilt (settings i) (first i) had begin in
    let came = writes.comes begin shown in
    record {
      filter = filter;
      filtered = filtered;
      fits = sym (ap (λ (g : Given). g.fits) same) ∙ came.0;
      lines = writes.written ∙ came.1.0 ∙ ap (λ (g : Given). lines_text g.lines) same;
      counted = came.1.1.0 ∙ ap (λ (g : Given). g.left_out) same;
    }

-- ---- pieces

-- the text before the rest was appended in pieces
abbrev pub InFront : List ℕ → List ℕ → Summing → Summing → Type 0
InFront text rest old new = (front : List ℕ) × (text ≡ front ++ rest) × InPieces front old new

pub pieces_none : (text : List ℕ) (out : Summing) → InFront text text out out
pieces_none text out = ([], refl, record { pieces = []; whole = refl; gained = gained_none out })

pub pieces_more : (text rest piece more : List ℕ) (old mid new : Summing) → InFront text rest old mid → rest ≡ piece ++ more → Appends mid.contents new.contents (framed mid.sum true piece) → new.sum ≡ sum_with mid.sum (framed mid.sum true piece) → InFront text more old new
pieces_more text rest piece more old mid new front cut gained sum =
    let before = front.2 in (
      front.0 ++ piece,
      front.1 ∙ ap (λ l. front.0 ++ l) cut ∙ sym (append_assoc front.0 piece more),
      record {
        pieces = before.pieces ++ piece ∷ [];
        whole = concat-append before.pieces (piece ∷ []) ∙ (λ i. before.whole i ++ append-nil piece i);
        gained = gained_both before.pieces (piece ∷ []) old mid new before.gained (gained_one piece mid new gained sum);
      },
    )

pub pieces_all : (text rest : List ℕ) (old new : Summing) → InFront text rest old new → rest ≡ [] → InPieces text old new
pieces_all text rest old new front none = subst (λ t. InPieces t old new) (sym (front.1 ∙ ap (λ l. front.0 ++ l) none ∙ append-nil front.0)) front.2

-- the first line and the pieces were appended
pub is_rebuilt : (session : SessionView) (plan : SessionPlan) (identity : List ℕ) (left_out : LeftOut) (had : Inventory) (text first : List ℕ) (old mid new : Summing) → ReadsUrls session had → IsRebuiltText had plan identity text left_out → first ≡ first_line plan identity
    → Appends old.contents mid.contents (framed old.sum true first) → mid.sum ≡ sum_with old.sum (framed old.sum true first) → InPieces text mid new → IsRebuilt session plan identity left_out old.sum old.contents new.contents
is_rebuilt session plan identity left_out had text first old mid new read rebuilt is gained sum pieces = record {
  had = had;
  read = read;
  pieces = pieces.pieces;
  rebuilt = subst (λ t. IsRebuiltText had plan identity t left_out) (sym pieces.whole) rebuilt;
  gained = subst (λ f. Appends old.contents new.contents (framed_pieces old.sum (f ∷ pieces.pieces))) is (gained_both (first ∷ []) pieces.pieces old mid new (gained_one first old mid gained sum) pieces.gained).gained;
}

-- ---- settings

-- the queues of a part are in a frontier
first_below : (workers first parts : ℕ) → workers * parts ≤ queue_limit → first < parts → first * workers ≤ 2 ^ 32 - 1
first_below workers first parts few below =
    let less : first * workers ≤ parts * workers = mul-le first workers parts workers (omega (arith, below)) (omega arith) in
    omega (arith, few, less, mul_comm parts workers)

pub first_fits : (plan : SessionPlan) (p : ℕ × ℕ) → IsSessionPlan plan → plan.part ≡ Some p → min (p.0 * plan.workers) (2 ^ 32 - 1) ≡ p.0 * plan.workers
first_fits plan p limits is =
    let there : (all_queues plan.workers (Some p) ≤ queue_limit) × (p.0 < p.1) = subst (λ (o : Option (ℕ × ℕ)). (all_queues plan.workers o ≤ queue_limit) × IsPartOf o) is limits.1 in
    min-eq_left (first_below plan.workers p.0 p.1 there.0 there.1)

either_limits : (a b : Bool) (workers max own most : ℕ) → AreLimits workers max → AreLimits own most → AreLimits (if a then workers else own) (if b then max else most)
either_limits true true workers max own most given log = given
either_limits true false workers max own most given log = record { some_worker = given.some_worker; few_workers = given.few_workers; some_pending = log.some_pending; few_pending = log.few_pending }
either_limits false true workers max own most given log = record { some_worker = log.some_worker; few_workers = log.few_workers; some_pending = given.some_pending; few_pending = given.few_pending }
either_limits false false workers max own most given log = log

last_none : (one two : Option Setting) → option_or one two ≡ None → two ≡ None
last_none None two none = none
last_none (Some setting) two none = absurd (cc)

right_count : (p : ℕ × ℕ) (own workers : ℕ) → other_queues (Some p) own workers ≡ None → own ≡ workers
right_count p own workers none = by (own == workers) refl none
  where
    by : (same : Bool) → (own == workers) ≡ same → (if same then None else Some (other.Part p.0 p.1)) ≡ None → own ≡ workers
    by true is none = eqb-true own workers is
    by false is none = absurd (cc)

few_queues : (part : Option (ℕ × ℕ)) (own workers : ℕ) → workers ≤ worker_limit → all_queues own part ≤ queue_limit → other_queues part own workers ≡ None → all_queues workers part ≤ queue_limit
few_queues None own workers few all none = omega (arith, few)
few_queues (Some p) own workers few all none = subst (λ w. w * p.1 ≤ queue_limit) (right_count p own workers none) all

-- the settings of a new log are within the limits
pub new_limits : (named : NamedSettings) (given own new_settings : SessionPlan) → IsSessionPlan given → IsSessionPlan own → fixed_apart named given own ≡ None → AreNewSettings named given own new_settings → IsSessionPlan new_settings
new_limits named given own new_settings given_limits own_limits none is =
    let workers = if named.workers then given.workers else own.workers in
    let limits : AreLimits workers (if named.max then given.max else own.max) = either_limits named.workers named.max given.workers given.max own.workers own.max given_limits.0 own_limits.0 in
    let few = few_queues own.part own.workers workers limits.few_workers own_limits.1.0 (last_none (if named.part then part_apart own.part given.part else None) (other_queues own.part own.workers workers) none) in
    rw (is.workers, is.max, is.part) (limits, (few, own_limits.1.1))
