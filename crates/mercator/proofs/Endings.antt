-- What follows from how the command of a plan ended, and from a text that it has to write.
use Rattle.mercator.proofs.Prelude.{◌≡◌, ◌<◌, ◌≤◌, ◌⊎◌, inl, inr, ℕ, List, true, false, Bool, if◌then◌else◌, String, Global, refl, subst, KeyError, map, string_bytes, Option, Result, Ok, Err, IfOk, IfErr, IsErr, sym, ap, ◌∙◌, arith, true≢false, EndsByText, is_incomplete, is_bad_suffix, suffixes_of, crawl_of, status_of_error, HasNoOutput, EndsBy, FailsCrawl, FailsList, Gains, GainsAs, HasLog, IsBroken, IsOutput, IsCrawlOutput, OfFiles, CrawlPlan, IsBegun, IsCrawlText, IsUnbegun, CommandError, Plan}
use Rattle.crawl_keys.specs.CanonicalText.{canonical}
use Rattle.mercator.specs.KeyLine.{IsKeyLine}
use Rattle.mercator.specs.Outputs.{BreaksOff, Fails, FailsCheck, FailsKey, FailsReplay, FailsSession, GainsBroken, MayLose}
use Rattle.mercator.proofs.PlanTexts.{no_refusal}
use Rattle.mercator.proofs.Serves.{complete_fails, in_use_crawl, plain_fails}
use Rattle.mercator_site.specs.Errors.{IsSiteIncomplete}
use Rattle.mercator_site.specs.declared.options.CheckOptions.{CheckOptions}
use Rattle.session_log.specs.declared.error.LogError.TheVariants as unlogged
use Rattle.session_log.specs.declared.plan.LogPlan.{LogPlan}
use Rattle.session_log.specs.declared.plan.SessionPlan.{SessionPlan}
use Rattle.mercator.specs.declared.commands.error.CommandError.TheVariants as wrong
use Rattle.mercator.specs.declared.commands.planned.Plan.TheVariants as asks

-- ---- a command that has its text

-- it is done if the text was written
pub text_done : (plan : Plan) (text : List ℕ) (input old new : Option (List ℕ)) (how : Result (Unit {0}) CommandError) → IsOutput plan input text → EndsByText text old new how → IfOk how (λ _. Gains plan input old new)
text_done plan text input old new (Ok done) is ends = record { text = text; output = is; gained = ends }
text_done plan text input old new (Err error) is ends = tt

-- and otherwise ends by an error of the writer
pub text_ends : (plan : Plan) (text : List ℕ) (input old new : Option (List ℕ)) (how : Result (Unit {0}) CommandError) (Unwritten : Type 0) → IsOutput plan input text → EndsByText text old new how → IfErr how (λ error. EndsBy plan input error Unwritten)
text_ends plan text input old new (Ok done) Unwritten is ends = tt
text_ends plan text input old new (Err error) Unwritten is ends = inr (inl (ends, (text, inl is)))

-- ---- the status of a command that ended without an error

pub is_low : (broken : Bool) (status : ℕ) → status ≡ (if broken then 4 else 0) → status ≤ 5
is_low true status is = omega (arith, is)
is_low false status is = omega (arith, is)

-- it is no status of an error
pub no_error : (broken : Bool) (status : ℕ) → status ≡ (if broken then 4 else 0) → (status ≡ 1) ⊎ ((status ≡ 2) ⊎ ((status ≡ 3) ⊎ (status ≡ 5))) → ⊥
no_error true status is (inl one) = omega (arith, is, one)
no_error true status is (inr (inl two)) = omega (arith, is, two)
no_error true status is (inr (inr (inl three))) = omega (arith, is, three)
no_error true status is (inr (inr (inr five))) = omega (arith, is, five)
no_error false status is (inl one) = omega (arith, is, one)
no_error false status is (inr (inl two)) = omega (arith, is, two)
no_error false status is (inr (inr (inl three))) = omega (arith, is, three)
no_error false status is (inr (inr (inr five))) = omega (arith, is, five)

-- it is 0 or 4
pub not_failed : (broken : Bool) (status : ℕ) → status ≡ (if broken then 4 else 0) → 0 < status → (status ≡ 4 → ⊥) → ⊥
not_failed true status is some unbroken = unbroken is
not_failed false status is some unbroken = omega (arith, is, some)

-- 0 if the output was appended, 4 if that was the report of a check that found something broken
pub gains_zero : (broken : Bool) (plan : Plan) (input old new : Option (List ℕ)) (status : ℕ) → status ≡ (if broken then 4 else 0) → GainsAs broken plan input old new → status ≡ 0 → Gains plan input old new
gains_zero true plan input old new status is gains ended = absurd (omega (arith, is, ended))
gains_zero false plan input old new status is gains ended = gains

pub gains_four : (broken : Bool) (plan : Plan) (input old new : Option (List ℕ)) (status : ℕ) → status ≡ (if broken then 4 else 0) → GainsAs broken plan input old new → status ≡ 4 → GainsBroken plan old new
gains_four true plan input old new status is gains four = gains
gains_four false plan input old new status is gains four = absurd (omega (arith, is, four))

-- ---- the statuses of errors

not_two : (status : ℕ) → status ≡ 1 → status ≡ 2 → ⊥
not_two status one two = omega (arith, one, two)

not_five : (status : ℕ) → status ≡ 1 → status ≡ 5 → ⊥
not_five status one five = omega (arith, one, five)

plain_write : (error : CommandError) → error ≡ wrong.CannotWrite → status_of_error error ≡ 1
plain_write error is = ap status_of_error is

plain_key : (url : List ℕ) (error : CommandError) → FailsKey url error → status_of_error error ≡ 1
plain_key url (wrong.Url refusal) fails = refl
plain_key url wrong.NoMemory fails = refl
plain_key url error fails = absurd fails

plain_replay : (file : List ℕ) (input : Option (List ℕ)) (error : CommandError) → FailsReplay file input error → status_of_error error ≡ 1
plain_replay file input wrong.CannotRead fails = refl
plain_replay file input (wrong.Script why) fails = refl
plain_replay file input wrong.NoMemory fails = refl
plain_replay file input error fails = absurd fails

plain_session : (within : Option (String Global)) (error : CommandError) → FailsSession within error → status_of_error error ≡ 1
plain_session within wrong.BadSuffix fails = refl
plain_session within wrong.NoMemory fails = refl
plain_session within error fails = absurd fails

plain_listing : (error : CommandError) → FailsList error → status_of_error error ≡ 1
plain_listing (wrong.Log unlogged.CannotOpen) fails = refl
plain_listing (wrong.Log unlogged.CannotRead) fails = refl
plain_listing (wrong.Log unlogged.NotALog) fails = refl
plain_listing (wrong.Log (unlogged.Damaged last first)) fails = refl
plain_listing wrong.NoMemory fails = refl
plain_listing error fails = absurd fails

plain_stop : (plan : Plan) (error : CommandError) → BreaksOff plan error → status_of_error error ≡ 1
plain_stop (asks.Serve given) wrong.CannotRead breaks = refl
plain_stop (asks.Serve given) wrong.CannotWrite breaks = refl
plain_stop (asks.Serve given) wrong.NoMemory breaks = refl
plain_stop (asks.ServeLog given) wrong.CannotRead breaks = refl
plain_stop (asks.ServeLog given) wrong.CannotWrite breaks = refl
plain_stop (asks.ServeLog given) wrong.NoMemory breaks = refl
plain_stop (asks.ServeLog given) (wrong.Log unlogged.CannotWrite) breaks = refl
plain_stop (asks.ServeLog given) (wrong.Log unlogged.Changed) breaks = refl
plain_stop (asks.Site options) wrong.NoMemory breaks = refl
plain_stop plan error breaks = absurd breaks

-- ---- the files of a crawl

weaker : (crawl : CrawlPlan) (input : Option (List ℕ)) (P Q : List ℕ → List ℕ → Type 0) → ((bytes list : List ℕ) → P bytes list → Q bytes list) → OfFiles crawl input P → OfFiles crawl input Q
weaker crawl input P Q follows of = record {
  bytes = of.bytes;
  read = of.read;
  few = of.few;
  holds = record { bytes = of.holds.bytes; read = of.holds.read; few = of.holds.few; holds = follows of.bytes of.holds.bytes of.holds.holds };
}

-- a crawl that failed had begun
had_begun : (crawl : CrawlPlan) (input : Option (List ℕ)) (error : CommandError) → FailsCrawl crawl input error → (status_of_error error ≡ 1)
    ⊎ ((status_of_error error ≡ 5 → ⊥) × (is_bad_suffix crawl.options.within ≡ false) × OfFiles crawl input (λ bytes list. IsBegun bytes list (map string_bytes crawl.seeds.items)))
had_begun crawl input (wrong.Crawl failure) fails = inr (
  in_use_crawl (is_incomplete failure.error),
  fails.0,
  weaker crawl input (λ bytes list. IsUnbegun crawl.workers crawl.max bytes list (map string_bytes crawl.seeds.items) (suffixes_of crawl.options.within) (wrong.Crawl failure)) (λ bytes list. IsBegun bytes list (map string_bytes crawl.seeds.items)) (λ bytes list unbegun. unbegun.0) fails.1,
)
had_begun crawl input (wrong.Log why) fails = absurd fails.1.holds.holds
had_begun crawl input error fails = inl refl

-- a crawl that was printed had begun
printed_begun : (crawl : CrawlPlan) (input : Option (List ℕ)) (text : List ℕ) → IsCrawlOutput crawl input text → OfFiles crawl input (λ bytes list. IsBegun bytes list (map string_bytes crawl.seeds.items))
printed_begun crawl input text output =
    weaker crawl input (λ bytes list. IsBegun bytes list (map string_bytes crawl.seeds.items) × IsCrawlText crawl.workers crawl bytes list (map string_bytes crawl.seeds.items) (suffixes_of crawl.options.within) text) (λ bytes list. IsBegun bytes list (map string_bytes crawl.seeds.items)) (λ bytes list is. is.0) output.1

-- one that cannot begin
cannot_begin : (crawl : CrawlPlan) (input : Option (List ℕ)) → (is_bad_suffix crawl.options.within ≡ true) ⊎ (OfFiles crawl input (λ bytes list. IsBegun bytes list (map string_bytes crawl.seeds.items)) → ⊥)
    → is_bad_suffix crawl.options.within ≡ false → OfFiles crawl input (λ bytes list. IsBegun bytes list (map string_bytes crawl.seeds.items)) → ⊥
cannot_begin crawl input (inl bad) good begun = true≢false (sym bad ∙ good)
cannot_begin crawl input (inr none) good begun = none begun

-- ---- an error of status 2: the crawl was incomplete

loses_crawl : (crawl : CrawlPlan) (input : Option (List ℕ)) (status : ℕ) → (status ≡ 1) ⊎ ((status ≡ 5 → ⊥) × (is_bad_suffix crawl.options.within ≡ false) × OfFiles crawl input (λ bytes list. IsBegun bytes list (map string_bytes crawl.seeds.items))) → status ≡ 2
    → (is_bad_suffix crawl.options.within ≡ false) × OfFiles crawl input (λ bytes list. IsBegun bytes list (map string_bytes crawl.seeds.items))
loses_crawl crawl input status (inl one) two = absurd (not_two status one two)
loses_crawl crawl input status (inr begun) two = (begun.1, begun.2)

is_two : (incomplete : Bool) → ◌≡◌ {A = ℕ} (if incomplete then 2 else 1) 2 → incomplete ≡ true
is_two incomplete two = grind arith

loses_check : (options : CheckOptions) (ignores : Option (String Global)) (error : CommandError) → FailsCheck options ignores error → status_of_error error ≡ 2 → IsSiteIncomplete options
loses_check options ignores wrong.CannotReadIgnores fails two = absurd (not_two 1 refl two)
loses_check options ignores wrong.CannotReadIndex fails two = absurd (not_two 1 refl two)
loses_check options ignores wrong.CannotFix fails two = absurd (not_two 1 refl two)
loses_check options ignores (wrong.Site why) fails two = absurd (not_two 1 refl two)
loses_check options ignores (wrong.Crawl failure) fails two = fails (is_two (is_incomplete failure.error) two)
loses_check options ignores wrong.NoMemory fails two = absurd (not_two 1 refl two)
loses_check options ignores error fails two = absurd fails

loses : (plan : Plan) (input : Option (List ℕ)) (error : CommandError) → Fails plan input error → status_of_error error ≡ 2 → MayLose plan input
loses (asks.Crawl workers max queues file seeds options) input error fails two =
    loses_crawl (crawl_of workers max queues file seeds options) input (status_of_error error) (had_begun (crawl_of workers max queues file seeds options) input error fails) two
loses (asks.Site options) input error fails two = not_two (status_of_error error) fails two
loses (asks.Check options ignores) input error fails two = loses_check options ignores error fails two
loses (asks.Key url workers) input error fails two = not_two (status_of_error error) (plain_key (string_bytes url) error fails) two
loses (asks.Replay file) input error fails two = not_two (status_of_error error) (plain_replay (string_bytes file) input error fails) two
loses (asks.Serve given) input error fails two = not_two (status_of_error error) (plain_session given.within error fails) two
loses (asks.ServeLog given) input error fails two = complete_fails given.session.within error fails two
loses (asks.List list) input error fails two = not_two (status_of_error error) (plain_listing error fails) two
loses (asks.Compact given) input error fails two = complete_fails given.log.session.within error fails two

pub incomplete : (plan : Plan) (input : Option (List ℕ)) (error : CommandError) (Unwritten : Type 0) → EndsBy plan input error Unwritten → status_of_error error ≡ 2 → MayLose plan input × Unwritten
incomplete plan input error Unwritten (inl fails) two = (loses plan input error fails.0 two, fails.1)
incomplete plan input error Unwritten (inr (inl unwritten)) two = absurd (not_two (status_of_error error) (plain_write error unwritten.0) two)
incomplete plan input error Unwritten (inr (inr breaks)) two = absurd (not_two (status_of_error error) (plain_stop plan error breaks) two)

-- ---- an error of status 5: another program uses the log of the plan

uses_no_log : (crawl : CrawlPlan) (input : Option (List ℕ)) (status : ℕ) → (status ≡ 1) ⊎ ((status ≡ 5 → ⊥) × (is_bad_suffix crawl.options.within ≡ false) × OfFiles crawl input (λ bytes list. IsBegun bytes list (map string_bytes crawl.seeds.items))) → status ≡ 5 → ⊥
uses_no_log crawl input status (inl one) five = not_five status one five
uses_no_log crawl input status (inr begun) five = begun.0 five

check_not_in_use : (options : CheckOptions) (ignores : Option (String Global)) (error : CommandError) → FailsCheck options ignores error → status_of_error error ≡ 5 → ⊥
check_not_in_use options ignores wrong.CannotReadIgnores fails five = not_five 1 refl five
check_not_in_use options ignores wrong.CannotReadIndex fails five = not_five 1 refl five
check_not_in_use options ignores wrong.CannotFix fails five = not_five 1 refl five
check_not_in_use options ignores (wrong.Site why) fails five = not_five 1 refl five
check_not_in_use options ignores (wrong.Crawl failure) fails five = in_use_crawl (is_incomplete failure.error) five
check_not_in_use options ignores wrong.NoMemory fails five = not_five 1 refl five
check_not_in_use options ignores error fails five = fails

uses_log : (plan : Plan) (input : Option (List ℕ)) (error : CommandError) → Fails plan input error → status_of_error error ≡ 5 → HasLog plan
uses_log (asks.Crawl workers max queues file seeds options) input error fails five =
    uses_no_log (crawl_of workers max queues file seeds options) input (status_of_error error) (had_begun (crawl_of workers max queues file seeds options) input error fails) five
uses_log (asks.Site options) input error fails five = not_five (status_of_error error) fails five
uses_log (asks.Check options ignores) input error fails five = check_not_in_use options ignores error fails five
uses_log (asks.Key url workers) input error fails five = not_five (status_of_error error) (plain_key (string_bytes url) error fails) five
uses_log (asks.Replay file) input error fails five = not_five (status_of_error error) (plain_replay (string_bytes file) input error fails) five
uses_log (asks.Serve given) input error fails five = not_five (status_of_error error) (plain_session given.within error fails) five
uses_log (asks.ServeLog given) input error fails five = tt
uses_log (asks.List list) input error fails five = not_five (status_of_error error) (plain_listing error fails) five
uses_log (asks.Compact given) input error fails five = tt

pub used : (plan : Plan) (input : Option (List ℕ)) (error : CommandError) (Unwritten : Type 0) → EndsBy plan input error Unwritten → status_of_error error ≡ 5 → HasLog plan × Unwritten
used plan input error Unwritten (inl fails) five = (uses_log plan input error fails.0 five, fails.1)
used plan input error Unwritten (inr (inl unwritten)) five = absurd (not_five (status_of_error error) (plain_write error unwritten.0) five)
used plan input error Unwritten (inr (inr breaks)) five = absurd (not_five (status_of_error error) (plain_stop plan error breaks) five)

-- ---- a command that cannot have an output

no_key : (url : List ℕ) (workers : ℕ) (text : List ℕ) → IsErr (canonical url) → IsKeyLine url workers text → ⊥
no_key url workers text bad line = true≢false (sym (subst (λ (r : Result (List ℕ) KeyError). IsErr r) line.reads bad))

no_text : (plan : Plan) (input : Option (List ℕ)) (text : List ℕ) → HasNoOutput plan input → IsOutput plan input text → ⊥
no_text (asks.Crawl workers max queues file seeds options) input text cannot output =
    cannot_begin (crawl_of workers max queues file seeds options) input cannot output.0 (printed_begun (crawl_of workers max queues file seeds options) input text output)
no_text (asks.Site options) input text cannot output = cannot
no_text (asks.Check options ignores) input text cannot output = cannot
no_text (asks.Key url workers) input text cannot output = no_key (string_bytes url) workers text cannot output
no_text (asks.Replay file) input text cannot output = no_refusal _ text output cannot
no_text (asks.Serve given) input text cannot output = true≢false (sym cannot ∙ output.0)
no_text (asks.ServeLog given) input text cannot output = true≢false (sym cannot ∙ output.0)
no_text (asks.List list) input text cannot output = cannot
no_text (asks.Compact given) input text cannot output = true≢false (sym cannot ∙ output.0)

no_broken : (plan : Plan) (input : Option (List ℕ)) (text : List ℕ) → HasNoOutput plan input → IsBroken plan text → ⊥
no_broken (asks.Check options ignores) input text cannot broken = cannot
no_broken plan input text cannot broken = broken

-- it does not succeed
pub no_gain : (broken : Bool) (plan : Plan) (input old new : Option (List ℕ)) → HasNoOutput plan input → GainsAs broken plan input old new → ⊥
no_gain true plan input old new cannot gains = no_broken plan input gains.text cannot gains.output
no_gain false plan input old new cannot gains = no_text plan input gains.text cannot gains.output

-- its error has status 1
plain_crawl : (crawl : CrawlPlan) (input : Option (List ℕ)) (status : ℕ) → (is_bad_suffix crawl.options.within ≡ true) ⊎ (OfFiles crawl input (λ bytes list. IsBegun bytes list (map string_bytes crawl.seeds.items)) → ⊥)
    → (status ≡ 1) ⊎ ((status ≡ 5 → ⊥) × (is_bad_suffix crawl.options.within ≡ false) × OfFiles crawl input (λ bytes list. IsBegun bytes list (map string_bytes crawl.seeds.items))) → status ≡ 1
plain_crawl crawl input status cannot (inl one) = one
plain_crawl crawl input status cannot (inr begun) = absurd (cannot_begin crawl input cannot begun.1 begun.2)

plain_refusal : (plan : Plan) (input : Option (List ℕ)) (error : CommandError) → HasNoOutput plan input → Fails plan input error → status_of_error error ≡ 1
plain_refusal (asks.Crawl workers max queues file seeds options) input error cannot fails =
    plain_crawl (crawl_of workers max queues file seeds options) input (status_of_error error) cannot (had_begun (crawl_of workers max queues file seeds options) input error fails)
plain_refusal (asks.Site options) input error cannot fails = absurd cannot
plain_refusal (asks.Check options ignores) input error cannot fails = absurd cannot
plain_refusal (asks.Key url workers) input error cannot fails = plain_key (string_bytes url) error fails
plain_refusal (asks.Replay file) input error cannot fails = plain_replay (string_bytes file) input error fails
plain_refusal (asks.Serve given) input error cannot fails = plain_session given.within error fails
plain_refusal (asks.ServeLog given) input error cannot fails = plain_fails given.session.within error cannot fails
plain_refusal (asks.List list) input error cannot fails = absurd cannot
plain_refusal (asks.Compact given) input error cannot fails = plain_fails given.log.session.within error cannot fails

-- it does not break off
good_serve : (given : SessionPlan) (error : CommandError) → BreaksOff (asks.Serve given) error → is_bad_suffix given.within ≡ false
good_serve given wrong.CannotRead breaks = breaks
good_serve given wrong.CannotWrite breaks = breaks
good_serve given wrong.NoMemory breaks = breaks
good_serve given error breaks = absurd breaks

good_log : (given : LogPlan) (error : CommandError) → BreaksOff (asks.ServeLog given) error → is_bad_suffix given.session.within ≡ false
good_log given wrong.CannotRead breaks = breaks
good_log given wrong.CannotWrite breaks = breaks
good_log given wrong.NoMemory breaks = breaks
good_log given (wrong.Log unlogged.CannotWrite) breaks = breaks
good_log given (wrong.Log unlogged.Changed) breaks = breaks
good_log given error breaks = absurd breaks

no_stop : (plan : Plan) (input : Option (List ℕ)) (error : CommandError) → HasNoOutput plan input → BreaksOff plan error → ⊥
no_stop (asks.Crawl workers max queues file seeds options) input error cannot breaks = breaks
no_stop (asks.Site options) input error cannot breaks = cannot
no_stop (asks.Check options ignores) input error cannot breaks = cannot
no_stop (asks.Key url workers) input error cannot breaks = breaks
no_stop (asks.Replay file) input error cannot breaks = breaks
no_stop (asks.Serve given) input error cannot breaks = true≢false (sym cannot ∙ good_serve given error breaks)
no_stop (asks.ServeLog given) input error cannot breaks = true≢false (sym cannot ∙ good_log given error breaks)
no_stop (asks.List list) input error cannot breaks = cannot
no_stop (asks.Compact given) input error cannot breaks = breaks

no_output : (plan : Plan) (input : Option (List ℕ)) (text : List ℕ) → HasNoOutput plan input → IsOutput plan input text ⊎ IsBroken plan text → ⊥
no_output plan input text cannot (inl output) = no_text plan input text cannot output
no_output plan input text cannot (inr broken) = no_broken plan input text cannot broken

-- it ends with an error of status 1, and nothing is written
pub refused : (plan : Plan) (input : Option (List ℕ)) (error : CommandError) (Unwritten : Type 0) → HasNoOutput plan input → EndsBy plan input error Unwritten → (status_of_error error ≡ 1) × Unwritten
refused plan input error Unwritten cannot (inl fails) = (plain_refusal plan input error cannot fails.0, fails.1)
refused plan input error Unwritten cannot (inr (inl unwritten)) = absurd (no_output plan input unwritten.1.0 cannot unwritten.1.1)
refused plan input error Unwritten cannot (inr (inr breaks)) = absurd (no_stop plan input error cannot breaks)
