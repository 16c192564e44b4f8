-- What a session prints, by its plan.
use Rattle.mercator.proofs.Prelude.{◌≡◌, ◌⊎◌, ℕ, List, Bool, true, false, if◌then◌else◌, Option, String, Global, refl, subst, ◌∙◌, arith, lines, Begins, of_log, of_logged, of_session, status_of_error, IsWithinLimits, has_notices, is_bad_suffix, suffixes_of, EndsBy, FailsList, FailsLog, Gains, HasLog, IsDoneWithNote, MayNote, Resumes, ReportsError, ReportsInUse, no_identity, settings_of, error_lines, CommandError, Plan}
use Rattle.std.proofs.lemmas.List.{append-nil}
use Rattle.crawl_session.specs.Frontiers.{Shows, start}
use Rattle.crawl_session.specs.Answers.{answer_lines}
use Rattle.crawl_session.specs.Input.{ServesInput}
use Rattle.crawl_session.specs.Logs.{Reruns}
use Rattle.crawl_session.specs.Sessions.{answers, state_after}
use Rattle.crawl_session.specs.Settings.{SessionView}
use Rattle.crawl_session.specs.declared.serving.ServeError.{ServeError}
use Rattle.crawl_session.specs.declared.serving.ServeError.TheVariants as serving
use Rattle.session_log.specs.Errors.{status_of_log}
use Rattle.session_log.specs.LogFile.{IsBreak, IsReadError, IsUseError}
use Rattle.session_log.specs.Plans.{part_of, queues_of}
use Rattle.session_log.specs.declared.error.LogError.{LogError}
use Rattle.session_log.specs.declared.error.LogError.TheVariants as unlogged
use Rattle.session_log.specs.declared.error.LoggedError.{LoggedError}
use Rattle.session_log.specs.declared.error.LoggedError.TheVariants as ends
use Rattle.session_log.specs.declared.plan.LogPlan.{LogPlan}
use Rattle.session_log.specs.declared.plan.SessionPlan.{SessionPlan}
use Rattle.mercator.specs.declared.commands.error.CommandError.TheVariants as wrong
use Rattle.mercator.specs.declared.commands.planned.Plan.TheVariants as asks

-- a session that was made for a plan has its settings
pub made_for : (session : SessionView) (plan : SessionPlan) (identity : List ℕ) (filter : List (List ℕ)) → session.settings.workers ≡ queues_of plan → session.settings.suffixes ≡ filter → session.settings.part ≡ part_of plan.workers identity plan.part → filter ≡ suffixes_of plan.within
    → session.settings ≡ settings_of plan identity
made_for session plan identity filter many filtered placed good = λ i. record { workers = many i; suffixes = (filtered ∙ good) i; part = placed i }

-- a session that was served to the end of its input
pub gains_answers : (session : SessionView) (plan : SessionPlan) (input out_old out_new : Option (List ℕ)) (new : SessionView) → Shows session.core (start (queues_of plan) plan.max) → session.settings ≡ settings_of plan no_identity
    → is_bad_suffix plan.within ≡ false → ServesInput session input out_old out_new new → Gains (asks.Serve plan) input out_old out_new
gains_answers session plan input out_old out_new new shown is good served = grind arith

-- one that broke off
pub breaks_off : (plan : SessionPlan) (input : Option (List ℕ)) (why : ServeError) (Unwritten : Type 0) → is_bad_suffix plan.within ≡ false → EndsBy (asks.Serve plan) input (of_session why) Unwritten
breaks_off plan input why Unwritten good = grind arith

-- a session that ran the requests of a log
pub resumes : (session : SessionView) (plan : LogPlan) (identity : List ℕ) (resumed : SessionView) → Shows session.core (start (queues_of plan.session) plan.session.max) → session.settings ≡ settings_of plan.session identity → (bytes : List ℕ) × Reruns session (lines bytes) resumed
    → Resumes plan resumed
resumes session plan identity resumed shown is log =
    let begun = start (queues_of plan.session) plan.session.max in
    record {
      identity = identity;
      log = log.0;
      settings = log.1.settings ∙ is;
      shown = subst (λ s. Shows resumed.core (state_after s begun (lines log.0))) is (log.1.comes begun shown);
    }

-- and was served to the end of its input
pub gains_on : (plan : LogPlan) (resumed : SessionView) (input out_old out_new : Option (List ℕ)) (new : SessionView) → is_bad_suffix plan.session.within ≡ false → Resumes plan resumed → ServesInput resumed input out_old out_new new → Gains (asks.ServeLog plan) input out_old out_new
gains_on plan resumed input out_old out_new new good log served =
    let state = state_after (settings_of plan.session log.identity) (start (queues_of plan.session) plan.session.max) (lines log.log) in
    let output : served.text ≡ answer_lines (answers resumed.settings state (lines served.bytes)) = (served.serves.comes state log.shown).0 in
    record {
      text = served.text;
      output = (
        good,
        record {
          identity = log.identity;
          log = log.log;
          bytes = served.bytes;
          read = served.read;
          is_text = subst (λ s. served.text ≡ answer_lines (answers s state (lines served.bytes))) log.settings output;
        },
      );
      gained = served.written;
    }

-- one that broke off
pub ends_logged : (plan : LogPlan) (input : Option (List ℕ)) (why : LoggedError) (Unwritten : Type 0) → is_bad_suffix plan.session.within ≡ false → IsBreak why → EndsBy (asks.ServeLog plan) input (of_logged why) Unwritten
ends_logged plan input why Unwritten good is = grind arith

-- it has status 1
pub plain_break : (why : LoggedError) → IsBreak why → status_of_error (of_logged why) ≡ 1
plain_break why is = grind arith

-- an open log that cannot be used has status 1
pub plain_use : (why : LogError) → IsUseError why → status_of_error (of_log why) ≡ 1
plain_use why is = grind arith

-- a log that is not listed
pub plain_list : (why : LogError) → IsReadError why → status_of_error (of_log why) ≡ 1
plain_list unlogged.CannotOpen is = refl
plain_list unlogged.CannotRead is = refl
plain_list unlogged.NotALog is = refl
plain_list (unlogged.Damaged last first) is = refl
plain_list unlogged.NoMemory is = refl
plain_list why is = absurd is

pub list_fails : (why : LogError) → IsReadError why → FailsList (of_log why)
list_fails unlogged.CannotOpen is = tt
list_fails unlogged.CannotRead is = tt
list_fails unlogged.NotALog is = tt
list_fails (unlogged.Damaged last first) is = tt
list_fails unlogged.NoMemory is = tt
list_fails why is = absurd is

-- one that did not begin
pub log_fails : (within : Option (String Global)) (why : LogError) → is_bad_suffix within ≡ false → FailsLog within (of_log why)
log_fails within why good = grind arith

-- it has status 1 if the suffix is bad
pub plain_fails : (within : Option (String Global)) (error : CommandError) → is_bad_suffix within ≡ true → FailsLog within error → status_of_error error ≡ 1
plain_fails within error bad fails = grind arith

-- an error of a log does not have status 2
complete_why : (why : LogError) → status_of_log why ≡ 2 → ⊥
complete_why why two = grind arith

pub complete_fails : (within : Option (String Global)) (error : CommandError) → FailsLog within error → status_of_error error ≡ 2 → ⊥
complete_fails within error fails two = grind (arith, complete_why)

-- status 5 is that of a log in use
in_use_why : (why : LogError) → status_of_log why ≡ 5 → why ≡ unlogged.InUse
in_use_why why five = grind arith

pub in_use_crawl : (b : Bool) → ◌≡◌ {A = ℕ} (if b then 2 else 1) 5 → ⊥
in_use_crawl b five = grind arith

pub in_use : (error : CommandError) → status_of_error error ≡ 5 → error ≡ wrong.Log unlogged.InUse
in_use error five = grind (arith, in_use_why, in_use_crawl)

-- the line of a log in use
pub reports_in_use : (plan : Plan) (error : CommandError) (old new : Option (List ℕ)) → HasLog plan → status_of_error error ≡ 5 → Begins old new (error_lines plan error) → ReportsInUse plan old new
reports_in_use (asks.ServeLog plan) error old new has five output =
    subst (λ t. Begins old new t) (append-nil _) (subst (λ f. Begins old new (error_lines (asks.ServeLog plan) f)) (in_use error five) output)
reports_in_use (asks.Compact given) error old new has five output =
    subst (λ t. Begins old new t) (append-nil _) (subst (λ f. Begins old new (error_lines (asks.Compact given) f)) (in_use error five) output)
reports_in_use plan error old new has five output = absurd has

-- the line of an error is printed after what a session with a log may have printed
pub reports_error : (plan : Plan) (old middle new : Option (List ℕ)) (line : List ℕ) → (has_notices plan ≡ false → middle ≡ old) → MayNote plan old middle → Begins middle new line → ReportsError plan old new line
reports_error plan old middle new line silent noted output = grind arith

-- `err` after a success: what holds for a plan holds for the arguments that it comes from
pub done_words : {E : Type 0} (plan : Plan) (contents : E → Option (List ℕ)) (input out_old out_new : Option (List ℕ)) (old new : E) → IsWithinLimits plan → Gains plan input out_old out_new → (has_notices plan ≡ false → new ≡ old) → MayNote plan (contents old) (contents new)
    → (new ≡ old) ⊎ ((plan : Plan) × IsWithinLimits plan × IsDoneWithNote plan input out_old out_new (contents old) (contents new))
done_words plan contents input out_old out_new old new limits gains silent noted = grind arith
