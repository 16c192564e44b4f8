-- How a check of some arguments ends.
use Rattle.mercator.proofs.Prelude.{◌≡◌, ◌<◌, ◌≤◌, ◌⊎◌, ◌&&◌, inl, inr, ℕ, Bool, true, false, not, List, Option, String, Global, refl, sym, ap, ◌∙◌, arith, true≢false, Gains, CommandError, Plan}
use Rattle.std.proofs.lemmas.Bool.{cases_order}
use Rattle.std.specs.Prelude.{◌||◌}
use Rattle.mercator.specs.Checks.{ChecksFolder, EndsCheck, EndsUnchecked, WritesReport, agrees, agrees_with_check, agrees_with_error, asks_help, is_check, is_help_text, names_check}
use Rattle.mercator.specs.Outputs.{EndsByError, FailsWithoutPlan, GainsBroken, ReportsArguments}
use Rattle.mercator.specs.declared.commands.plan_error.PlanError.{PlanError}
use Rattle.mercator.specs.declared.commands.planned.Plan.TheVariants as asks
use Rattle.mercator_site.specs.declared.options.CheckOptions.{CheckOptions}

-- ---- by its status

not_four : (status : ℕ) → (status < 4) ⊎ (4 < status) → status ≡ 4 → ⊥
not_four status (inl low) four = omega (arith, low, four)
not_four status (inr high) four = omega (arith, high, four)

by_status : {A B C : Type 0} (status : ℕ) → (status ≡ 0) ⊎ ((status < 0) ⊎ (0 < status)) → (status ≡ 4) ⊎ ((status < 4) ⊎ (4 < status)) → (status ≡ 0 → A) → (status ≡ 4 → B) → (0 < status → (status ≡ 4 → ⊥) → C)
    → ((status ≡ 0) × A) ⊎ (((status ≡ 4) × B) ⊎ C)
by_status status (inl nothing) at_four done broken error = inl (nothing, done nothing)
by_status status (inr (inl below)) at_four done broken error = absurd (omega (arith, below))
by_status status (inr (inr above)) (inl four) done broken error = inr (inl (four, broken four))
by_status status (inr (inr above)) (inr other) done broken error = inr (inr (error above (λ four. not_four status other four)))

-- what its plan's command wrote
report_of : (options : CheckOptions) (ignores : Option (String Global)) (input old new : Option (List ℕ)) → Gains (asks.Check options ignores) input old new → WritesReport options ignores false old new
report_of options ignores input old new gains = record { text = gains.text; is_text = gains.output; written = gains.gained }

broken_report_of : (options : CheckOptions) (ignores : Option (String Global)) (old new : Option (List ℕ)) → GainsBroken (asks.Check options ignores) old new → WritesReport options ignores true old new
broken_report_of options ignores old new gains = record { text = gains.text; is_text = gains.output; written = gains.gained }

ends_check : (options : CheckOptions) (ignores : Option (String Global)) (status : ℕ) (input out_old out_new err_old err_new : Option (List ℕ)) (Unwritten : Type 0) → (status ≡ 0 → Gains (asks.Check options ignores) input out_old out_new)
    → (status ≡ 4 → GainsBroken (asks.Check options ignores) out_old out_new) → (0 < status → (status ≡ 4 → ⊥) → EndsByError (asks.Check options ignores) status input err_old err_new Unwritten)
    → EndsCheck options ignores status input out_old out_new err_old err_new Unwritten
ends_check options ignores status input out_old out_new err_old err_new Unwritten done broken error =
    by_status {A = WritesReport options ignores false out_old out_new} {B = WritesReport options ignores true out_old out_new} {C = EndsByError (asks.Check options ignores) status input err_old err_new Unwritten}
    status (cases_order status 0) (cases_order status 4) (λ nothing. report_of options ignores input out_old out_new (done nothing)) (λ four. broken_report_of options ignores out_old out_new (broken four)) error

-- ---- by the plan of its arguments

-- a plan that agrees with the arguments of a check is one of a check
pub ends_with_plan : (arguments : List (String Global)) (plan : Plan) (status : ℕ) (input out_old out_new err_old err_new : Option (List ℕ)) (Unwritten : Type 0) → is_check arguments ≡ true → agrees arguments plan ≡ true
    → (status ≡ 0 → Gains plan input out_old out_new) → (status ≡ 4 → GainsBroken plan out_old out_new) → (0 < status → (status ≡ 4 → ⊥) → EndsByError plan status input err_old err_new Unwritten)
    → ChecksFolder arguments status input out_old out_new err_old err_new Unwritten
ends_with_plan arguments (asks.Check options ignores) status input out_old out_new err_old err_new Unwritten check agreed done broken error =
    inr (options, (ignores, (agreed, ends_check options ignores status input out_old out_new err_old err_new Unwritten done broken error)))
ends_with_plan arguments plan status input out_old out_new err_old err_new Unwritten check agreed done broken error = absurd (true≢false (sym agreed ∙ ap not check))

-- without a plan

no_help : (names asks help : Bool) → (names && not asks) ≡ true → (not help || asks) ≡ true → help ≡ true → ⊥
no_help false asks help check agreed is = true≢false (sym check)
no_help true true help check agreed is = true≢false (sym check)
no_help true false true check agreed is = true≢false (sym agreed)
no_help true false false check agreed is = true≢false (sym is)

without_plan : (status : ℕ) (error : PlanError) (err_old err_new : Option (List ℕ)) (Unwritten : Type 0) → (status ≡ 0) ⊎ ((status ≡ 1) ⊎ (status ≡ 3)) → (status ≡ 0 → ⊥) → (status ≡ 1 → FailsWithoutPlan err_old err_new Unwritten) → (status ≡ 3 → Unwritten)
    → (status ≡ 3 → ReportsArguments error err_old err_new) → EndsUnchecked status err_old err_new Unwritten
without_plan status error err_old err_new Unwritten (inl nothing) helped failed unwritten output = absurd (helped nothing)
without_plan status error err_old err_new Unwritten (inr (inl one)) helped failed unwritten output = inr (one, failed one)
without_plan status error err_old err_new Unwritten (inr (inr three)) helped failed unwritten output = inl (three, (unwritten three, (error, output three)))

few : (status : ℕ) → (status ≤ 1) ⊎ (status ≡ 3) → (status ≡ 0) ⊎ ((status < 0) ⊎ (0 < status)) → (status ≡ 0) ⊎ ((status ≡ 1) ⊎ (status ≡ 3))
few status (inr three) order = inr (inr three)
few status (inl low) (inl nothing) = inl nothing
few status (inl low) (inr (inl below)) = absurd (omega (arith, below))
few status (inl low) (inr (inr above)) = inr (inl (omega (arith, low, above)))

pub ends_without_plan : (arguments : List (String Global)) (error : PlanError) (status : ℕ) (input out_old out_new err_old err_new : Option (List ℕ)) (Unwritten : Type 0) → is_check arguments ≡ true → agrees_with_error arguments error ≡ true → (status ≤ 1) ⊎ (status ≡ 3)
    → (status ≡ 0 → is_help_text error ≡ true) → (status ≡ 1 → FailsWithoutPlan err_old err_new Unwritten) → (status ≡ 3 → Unwritten) → (status ≡ 3 → ReportsArguments error err_old err_new)
    → ChecksFolder arguments status input out_old out_new err_old err_new Unwritten
ends_without_plan arguments error status input out_old out_new err_old err_new Unwritten check agreed statuses helps failed unwritten output =
    inl (without_plan status error err_old err_new Unwritten (few status statuses (cases_order status 0)) (λ nothing. no_help (names_check arguments) (asks_help arguments) (is_help_text error) check agreed (helps nothing)) failed unwritten output)
