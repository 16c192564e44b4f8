-- How the commands for a folder end.
use Rattle.mercator.proofs.Prelude.{◌≡◌, ◌⊎◌, inl, inr, ℕ, Bool, true, false, List, Option, String, Global, ap, is_incomplete, CrawlError, CrawlFailure, of_crawl_by, of_site, status_of_error, IsBroken, IsChecked, IsCheckText, IsDiff, IsOutput, EndsBy, CommandError, GainsAs, Appends, reports, subst, sym, true≢false}
use Rattle.std.specs.Prelude.{IsSome}
use Rattle.mercator.specs.Outputs.{FailsCheck, FailsFix, is_off}
use Rattle.crawl_run.specs.declared.error.CrawlError.TheVariants as crawl
use Rattle.mercator_site.specs.Errors.{IsSiteIncomplete, is_unfinished}
use Rattle.mercator_site.specs.declared.error.FolderError.{FolderError}
use Rattle.mercator_site.specs.declared.error.FolderError.TheVariants as unsited
use Rattle.mercator_site.specs.declared.options.CheckOptions.{CheckOptions}
use Rattle.mercator_site.specs.declared.options.Fix.{Fix}
use Rattle.mercator_site.specs.declared.options.Fix.TheVariants as fix
use Rattle.mercator.specs.declared.commands.error.CommandError.TheVariants as wrong
use Rattle.mercator.specs.declared.commands.planned.Plan.TheVariants as asks

-- ---- why a check fails

crawl_fails : (options : CheckOptions) (ignores : Option (String Global)) (error : CrawlError) (failure : CrawlFailure) → (is_incomplete failure.error ≡ true → IsSiteIncomplete options) → FailsCheck options ignores (of_crawl_by error failure)
crawl_fails options ignores crawl.NoMemory failure incomplete = tt
crawl_fails options ignores error failure incomplete = incomplete

-- for the error of its folder
pub site_fails : (options : CheckOptions) (ignores : Option (String Global)) (error : FolderError) → (is_unfinished error ≡ true → IsSiteIncomplete options) → FailsCheck options ignores (of_site error)
site_fails options ignores (unsited.Crawl failure) incomplete = crawl_fails options ignores failure.error failure incomplete
site_fails options ignores unsited.NoMemory incomplete = tt
site_fails options ignores error incomplete = tt

-- for that of its ignore list
pub list_fails : (options : CheckOptions) (ignores : Option (String Global)) (error : CommandError) → (error ≡ wrong.NoMemory) ⊎ ((error ≡ wrong.CannotReadIgnores) × IsSome ignores) → FailsCheck options ignores error
list_fails options ignores error (inl is) = subst (λ (why : CommandError). FailsCheck options ignores why) (sym is) tt
list_fails options ignores error (inr is) = subst (λ (why : CommandError). FailsCheck options ignores why) (sym is.0) is.1

pub list_fails_fix : (ignores : Option (String Global)) (error : CommandError) → (error ≡ wrong.NoMemory) ⊎ ((error ≡ wrong.CannotReadIgnores) × IsSome ignores) → FailsFix ignores error
list_fails_fix ignores error (inl is) = subst (λ (why : CommandError). FailsFix ignores why) (sym is) tt
list_fails_fix ignores error (inr is) = subst (λ (why : CommandError). FailsFix ignores why) (sym is.0) is.1

-- for that of its site list
pub index_fails : (options : CheckOptions) (ignores : Option (String Global)) (error : CommandError) → (error ≡ wrong.NoMemory) ⊎ ((error ≡ wrong.CannotReadIndex) × IsSome options.site.index) → FailsCheck options ignores error
index_fails options ignores error (inl is) = subst (λ (why : CommandError). FailsCheck options ignores why) (sym is) tt
index_fails options ignores error (inr is) = subst (λ (why : CommandError). FailsCheck options ignores why) (sym is.0) is.1

-- for that of its fixes
pub fix_fails : (options : CheckOptions) (ignores : Option (String Global)) (error : CommandError) → is_off options.fix ≡ false → FailsFix ignores error → FailsCheck options ignores error
fix_fails options ignores wrong.CannotReadIgnores how fails = fails
fix_fails options ignores wrong.CannotFix how fails = how
fix_fails options ignores (wrong.Site why) how fails = tt
fix_fails options ignores wrong.NoMemory how fails = tt
fix_fails options ignores error how fails = absurd fails

-- the error of a site list has status 1
pub plain_index : (index : Option (String Global)) (error : CommandError) → (error ≡ wrong.NoMemory) ⊎ ((error ≡ wrong.CannotReadIndex) × IsSome index) → status_of_error error ≡ 1
plain_index index error (inl is) = ap status_of_error is
plain_index index error (inr is) = ap status_of_error is.0

-- ---- what a check prints

-- a report is what such a check prints
output_report : (how : Fix) (options : CheckOptions) (ignores : Option (String Global)) (broken : Bool) (text : List ℕ) → reports how ≡ true → IsChecked options ignores broken text → IsCheckText how options ignores broken text
output_report fix.Off options ignores broken text is checked = checked
output_report fix.Diff options ignores broken text is checked = absurd (true≢false (sym is))
output_report fix.Write options ignores broken text is checked = checked

-- the text is one that the command of a check may print
output_check : (options : CheckOptions) (ignores : Option (String Global)) (input : Option (List ℕ)) (broken : Bool) (text : List ℕ) → IsCheckText options.fix options ignores broken text
    → (text : List ℕ) × (IsOutput (asks.Check options ignores) input text ⊎ IsBroken (asks.Check options ignores) text)
output_check options ignores input false text output = (text, inl output)
output_check options ignores input true text output = (text, inr output)

-- it was appended
gains_text : (options : CheckOptions) (ignores : Option (String Global)) (input : Option (List ℕ)) (broken : Bool) (text : List ℕ) (old new : Option (List ℕ)) → IsCheckText options.fix options ignores broken text
    → Appends old new text → GainsAs broken (asks.Check options ignores) input old new
gains_text options ignores input false text old new output gained = record { text = text; output = output; gained = gained }
gains_text options ignores input true text old new output gained = record { text = text; output = output; gained = gained }

-- the report of a check is a text that its command may print
pub can_print : (options : CheckOptions) (ignores : Option (String Global)) (input : Option (List ℕ)) (broken : Bool) (text : List ℕ) → reports options.fix ≡ true → IsChecked options ignores broken text
    → (text : List ℕ) × (IsOutput (asks.Check options ignores) input text ⊎ IsBroken (asks.Check options ignores) text)
can_print options ignores input broken text is checked = output_check options ignores input broken text (output_report options.fix options ignores broken text is checked)

-- the report of a check was appended
pub gains_as : (options : CheckOptions) (ignores : Option (String Global)) (input : Option (List ℕ)) (broken : Bool) (text : List ℕ) (old new : Option (List ℕ)) → reports options.fix ≡ true → IsChecked options ignores broken text
    → Appends old new text → GainsAs broken (asks.Check options ignores) input old new
gains_as options ignores input broken text old new is checked gained = gains_text options ignores input broken text old new (output_report options.fix options ignores broken text is checked) gained

-- a diff is what a check with `--dry-run` prints
output_diff : (options : CheckOptions) (ignores : Option (String Global)) (broken : Bool) (text : List ℕ) → options.fix ≡ fix.Diff → IsDiff broken text → IsCheckText options.fix options ignores broken text
output_diff options ignores broken text is diff = subst (λ (how : Fix). IsCheckText how options ignores broken text) (sym is) diff

pub can_print_diff : (options : CheckOptions) (ignores : Option (String Global)) (input : Option (List ℕ)) (broken : Bool) (text : List ℕ) → options.fix ≡ fix.Diff → IsDiff broken text
    → (text : List ℕ) × (IsOutput (asks.Check options ignores) input text ⊎ IsBroken (asks.Check options ignores) text)
can_print_diff options ignores input broken text is diff = output_check options ignores input broken text (output_diff options ignores broken text is diff)

pub gains_diff : (options : CheckOptions) (ignores : Option (String Global)) (input : Option (List ℕ)) (broken : Bool) (text : List ℕ) (old new : Option (List ℕ)) → options.fix ≡ fix.Diff → IsDiff broken text
    → Appends old new text → GainsAs broken (asks.Check options ignores) input old new
gains_diff options ignores input broken text old new is diff gained = gains_text options ignores input broken text old new (output_diff options ignores broken text is diff) gained

-- how a check with `--dry-run` ends without one
pub ends_diff : (options : CheckOptions) (ignores : Option (String Global)) (input : Option (List ℕ)) (error : CommandError) (Unwritten : Type 0) → options.fix ≡ fix.Diff
    → ((FailsFix ignores error × Unwritten) ⊎ ((error ≡ wrong.CannotWrite) × ((broken : Bool) × (diff : List ℕ) × IsDiff broken diff)))
    → EndsBy (asks.Check options ignores) input error Unwritten
ends_diff options ignores input error Unwritten is (inl fails) = inl (fix_fails options ignores error (ap is_off is) fails.0, fails.1)
ends_diff options ignores input error Unwritten is (inr unwritten) = inr (inl (unwritten.0, can_print_diff options ignores input unwritten.1.0 unwritten.1.1 is unwritten.1.2))
