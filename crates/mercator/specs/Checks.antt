-- A check, from the arguments to the exit status and what was written.
use Rattle.std.specs.Prelude.{◌≡◌, ◌==◌, ◌⊎◌, ℕ, Bool, true, false, not, ◌&&◌, ◌||◌, List, [], ◌∷◌, Option, bytes_eq, codes, count_by, if◌then◌else◌, is_some, length, nat_eq, String, string_bytes}
use Rattle.std.specs.Io.KnownBytes.{Appends}
use Rattle.std.specs.List.{list_any, starts_with}
use Rattle.std.specs.declared.alloc.Global.{Global}
use Rattle.mercator.specs.Outputs.{EndsByError, FailsWithoutPlan, IsCheckText, ReportsArguments, is_off}
use Rattle.mercator.specs.declared.commands.plan_error.PlanError.{PlanError}
use Rattle.mercator.specs.declared.commands.plan_error.PlanError.TheVariants as unplanned
use Rattle.mercator.specs.declared.commands.planned.Plan.{Plan}
use Rattle.mercator.specs.declared.commands.planned.Plan.TheVariants as asks
use Rattle.mercator_site.specs.declared.options.CheckOptions.{CheckOptions}
use Rattle.mercator_site.specs.declared.options.SiteOptions.{SiteOptions}
use Rattle.site_check.specs.Reported.{reports_all}

-- ---- the arguments

-- one of the arguments is this text
abbrev pub has_word : List (String Global) → List ℕ → Bool
has_word arguments text = list_any (λ word. bytes_eq (string_bytes word) text) arguments

-- the first argument is `check`
abbrev pub names_check : List (String Global) → Bool
names_check [] = false
names_check (word ∷ arguments) = bytes_eq (string_bytes word) (codes "check")

-- the argument begins with the short form of `--help` or `--version`
abbrev pub has_help_letter : List ℕ → Bool
has_help_letter word = starts_with nat_eq word (codes "-h") || starts_with nat_eq word (codes "-V")

-- the argument asks for help or for the version
abbrev pub is_help : List ℕ → Bool
is_help word = bytes_eq word (codes "help") || (bytes_eq word (codes "--help") || (bytes_eq word (codes "--version") || has_help_letter word))

abbrev pub asks_help : List (String Global) → Bool
asks_help arguments = list_any (λ word. is_help (string_bytes word)) arguments

-- the arguments are those of a check: the first is `check`, and none asks for help
abbrev pub is_check : List (String Global) → Bool
is_check arguments = names_check arguments && not (asks_help arguments)

-- the arguments say that no configuration file is read. After `--`, no argument is an option
abbrev pub has_no_config : List (String Global) → Bool
has_no_config arguments = has_word arguments (codes "--no-config") && not (has_word arguments (codes "--"))

-- the argument begins like an option, and is not `--no-config`
abbrev pub is_option : List ℕ → Bool
is_option word = starts_with nat_eq word (codes "-") && not (bytes_eq word (codes "--no-config"))

abbrev pub has_option : List (String Global) → Bool
has_option arguments = list_any (λ word. is_option (string_bytes word)) arguments

-- a configuration file or an argument may set options
abbrev pub may_set_options : List (String Global) → Bool
may_set_options arguments = not (has_no_config arguments) || has_option arguments

-- ---- the plan

-- a check starts at all documents, looks for all kinds of errors, and rewrites nothing
abbrev pub is_whole : CheckOptions → Bool
is_whole options = options.anchors && (reports_all options.scope && (not options.reachable && is_off options.fix))

-- pages are found by the usual rules of a static server, and the links in styles are read
abbrev pub has_usual_rules : SiteOptions → Bool
has_usual_rules site = (length site.index_files.items == 0) && (site.styles && (site.sniff && not (is_some site.index || (site.html_fallback || (site.exact || (site.queries || site.follow))))))

-- a check with usual rules also has no ignore list, and looks up no link in another folder, so that it reports all that it finds
abbrev pub is_plain : CheckOptions → Option (String Global) → Bool
is_plain options ignores = not (is_some ignores) && ((length options.maps.items == 0) && (is_whole options && has_usual_rules options.site))

-- the number of arguments that are not `--no-config`
abbrev pub word_count : List (String Global) → ℕ
word_count arguments = count_by (λ word. not (bytes_eq (string_bytes word) (codes "--no-config"))) arguments

-- the report has paths if and only if there is no BASE after `check` and FOLDER
abbrev pub has_paths_without_base : List (String Global) → CheckOptions → Bool
has_paths_without_base arguments options = if word_count arguments == 2 then options.paths else not options.paths

-- there is no BASE, or BASE is one of the arguments, or a configuration file may set it
abbrev pub agrees_with_base : List (String Global) → CheckOptions → Bool
agrees_with_base arguments options = options.paths || (has_word arguments (string_bytes options.site.base) || not (has_no_config arguments))

-- FOLDER is one of the arguments, and so is BASE; and if nothing sets options, the check reports all that it finds, as paths if there is
-- no BASE
abbrev pub agrees_with_check : List (String Global) → CheckOptions → Option (String Global) → Bool
agrees_with_check arguments options ignores = has_word arguments (string_bytes options.site.folder) && (agrees_with_base arguments options && (may_set_options arguments || (is_plain options ignores && has_paths_without_base arguments options)))

-- the plan agrees with the arguments. Only that of a check is compared with those of a check
abbrev pub agrees : List (String Global) → Plan → Bool
agrees arguments (asks.Check options ignores) = agrees_with_check arguments options ignores
agrees arguments plan = not (is_check arguments)

-- the text is help or the version, and not an error
abbrev pub is_help_text : PlanError → Bool
is_help_text (unplanned.Shown text status) = status == 0
is_help_text unplanned.NoMemory = false

-- help and the version are only for arguments that ask for them
abbrev pub agrees_with_error : List (String Global) → PlanError → Bool
agrees_with_error arguments error = not (is_help_text error) || asks_help arguments

-- ---- how a check ends

-- the report of a check with these options was appended to the output, or its diff; `broken` is whether it found something broken
pub record WritesReport (options : CheckOptions) (ignores : Option (String Global)) (broken : Bool) (old new : Option (List ℕ)) : Type 0 where
  pub text : List ℕ
  pub is_text : IsCheckText options.fix options ignores broken text
  pub written : Appends old new text

-- the exit status of a check with these options says what was written: with 0 and 4 the report, with any other its error
abbrev pub EndsCheck : CheckOptions → Option (String Global) → ℕ → Option (List ℕ) → Option (List ℕ) → Option (List ℕ) → Option (List ℕ) → Option (List ℕ) → Type 0 → Type 0
EndsCheck options ignores status input out_old out_new err_old err_new Unwritten =
    ((status ≡ 0) × WritesReport options ignores false out_old out_new)
    ⊎ (((status ≡ 4) × WritesReport options ignores true out_old out_new)
    ⊎ EndsByError (asks.Check options ignores) status input err_old err_new Unwritten)

-- there is no check, and nothing was written but the reason: the command line or the configuration file is bad, or memory ran out
abbrev pub EndsUnchecked : ℕ → Option (List ℕ) → Option (List ℕ) → Type 0 → Type 0
EndsUnchecked status err_old err_new Unwritten =
    ((status ≡ 3) × (Unwritten × ((error : PlanError) × ReportsArguments error err_old err_new))) ⊎ ((status ≡ 1) × FailsWithoutPlan err_old err_new Unwritten)

-- the exit status of a check of these arguments says what was written
abbrev pub ChecksFolder : List (String Global) → ℕ → Option (List ℕ) → Option (List ℕ) → Option (List ℕ) → Option (List ℕ) → Option (List ℕ) → Type 0 → Type 0
ChecksFolder arguments status input out_old out_new err_old err_new Unwritten =
    EndsUnchecked status err_old err_new Unwritten
    ⊎ ((options : CheckOptions) × ((ignores : Option (String Global)) × ((agrees_with_check arguments options ignores ≡ true) × EndsCheck options ignores status input out_old out_new err_old err_new Unwritten)))
