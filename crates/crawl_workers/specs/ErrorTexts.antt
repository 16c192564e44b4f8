-- The text that `{}` prints for an error.
use Rattle.std.specs.Prelude.{ℕ, List, codes}
use Rattle.crawl_workers.specs.declared.error.RunError.{RunError}
use Rattle.crawl_workers.specs.declared.error.RunError.TheVariants.{NoMemory, NoThread}

-- what each error prints
abbrev pub run_error_text : RunError → List ℕ
run_error_text NoMemory = codes "out of memory"
run_error_text NoThread = codes "no thread"
