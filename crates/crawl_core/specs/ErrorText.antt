-- What an error prints.
use Rattle.std.specs.Prelude.{ℕ, List, codes}
use Rattle.crawl_core.specs.declared.error.CoreError.{CoreError}
use Rattle.crawl_core.specs.declared.error.CoreError.TheVariants.{BadWorkers, BadMax, NoMemory}

-- what each error prints
abbrev pub error_text : CoreError → List ℕ
error_text BadWorkers = codes "bad number of workers"
error_text BadMax = codes "bad maximum"
error_text NoMemory = codes "out of memory"
