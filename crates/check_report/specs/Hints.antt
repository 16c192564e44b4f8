-- The text of the hint at BASE.
use Rattle.std.specs.Prelude.{ℕ, List, ◌++◌, codes, decimal, string_bytes, if◌then◌else◌}
use Rattle.check_report.specs.Escape.{escaped}
use Rattle.check_report.specs.Names.{has_host}
use Rattle.check_report.specs.declared.escape.Escape.{Escape}
use Rattle.check_report.specs.declared.value.BaseHint.{BaseHint}

-- a folder that is not in the site, with which many paths begin, and what to pass as BASE
abbrev pub folder_end : List ℕ → List ℕ
folder_end folder = codes " paths from the root begin with " ++ (folder ++ codes ", which is not in the folder: pass BASE, such as https://HOST" ++ folder)

-- a URL with which many links begin, or such a folder
abbrev pub hint_end : List ℕ → List ℕ
hint_end start = if has_host start then codes " HTTP links begin with " ++ start ++ codes ": pass it as BASE" else folder_end start

-- how many begin with it, and of how many
abbrev pub hint_counts : BaseHint → List ℕ
hint_counts h = codes "hint: " ++ decimal h.paths ++ codes " of " ++ decimal h.of

unfoldable pub base_hint_text : BaseHint → List ℕ
base_hint_text h = hint_counts h ++ hint_end (string_bytes h.folder)

abbrev pub base_hint : Escape → BaseHint → List ℕ
base_hint how h = escaped how (base_hint_text h)
