-- What contracts state of the code that reads a script.
use Rattle.std.specs.Prelude.{◌≡◌, ◌<◌, ℕ, List, length, None, Some}
use Rattle.html_links.specs.declared.script.State.{State}
use Rattle.html_links.specs.declared.script.Scan.{Scan}
use Rattle.html_links.specs.declared.script.Scan.TheVariants as scan
use Rattle.html_links.specs.Script.{run}

abbrev pub Scans : Scan → State → List ℕ → Type 0
Scans (scan.Go to more) state bytes = run state bytes ≡ run to more.now
Scans (scan.Ends here) state bytes = run state bytes ≡ Some here.now
Scans scan.Unfinished state bytes = run state bytes ≡ None

abbrev pub LeavesScan : Scan → List ℕ → Type 0
LeavesScan (scan.Go to more) bytes = length more.now < length bytes
LeavesScan (scan.Ends here) bytes = Unit {0}
LeavesScan scan.Unfinished bytes = Unit {0}
