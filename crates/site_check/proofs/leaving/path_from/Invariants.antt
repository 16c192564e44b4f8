use denote.Shadow.{shadow}
use denote.Text.{Utf8}
use Rattle.site_check.proofs.Prelude.{◌≡◌, length, path_from}
use Rattle.site_check.proofs.leaving.path_from.Given as goal

abbrev pub invariant-folders : goal.invariant-folders
invariant-folders l = shadow (Utf8 l.folders) × shadow (Utf8 l.rest) × (path_from l.folders l.rest ≡ path_from l.fn.top l.fn.url)

abbrev pub decreases-folders : goal.decreases-folders
decreases-folders l = length l.folders
