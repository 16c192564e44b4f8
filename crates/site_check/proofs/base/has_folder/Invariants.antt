use Rattle.site_check.proofs.Prelude.{◌≡◌, drop, has_folder, is_in_folder, list_any, pages_of}
use Rattle.site_check.proofs.base.has_folder.Given as goal

abbrev pub invariant-loop-number : goal.invariant-loop-number
invariant-loop-number l = list_any (is_in_folder l.files l.folder) (drop l.number (pages_of l.files)) ≡ has_folder l.files l.folder
