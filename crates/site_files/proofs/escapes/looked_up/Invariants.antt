use Rattle.std.proofs.Common.{◌≡◌, [], length}
use Rattle.site_files.specs.Names.{shown}
use Rattle.site_files.specs.Server.{ends_in_folder, names_of, walked}
use Rattle.site_files.proofs.escapes.looked_up.Given as goal

abbrev pub decreases-names : goal.decreases-names
decreases-names l = length l.rest

abbrev pub invariant-names : goal.invariant-names
invariant-names l = record {
  walks : walked (shown l.way.items) (names_of l.rest) ≡ walked [] (names_of l.path);
  ends : ends_in_folder (names_of l.rest) ≡ ends_in_folder (names_of l.path);
}
