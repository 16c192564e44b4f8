use Rattle.std.proofs.Common.{◌≡◌, [], IsUtf8, length, string_bytes}
use Rattle.site_files.specs.Server.{names_of}
use Rattle.site_files.specs.Skipped.{outside_in, outside_on}
use Rattle.site_files.proofs.skipped.SkippedLinks.is_outside_on.Given as goal

abbrev pub decreases-names : goal.decreases-names
decreases-names l = length l.rest

abbrev pub invariant-names : goal.invariant-names
invariant-names l = record {
  utf8 : IsUtf8 l.rest;
  found : outside_on (outside_in l.self) (string_bytes l.front) (names_of l.rest) ≡ outside_on (outside_in l.self) [] (names_of l.url);
}
