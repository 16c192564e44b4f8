use Rattle.std.proofs.Common.{◌≡◌, ◌++◌, length, string_bytes}
use Rattle.site_files.specs.Server.{respelled}
use Rattle.site_files.proofs.escapes.push_respelled.Given as goal

abbrev pub decreases-names : goal.decreases-names
decreases-names l = length l.rest

abbrev pub invariant-names : goal.invariant-names
invariant-names l = string_bytes l.url ++ respelled l.rest ≡ string_bytes l.initial.url ++ respelled l.path
