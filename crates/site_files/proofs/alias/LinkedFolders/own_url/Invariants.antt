use Rattle.std.proofs.Common.{◌≡◌, [], IsUtf8, length, string_bytes}
use Rattle.site_files.specs.Links.{own_in}
use Rattle.site_files.specs.Pages.{own_spelling}
use Rattle.site_files.specs.Server.{names_of}
use Rattle.site_files.proofs.alias.LinkedFolders.own_url.Given as goal

abbrev pub decreases-names : goal.decreases-names
decreases-names l = length l.rest

abbrev pub invariant-names : goal.invariant-names
invariant-names l = record {
  utf8 : IsUtf8 l.rest;
  spells : own_spelling (own_in l.self) (string_bytes l.own) (names_of l.rest) ≡ own_spelling (own_in l.self) [] (names_of l.url);
}
