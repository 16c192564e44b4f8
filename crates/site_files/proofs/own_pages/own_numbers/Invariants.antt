use Rattle.site_files.specs.Entries.{server_at, texts}
use Rattle.site_files.proofs.OwnPages.{OwnSoFar}
use Rattle.site_files.proofs.own_pages.own_numbers.Given as goal

abbrev pub invariant-names : goal.invariant-names
invariant-names l = OwnSoFar (server_at l.rules l.site) l.pages (texts l.names) l.own.items l.index
