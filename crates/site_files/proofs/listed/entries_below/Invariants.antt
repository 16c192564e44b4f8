use Rattle.site_files.specs.Entries.{texts}
use Rattle.site_files.proofs.ListedPages.{SoFar}
use Rattle.site_files.proofs.listed.entries_below.Given as goal

abbrev pub invariant-urls : goal.invariant-urls
invariant-urls l = SoFar l.top l.urls (texts l.names) l.entries.items l.index
