use Rattle.saved_site.specs.Served.{IsServedPage}
use Rattle.saved_site.proofs.web.site_pages.Given as goal

abbrev pub ghosts-named_pages : goal.ghosts-named_pages
ghosts-named_pages g a = record { serves = IsServedPage a.files.now (g.B.FileBytes.reads a.bytes.now) }
