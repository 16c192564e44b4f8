use Rattle.mercator_site.proofs.SameChecks.{same_pages, same_redirects, same_results, same_unreached}
use Rattle.mercator_site.proofs.laws.same_findings_for_any_threads.Goals as goal

pub returns-clause-results : goal.returns-clause-results
returns-clause-results g c = λ files. same_results files (g.B.FileBytes.reads c.args.bytes.now)

pub returns-clause-redirects : goal.returns-clause-redirects
returns-clause-redirects g c = λ files. same_redirects files (g.B.FileBytes.reads c.args.bytes.now)

pub returns-clause-unreached : goal.returns-clause-unreached
returns-clause-unreached g c = λ files. same_unreached files (g.B.FileBytes.reads c.args.bytes.now)

pub returns-clause-pages : goal.returns-clause-pages
returns-clause-pages g c = λ files. same_pages files (g.B.FileBytes.reads c.args.bytes.now)
