use native.Mathlib.Omega.{arith}
use Rattle.saved_pages.proofs.PageIndex.{page_there, no_page, item_at, has_url}
use Rattle.saved_pages.proofs.pages.Pages.get.Goals as goal

pub returns-in-Some-clause-page : goal.returns-in-Some-clause-page
returns-in-Some-clause-page c = grind (arith, item_at, page_there)

pub returns-in-Some-clause-same : goal.returns-in-Some-clause-same
returns-in-Some-clause-same c = has_url c.args.self.now c.args.url.now c.get.result (returns-in-Some-clause-page c)

pub returns-in-None-clause-page : goal.returns-in-None-clause-page
returns-in-None-clause-page c = grind (arith, no_page)
