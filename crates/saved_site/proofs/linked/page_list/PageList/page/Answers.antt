use Rattle.std.proofs.Common.{arith}
use Rattle.saved_pages.proofs.PageIndex.{item_at}
use Rattle.saved_site.proofs.LedPages.{found_at_index}
use Rattle.saved_site.proofs.linked.page_list.PageList.page.Goals as goal

pub returns-in-None : goal.returns-in-None
returns-in-None c = grind (arith, item_at, found_at_index)

pub returns-in_ok-page-in-Some-get : goal.returns-in_ok-page-in-Some-get
returns-in_ok-page-in-Some-get c = grind (arith, item_at, found_at_index)
