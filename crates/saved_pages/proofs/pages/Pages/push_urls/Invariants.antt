use Rattle.std.proofs.Common.{◌≡◌, ◌++◌, take}
use Rattle.saved_pages.specs.PageLists.{urls}
use Rattle.saved_pages.proofs.pages.Pages.push_urls.Given as goal

abbrev pub invariant-loop-page : goal.invariant-loop-page
invariant-loop-page l = l.all.items ≡ l.fn.all.items ++ urls (take l.page-index l.self)
