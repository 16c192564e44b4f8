use Rattle.saved_web.proofs.Prelude.{◌≡◌, ℕ, List, true, false, take, has}
use Rattle.saved_web.proofs.web_pages.some_has.Given as goal

abbrev pub invariant-loop-page : goal.invariant-loop-page
invariant-loop-page l = (url : List ℕ) → has (take l.page-index l.list) url ≡ true → has l.pages url ≡ false
