-- Small runs, with which the definitions are tested.
use Rattle.std.specs.Prelude.{ℕ, Bool, true, not, List, [], ◌∷◌, bytes_eq}
use Rattle.crawl_queues.specs.declared.entry.Entry.{Entry}
use Rattle.crawl_pages.specs.declared.page.Page.{Page}
use Rattle.crawl_pages.specs.declared.page.Page.TheVariants.{Found}
use Rattle.crawl_pages.specs.declared.page.PageResult.{PageResult}

-- URLs, filters, entries and results of the small runs
abbrev pub url_a : List ℕ
url_a = 97 ∷ []

abbrev pub url_b : List ℕ
url_b = 98 ∷ []

abbrev pub url_c : List ℕ
url_c = 99 ∷ []

abbrev pub url_gone : List ℕ
url_gone = 99 ∷ 103 ∷ []

abbrev pub url_d : List ℕ
url_d = 100 ∷ []

abbrev pub every : List ℕ → Bool
every url = true

abbrev pub all_but_d : List ℕ → Bool
all_but_d url = not (bytes_eq url url_d)

abbrev pub entry : List ℕ → ℕ → Entry
entry url hops = record { url = url; sender = 0; number = 0; hops = hops }

abbrev pub result_of : List ℕ → Page → PageResult
result_of url page = record { url = url; page = page }

abbrev pub ring_entries : List Entry
ring_entries = entry url_a 0 ∷ entry url_b 1 ∷ entry url_c 1 ∷ entry url_gone 2 ∷ []

abbrev pub ring_found : List PageResult
ring_found = result_of url_a (Found (url_b ∷ url_c ∷ []) 0) ∷ result_of url_b (Found (url_c ∷ url_a ∷ []) 0) ∷ result_of url_c (Found (url_a ∷ url_gone ∷ []) 0) ∷ []

abbrev pub gone : Page → List PageResult
gone page = result_of url_gone page ∷ []
