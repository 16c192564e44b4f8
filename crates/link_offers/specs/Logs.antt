-- What a log contains about links.
use Rattle.std.specs.Prelude.{◌≡◌, ℕ, Bool, IsTrue, List, ◌++◌, map, All, Contains}
use Rattle.crawl_keys.specs.Assignment.{subqueue_of}
use Rattle.crawl_queues.specs.declared.book.Logged.{Logged}
use Rattle.crawl_queues.specs.declared.book.Logged.TheVariants.{Accepted, Seen}
use Rattle.crawl_queues.specs.Books.{BookId}

-- the URL and the subqueue of a line of a log
abbrev pub line_of : Logged → List ℕ × ℕ
line_of (Accepted e q) = (e.url, q)
line_of (Seen url q) = (url, q)

-- the log has a line for this URL, which the URL's subqueue accepted or had seen
abbrev pub HasLine : ℕ → List Logged → List ℕ → Type 0
HasLine workers log url = Contains (map line_of log) (url, subqueue_of url workers)

-- the log has a line for each of these URLs that is allowed
abbrev pub AllLogged : ℕ → (List ℕ → Bool) → List Logged → List (List ℕ) → Type 0
AllLogged workers allowed log urls = All (λ url. IsTrue (allowed url) → HasLine workers log url) urls

-- the books are those of the same sender, and the old log is the beginning of the new one
pub record Grows (b b' : BookId) : Type 0 where
  pub more : List Logged
  pub id : b'.id ≡ b.id
  pub log : b'.log ≡ b.log ++ more
