-- Results in the order of their URLs, and the numbers that they are sorted by.
use Rattle.std.specs.Prelude.{◌≡◌, ℕ, ◌+◌, ◌*◌, ◌<◌, ◌≤◌, List, map, length, take, drop, All, Contains}
use Rattle.std.specs.List.Sorted.{IsNonDecreasingBy, IsSortedByKey}
use Rattle.std.specs.Cmp.Lexicographic.{slice_cmp}
use Rattle.std.specs.Ordering.{nat_cmp}
use Rattle.crawl_pages.specs.declared.page.PageResult.{PageResult}
use Rattle.result_order.specs.declared.numbered.Numbered.{Numbered}
use Rattle.result_order.specs.Sixteens.{BeginAlike, AreAlikeWithin, IsSixteen}

-- the results without their numbers
abbrev pub pages_of : List Numbered → List PageResult
pages_of pages = map (λ p. p.page) pages

-- all URLs have the same first n bytes
abbrev pub AllBeginAlike : ℕ → List PageResult → Type 0
AllBeginAlike count pages = (a b : PageResult) → Contains pages a → Contains pages b → BeginAlike count a.url b.url

-- from one index up to an end, which is at most `most`, all URLs have the bytes of the text
pub record IsAlikeUntil (from most : ℕ) (text : List ℕ) (pages : List Numbered) (end : ℕ) : Type 0 where
  pub least : from ≤ end
  pub within : end ≤ most
  pub alike : All (λ p. AreAlikeWithin from end text p.page.url) pages

-- the number has the sixteen bytes of its URL from an index on
abbrev pub IsNumbered : ℕ → Numbered → Type 0
IsNumbered from numbered = IsSixteen numbered.page.url from numbered.number

-- the number is set to the sixteen bytes of the URL from an index on, and the page does not change
pub record IsNumberSet (from : ℕ) (old new : Numbered) : Type 0 where
  pub same : new.page ≡ old.page
  pub numbered : IsNumbered from new

-- each number is set to the sixteen bytes of its URL from an index on, before which all URLs are the same; `levels` numbers fit
-- after it
pub record AreNumbered (levels from : ℕ) (old new : List Numbered) : Type 0 where
  pub same : pages_of new ≡ pages_of old
  pub alike : AllBeginAlike from (pages_of old)
  pub room : from + 16 * levels ≤ 4096
  pub numbered : All (IsNumbered from) new

-- each URL is at most the next one, byte by byte
abbrev pub AreInOrder : List Numbered → Type 0
AreInOrder pages = IsSortedByKey (λ p. p.page.url) (slice_cmp nat_cmp) pages

-- results that begin alike up to an index, in the order of their numbers, which have the sixteen bytes from that index on
pub record ArePrepared (from levels : ℕ) (pages : List Numbered) : Type 0 where
  pub alike : AllBeginAlike from (pages_of pages)
  pub room : from + 16 * levels ≤ 4080
  pub numbered : All (IsNumbered from) pages
  pub rising : IsNonDecreasingBy (λ p. p.number) pages

-- all have the same number
abbrev pub AllEqual : List Numbered → Type 0
AllEqual pages = (a b : Numbered) → Contains pages a → Contains pages b → a.number ≡ b.number

-- the index is inside the list, and each number before it is less than each number from it on
pub record ArePartedAt (pages : List Numbered) (index : ℕ) : Type 0 where
  pub some : 0 < index
  pub more : index < length pages
  pub less : (a b : Numbered) → Contains (take index pages) a → Contains (drop index pages) b → a.number < b.number
