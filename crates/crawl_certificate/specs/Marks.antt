-- What a pass over results finds, and the combination of two passes.
use Rattle.std.specs.Prelude.{◌≡◌, ℕ, Bool, ◌&&◌, ◌||◌, List, [], ◌∷◌, map, slice_get, Option, None, Some, true, bytes_eq}
use Rattle.std.specs.List.{list_any}
use Rattle.crawl_queues.specs.declared.entry.Entry.{Entry}
use Rattle.crawl_pages.specs.declared.page.PageResult.{PageResult}
use Rattle.crawl_certificate.specs.declared.marks.Marks.{Marks}
use Rattle.crawl_certificate.specs.CertErrors.{has_result, is_linked}
use Rattle.crawl_certificate.specs.Culprits.{is_a_link, is_lost, is_a_stray, is_twice}
use Rattle.crawl_certificate.specs.Least.{IsLeast, url_of, lesser}

-- what a pass over these results finds
pub record AreMarks (allowed : List ℕ → Bool) (entries : List Entry) (results : List PageResult) (marks : Marks) : Type 0 where
  pub fetched : marks.fetched.items ≡ map (λ e. has_result results e.url) entries
  pub linked : marks.linked.items ≡ map (is_linked entries results) entries
  pub missing : IsLeast (λ url. is_a_link results url && is_lost allowed entries url) (url_of marks.least.missing)
  pub stray : IsLeast (is_a_stray entries results) (url_of marks.least.stray)
  pub twice : url_of marks.least.stray ≡ None → IsLeast (is_twice results) (url_of marks.least.twice)

-- each marked entry passes the test
abbrev pub MarksOnly : (Entry → Bool) → List Entry → List Bool → Type 0
MarksOnly test entries marks = (k : ℕ) (e : Entry) → slice_get entries k ≡ Some e → slice_get marks k ≡ Some true → test e ≡ true

-- an entry is marked if it is marked in one of the two lists
abbrev pub in_one : List Bool → List Bool → List Bool
in_one marks [] = marks
in_one [] (y ∷ ys) = []
in_one (x ∷ xs) (y ∷ ys) = (x || y) ∷ in_one xs ys

-- what is found is what the two passes found; `both` is the least URL of an entry for which both found a result
pub record AreTogether (entries : List Entry) (first second found : Marks) : Type 0 where
  pub both : Option (List ℕ)
  pub fetched : found.fetched.items ≡ in_one first.fetched.items second.fetched.items
  pub linked : found.linked.items ≡ in_one first.linked.items second.linked.items
  pub missing : url_of found.least.missing ≡ lesser (url_of first.least.missing) (url_of second.least.missing)
  pub stray : url_of found.least.stray ≡ lesser (url_of first.least.stray) (url_of second.least.stray)
  pub twice : url_of found.least.twice ≡ lesser (lesser (url_of first.least.twice) (url_of second.least.twice)) both
  pub shared : (own its : Entry → Bool) → first.fetched.items ≡ map own entries → second.fetched.items ≡ map its entries → IsLeast (λ url. list_any (λ e. bytes_eq e.url url && (own e && its e)) entries) both
