-- What is counted for a result.
use Rattle.site_check.proofs.Prelude.{common_steps, ◌≡◌, ◌∙◌, ◌+◌, ◌<◌, ◌^◌, ◌++◌, ℕ, Bool, List, Option, Some, length, map, slice_get, sym, ap, arith, length-append, length-map, filter-append, count_by-le-length, length-filter, slice_get-map, slice_get_within, option_map, PageResult, Count, IsTally, Linked, linked, linked_at}
use Rattle.crawl_sources.specs.Sources.{sources_of}
use Rattle.site_check.specs.declared.linked.Linked as code

abbrev pub with_pages : PageResult → ℕ → Linked
with_pages r n = record { result = r; pages = n }

pub linked_counted : (all : Bool) (results : List PageResult) (r : PageResult) (o : Option Count) (c : Count) → o ≡ Some c → IsTally all results r.url o → with_pages r c.count ≡ linked results r
linked_counted all results r o c is k = grind (arith, common_steps)

-- what is counted in some results and in those after them fits if all of these do
pub sources_fit : (front back : List PageResult) (url : List ℕ) → length front + length back < 2 ^ 64 → length (sources_of front url) + length (sources_of back url) < 2 ^ 64
sources_fit front back url fits = grind (arith, common_steps, length-filter, count_by-le-length)

-- and is what is counted in all of them
pub linked_more : (front back : List PageResult) (r : PageResult) → with_pages r (length (sources_of front r.url) + length (sources_of back r.url)) ≡ linked (front ++ back) r
linked_more front back r = grind (arith, common_steps, filter-append, length-append)

-- the count that is at an index
pub pages_there : (list : List code.Linked) (results those : List PageResult) → map linked_at list ≡ map (linked results) those → (k : ℕ) (one : PageResult) → slice_get those k ≡ Some one → option_map linked_at (slice_get list k) ≡ Some (linked results one)
pages_there list results those same k one is =
    sym (slice_get-map linked_at list k) ∙ ap (λ xs. slice_get xs k) same ∙ slice_get-map (linked results) those k ∙ ap (option_map (linked results)) is

-- there is one at each index at which there is a result
pub within_counts : (list : List code.Linked) (results those : List PageResult) → map linked_at list ≡ map (linked results) those → (k : ℕ) (one : PageResult) → slice_get those k ≡ Some one → k < length list
within_counts list results those same k one is = grind (arith, common_steps, slice_get_within, length-map)
