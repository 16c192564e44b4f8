-- A run that lost nothing has none of the first three errors.
use Rattle.crawl_certificate.proofs.Prelude.{◌≡◌, ℕ, Bool, true, false, not, List, subst, arith, Contains, and_right, not_from_true, and_left, cases_Bool, All-weaker, list_any_none, Entry, PageResult, is_accepted, has_result, some_missing, seed_missing, not_fetched, link_missing, entry_urls, result_urls, NothingLost, AllowedAreIn, links_of}
use Rattle.crawl_certificate.proofs.Lists.{any_from, text_itself}
use Rattle.crawl_certificate.proofs.Certified.{from_map}

pub accepted_in : (entries : List Entry) (url : List ℕ) → Contains (entry_urls entries) url → is_accepted entries url ≡ true
accepted_in entries url has =
    let e = from_map (λ (x : Entry). x.url) entries url has in
    subst (λ u. is_accepted entries u ≡ true) e.2 (any_from _ entries e.0 e.1 (text_itself e.0.url))

result_in : (results : List PageResult) (url : List ℕ) → Contains (result_urls results) url → has_result results url ≡ true
result_in results url has =
    let r = from_map (λ (x : PageResult). x.url) results url has in
    subst (λ u. has_result results u ≡ true) r.2 (any_from _ results r.0 r.1 (text_itself r.0.url))

none_missing : (allowed : List ℕ → Bool) (entries : List Entry) (urls : List (List ℕ)) → AllowedAreIn allowed (entry_urls entries) urls → some_missing allowed (is_accepted entries) urls ≡ false
none_missing allowed entries urls all = grind (arith, list_any_none, All-weaker, cases_Bool, and_right, not_from_true, accepted_in, and_left)

pub nothing_lost : (allowed : List ℕ → Bool) (seeds : List (List ℕ)) (entries : List Entry) (results : List PageResult) → NothingLost allowed seeds entries results → (seed_missing allowed seeds entries ≡ false) × (not_fetched entries results ≡ false) × (link_missing allowed entries results ≡ false)
nothing_lost allowed seeds entries results kept = (
  none_missing allowed entries seeds kept.seeds,
  list_any_none (λ (e : Entry). not (has_result results e.url)) entries
      (All-weaker (λ (e : Entry). Contains (result_urls results) e.url) (λ (e : Entry). not (has_result results e.url) ≡ false) (λ e has. not_from_true _ (result_in results e.url has)) entries kept.fetched),
  list_any_none (λ (r : PageResult). some_missing allowed (is_accepted entries) (links_of r.page)) results
      (All-weaker (λ (r : PageResult). AllowedAreIn allowed (entry_urls entries) (links_of r.page)) (λ (r : PageResult). some_missing allowed (is_accepted entries) (links_of r.page) ≡ false) (λ r has. none_missing allowed entries (links_of r.page) has) results kept.links),
)
