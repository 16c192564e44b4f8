use Rattle.crawl_certificate.proofs.Prelude.{ℕ, Bool, not, List, arith, both_ways, false_from_ne_true, or_parts, or_from, Entry, PageResult, links_of, is_accepted, has_result, is_founded, is_lost, HasNoneAt}
use Rattle.crawl_certificate.proofs.LeastUrls.{neither_below, urls_at, elements_at, lists_at}
use Rattle.crawl_certificate.proofs.Twice.{url_is_twice}
use Rattle.crawl_certificate.proofs.laws.culprits.Goals as goal

-- if a run does not have an error, no URL shows that error
none_at : (allowed : List ℕ → Bool) (seeds : List (List ℕ)) (entries : List Entry) (results : List PageResult) → HasNoneAt allowed seeds entries results
none_at allowed seeds entries results = record {
  seeds = λ none url. false_from_ne_true _ (λ yes. both_ways _ none (urls_at (λ (s : List ℕ). s) (is_lost allowed entries) seeds url yes));
  fetched = λ none url. false_from_ne_true _ (λ yes. both_ways _ none (urls_at (λ (e : Entry). e.url) (λ u. not (has_result results u)) entries url yes));
  links = λ none url. false_from_ne_true _ (λ yes. both_ways _ none (lists_at (λ (r : PageResult). links_of r.page) (is_lost allowed entries) results url yes));
  founded = λ none url.
      let parts = or_parts _ _ none in
      or_from _ _
      (false_from_ne_true _ (λ yes. both_ways _ parts.0 (elements_at (λ (e : Entry). e.url) (λ (e : Entry). not (is_founded allowed seeds entries results e)) entries url yes)))
      (false_from_ne_true _ (λ yes. both_ways _ parts.1 (urls_at (λ (r : PageResult). r.url) (λ u. not (is_accepted entries u)) results url yes)));
  once = λ none url. false_from_ne_true _ (λ yes. both_ways _ none (url_is_twice results url yes));
}

pub returns-clause-one : goal.returns-clause-one
returns-clause-one c = grind (arith, neither_below)

pub returns-clause-before : goal.returns-clause-before
returns-clause-before c = none_at
