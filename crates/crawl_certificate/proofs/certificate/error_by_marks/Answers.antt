use Rattle.crawl_certificate.proofs.Prelude.{◌==◌, not, ◌&&◌, map, sym, ap, subst, ◌∙◌, if◌then◌else◌, ◌≡◌, inl, inr, ℕ, Bool, ◌||◌, List, Option, Some, None, is_some, Result, Ok, Err, arith, list_any, bytes_eq, Entry, allows, has_result, is_linked, first_of, is_accepted, contains_url, is_founded, seed_missing, not_fetched, link_missing, unfounded, twice, first_named, NamesFirst, is_lost, is_unfounded, is_a_stray, shows_error, IsCulprit, Names, NamesCulprit, IsLeast, url_of, lesser, is_in, Urls, PageResult, links_of, Marks, AreMarks}
use Rattle.crawl_certificate.specs.declared.error.CertError.{CertError}
use Rattle.crawl_certificate.specs.declared.culprit.Culprit.{Culprit}
use Rattle.crawl_certificate.specs.declared.error.CertError.TheVariants as wrong
use Rattle.crawl_certificate.proofs.LeastUrls.{by_test, least_of_both, lesser_none, some_lesser, at_urls, some_of_urls, some_of_elements, some_of_lists}
use Rattle.crawl_certificate.proofs.Twice.{some_twice}
use Rattle.crawl_certificate.proofs.certificate.error_by_marks.Goals as goal

-- ---- the least URL of each error

fetched_known : (entries : List Entry) (results : List PageResult) (its_least : Option (List ℕ)) → IsLeast (λ url. list_any (λ e. bytes_eq e.url url && not (has_result results e.url)) entries) its_least → IsLeast (λ url. is_accepted entries url && not (has_result results url)) its_least
fetched_known entries results its_least is = by_test _ _ its_least (at_urls (λ (e : Entry). e.url) (λ url. not (has_result results url)) entries) is

-- an entry that is not founded, by the set of the seeds
founded_known : (allowed : List ℕ → Bool) (seeds : List (List ℕ)) (entries : List Entry) (results : List PageResult) (known : Urls) → ((url : List ℕ) → is_in known url ≡ contains_url seeds url) → (its_least : Option (List ℕ)) → IsLeast (λ url. list_any (λ e. bytes_eq e.url url && not (allowed e.url && (if e.hops == 0 then is_in known e.url else is_linked entries results e))) entries) its_least → IsLeast (is_unfounded allowed seeds entries results) its_least
founded_known allowed seeds entries results known says its_least is =
    subst (λ t. IsLeast t its_least) (λ i url. list_any (λ (e : Entry). bytes_eq e.url url && not (allowed e.url && (if e.hops == 0 then says e.url i else is_linked entries results e))) entries) is

-- ---- the first of the errors

-- the first error, with its least URL, is the culprit
module _ (at : CertError → List ℕ → Bool) (cause : CertError) (url : List ℕ) (least : IsLeast (at cause) (Some url)) where
  pub names_it : (first : Option (CertError × List ℕ)) → first ≡ Some (cause, url) → (culprit : Culprit) → (u : List ℕ) → first ≡ Some (culprit.cause, u) → culprit.url ≡ Some u → IsCulprit (Some cause) at culprit
  names_it first here' culprit u there' named =
      let both : ◌≡◌ {A = Option (CertError × List ℕ)} (Some (cause, url)) (Some (culprit.cause, u)) = sym here' ∙ there' in
      let pair : ◌≡◌ {A = CertError × List ℕ} (cause, url) (culprit.cause, u) = cc in
      record {
        url = u;
        cause = ap (λ p. Some p.0) pair;
        named = named;
        least = subst (λ p. IsLeast (at p.0) (Some p.1)) pair least;
      }

  pub names_one : (first : Option (CertError × List ℕ)) → first ≡ Some (cause, url) → (result : Result (Unit {0}) Culprit) → NamesFirst first result → Names result (Some cause) at
  names_one first here' (Ok x) none = let clash : ◌≡◌ {A = Option (CertError × List ℕ)} (Some (cause, url)) None = sym here' ∙ none in absurd (cc)
  names_one first here' (Err culprit) (inl its_least) = inl (names_it first here' culprit its_least.0 its_least.1 its_least.2)
  names_one first here' (Err culprit) (inr refused) = inr refused

named : (at : CertError → List ℕ → Bool) (a b c d e : Option (List ℕ)) (again : Bool) → IsLeast (at wrong.SeedMissing) a → IsLeast (at wrong.NotFetched) b → IsLeast (at wrong.LinkMissing) c → IsLeast (at wrong.Unfounded) d → (d ≡ None → IsLeast (at wrong.Twice) e × (is_some e ≡ again)) → (result : Result (Unit {0}) Culprit) → NamesFirst (first_named a b c d e) result → Names result (first_of (is_some a) (is_some b) (is_some c) (is_some d) again) at
named at a b c d e again p q r s t result its_least = grind arith

-- the culprit, from what a pass over the results found, and from what was found about seeds and entries
culprit_named : (allowed : List ℕ → Bool) (seeds : List (List ℕ)) (entries : List Entry) (results : List PageResult) (marks : Marks) → AreMarks allowed entries results marks → (seed fetched groundless : Option (List ℕ))
    → IsLeast (λ url. contains_url seeds url && is_lost allowed entries url) seed
    → IsLeast (λ url. list_any (λ e. bytes_eq e.url url && not (has_result results e.url)) entries) fetched
    → IsLeast (is_unfounded allowed seeds entries results) groundless
    → (result : Result (Unit {0}) Culprit) → NamesFirst (first_named seed fetched (url_of marks.least.missing) (lesser groundless (url_of marks.least.stray)) (url_of marks.least.twice)) result
    → NamesCulprit allowed seeds entries results result
culprit_named allowed seeds entries results marks found seed fetched groundless of_seeds of_entries of_founded result its_least =
    let at = shows_error allowed seeds entries results in
    let missing = url_of marks.least.missing in
    let stray = url_of marks.least.stray in
    let again = url_of marks.least.twice in
    let fetched' = fetched_known entries results fetched of_entries in
    let unfounded' : IsLeast (at wrong.Unfounded) (lesser groundless stray) = least_of_both (is_unfounded allowed seeds entries results) (is_a_stray entries results) groundless stray of_founded found.stray in
    let is_seed : is_some seed ≡ seed_missing allowed seeds entries = some_of_urls (λ (s : List ℕ). s) (is_lost allowed entries) seeds seed of_seeds in
    let is_fetched : is_some fetched ≡ not_fetched entries results = some_of_urls (λ (e : Entry). e.url) (λ url. not (has_result results url)) entries fetched fetched' in
    let is_missing : is_some missing ≡ link_missing allowed entries results = some_of_lists (λ (r : PageResult). links_of r.page) (is_lost allowed entries) results missing found.missing in
    let is_groundless = some_of_elements (λ (e : Entry). e.url) (λ (e : Entry). not (is_founded allowed seeds entries results e)) entries groundless of_founded in
    let is_stray = some_of_urls (λ (r : PageResult). r.url) (λ url. not (is_accepted entries url)) results stray found.stray in
    let is_unfounded' : is_some (lesser groundless stray) ≡ unfounded allowed seeds entries results = some_lesser groundless stray ∙ (λ i. is_groundless i || is_stray i) in
    subst (λ f. Names result f at)
    (λ i. first_of (is_seed i) (is_fetched i) (is_missing i) (is_unfounded' i) (twice results))
    (named at seed fetched missing (lesser groundless stray) again (twice results) of_seeds fetched' found.missing unfounded'
    (λ none. let twice' = found.twice (lesser_none groundless stray none).1 in (twice', some_twice results again twice'))
    result its_least)

pub returns : goal.returns
returns c = λ results marks.
    let entries = c.args.accepted.now in
    let allowed = allows c.args.filter.now in
    let seeds = c.args.seeds.now in
    let its_least = c.args.marks.least in
    let seed = url_of c.least_missing-seed_missing.result in
    let fetched = url_of c.least_unmarked-not_fetched.result in
    let groundless = url_of c.least_unfounded-groundless.result in
    let known = c.in_ok-seed_set.seed_set in
    let listed = c.entries-entries.ensures.entries in
    let of_entries =
    subst (λ es. IsLeast (λ url. list_any (λ (e : Entry). bytes_eq e.url url && not (has_result results e.url)) es) fetched) listed
    (c.least_unmarked-not_fetched.ensures (has_result results) (c.deref.ensures.value ∙ marks.fetched ∙ ap (map (λ (e : Entry). has_result results e.url)) (sym listed))) in
    let of_founded =
    subst (λ es. IsLeast (λ url. list_any (λ (e : Entry). bytes_eq e.url url && not (allowed e.url && (if e.hops == 0 then is_in known e.url else is_linked entries results e))) es) groundless) listed
    (c.least_unfounded-groundless.ensures (is_linked entries results) (c.deref-2.ensures.value ∙ marks.linked ∙ ap (map (is_linked entries results)) (sym listed))) in
    culprit_named allowed seeds entries results c.args.marks marks seed fetched groundless
    c.least_missing-seed_missing.ensures of_entries
    (founded_known allowed seeds entries results known c.in_ok-seed_set.ensures groundless of_founded)
    c.verdict.result
    (subst (λ d. NamesFirst (first_named seed fetched (url_of its_least.missing) d (url_of its_least.twice)) c.verdict.result) c.lesser.ensures c.verdict.ensures)
