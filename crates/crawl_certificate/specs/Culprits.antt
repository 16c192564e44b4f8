-- The URL that has the error of a run that is not certified.
use Rattle.std.specs.Prelude.{◌≡◌, ◌⊎◌, ℕ, Bool, false, not, ◌&&◌, ◌||◌, List, nat_lt, count_by, Option, Some, None, Result, Ok, Err, bytes_eq}
use Rattle.std.specs.List.{list_any}
use Rattle.crawl_queues.specs.declared.entry.Entry.{Entry}
use Rattle.crawl_pages.specs.declared.page.PageResult.{PageResult}
use Rattle.crawl_pages.specs.Pages.{links_of}
use Rattle.crawl_certificate.specs.declared.error.CertError.{CertError}
use Rattle.crawl_certificate.specs.declared.error.CertError.TheVariants as wrong
use Rattle.crawl_certificate.specs.declared.culprit.Culprit.{Culprit}
use Rattle.crawl_certificate.specs.CertErrors.{is_accepted, has_result, contains_url, is_founded, first_error, seed_missing, not_fetched, link_missing, unfounded, twice}
use Rattle.crawl_certificate.specs.Least.{IsLeast}

-- ---- the URLs that have an error

-- the URL is allowed and not accepted
abbrev pub is_lost : (List ℕ → Bool) → List Entry → List ℕ → Bool
is_lost allowed entries url = allowed url && not (is_accepted entries url)

-- some result links to the URL
abbrev pub is_a_link : List PageResult → List ℕ → Bool
is_a_link results url = list_any (λ r. contains_url (links_of r.page) url) results

-- some result has the URL, and it is not accepted
abbrev pub is_a_stray : List Entry → List PageResult → List ℕ → Bool
is_a_stray entries results url = has_result results url && not (is_accepted entries url)

-- some entry with the URL is not founded
abbrev pub is_unfounded : (List ℕ → Bool) → List (List ℕ) → List Entry → List PageResult → List ℕ → Bool
is_unfounded allowed seeds entries results url =
    list_any (λ e. bytes_eq e.url url && not (is_founded allowed seeds entries results e)) entries

-- two results have this URL
abbrev pub is_twice : List PageResult → List ℕ → Bool
is_twice results url = nat_lt 1 (count_by (λ r. bytes_eq r.url url) results)

-- the run has the error at this URL
abbrev pub shows_error : (List ℕ → Bool) → List (List ℕ) → List Entry → List PageResult → CertError → List ℕ → Bool
shows_error allowed seeds entries results wrong.SeedMissing url = contains_url seeds url && is_lost allowed entries url
shows_error allowed seeds entries results wrong.NotFetched url = is_accepted entries url && not (has_result results url)
shows_error allowed seeds entries results wrong.LinkMissing url = is_a_link results url && is_lost allowed entries url
shows_error allowed seeds entries results wrong.Unfounded url =
    is_unfounded allowed seeds entries results url || is_a_stray entries results url
shows_error allowed seeds entries results wrong.Twice url = is_twice results url
shows_error allowed seeds entries results wrong.NoMemory url = false

-- ---- the culprit

-- out of memory, without a URL
abbrev pub no_memory : Culprit
no_memory = record { cause = wrong.NoMemory; url = None }

-- the culprit has this error as its cause, and the least URL that has the error
pub record IsCulprit (error : Option CertError) (at : CertError → List ℕ → Bool) (culprit : Culprit) : Type 0 where
  pub url : List ℕ
  pub cause : error ≡ Some culprit.cause
  pub named : culprit.url ≡ Some url
  pub least : IsLeast (at culprit.cause) (Some url)

-- the result is the culprit of the error if there is one, and otherwise Ok; or it is out of memory
abbrev pub Names : {T : Type 0} → Result T Culprit → Option CertError → (CertError → List ℕ → Bool) → Type 0
Names (Ok x) error at = error ≡ None
Names (Err culprit) error at = IsCulprit error at culprit ⊎ (culprit ≡ no_memory)

-- likewise for a whole run
abbrev pub NamesCulprit : {T : Type 0} → (List ℕ → Bool) → List (List ℕ) → List Entry → List PageResult → Result T Culprit → Type 0
NamesCulprit allowed seeds entries results result =
    Names result (first_error allowed seeds entries results) (shows_error allowed seeds entries results)

-- if a run does not have an error, no URL has it. So no URL has an error that comes before the culprit's
pub record HasNoneAt (allowed : List ℕ → Bool) (seed_urls : List (List ℕ)) (entries : List Entry) (results : List PageResult) : Type 0 where
  pub seeds : seed_missing allowed seed_urls entries ≡ false → (url : List ℕ) → shows_error allowed seed_urls entries results wrong.SeedMissing url ≡ false
  pub fetched : not_fetched entries results ≡ false → (url : List ℕ) → shows_error allowed seed_urls entries results wrong.NotFetched url ≡ false
  pub links : link_missing allowed entries results ≡ false → (url : List ℕ) → shows_error allowed seed_urls entries results wrong.LinkMissing url ≡ false
  pub founded : unfounded allowed seed_urls entries results ≡ false → (url : List ℕ) → shows_error allowed seed_urls entries results wrong.Unfounded url ≡ false
  pub once : twice results ≡ false → (url : List ℕ) → shows_error allowed seed_urls entries results wrong.Twice url ≡ false

-- ---- how the culprit is found

-- the first of these URLs that is not none, and the error of its place
abbrev pub first_named : (a b c d e : Option (List ℕ)) → Option (CertError × List ℕ)
first_named (Some url) b c d e = Some (wrong.SeedMissing, url)
first_named None (Some url) c d e = Some (wrong.NotFetched, url)
first_named None None (Some url) d e = Some (wrong.LinkMissing, url)
first_named None None None (Some url) e = Some (wrong.Unfounded, url)
first_named None None None None (Some url) = Some (wrong.Twice, url)
first_named None None None None None = None

-- the result is that URL with its error, or Ok if all are none; or it is out of memory
abbrev pub NamesFirst : Option (CertError × List ℕ) → Result (Unit {0}) Culprit → Type 0
NamesFirst first (Ok x) = first ≡ None
NamesFirst first (Err culprit) =
    ((url : List ℕ) × (first ≡ Some (culprit.cause, url)) × (culprit.url ≡ Some url)) ⊎ (culprit ≡ no_memory)
