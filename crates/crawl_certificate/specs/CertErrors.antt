-- The errors of a run, from its filter, its seeds, its accepted entries and its results.
use Rattle.std.specs.Prelude.{ℕ, ◌+◌, ◌==◌, Bool, false, not, ◌&&◌, ◌||◌, List, [], ◌∷◌, if◌then◌else◌, Option, Some, None, bytes_eq}
use Rattle.std.specs.List.{list_any}
use Rattle.crawl_queues.specs.declared.entry.Entry.{Entry}
use Rattle.crawl_pages.specs.declared.page.PageResult.{PageResult}
use Rattle.crawl_certificate.specs.declared.error.CertError.{CertError}
use Rattle.crawl_certificate.specs.declared.error.CertError.TheVariants as wrong
use Rattle.crawl_pages.specs.Pages.{links_of}

-- the URL is accepted: an entry has it
abbrev pub is_accepted : List Entry → List ℕ → Bool
is_accepted entries url = list_any (λ e. bytes_eq e.url url) entries

-- some result has the URL
abbrev pub has_result : List PageResult → List ℕ → Bool
has_result results url = list_any (λ r. bytes_eq r.url url) results

abbrev pub contains_url : List (List ℕ) → List ℕ → Bool
contains_url urls url = list_any (λ own. bytes_eq own url) urls

-- an allowed URL of the list is not accepted; `accepted` tests whether a URL is
abbrev pub some_missing : (List ℕ → Bool) → (List ℕ → Bool) → List (List ℕ) → Bool
some_missing allowed accepted urls = list_any (λ url. allowed url && not (accepted url)) urls

-- ---- the errors

-- an allowed seed is not accepted
abbrev pub seed_missing : (List ℕ → Bool) → List (List ℕ) → List Entry → Bool
seed_missing allowed seeds entries = some_missing allowed (is_accepted entries) seeds

-- an entry has no result
abbrev pub not_fetched : List Entry → List PageResult → Bool
not_fetched entries results = list_any (λ e. not (has_result results e.url)) entries

-- an allowed link of a result is not accepted
abbrev pub link_missing : (List ℕ → Bool) → List Entry → List PageResult → Bool
link_missing allowed entries results = list_any (λ r. some_missing allowed (is_accepted entries) (links_of r.page)) results

-- the entry has one hop more than some entry with this URL
abbrev pub is_one_hop_after : List Entry → List ℕ → Entry → Bool
is_one_hop_after entries url e = list_any (λ before. bytes_eq before.url url && e.hops == before.hops + 1) entries

-- a result of an entry with one hop less links to the entry
abbrev pub is_linked : List Entry → List PageResult → Entry → Bool
is_linked entries results e = list_any (λ r. contains_url (links_of r.page) e.url && is_one_hop_after entries r.url e) results

-- the entry is allowed, and is a seed if it has no hops; otherwise a result of an entry with one hop less links to it
abbrev pub is_founded : (List ℕ → Bool) → List (List ℕ) → List Entry → List PageResult → Entry → Bool
is_founded allowed seeds entries results e =
    allowed e.url && (if e.hops == 0 then contains_url seeds e.url else is_linked entries results e)

-- an entry is not founded, or the URL of a result is not accepted
abbrev pub unfounded : (List ℕ → Bool) → List (List ℕ) → List Entry → List PageResult → Bool
unfounded allowed seeds entries results =
    list_any (λ e. not (is_founded allowed seeds entries results e)) entries || list_any (λ r. not (is_accepted entries r.url)) results

-- two results have the same URL
abbrev pub twice : List PageResult → Bool
twice [] = false
twice (r ∷ rest) = has_result rest r.url || twice rest

-- ---- their order

-- the first of these errors that the run has
abbrev pub first_of : (a b c d e : Bool) → Option CertError
first_of a b c d e =
    if a then Some wrong.SeedMissing
    else if b then Some wrong.NotFetched
    else if c then Some wrong.LinkMissing
    else if d then Some wrong.Unfounded
    else if e then Some wrong.Twice
    else None

-- the first error that the run has
abbrev pub first_error : (List ℕ → Bool) → List (List ℕ) → List Entry → List PageResult → Option CertError
first_error allowed seeds entries results =
    first_of (seed_missing allowed seeds entries) (not_fetched entries results) (link_missing allowed entries results)
    (unfounded allowed seeds entries results) (twice results)
