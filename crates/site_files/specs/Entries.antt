-- The pages that the code lists, as those of the definitions.
use Rattle.std.specs.Prelude.{◌≡◌, ℕ, Bool, false, List, [], ◌∷◌, ◌++◌, bytes_eq, map, Option, Some, None, option_and_then, MatchOption, Result, Ok, String, slice_get, string_bytes}
use Rattle.std.specs.List.Sorted.{IsSorted, IsStrictlySortedBy}
use Rattle.std.specs.declared.cmp.Ordering.{Ordering}
use Rattle.std.specs.declared.alloc.Global.{Global}
use Rattle.crawl_keys.specs.CanonicalText.{canonical}
use Rattle.crawl_keys.specs.declared.error.KeyError.{KeyError}
use Rattle.site_files.specs.Firsts.{cmp_keys, first_with}
use Rattle.site_files.specs.Pages.{Page, Response, Missing, Moved, Found, page_at}
use Rattle.site_files.specs.Server.{Host, Server}
use Rattle.site_files.specs.declared.page_table.Entry.{Entry}
use Rattle.site_files.specs.declared.rules.Rules.{Rules}
use Rattle.site_files.specs.declared.site.Site.{Site}
use Rattle.site_files.specs.declared.page_table.Source.{Source}
use Rattle.site_files.specs.declared.page_table.Source.TheVariants as source

abbrev pub texts : List (String Global) → List (List ℕ)
texts names = map string_bytes names

-- the host and the place of the folder
abbrev pub host_of : Rules → Host
host_of rules = record {
  indices = texts rules.index_files.items;
  queries = rules.queries;
  exact = rules.exact;
  fallback = rules.html_fallback;
}

abbrev pub server_at : Rules → Site → Server
server_at rules site = record {
  host = host_of rules;
  origin = string_bytes site.origin;
  top = string_bytes site.top;
}

abbrev pub response_of : Source → Response
response_of (source.File index) = Found index
response_of (source.Index index) = Found index
response_of (source.Moved url) = Moved (string_bytes url)

-- the index of the file among the names; a redirect has none
abbrev pub file_in : Source → Option ℕ
file_in (source.File index) = Some index
file_in (source.Index index) = Some index
file_in (source.Moved url) = None

-- the same, of the page with this number
abbrev pub file_with : List Entry → ℕ → Option ℕ
file_with entries number = option_and_then (λ entry. file_in entry.source) (slice_get entries number)

-- a URL, and what is returned for it
pub record Listed : Type 0 where
  pub url : Result (List ℕ) KeyError
  pub response : Response

abbrev pub listed : Entry → Listed
listed entry = record { url = Ok entry.url; response = response_of entry.source }

abbrev pub expected : Page → Listed
expected page = record { url = canonical page.text; response = page.response }

-- the entries are those of the pages
abbrev pub Lists : List Entry → List Page → Type 0
Lists entries pages = map listed entries ≡ map expected pages

-- the entries of the pages come after the others
abbrev pub Adds : List Entry → List Entry → List Page → Type 0
Adds old new pages = map listed new ≡ map listed old ++ map expected pages

-- ---- in order

abbrev pub url_in : Entry → List ℕ
url_in entry = entry.url

-- by the bytes of the URLs
abbrev pub cmp_urls : Entry → Entry → Ordering
cmp_urls = cmp_keys url_in

-- what is returned by the first with a URL
abbrev pub entry_at : List Entry → List ℕ → Response
entry_at entries url = first_with url_in (λ entry. response_of entry.source) Missing entries url

-- the first with each URL stays the first
abbrev pub KeepsFirst : List Entry → List Entry → Type 0
KeepsFirst old new = (url : List ℕ) → entry_at new url ≡ entry_at old url

-- the entries in the order of their URLs
pub record IsInOrder (given ordered : List Entry) : Type 0 where
  pub ascends : IsSorted cmp_urls ordered
  pub keeps : KeepsFirst given ordered

-- each URL once
pub record IsOnce (given kept : List Entry) : Type 0 where
  pub ascends : IsStrictlySortedBy cmp_urls kept
  pub keeps : KeepsFirst given kept

-- the last of the entries has the URL of this one
abbrev pub is_again : List Entry → Entry → Bool
is_again [] entry = false
is_again (last ∷ []) entry = bytes_eq entry.url last.url
is_again (first ∷ next ∷ entries) entry = is_again (next ∷ entries) entry

-- the pages of names: at each URL the first, in the order of the URLs
pub record IsTable (server : Server) (names : List (List ℕ)) (entries : List Entry) : Type 0 where
  pub ascends : IsStrictlySortedBy cmp_urls entries
  pub pages : (url : List ℕ) → entry_at entries url ≡ page_at server names url

-- the entry with this number has the URL, and no other has it
pub record IsEntryAt (entries : List Entry) (url : List ℕ) (number : ℕ) : Type 0 where
  pub entry : Entry
  pub there : slice_get entries number ≡ Some entry
  pub own : entry.url ≡ url
  pub first : entry_at entries url ≡ response_of entry.source

-- the number of the entry with a URL, or that there is none
abbrev pub Finds : List Entry → List ℕ → Option ℕ → Type 0
Finds entries url found = MatchOption found (entry_at entries url ≡ Missing) (IsEntryAt entries url)

-- the response of the entry with this number
pub record HasResponse (entries : List Entry) (response : Response) (number : ℕ) : Type 0 where
  pub entry : Entry
  pub there : slice_get entries number ≡ Some entry
  pub returns : response_of entry.source ≡ response

-- the number of an entry with a response, and none if nothing is returned
abbrev pub LeadsTo : List Entry → Response → Option ℕ → Type 0
LeadsTo entries response found = MatchOption found (response ≡ Missing) (HasResponse entries response)
