-- Entries by the indices of their URLs.
use Rattle.crawl_frontier.proofs.Prelude.{◌≡◌, ℕ, ◌<◌, List, [], ◌∷◌, map, slice_get, Option, Some, None, refl, sym, ap, ◌∙◌, arith, length, is_some, slice_get-map, slice_get_within, index_of, Entry, has_url}
use Rattle.std.specs.Option.{option_map}
use Rattle.hash_index.proofs.Listed.{found_at}

-- a URL is in the list if and only if it has an index
pub has_index : (es : List Entry) (url : List ℕ) → is_some (index_of (map (λ e. e.url) es) url) ≡ has_url url es
has_index [] url = refl
has_index (e ∷ es) url = grind (arith, has_index es url)

-- the URL of the entry at an index
pub url_at : (es : List Entry) (k : ℕ) (e : Entry) → slice_get es k ≡ Some e → slice_get (map (λ e. e.url) es) k ≡ Some e.url
url_at es k e at = slice_get-map (λ e. e.url) es k ∙ ap (option_map (λ e. e.url)) at

-- there is an entry with the URL at the URL's index
pub entry_there : (es : List Entry) (url : List ℕ) (k : ℕ) → index_of (map (λ e. e.url) es) url ≡ Some k → (e : Entry) × ((slice_get es k ≡ Some e) × (e.url ≡ url))
entry_there es url k found = by_entry (slice_get es k) refl
  where
    by_entry : (o : Option Entry) → slice_get es k ≡ o → (e : Entry) × ((slice_get es k ≡ Some e) × (e.url ≡ url))
    by_entry None none = let both : Some url ≡ None = sym (found_at _ url k found) ∙ slice_get-map (λ e. e.url) es k ∙ ap (option_map (λ e. e.url)) none in absurd (cc)
    by_entry (Some e) at = let both : Some e.url ≡ Some url = sym (url_at es k e at) ∙ found_at _ url k found in (e, (at, cc))

pub index_within : (es : List Entry) (url : List ℕ) (k : ℕ) → index_of (map (λ e. e.url) es) url ≡ Some k → k < length es
index_within es url k found = let there = entry_there es url k found in slice_get_within es k there.0 there.1.0

-- the entry at the URL's index has the URL
pub url_there : (es : List Entry) (url : List ℕ) (k : ℕ) (e : Entry) → index_of (map (λ e. e.url) es) url ≡ Some k → slice_get es k ≡ Some e → e.url ≡ url
url_there es url k e found at = grind (arith, url_at, found_at)
