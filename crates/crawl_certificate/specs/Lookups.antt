-- Look-ups by URL: the index of an entry, and which URLs are in a set.
use Rattle.std.specs.Prelude.{◌≡◌, ℕ, Bool, true, false, List, map, slice_get, Option, Some, None, bytes_eq}
use Rattle.std.specs.Borrow.{Bor}
use Rattle.std.specs.BTreeSet.{BTreeSet, contains}
use Rattle.hash_order.specs.HashOrder.{by_hash}
use Rattle.crawl_queues.specs.declared.entry.Entry.{Entry}

-- the values to which the references point
abbrev pub pointed : {X : Type 0} → List (Bor X) → List X
pointed xs = map (λ x. x.now) xs

-- there is an entry, and it has this URL
abbrev pub at_this : Option Entry → List ℕ → Bool
at_this None url = false
at_this (Some e) url = bytes_eq e.url url

-- some entry is at the index, and has the URL
abbrev pub has_url_at : List Entry → ℕ → List ℕ → Bool
has_url_at entries index url = at_this (slice_get entries index) url

-- the index of the only entry with the URL, or none if no entry has it
abbrev pub Finds : List Entry → List ℕ → Option ℕ → Type 0
Finds entries url None = (k : ℕ) (e : Entry) → slice_get entries k ≡ Some e → bytes_eq url e.url ≡ false
Finds entries url (Some index) =
    ((e : Entry) × (slice_get entries index ≡ Some e) × (e.url ≡ url))
    × ((k : ℕ) (e : Entry) → slice_get entries k ≡ Some e → bytes_eq url e.url ≡ true → k ≡ index)

-- a set of URLs
abbrev pub Urls : Type 0
Urls = BTreeSet (List ℕ)

-- the URL is in the set
abbrev pub is_in : Urls → List ℕ → Bool
is_in urls url = contains by_hash urls url
