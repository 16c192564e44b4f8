-- Pages by the index of their URLs.
use native.Mathlib.Omega.{arith}
use Rattle.std.proofs.Common.{◌≡◌, ℕ, List, [], ◌∷◌, slice_get, Option, Some, None, IfSome, is_some, refl, sym, ap, ◌∙◌, Bor, option_map, option_and_then}
use Rattle.std.specs.Slice.{IsItemAt}
use Rattle.std.proofs.lemmas.Option.{slice_get_past, slice_get_read}
use Rattle.hash_index.specs.Lists.{index_of}
use Rattle.hash_index.proofs.Listed.{same_text}
use Rattle.saved_pages.specs.PageLists.{PageRead, urls, page_with, has}

-- the page with the URL is the one at the URL's index
pub page_at_index : (pages : List PageRead) (url : List ℕ) → page_with pages url ≡ option_and_then (λ k. slice_get pages k) (index_of (urls pages) url)
page_at_index [] url = refl
page_at_index (page ∷ more) url = grind (arith, page_at_index more url)

pub page_there : (pages : List PageRead) (url : List ℕ) (k : ℕ) → Some k ≡ index_of (urls pages) url → page_with pages url ≡ slice_get pages k
page_there pages url k found = page_at_index pages url ∙ ap (λ o. option_and_then (λ k. slice_get pages k) o) (sym found)

pub no_page : (pages : List PageRead) (url : List ℕ) → None ≡ index_of (urls pages) url → None ≡ page_with pages url
no_page pages url none = sym (page_at_index pages url ∙ ap (λ o. option_and_then (λ k. slice_get pages k) o) (sym none))

-- what is borrowed from a list at an index
pub item_at : {X : Type 0} (xs : List X) (k : ℕ) (o : Option (Bor X)) → IsItemAt xs k o → option_map (λ x. x.now) o ≡ slice_get xs k
item_at xs k o is = grind (arith, slice_get_past, slice_get_read)

pub has_index_there : (pages : List PageRead) (url : List ℕ) → has pages url ≡ is_some (index_of (urls pages) url)
has_index_there [] url = refl
has_index_there (page ∷ more) url = grind (arith, has_index_there more url)

-- the page that is found has the URL
pub with_url : (pages : List PageRead) (url : List ℕ) (x : PageRead) → page_with pages url ≡ Some x → x.url ≡ url
with_url [] url x found = absurd (cc)
with_url (page ∷ more) url x found = grind (arith, same_text, with_url more url x)

pub has_url : (pages : List PageRead) (url : List ℕ) (o : Option (Bor PageRead)) → option_map (λ page. page.now) o ≡ page_with pages url → IfSome o (λ page. page.now.url ≡ url)
has_url pages url o found = grind (arith, with_url)
