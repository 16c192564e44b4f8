-- The links of pages that are resolved ahead.
use Rattle.saved_web.proofs.Prelude.{nat_tests, common_steps, ◌≡◌, ℕ, ◌+◌, ◌<◌, List, [], ◌∷◌, ◌++◌, length, map, take, get_or, slice_get, Option, None, Some, IfSome, refl, sym, subst, ap, ◌∙◌, All, get_or_from_slice_get, option_map, slice_get_within, map_more, map_push, push_cases, with_url, lead_still, LeadTo, KeepIndices, shown_page, IsAhead, AreAhead, known_page, PageRead, page_with, Page, PageAhead}
use native.Mathlib.Omega.{arith}
use Rattle.crawl_pages.specs.declared.page.Page.TheVariants.{Found}
use Rattle.saved_pages.proofs.PageIndex.{item_at}
use Rattle.saved_web.specs.Ahead.{IsChunk}
use Rattle.saved_web.specs.declared.ahead.chunk.Chunk.{Chunk}
use Rattle.saved_web.specs.declared.ahead.chunk.LinksAhead.{LinksAhead}
use Rattle.std.proofs.lemmas.List.Elements.{All-get_or}
use Rattle.std.specs.Borrow.{Bor}
use Rattle.std.specs.Slice.{IsItemAt}

-- ---- links by the indices of their URLs

-- one more index, that of the next link
pub lead_more : (urls : List (List ℕ)) (indices : List ℕ) (links : List (List ℕ)) (i index : ℕ) (link : List ℕ) → i < length links → link ≡ get_or links i link → LeadTo urls indices (take i links) → slice_get urls index ≡ Some link → LeadTo urls (indices ++ index ∷ []) (take (i + 1) links)
lead_more urls indices links i index link below is lead at = grind (arith, nat_tests, common_steps, map_push, map_more)

-- no other links are at these indices
same_links : (xs ys : List (List ℕ)) → map (λ link. Some link) xs ≡ map (λ link. Some link) ys → xs ≡ ys
same_links [] [] same = refl
same_links [] (y ∷ ys) same = absurd (cc)
same_links (x ∷ xs) [] same = absurd (cc)
same_links (x ∷ xs) (y ∷ ys) same = grind (arith, same_links xs ys)

-- the page with the links that are copied is the page
pub copied_page : (page : Page) (urls : List (List ℕ)) (ahead : LinksAhead) (links : List (List ℕ)) → IsAhead page urls ahead → LeadTo urls ahead.indices.items links → Found links ahead.skipped ≡ page
copied_page page urls ahead links is lead =
    ap (λ all. Found all ahead.skipped) (same_links links is.links (sym lead ∙ is.lead)) ∙ sym is.page_is

-- ---- the pages of a chunk

pub still_ahead : (web : List PageRead) (pages : List PageAhead) (old new : List (List ℕ)) → KeepIndices old new → AreAhead web pages old → AreAhead web pages new
still_ahead web pages old new keep are k page at =
    let own = are k page at in
    record { links = own.links; lead = lead_still old new page.links.indices.items own.links keep own.lead; page_is = own.page_is }

-- one more page
pub more_ahead : (web : List PageRead) (pages longer : List PageAhead) (page : PageAhead) (urls : List (List ℕ)) → longer ≡ pages ++ page ∷ [] → AreAhead web pages urls → IsAhead (shown_page (slice_get web page.index)) urls page.links → AreAhead web longer urls
more_ahead web pages longer page urls is are own k other at = grind (arith, push_cases)

-- the chunk with this number
chunk_at : (web : List PageRead) (chunks : List Chunk) (k : ℕ) (chunk : Chunk) → All (IsChunk web) chunks → slice_get chunks k ≡ Some chunk → IsChunk web chunk
chunk_at web chunks k chunk all at =
    subst (IsChunk web) (get_or_from_slice_get chunks k chunk chunk at) (All-get_or (IsChunk web) chunks k chunk (slice_get_within chunks k chunk at) all)

pub chunk_there : (web : List PageRead) (chunks : List Chunk) (k : ℕ) (o : Option (Bor Chunk)) → IsItemAt chunks k o → All (IsChunk web) chunks → IfSome o (λ chunk. IsChunk web chunk.now)
chunk_there web chunks k o is all = by_item o (item_at chunks k o is)
  where
    by_item : (o : Option (Bor Chunk)) → option_map (λ x. x.now) o ≡ slice_get chunks k → IfSome o (λ chunk. IsChunk web chunk.now)
    by_item None at = grind arith
    by_item (Some chunk) at = chunk_at web chunks k chunk.now all (sym at)

-- ---- the page at a URL

shown_with : (pages : List PageRead) (url : List ℕ) (o : Option PageRead) → page_with pages url ≡ o → shown_page o ≡ known_page pages url
shown_with pages url o is = grind (arith, with_url)

pub known_there : (pages : List PageRead) (url : List ℕ) (index : ℕ) (error : Option Page) → slice_get pages index ≡ page_with pages url → IfSome error (λ page. page ≡ shown_page (slice_get pages index)) → IfSome error (λ page. page ≡ known_page pages url)
known_there pages url index error at is = grind (arith, shown_with)
