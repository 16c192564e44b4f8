-- The links of two chunks of a page, joined.
use Rattle.saved_web.proofs.Prelude.{◌≡◌, ℕ, ◌+◌, Bool, true, false, cond, List, [], ◌∷◌, ◌++◌, Option, Some, None, IfSome, refl, ap, ◌∙◌, count_by, list_any, or_parts, filter_map-append, sum_by-append, AreFound, put_link, link_texts, moved_text, found_page, page_after, Page, line_of, says_page, is_page, Line}
use native.Mathlib.Omega.{arith}
use Rattle.saved_web.proofs.JoinedChunks.{links_end}
use Rattle.saved_web.specs.declared.long.LinksFound.{LinksFound}

-- a line that is not a page line, before the lines after it
put_before : (said : Line (List ℕ)) (all front back : List (List ℕ)) → says_page said ≡ false → all ≡ front ++ back → put_link said all ≡ put_link said front ++ back
put_before said all front back page same = grind arith

-- if no page line is among the first lines, the links after them are of the same page
links_of_both : (xs ys : List (List ℕ)) → list_any is_page xs ≡ false → link_texts (xs ++ ys) ≡ link_texts xs ++ link_texts ys
links_of_both [] ys none = refl
links_of_both (x ∷ xs) ys none = grind (arith, or_parts, put_before, links_of_both xs ys)

count_of_both : (p : List ℕ → Bool) (xs ys : List (List ℕ)) → count_by p (xs ++ ys) ≡ count_by p xs + count_by p ys
count_of_both p xs ys = sum_by-append (λ x. cond (p x) 1 0) xs ys

-- the links of both chunks
pub both_found : (url : List ℕ) (all front back : List (List ℕ)) (first second : LinksFound) (both : Option LinksFound) → all ≡ front ++ back → list_any is_page front ≡ false → AreFound url front first → AreFound url back second
    → IfSome both (λ found. found.links.items ≡ first.links.items ++ second.links.items) → IfSome both (λ found. found.skipped ≡ first.skipped + second.skipped) → IfSome both (AreFound url all)
both_found url all front back first second both split none f s links skipped = grind (arith, links_of_both, filter_map-append, count_of_both)

-- if the first line is a page line, no link is one of the page before
no_links : (said : Line (List ℕ)) (texts : List (List ℕ)) → says_page said ≡ true → put_link said texts ≡ []
no_links said texts page = grind arith

pub page_begins : {all more : List (List ℕ)} (line : List ℕ) → all ≡ line ∷ more → is_page line ≡ true → link_texts all ≡ []
page_begins {all} {more} line first page = ap link_texts first ∙ no_links (line_of line) (link_texts more) page

-- the page of all lines, if the lines after the first ones begin with another page
pub whole_page : (url : List ℕ) (all own after : List (List ℕ)) (error : Option Page) → all ≡ own ++ after → link_texts after ≡ [] → None ≡ moved_text all → IfSome error (λ page. page ≡ found_page url (link_texts own)) → IfSome error (λ page. page ≡ page_after url (Some all))
whole_page url all own after error split none moved is = grind (arith, links_end)
