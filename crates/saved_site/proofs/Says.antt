-- What the lines of pages, links and redirects say.
use Rattle.saved_site.proofs.Prelude.{◌≡◌, ℕ, ◌+◌, ◌≤◌, true, List, ◌++◌, length, Some, Ok, codes, refl, ◌∙◌, arith, length-append, lt-ltb, nat_le, list_all, is_utf8, IsUtf8, and_parts, leb-true, cond-true, IsUtf8-append, IsUtf8-from_is_utf8, line_of_text, line_of, Line, is_inner, fits}
use borrow.Author.Tests.{tests}
use borrow.Author.Rules.{rules}
use Rattle.text_lines.proofs.CutLines.{text_of-utf8}
use Rattle.saved_pages.proofs.WebLines.{line_of-utf8}
use Rattle.crawl_limits.specs.Limits.{line_limit}
use Rattle.text_lines.specs.Lines.{text_of}
use Rattle.text_lines.specs.Fields.{at_space}
use Rattle.saved_pages.specs.declared.line.Line.TheVariants as line_says

-- the line is a text, whatever its number, and says this
pub record Says (line : List ℕ) (said : Line (List ℕ)) : Type 0 where
  pub reads : (number : ℕ) → text_of number line ≡ Ok line
  pub of_text : line_of_text line ≡ said
  pub of_line : line_of line ≡ said

says_with : (front text : List ℕ) (n : ℕ) (said : Line (List ℕ)) → length front ≡ n → IsUtf8 front → fits n text ≡ true → line_of_text (front ++ text) ≡ said → Says (front ++ text) said
says_with front text n said long utf8 fit is =
    let parts = and_parts (nat_le (n + length text) line_limit) _ fit in
    let more = and_parts (is_utf8 text) (list_all is_inner text) parts.1 in
    let whole : IsUtf8 (front ++ text) = IsUtf8-append front text utf8 (IsUtf8-from_is_utf8 text more.0) in
    let within : n + length text ≤ line_limit = leb-true (n + length text) line_limit parts.0 in
    let short : length (front ++ text) ≤ line_limit = omega (arith, length-append front text, long, within) in
    record {
      reads = λ number. text_of-utf8 number (front ++ text) short whole;
      of_text = is;
      of_line = line_of-utf8 (front ++ text) whole ∙ is;
    }

-- ---- a page

page_utf8 : IsUtf8 (codes "page ")
unfolding lib.Utf8.encode
page_utf8 = (codes "page ", (refl, refl))

at_page : (url : List ℕ) → at_space (codes "page " ++ url) ≡ Some (codes "page", url)
at_page url = grind (arith, cond-true, lt-ltb, length-append)

pub says_page : (url : List ℕ) → fits 5 url ≡ true → Says (codes "page " ++ url) (line_says.Page url)
says_page url fit = search (rules, tests, arith, says_with, page_utf8, at_page)

-- ---- a link

link_utf8 : IsUtf8 (codes "link ")
unfolding lib.Utf8.encode
link_utf8 = (codes "link ", (refl, refl))

at_link : (text : List ℕ) → at_space (codes "link " ++ text) ≡ Some (codes "link", text)
at_link text = grind (arith, cond-true, lt-ltb, length-append)

pub says_link : (text : List ℕ) → fits 5 text ≡ true → Says (codes "link " ++ text) (line_says.Link text)
says_link text fit = search (rules, tests, arith, says_with, link_utf8, at_link)

-- ---- a redirect

moved_utf8 : IsUtf8 (codes "moved ")
unfolding lib.Utf8.encode
moved_utf8 = (codes "moved ", (refl, refl))

at_moved : (text : List ℕ) → at_space (codes "moved " ++ text) ≡ Some (codes "moved", text)
at_moved text = grind (arith, cond-true, lt-ltb, length-append)

pub says_moved : (text : List ℕ) → fits 6 text ≡ true → Says (codes "moved " ++ text) (line_says.Moved text)
says_moved text fit = search (rules, tests, arith, says_with, moved_utf8, at_moved)

-- ---- the first line

header_utf8 : IsUtf8 (codes "savedweb 2")
unfolding lib.Utf8.encode
header_utf8 = (codes "savedweb 2", (refl, refl))

pub says_header : Says (codes "savedweb 2") line_says.Other
says_header = search (rules, tests, arith, text_of-utf8, header_utf8, line_of-utf8)
