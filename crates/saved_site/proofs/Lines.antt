-- Bytes that are made of lines, cut into these lines.
use Rattle.saved_site.proofs.Prelude.{common_steps, ◌≡◌, ℕ, ◌-◌, ◌<◌, Bool, true, false, ◌||◌, not, List, [], ◌∷◌, ◌++◌, length, arith, append_assoc, ◌+◌, ◌*◌, take, get_or, refl, length-append, append-nil, AllPass, list_all, flat_map, lines, lines_of_parts, strip_carriage_return, or_parts, not-true, cond-false, is_inner, take_more, flat_map-append, page_text, under_text, link_line, link_lines, moved_line, SitePage}
use Rattle.std.proofs.lemmas.List.Splits.{slice_split_at, length-slice_split}

-- ---- one line

inner_parts : (x y : Bool) → not (x || y) ≡ true → (x ≡ false) × (y ≡ false)
inner_parts x y e = or_parts x y (not-true (x || y) e)

-- a part that others follow loses its CR
before_others : (part : List ℕ) (parts : List (List ℕ)) → 0 < length parts → lines_of_parts (part ∷ parts) ≡ strip_carriage_return part ∷ lines_of_parts parts
before_others part parts h = grind arith

-- a text without line breaks ends in no CR
keeps_end : (line : List ℕ) → AllPass is_inner line → strip_carriage_return line ≡ line
keeps_end line inner = grind (arith, common_steps, cond-false, inner_parts)

-- the first line is a text without line breaks that a LF follows
pub first_line : (line rest : List ℕ) → list_all is_inner line ≡ true → lines (line ++ 10 ∷ rest) ≡ line ∷ lines rest
first_line line rest inner = grind (arith, common_steps, inner_parts, slice_split_at, before_others, length-slice_split, keeps_end)

-- a front, a text and a LF, with more after them
pub line_on : (front text rest : List ℕ) → (front ++ text ++ 10 ∷ []) ++ rest ≡ (front ++ text) ++ 10 ∷ rest
line_on front text rest = append_assoc (front ++ text) (10 ∷ []) rest

-- The number of bytes of the lines of pages, links and redirects

pub page_length : (page : SitePage) → length (page_text page) ≡ length page.url + 6 + length (under_text page.under)
page_length page = grind (arith, length-append)

pub moved_length : (text : List ℕ) → length (moved_line text) ≡ length text + 7
moved_length text = grind (arith, length-append)

pub links_length : (texts : List (List ℕ)) → length (link_lines texts) ≡ length (flat_map (λ (text : List ℕ). text) texts) + 6 * length texts
links_length [] = refl
links_length (text ∷ more) = grind (arith, length-append, links_length more)

-- one line more
pub links_more : (before now more : List ℕ) (texts : List (List ℕ)) (k : ℕ) (text : List ℕ) → k < length texts → text ≡ get_or texts k [] → now ≡ before ++ link_lines (take k texts) → more ≡ now ++ link_line text → more ≡ before ++ link_lines (take (k + 1) texts)
links_more before now more texts k text within is sofar next = grind (arith, common_steps, take_more, flat_map-append, append-nil)
