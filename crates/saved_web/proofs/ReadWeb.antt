-- What is known of a saved web while its lines are read one by one.
use Rattle.saved_web.proofs.Prelude.{◌≡◌, inl, inr, ℕ, ◌+◌, ◌<◌, ◌==◌, Bool, false, ◌||◌, List, [], ◌∷◌, ◌++◌, length, Option, Some, None, Result, Ok, Err, IfOk, IfErr, codes, is_some, refl, sym, ap, subst, ◌∙◌, arith, append_assoc, append-nil, length-append, if◌then◌else◌, list_any, position, cons_option, option_map, option_or, option_map_or, bytes_eq, lines, cond-false, or_right, map-append, filter_map-append, list_any-append, IsRefusal, SoundAfter, IsLeastError, under_more, ReadTo, AllFound, FoundTo, AreRead, IsHeader, page_of, page_urls, says_page, says_link, says_moved, url_said, is_page, is_link, is_moved_line, is_page_at, page_url, is_second, under_last_page, error_after, IsSound, IsWebError, IsWebRefusal, line_error, checked, after_line, KnownPages, known_after, known_page, PageRead, urls, page_with, has, WebError}
use Rattle.std.proofs.Math.Bool.{or-false}
use Rattle.text_lines.proofs.CutLines.{is_lf, lines_at, lines_only}
use Rattle.saved_lines.specs.AddedPages.{has_some, kept_before, Adds, Follows}
use Rattle.saved_lines.specs.declared.line_check.Above.{Above}
use Rattle.saved_pages.specs.declared.error.WebError.TheVariants as wrong

-- ---- with one more page

-- the lines after the line of a known page
abbrev found_lines : Option PageRead → Option (List (List ℕ))
found_lines o = option_map (λ page. lines page.following) o

-- the page whose URL a line has, if any, is the one with this URL
abbrev at : Option (List ℕ) → List ℕ → Bool
at own url = option_map_or (λ u. bytes_eq u url) own false

-- the page that is found in two lists
pub with_url-append : (ps qs : KnownPages) (url : List ℕ) → page_with (ps ++ qs) url ≡ option_or (page_with ps url) (page_with qs url)
with_url-append [] qs url = refl
with_url-append (p ∷ ps) qs url = grind (arith, with_url-append ps qs url)

adds_some : (old new : KnownPages) (own : Option (List ℕ)) (bytes : List ℕ) → Adds old new own bytes → has_some new ≡ (has_some old || is_some own)
adds_some old new own bytes same = grind (arith, or-false, length-append, or_right)

adds_urls : (old new : KnownPages) (own : Option (List ℕ)) (bytes : List ℕ) → Adds old new own bytes → urls new ≡ urls old ++ cons_option own []
adds_urls old new own bytes same = grind (arith, append-nil, map-append)

after_put : (b : Bool) (o : Option PageRead) (page : PageRead) (more : Option (List (List ℕ))) → option_or (found_lines o) (if b then Some (lines page.following) else more) ≡ option_or (found_lines (option_or o (if b then Some page else None))) more
after_put b o page more = grind arith

adds_after : (old new : KnownPages) (own : Option (List ℕ)) (bytes : List ℕ) (more : Option (List (List ℕ))) → Adds old new own bytes → (q : List ℕ) → option_or (known_after old q) (if at own q then Some (lines bytes) else more) ≡ option_or (known_after new q) more
adds_after old new own bytes more same q = grind (arith, after_put, with_url-append)

-- ---- the URLs of pages

-- a page has the URL if it is one of these URLs
pub has_urls : (pages : KnownPages) (url : List ℕ) → has pages url ≡ list_any (λ own. bytes_eq own url) (urls pages)
has_urls [] url = refl
has_urls (page ∷ more) url = grind (arith, has_urls more url)

any_urls : (lines : List (List ℕ)) (url : List ℕ) → list_any (is_page_at url) lines ≡ list_any (λ own. bytes_eq own url) (page_urls lines)
any_urls [] url = refl
any_urls (line ∷ more) url = grind (arith, any_urls more url)

-- pages with the URLs of lines have the URL of one of these lines
pub known_urls : (pages : KnownPages) (lines : List (List ℕ)) (url : List ℕ) → urls pages ≡ page_urls lines → has pages url ≡ list_any (is_page_at url) lines
known_urls pages lines url same = has_urls pages url ∙ ap (list_any (λ own. bytes_eq own url)) same ∙ sym (any_urls lines url)

-- ---- with one more line

-- what is known of the pages determines which check a line fails
error_known : (all rest : List (List ℕ)) (number : ℕ) (above : Above) (pages : KnownPages) (line : List ℕ) → (k : ReadTo all rest number above pages) → line_error (kept_before (number + 1) pages above) line ≡ error_after k.earlier line
error_known all rest number above pages line k =
    λ i. line_error (record {
      number = k.numbered i + 1;
      second = k.second i;
      some_page = k.some_page i;
      link = k.link i;
      moved = k.moved i;
      known = λ url. known_urls pages k.earlier url k.urls i;
    }) line

sound_more : (front earlier : List (List ℕ)) (line : List ℕ) → SoundAfter error_after front earlier → error_after (front ++ earlier) line ≡ None → SoundAfter error_after front (earlier ++ line ∷ [])
sound_more front [] line sound passes = (rw append-nil at passes, tt)
sound_more front (x ∷ xs) line sound passes =
    let P : List (List ℕ) → Type 0 = λ e. error_after e line ≡ None in
    (sound.0, sound_more (front ++ x ∷ []) xs line sound.1 (subst P (sym (append_assoc front (x ∷ []) xs)) passes))

pub any_more : (p : List ℕ → Bool) (b : Bool) (earlier : List (List ℕ)) (line : List ℕ) → p line ≡ b → (list_any p earlier || b) ≡ list_any p (earlier ++ line ∷ [])
any_more p b earlier line e = grind (arith, or-false, list_any-append)

-- ---- the lines under the last page, with one more line

any_one : (page : Bool) (p : List ℕ → Bool) (old : Bool) (under : List (List ℕ)) (line : List ℕ) → old ≡ list_any p under → (if page then false else old || p line) ≡ list_any p (if page then [] else under ++ line ∷ [])
any_one page p old under line e = grind (arith, any_more)

any_under : (p : List ℕ → Bool) (old : Bool) (earlier : List (List ℕ)) (line : List ℕ) → old ≡ list_any p (under_last_page earlier) → (if is_page line then false else old || p line) ≡ list_any p (under_last_page (earlier ++ line ∷ []))
any_under p old earlier line e = grind (arith, any_one, under_more)

second_more : (number : ℕ) (second : Bool) (earlier : List (List ℕ)) (line : List ℕ) → number ≡ length earlier → second ≡ is_second earlier → (if number + 1 == 1 then bytes_eq line (codes "savedweb 2") else second) ≡ is_second (earlier ++ line ∷ [])
second_more number second earlier line numbered e = grind arith

-- no error is expected
none_expected : (expected : Option WebError) → checked expected ≡ Ok tt → expected ≡ None
none_expected expected e = grind arith

some_expected : (expected : Option WebError) (error : WebError) → checked expected ≡ Err error → expected ≡ Some error
some_expected expected error e = grind arith

pub read_more : (all : List (List ℕ)) (rest : List ℕ) (number : ℕ) (above : Above) (pages : KnownPages) (line more following : List ℕ) (after : Above) (new : KnownPages) → lines rest ≡ line ∷ lines more → checked (line_error (kept_before (number + 1) pages above) line) ≡ Ok tt → Adds pages new (page_url line) following → is_page line ≡ is_some (page_url line) → Follows (number + 1) line above after → ReadTo all (lines rest) number above pages → ReadTo all (lines more) (number + 1) after new
read_more all rest number above pages line more following after new first passes adds page follows k = record {
  earlier = k.earlier ++ line ∷ [];
  cut = k.cut ∙ ap (λ ls. k.earlier ++ ls) first ∙ sym (append_assoc k.earlier (line ∷ []) (lines more));
  numbered = ap (λ n. n + 1) k.numbered ∙ sym (length-append k.earlier (line ∷ []));
  sound = sound_more [] k.earlier line k.sound (sym (error_known all (lines rest) number above pages line k) ∙ none_expected _ passes);
  second = follows.second ∙ second_more number above.second k.earlier line k.numbered k.second;
  link = follows.link ∙ any_under is_link above.link k.earlier line k.link;
  moved = follows.moved ∙ any_under is_moved_line above.moved k.earlier line k.moved;
  some_page =
      adds_some pages new (page_url line) following adds ∙ ap (λ b. b || is_some (page_url line)) k.some_page
      ∙ any_more is_page (is_some (page_url line)) k.earlier line page;
  urls =
      adds_urls pages new (page_url line) following adds ∙ ap (λ us. us ++ page_urls (line ∷ [])) k.urls
      ∙ sym (filter_map-append page_url k.earlier (line ∷ []));
}

-- each page is known, or is among the lines that remain
found_more : (all : List (List ℕ)) (rest : List ℕ) (pages : KnownPages) (line more : List ℕ) (new : KnownPages) → lines rest ≡ line ∷ lines more → Adds pages new (page_url line) more → AllFound all (lines rest) pages → AllFound all (lines more) new
found_more all rest pages line more new first adds found url = grind (arith, adds_after)

pub found_on : (all : List (List ℕ)) (rest : List ℕ) (number : ℕ) (above : Above) (pages : KnownPages) (line more : List ℕ) (after : Above) (new : KnownPages) → lines rest ≡ line ∷ lines more → more ≡ after_line rest → checked (line_error (kept_before (number + 1) pages above) line) ≡ Ok tt → Adds pages new (page_url line) (after_line rest) → is_page line ≡ is_some (page_url line) → Follows (number + 1) line above after → FoundTo all (lines rest) number above pages → FoundTo all (lines more) (number + 1) after new
found_on all rest number above pages line more after new first following passes adds page follows k = grind (arith, read_more, found_more)

-- ---- after the last line

or_none : (o : Option (List (List ℕ))) → option_or o None ≡ o
or_none o = grind arith

found_all : (all : List (List ℕ)) (rest : List ℕ) (pages : KnownPages) → lines rest ≡ [] → AllFound all (lines rest) pages → (url : List ℕ) → known_page pages url ≡ page_of all url
found_all all rest pages none found url = grind (arith, or_none)

pub all_read : (all : List (List ℕ)) (rest : List ℕ) (number : ℕ) (above : Above) (pages : KnownPages) → lines rest ≡ [] → FoundTo all (lines rest) number above pages → AreRead all pages
all_read all rest number above pages none k = grind (arith, append-nil, found_all)

-- ---- a line that fails

is_error : (all : List (List ℕ)) (error : WebError) → IsLeastError error_after all error → IsWebError all error
is_error [] error least = absurd (omega (arith, ap length least.split, length-append least.front (least.line ∷ least.rest)))
is_error (line ∷ more) error least = least

pub read_error : (all : List (List ℕ)) (rest : List ℕ) (number : ℕ) (above : Above) (pages : KnownPages) (line more : List ℕ) (error : WebError) → lines rest ≡ line ∷ lines more → IsRefusal wrong.NoMemory (checked (line_error (kept_before (number + 1) pages above) line)) error → ReadTo all (lines rest) number above pages → IsWebRefusal all error
read_error all rest number above pages line more error first (inr e) k = inr e
read_error all rest number above pages line more error first (inl fails) k = inl (is_error all error (record {
  front = k.earlier;
  line = line;
  rest = lines more;
  split = k.cut ∙ ap (λ ls. k.earlier ++ ls) first;
  sound = k.sound;
  fails = sym (error_known all (lines rest) number above pages line k) ∙ some_expected _ error fails;
}))

-- ---- all lines of bytes

pub some_lines : (bytes : List ℕ) → 0 < length bytes → 0 < length (lines bytes)
some_lines bytes some = by_first (position is_lf bytes) refl
  where
    by_first : (first : Option ℕ) → position is_lf bytes ≡ first → 0 < length (lines bytes)
    by_first (Some end) is = omega (arith, ap length (lines_at bytes end is))
    by_first None is = omega (arith, ap length (lines_only bytes is some))

-- ---- the start of reading

-- before the first line
pub nothing_read : (all : List (List ℕ)) → FoundTo all all 0 (record { second = false; link = false; moved = false }) []
nothing_read all = grind arith

-- after the header
pub header_read : (second : Bool) (header : List ℕ) (following : List (List ℕ)) → IsHeader second header → FoundTo (header ∷ following) following 1 (record { second = second; link = false; moved = false }) []
header_read second header following h =
    let no_page : list_any is_page (header ∷ []) ≡ false = ap (λ said. says_page said || false) h.other in
    let under : under_last_page (header ∷ []) ≡ header ∷ [] = cond-false _ _ _ no_page in
    let no_page_at : (url : List ℕ) → is_page_at url header ≡ false = λ url. ap (λ said. at (url_said said) url) h.other in
    record {
      read = record {
        earlier = header ∷ [];
        cut = refl;
        numbered = refl;
        sound = (h.sound, tt);
        second = sym h.version;
        link = sym (ap (list_any is_link) under ∙ ap (λ said. says_link said || false) h.other);
        moved = sym (ap (list_any is_moved_line) under ∙ ap (λ said. says_moved said || false) h.other);
        some_page = sym no_page;
        urls = sym (ap (λ said. cons_option (url_said said) []) h.other);
      };
      found = λ url. cond-false _ _ _ (no_page_at url);
    }

-- ---- all lines, from the first on

pub read_sound : (all : List (List ℕ)) (read : Result KnownPages WebError) → 0 < length all → IfOk read (λ pages. (ls : List (List ℕ)) → FoundTo ls all 0 (record { second = false; link = false; moved = false }) [] → AreRead ls pages) → IfOk read (λ _. IsSound all)
read_sound all read some h3 = grind (arith, nothing_read)

pub read_whole : (all : List (List ℕ)) (read : Result KnownPages WebError) → IfOk read (λ pages. (ls : List (List ℕ)) → FoundTo ls all 0 (record { second = false; link = false; moved = false }) [] → AreRead ls pages) → IfOk read (AreRead all)
read_whole all read h2 = grind (arith, nothing_read)

pub read_refused : (all : List (List ℕ)) (read : Result KnownPages WebError) → IfErr read (λ found_lines. (ls : List (List ℕ)) → FoundTo ls all 0 (record { second = false; link = false; moved = false }) [] → IsWebRefusal ls found_lines) → IfErr read (λ found_lines. IsWebRefusal all found_lines)
read_refused all read h2 = grind (arith, nothing_read)
