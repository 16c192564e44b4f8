-- The URL below which a page has a link to its own path.
use Rattle.site_check.proofs.Prelude.{◌≡◌, ◌∙◌, ℕ, ◌+◌, ◌<◌, ◌≤◌, Bool, true, false, List, ◌++◌, Option, Some, None, length, drop, get_or, sym, ap, cond-false, cond-true, PageResult, SiteFiles, Counts, begins, count_at, first_in, flat_map, often_first, option_map, path_count, string_bytes, Bor}
use Rattle.std.proofs.Common.{◌==◌, MatchOption}
use Rattle.std.proofs.lemmas.List.{drop_all}
use Rattle.std.specs.Option.{option_to_list}
use Rattle.std.specs.Str.Pattern.{FindsTextSuffix, StripsSuffix}
use Rattle.site_check.proofs.Forms.{ends_not, ends_with}
use Rattle.site_check.proofs.Fronts.{begins_with}
use Rattle.site_check.proofs.LinkFolders.{not_begun}
use Rattle.site_check.proofs.RootFolders.{cut_here}
use Rattle.site_check.specs.Names.{ends}
use Rattle.site_check.specs.OwnFronts.{cut_end, first_front, front_elsewhere, front_hint, front_of, outward_count, own_fronts, own_hint, page_front}
use Rattle.site_check.specs.PageLinks.{page_links}
use Rattle.site_files.specs.Server.{before_query}

abbrev now_of : Option (Bor (List ℕ)) → Option (List ℕ)
now_of found = option_map (λ front. front.now) found

pub end_cut : (end text : List ℕ) (r : Option (Bor (List ℕ))) → MatchOption r (FindsTextSuffix end text None) (λ x. StripsSuffix (FindsTextSuffix end) text x.now) → now_of r ≡ cut_end end text
end_cut end text None lacks = sym (cond-false (ends end text) _ _ (ends_not end text lacks))
end_cut end text (Some front) strips =
    let parts = ends_with end text front.now strips in
    ap Some (sym parts.1) ∙ sym (cond-true (ends end text) _ _ parts.0)

-- ---- a page

pub page_below : (top : List ℕ) (r : PageResult) (url path : List ℕ) (n : ℕ) (found : Option (Bor (List ℕ))) → url ≡ r.url → n ≡ length top → url ≡ top ++ drop n url → path ≡ drop n url →
    now_of found ≡ front_elsewhere top (before_query path) (page_links r) → now_of found ≡ page_front top r
page_below top r url path n found is count split cut own =
    let rest : path ≡ drop (length top) r.url = cut ∙ (λ i. drop (count i) (is i)) in
    let starts : begins top r.url ≡ true = ap (begins top) (sym is) ∙ begins_with top url (drop n url) split in
    own ∙ ap (λ p. front_elsewhere top (before_query p) (page_links r)) rest ∙ sym (cond-true (begins top r.url) _ _ starts)

pub page_elsewhere : (top : List ℕ) (r : PageResult) (url : List ℕ) → url ≡ r.url → ((rest : List ℕ) → url ≡ top ++ rest → ⊥) → None ≡ page_front top r
page_elsewhere top r url is lacks = sym (cond-false (begins top r.url) _ _ (ap (begins top) (sym is) ∙ not_begun top url lacks))

-- ---- its links

abbrev fronts_of : List ℕ → List (List ℕ) → List (List ℕ)
fronts_of path links = flat_map (λ link. option_to_list (front_of path link)) links

first_of : (front : Option (List ℕ)) (more : List (List ℕ)) (link : List ℕ) → Some link ≡ front → first_in (option_to_list front ++ more) ≡ Some link
first_of front more link is = sym (ap (λ o. first_in (option_to_list o ++ more)) is)

none_of : (front : Option (List ℕ)) (more : List (List ℕ)) → None ≡ front → first_in (option_to_list front ++ more) ≡ first_in more
none_of front more is = sym (ap (λ o. first_in (option_to_list o ++ more)) is)

at_link : (path : List ℕ) (links : List (List ℕ)) (i : ℕ) (link : List ℕ) → i < length links → link ≡ get_or links i link → fronts_of path (drop i links) ≡ option_to_list (front_of path link) ++ fronts_of path (drop (i + 1) links)
at_link path links i link below at = ap (fronts_of path) (cut_here links i link below at)

pub front_here : (path : List ℕ) (links : List (List ℕ)) (i : ℕ) (link front : List ℕ) (empty : Bool) → i < length links → link ≡ get_or links i link → Some front ≡ front_of path link →
    first_in (fronts_of path (drop i links)) ≡ first_in (fronts_of path links) → empty ≡ (length path == 0) → empty ≡ false → Some front ≡ first_front path links
front_here path links i link front empty below at own so_far is some =
    sym (first_of (front_of path link) (fronts_of path (drop (i + 1) links)) front own)
    ∙ sym (ap first_in (at_link path links i link below at))
    ∙ so_far
    ∙ sym (cond-false (length path == 0) _ _ (sym is ∙ some))

pub front_later : (path : List ℕ) (links : List (List ℕ)) (i : ℕ) (link : List ℕ) → i < length links → link ≡ get_or links i link → None ≡ front_of path link →
    first_in (fronts_of path (drop i links)) ≡ first_in (fronts_of path links) → first_in (fronts_of path (drop (i + 1) links)) ≡ first_in (fronts_of path links)
front_later path links i link below at none so_far =
    sym (none_of (front_of path link) (fronts_of path (drop (i + 1) links)) none) ∙ sym (ap first_in (at_link path links i link below at)) ∙ so_far

pub no_front : (path : List ℕ) (links : List (List ℕ)) (i : ℕ) (empty : Bool) → length links ≤ i → first_in (fronts_of path (drop i links)) ≡ first_in (fronts_of path links) → empty ≡ (length path == 0) → empty ≡ false →
    None ≡ first_front path links
no_front path links i empty past so_far is some =
    sym (ap (λ l. first_in (fronts_of path l)) (drop_all i links past)) ∙ so_far ∙ sym (cond-false (length path == 0) _ _ (sym is ∙ some))

-- ---- the hint

pub first_own : (files : SiteFiles) (results : List PageResult) (top : List ℕ) (fronts : List (List ℕ)) (counts : Counts) (of : ℕ) (found : Option (List ℕ)) → top ≡ string_bytes files.site.top → fronts ≡ own_fronts top results →
    ((other : List ℕ) → count_at counts other ≡ path_count fronts other) → of ≡ outward_count top results → found ≡ often_first of (count_at counts) fronts → option_map (front_hint results) found ≡ own_hint files results
first_own files results top fronts counts of found is are counted number first =
    ap (option_map (front_hint results))
    (first
    ∙ (λ i. often_first (number i) (λ other. counted other i) fronts)
    ∙ ap (λ l. often_first (outward_count top results) (path_count l) l) are
    ∙ ap (λ t. often_first (outward_count t results) (path_count (own_fronts t results)) (own_fronts t results)) is)
