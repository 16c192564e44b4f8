-- The rows of the results that found no page are those of all results.
use Rattle.site_check.proofs.Prelude.{common_steps, ◌≡◌, ◌∙◌, ℕ, Bool, true, false, not, ◌&&◌, List, [], ◌∷◌, ◌++◌, map, filter, refl, sym, ap, arith, cases_Bool, flat_map, Page, PageResult, Linked, hint_of, hints_at, hints_of, hints_of_page, is_ignored, is_unfound, shown, linked, linked_at, result_at, rows_at, rows_with, broken_of, ways_at, ways_with, redirects_of, missing_texts, text_at, SiteFiles, leaving_of, outside_at, outside_linked, outside_of, outside_row, outside_texts, row_at, shown_at}
use Rattle.crawl_pages.proofs.StableSort.{filter-kept, filter-dropped}
use Rattle.crawl_pages.specs.Pages.{is_found, is_missing}
use Rattle.site_check.specs.Leaving.{LeavingRow}
use Rattle.site_check.specs.declared.input.MapName.{MapName}
use Rattle.site_check.specs.declared.outside.Outside.{Outside}
use Rattle.site_check.specs.declared.linked.Linked as code

-- what fails the test gives nothing
abbrev GivesNothing : {X Y : Type 0} → (X → Bool) → (X → List Y) → Type 0
GivesNothing {X} p f = (x : X) → p x ≡ false → f x ≡ []

flat_filter : {X Y : Type 0} (p : X → Bool) (f : X → List Y) → GivesNothing p f → (xs : List X) → flat_map f (filter p xs) ≡ flat_map f xs
flat_filter p f none [] = refl
flat_filter p f none (x ∷ xs) = grind (arith, common_steps, cases_Bool, filter-kept, filter-dropped, flat_filter p f none xs)

pub flat_mapped : {X Y Z : Type 0} (g : Y → List Z) (h : X → Y) (xs : List X) → flat_map g (map h xs) ≡ flat_map (λ x. g (h x)) xs
flat_mapped g h [] = refl
flat_mapped g h (x ∷ xs) = ap (λ l. g (h x) ++ l) (flat_mapped g h xs)

pub flat_linked : {Y : Type 0} (p : PageResult → Bool) (g : Linked → List Y) (h : PageResult → Linked) → GivesNothing p (λ r. g (h r)) → (results : List PageResult) →
    flat_map g (map h (filter p results)) ≡ flat_map (λ r. g (h r)) results
flat_linked p g h none results = flat_mapped g h (filter p results) ∙ flat_filter p (λ r. g (h r)) none results

no_row : (front : List ℕ) (entries : List (List ℕ)) (url : List ℕ) (pages : ℕ) (page : Page) → is_found page ≡ true → rows_at front entries url pages page ≡ []
no_row front entries url pages page found = grind (arith, common_steps)

pub no_row_there : (front : List ℕ) (entries : List (List ℕ)) (url : List ℕ) (pages : ℕ) (page : Page) → is_missing page ≡ false → rows_at front entries url pages page ≡ []
no_row_there front entries url pages page there = grind (arith, common_steps)

no_way : (front url : List ℕ) (pages : ℕ) (page : Page) → is_found page ≡ true → ways_at front url pages page ≡ []
no_way front url pages page found = grind (arith, common_steps)

found_page : (page : Page) → not (is_found page) ≡ false → is_found page ≡ true
found_page page is = grind (arith, common_steps)

pub rows_of_all : (front : List ℕ) (entries : List (List ℕ)) (results : List PageResult) →
    flat_map (rows_with front entries) (map (linked results) (filter is_unfound results)) ≡ broken_of front entries results
rows_of_all front entries results = grind (arith, common_steps, flat_linked, no_row, found_page)

pub ways_of_all : (front : List ℕ) (results : List PageResult) → flat_map (ways_with front) (map (linked results) (filter is_unfound results)) ≡ redirects_of front results
ways_of_all front results = grind (arith, common_steps, flat_linked, no_way, found_page)

-- a page that is not there and that no entry matches has a row, and no other has one

pub own_row : (front : List ℕ) (entries : List (List ℕ)) (url : List ℕ) (pages : ℕ) (page : Page) → (is_missing page && not (is_ignored entries (shown front url))) ≡ true →
    rows_at front entries url pages page ≡ record { text = shown front url; pages = pages } ∷ []
own_row front entries url pages page reported = grind (arith, common_steps, cases_Bool)

pub other_row : (front : List ℕ) (entries : List (List ℕ)) (url : List ℕ) (pages : ℕ) (page : Page) → (is_missing page && not (is_ignored entries (shown front url))) ≡ false →
    rows_at front entries url pages page ≡ []
other_row front entries url pages page other = grind (arith, common_steps, cases_Bool)

pub own_hint : (front : List ℕ) (entries : List (List ℕ)) (files : SiteFiles) (url : List ℕ) (page : Page) → (is_missing page && not (is_ignored entries (shown front url))) ≡ true →
    hints_of_page front entries files url page ≡ hint_of files url ∷ []
own_hint front entries files url page reported = grind (arith, common_steps, cases_Bool)

pub other_hint : (front : List ℕ) (entries : List (List ℕ)) (files : SiteFiles) (url : List ℕ) (page : Page) → (is_missing page && not (is_ignored entries (shown front url))) ≡ false →
    hints_of_page front entries files url page ≡ []
other_hint front entries files url page other = grind (arith, common_steps, cases_Bool)

-- ---- the texts of the pages that are not there

no_text : (front url : List ℕ) (page : Page) → is_found page ≡ true → text_at front (record { url = url; page = page }) ≡ []
no_text front url page found = grind (arith, common_steps)

pub results_at : (all : List code.Linked) → map result_at all ≡ map (λ (l : Linked). l.result) (map linked_at all)
results_at [] = refl
results_at (l ∷ all) = ap (λ rs. l.result.now ∷ rs) (results_at all)

pub results_back : (results rs : List PageResult) → map (λ (l : Linked). l.result) (map (linked results) rs) ≡ rs
results_back results [] = refl
results_back results (r ∷ rs) = ap (λ l. r ∷ l) (results_back results rs)

pub texts_of_all : (front : List ℕ) (results : List PageResult) (all : List code.Linked) → map linked_at all ≡ map (linked results) (filter is_unfound results) →
    missing_texts front results ≡ flat_map (text_at front) (map result_at all)
texts_of_all front results all is = grind (arith, common_steps, flat_filter, no_text, found_page, results_at, results_back)

-- ---- the hints

no_hint : (front : List ℕ) (entries : List (List ℕ)) (files : SiteFiles) (url : List ℕ) (page : Page) → is_found page ≡ true → hints_of_page front entries files url page ≡ []
no_hint front entries files url page found = grind (arith, common_steps)

pub no_hint_there : (front : List ℕ) (entries : List (List ℕ)) (files : SiteFiles) (url : List ℕ) (page : Page) → is_missing page ≡ false → hints_of_page front entries files url page ≡ []
no_hint_there front entries files url page there = grind (arith, common_steps)

pub hints_of_all : (front : List ℕ) (entries : List (List ℕ)) (files : SiteFiles) (results : List PageResult) (all : List code.Linked) → map linked_at all ≡ map (linked results) (filter is_unfound results) →
    flat_map (hints_at front entries files) (map result_at all) ≡ hints_of front entries files results
hints_of_all front entries files results all is =
    let result : Linked → PageResult = λ l. l.result in
    ap (flat_map (hints_at front entries files)) (results_at all ∙ ap (map result) is ∙ results_back results (filter is_unfound results))
    ∙ flat_filter is_unfound (hints_at front entries files) (λ r unfound. no_hint front entries files r.url r.page (found_page r.page unfound)) results

-- ---- the links that lead out of the site

pub mapped : {X Y Z : Type 0} (g : Y → Z) (h : X → Y) (xs : List X) → map g (map h xs) ≡ map (λ x. g (h x)) xs
mapped g h [] = refl
mapped g h (x ∷ xs) = ap (λ l. g (h x) ∷ l) (mapped g h xs)

pub leaving_of_all : (entries : List (List ℕ)) (rooted : Bool) (maps : List MapName) (files : SiteFiles) (results found : List PageResult) (outside : List Outside) → map outside_at outside ≡ outside_linked rooted maps files results found →
    flat_map (row_at entries) (map outside_at outside) ≡ leaving_of entries rooted maps files results found
leaving_of_all entries rooted maps files results found outside are =
    let out = outside_of files found in
    ap (flat_map (row_at entries)) are ∙ flat_mapped (row_at entries) (outside_row rooted maps files) (map (linked results) out)
    ∙ flat_mapped (λ l. row_at entries (outside_row rooted maps files l)) (linked results) out

pub outside_texts_of_all : (rooted : Bool) (maps : List MapName) (files : SiteFiles) (results found : List PageResult) (outside : List Outside) → map outside_at outside ≡ outside_linked rooted maps files results found →
    outside_texts rooted files found ≡ map shown_at outside
outside_texts_of_all rooted maps files results found outside are =
    let text : LeavingRow → List ℕ = λ w. w.text in
    let out = outside_of files found in
    sym (mapped text (outside_row rooted maps files) (map (linked results) out) ∙ mapped (λ l. text (outside_row rooted maps files l)) (linked results) out)
    ∙ sym (ap (map text) are) ∙ mapped text outside_at outside
