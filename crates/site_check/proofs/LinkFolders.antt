-- The folders in which links are, and the links that are in them.
use Rattle.site_check.proofs.Prelude.{◌≡◌, ◌∙◌, ℕ, suc, zero, ◌+◌, ◌<◌, ◌≤◌, ◌&&◌, Bool, true, false, List, [], ◌∷◌, ◌++◌, Option, Some, None, length, drop, take, get_or, count_by, refl, subst, sym, ap, inl, inr, arith, append_assoc, cases_Bool, cond-false, cond-true, string_bytes, take-append-drop, bytes_eq-Decides, begins, Bor, flat_map, option_map, pointed, Counts, PageResult, SiteFiles, count_at, is_slash, often_first, path_count}
use Rattle.std.proofs.Common.{◌-◌, ◌≢◌, MatchOption, take_all}
use Rattle.std.proofs.lemmas.List.{append_cancel_right, drop_all, flat_map_more}
use Rattle.std.specs.Option.{option_and_then, option_or, option_to_list}
use Rattle.std.specs.Str.Pattern.{FindsTextSuffix, StripsSuffix}
use Rattle.check_report.specs.declared.value.Broken.{Broken}
use Rattle.crawl_sources.proofs.Counts.{length_pointed, pointed_more}
use Rattle.site_check.proofs.Fronts.{begins_with}
use Rattle.site_check.proofs.Outsides.{IsName, first_free, more_name}
use Rattle.site_check.proofs.RootFolders.{cut_here}
use Rattle.site_check.specs.Base.{Hint}
use Rattle.site_check.specs.LinkBase.{Cuts, first_hint, folder_to, folder_with, folders_to, goes_below, has_file_at, hint_below, hint_in, hint_of_paths, hint_of_urls, hint_with_counts, is_known, leads_to_file, link_hint}
use Rattle.site_check.specs.PageLinks.{are_few_below, link_urls}

-- ---- folders

pub folders_more : (n : ℕ) (urls : List (Bor (List ℕ))) (i : ℕ) (url : Bor (List ℕ)) (old new : List (List ℕ)) → i < length urls → url ≡ get_or urls i url → old ≡ folders_to n (pointed (take i urls)) →
    new ≡ old ++ option_to_list (folder_to n url.now) → new ≡ folders_to n (pointed (take (i + 1) urls))
folders_more n urls i url old new below at so_far put =
    let own : List ℕ → List (List ℕ) = λ u. option_to_list (folder_to n u) in
    put ∙ ap (λ l. l ++ own url.now) so_far ∙ flat_map_more own [] (pointed (take i urls)) url.now ∙ ap (flat_map own) (sym (pointed_more urls i url below at))

pub folders_end : (n : ℕ) (urls : List (Bor (List ℕ))) (i : ℕ) (all : List (List ℕ)) → length urls ≤ i → all ≡ folders_to n (pointed (take i urls)) → all ≡ folders_to n (pointed urls)
folders_end n urls i all past so_far = so_far ∙ ap (λ l. folders_to n (pointed l)) (take_all i urls past)

-- ---- the text to a slash

twice : (b : ℕ) (part : List ℕ) (front : Option (List ℕ)) → option_map (λ f. b ∷ f) (option_map (λ f. part ++ 47 ∷ f) front) ≡ option_map (λ f. b ∷ part ++ 47 ∷ f) front
twice b part None = refl
twice b part (Some front) = refl

-- the text up to the first slash is in it
cut_name : (n : ℕ) (part more : List ℕ) → IsName part → folder_to (suc n) (part ++ 47 ∷ more) ≡ option_map (λ f. part ++ 47 ∷ f) (folder_to n more)
cut_name n [] more free = refl
cut_name n (b ∷ part) more free =
    ap (option_map (λ f. b ∷ f)) (cond-false (is_slash b) _ _ (first_free b part free) ∙ cut_name n part more (more_name b part free)) ∙ twice b part (folder_to n more)

no_cut : (n : ℕ) (url : List ℕ) → IsName url → folder_to (suc n) url ≡ None
no_cut n [] free = refl
no_cut n (b ∷ url) free = ap (option_map (λ f. b ∷ f)) (cond-false (is_slash b) _ _ (first_free b url free) ∙ no_cut n url (more_name b url free))

cuts_more : (part more : List ℕ) (front rest : Option (List ℕ)) → Cuts front more rest → Cuts (option_map (λ f. part ++ 47 ∷ f) front) (part ++ 47 ∷ more) rest
cuts_more part more None None cuts = tt
cuts_more part more None (Some rest) cuts = absurd cuts
cuts_more part more (Some front) None cuts = absurd cuts
cuts_more part more (Some front) (Some rest) cuts = ap (λ t. part ++ 47 ∷ t) cuts ∙ sym (append_assoc part (47 ∷ front) rest)

pub rest_all : (n : ℕ) (url : List ℕ) → n ≡ 0 → Cuts (folder_to n url) url (Some url)
rest_all n url none = subst (λ k. Cuts (folder_to k url) url (Some url)) (sym none) refl

pub rest_more : (n : ℕ) (url part more : List ℕ) (rest : Option (List ℕ)) → n ≢ 0 → url ≡ part ++ 47 ∷ more → IsName part → Cuts (folder_to (n - 1) more) more rest → Cuts (folder_to n url) url rest
rest_more zero url part more rest some split free cuts = absurd (some refl)
rest_more (suc n) url part more rest some split free cuts =
    let less : suc n - 1 ≡ n = omega arith in
    let own : Cuts (folder_to n more) more rest = subst (λ k. Cuts (folder_to k more) more rest) less cuts in
    subst (λ t. Cuts (folder_to (suc n) t) t rest) (sym split) (subst (λ o. Cuts o (part ++ 47 ∷ more) rest) (sym (cut_name n part more free)) (cuts_more part more (folder_to n more) rest own))

pub rest_none : (n : ℕ) (url : List ℕ) → n ≢ 0 → IsName url → Cuts (folder_to n url) url None
rest_none zero url some free = absurd (some refl)
rest_none (suc n) url some free = subst (λ o. Cuts o url None) (sym (no_cut n url free)) tt

-- what is left decides the front
front_is : (front : Option (List ℕ)) (url found rest : List ℕ) → Cuts front url (Some rest) → url ≡ found ++ rest → Some found ≡ front
front_is None url found rest cuts split = absurd cuts
front_is (Some front) url found rest cuts split = ap Some (append_cancel_right found front rest (sym split ∙ cuts))

front_there : (front : Option (List ℕ)) (url rest : List ℕ) → Cuts front url (Some rest) → ((found : List ℕ) → url ≢ found ++ rest) → None ≡ front
front_there None url rest cuts lacks = absurd cuts
front_there (Some front) url rest cuts lacks = absurd (lacks front cuts)

pub front_none : (front : Option (List ℕ)) (url : List ℕ) → Cuts front url None → None ≡ front
front_none None url cuts = refl
front_none (Some front) url cuts = absurd cuts

pub stripped : (front : Option (List ℕ)) (url rest : List ℕ) (r : Option (Bor (List ℕ))) → MatchOption r (FindsTextSuffix rest url None) (λ x. StripsSuffix (FindsTextSuffix rest) url x.now) → Cuts front url (Some rest) →
    option_map (λ folder. folder.now) r ≡ front
stripped front url rest None lacks cuts = front_there front url rest cuts lacks
stripped front url rest (Some found) strips cuts = front_is front url found.now rest cuts (strips.1.1 ∙ ap (λ t. t ++ rest) (sym strips.2))

-- ---- files at other URLs

pub leads_on : (files : SiteFiles) (folder url path : List ℕ) (n : ℕ) (has : Bool) → n ≡ length folder → url ≡ folder ++ drop n url → path ≡ drop n url → has ≡ has_file_at files path → has ≡ leads_to_file files folder url
leads_on files folder url path n has count split cut is =
    is ∙ ap (has_file_at files) (cut ∙ ap (λ k. drop k url) count) ∙ (λ i. sym (begins_with folder url (drop n url) split) i && has_file_at files (drop (length folder) url))

pub not_begun : (front url : List ℕ) → ((rest : List ℕ) → url ≡ front ++ rest → ⊥) → begins front url ≡ false
not_begun front url lacks =
    let rest = drop (length front) url in
    elim (cases_Bool (begins front url)) [
      | inl with ↦ absurd (lacks rest (sym (take-append-drop (length front) url) ∙ ap (λ t. t ++ rest) ((bytes_eq-Decides (take (length front) url) front).0 with)))
      | inr without ↦ without
    ]

pub leads_off : (files : SiteFiles) (folder url : List ℕ) → ((rest : List ℕ) → url ≡ folder ++ rest → ⊥) → false ≡ leads_to_file files folder url
leads_off files folder url lacks = λ i. sym (not_begun folder url lacks) i && has_file_at files (drop (length folder) url)

-- ---- the hint

-- the hint at an index, and those after it
hint_at_index : (files : SiteFiles) (urls : List (List ℕ)) (of : ℕ) (numbers : List ℕ) (i n : ℕ) (found : Option (List ℕ)) → i < length numbers → n ≡ get_or numbers i n → found ≡ folder_with urls of n →
    first_hint files urls of (drop i numbers) ≡ option_and_then (λ folder. option_or (hint_in files urls of folder) (first_hint files urls of (drop (i + 1) numbers))) found
hint_at_index files urls of numbers i n found below is there =
    ap (first_hint files urls of) (cut_here numbers i n below is) ∙ ap (option_and_then (λ folder. option_or (hint_in files urls of folder) (first_hint files urls of (drop (i + 1) numbers)))) (sym there)

pub hint_here : (files : SiteFiles) (urls : List (List ℕ)) (of : ℕ) (numbers : List ℕ) (i n : ℕ) (folder : List ℕ) (hint : Hint) (all : Option Hint) → i < length numbers → n ≡ get_or numbers i n →
    Some folder ≡ folder_with urls of n → Some hint ≡ hint_in files urls of folder → first_hint files urls of (drop i numbers) ≡ all → Some hint ≡ all
hint_here files urls of numbers i n folder hint all below is there found so_far =
    sym (hint_at_index files urls of numbers i n (Some folder) below is there ∙ ap (λ o. option_or o (first_hint files urls of (drop (i + 1) numbers))) (sym found)) ∙ so_far

pub hint_later : (files : SiteFiles) (urls : List (List ℕ)) (of : ℕ) (numbers : List ℕ) (i n : ℕ) (folder : List ℕ) (all : Option Hint) → i < length numbers → n ≡ get_or numbers i n →
    Some folder ≡ folder_with urls of n → None ≡ hint_in files urls of folder → first_hint files urls of (drop i numbers) ≡ all → first_hint files urls of (drop (i + 1) numbers) ≡ all
hint_later files urls of numbers i n folder all below is there none so_far =
    sym (hint_at_index files urls of numbers i n (Some folder) below is there ∙ ap (λ o. option_or o (first_hint files urls of (drop (i + 1) numbers))) (sym none)) ∙ so_far

pub none_with : (files : SiteFiles) (urls : List (List ℕ)) (of : ℕ) (numbers : List ℕ) (i n : ℕ) (all : Option Hint) → i < length numbers → n ≡ get_or numbers i n → None ≡ folder_with urls of n →
    first_hint files urls of (drop i numbers) ≡ all → None ≡ all
none_with files urls of numbers i n all below is lacks so_far = sym (hint_at_index files urls of numbers i n None below is lacks) ∙ so_far

pub no_hint : (files : SiteFiles) (urls : List (List ℕ)) (of : ℕ) (numbers : List ℕ) (i : ℕ) (all : Option Hint) → length numbers ≤ i → first_hint files urls of (drop i numbers) ≡ all → None ≡ all
no_hint files urls of numbers i all past so_far = sym (ap (first_hint files urls of) (drop_all i numbers past)) ∙ so_far

-- the first folder by the counts of all
pub first_folder : (urls folders : List (List ℕ)) (counts : Counts) (of n : ℕ) (found : Option (List ℕ)) → folders ≡ folders_to n urls → ((other : List ℕ) → count_at counts other ≡ path_count folders other) →
    found ≡ often_first of (count_at counts) folders → found ≡ folder_with urls of n
first_folder urls folders counts of n found listed are first = first ∙ (λ i. often_first of (λ other. are other i) folders) ∙ ap (λ l. often_first of (path_count l) l) listed

-- a folder of the site has none
pub hint_at_known : (files : SiteFiles) (urls : List (List ℕ)) (of : ℕ) (folder : List ℕ) (known : Bool) → known ≡ is_known files folder → known ≡ true → None ≡ hint_in files urls of folder
hint_at_known files urls of folder known is has = sym (cond-true (is_known files folder) _ _ (sym is ∙ has))

-- another folder has the one with its counts
pub hint_elsewhere : (files : SiteFiles) (urls : List (List ℕ)) (of : ℕ) (folder : List ℕ) (known : Bool) (paths longer found : ℕ) (hint : Option Hint) → known ≡ is_known files folder → known ≡ false →
    paths ≡ count_by (begins folder) urls → longer ≡ count_by (goes_below folder) urls → found ≡ count_by (leads_to_file files folder) urls → hint ≡ hint_with_counts of folder paths longer found → hint ≡ hint_in files urls of folder
hint_elsewhere files urls of folder known paths longer found hint is lacks counted below lead own =
    own ∙ (λ i. hint_with_counts of folder (counted i) (below i) (lead i)) ∙ sym (cond-false (is_known files folder) _ _ (sym is ∙ lacks))

-- fewer than half of the links begin with the top, or at least half
pub hint_of_few : (files : SiteFiles) (all : List (Bor (List ℕ))) (results : List PageResult) (rows : List Broken) (hint : Option Hint) → are_few_below (string_bytes files.site.top) results rows ≡ true → pointed all ≡ link_urls results →
    hint ≡ hint_of_urls files (pointed all) → hint ≡ link_hint files results rows
hint_of_few files all results rows hint few are own = own ∙ ap (hint_of_urls files) are ∙ sym (cond-true (are_few_below (string_bytes files.site.top) results rows) _ _ few)

pub hint_of_most : (files : SiteFiles) (results : List PageResult) (rows : List Broken) → are_few_below (string_bytes files.site.top) results rows ≡ false → None ≡ link_hint files results rows
hint_of_most files results rows most = sym (cond-false (are_few_below (string_bytes files.site.top) results rows) _ _ most)

-- the number of links, as of the references to them
pub hint_counts : (files : SiteFiles) (urls : List (Bor (List ℕ))) (hint : Option Hint) → hint ≡ first_hint files (pointed urls) (length urls) (3 ∷ 4 ∷ 5 ∷ 6 ∷ 7 ∷ 8 ∷ []) → hint ≡ hint_of_urls files (pointed urls)
unfolding hint_of_urls
hint_counts files urls hint own = own ∙ ap (λ n. first_hint files (pointed urls) n (3 ∷ 4 ∷ 5 ∷ 6 ∷ 7 ∷ 8 ∷ [])) (sym (length_pointed urls))

pub path_counts : (files : SiteFiles) (paths : List (Bor (List ℕ))) (hint : Option Hint) → hint ≡ first_hint files (pointed paths) (length paths) (1 ∷ 2 ∷ 3 ∷ 4 ∷ 5 ∷ 6 ∷ []) → hint ≡ hint_of_paths files (pointed paths)
unfolding hint_of_paths
path_counts files paths hint own = own ∙ ap (λ n. first_hint files (pointed paths) n (1 ∷ 2 ∷ 3 ∷ 4 ∷ 5 ∷ 6 ∷ [])) (sym (length_pointed paths))

-- the links are all of them
pub counts_below : (files : SiteFiles) (all : List (Bor (List ℕ))) (results : List PageResult) (folder url : List ℕ) (hint : Option Hint) → pointed all ≡ link_urls results → url ≡ string_bytes files.site.top ++ folder →
    hint ≡ hint_in files (pointed all) (length all) url → hint ≡ hint_below files results folder
counts_below files all results folder url hint are is own =
    own
    ∙ ap (λ n. hint_in files (pointed all) n url) (sym (length_pointed all))
    ∙ ap (λ urls. hint_in files urls (length urls) url) are
    ∙ ap (hint_in files (link_urls results) (length (link_urls results))) is
