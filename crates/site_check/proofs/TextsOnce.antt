-- The texts of a sorted list, each once.
use Rattle.site_check.proofs.Prelude.{common_steps, ◌≡◌, ◌∙◌, ℕ, suc, ◌+◌, ◌<◌, ◌≤◌, Bool, true, false, not, ◌||◌, cond, List, [], ◌∷◌, ◌++◌, length, map, filter, drop, get_or, Option, Some, None, refl, sym, subst, ap, arith, cases_Bool, cond-true, cond-false, bytes_eq, bytes_eq-Decides, list_any, AreTexts, PageLink, PageResult, anchors_in, ascends, file_in, matches, matches_row, missing_texts, names_file, target_in, unused, ascends_after, link_text, next_text, once, once_after, once_next, rises, rises_after}
use Rattle.std.proofs.Common.{Less, Equal, Greater, Ordering, add-one, drop-cons, true≢false}
use Rattle.std.specs.Cmp.Lexicographic.{slice_cmp}
use Rattle.std.specs.List.Sorted.{IsSortedBy}
use Rattle.std.specs.Ordering.{is_eq, is_lt, nat_cmp, ordering_reverse}
use Rattle.std.proofs.lemmas.List.{drop_all}
use Rattle.std.proofs.lemmas.List.Folds.{list_any-append}
use Rattle.check_report.specs.declared.value.Broken.{Broken}
use Rattle.site_check.specs.Broken.{Row}
use Rattle.site_check.specs.Ignored.{AreUnused, anchors_left}
use native.Mathlib.Numerals.{unary_clauses}
use Rattle.std.proofs.lemmas.Cmp.{nat_list_cmp_total}
use Rattle.std.proofs.lemmas.Map.Text.{is_eq-slice_cmp}

-- one text more
once_step : (last : Option (List ℕ)) (so_far next : List (List ℕ)) (text : List ℕ) (more all : List (List ℕ)) →
    next ≡ so_far ++ next_text last text → so_far ++ once_next last (text ∷ more) ≡ all → next ++ once_next (Some text) more ≡ all
once_step None so_far next text more all pushed before = grind (arith, common_steps)
once_step (Some last) so_far next text more all pushed before = grind (arith, common_steps, cases_Bool, cond-true, cond-false, bytes_eq-Decides)

-- the texts from an index on
abbrev texts_from : ℕ → List PageLink → List (List ℕ)
texts_from i links = map link_text (drop i links)

pub link_more : (links : List PageLink) (i : ℕ) (link : PageLink) (last : Option (List ℕ)) (so_far next all : List (List ℕ)) → i < length links → link ≡ get_or links i link →
    next ≡ so_far ++ next_text last (link_text link) → so_far ++ once_next last (map link_text (drop i links)) ≡ all →
    next ++ once_next (Some (link_text link)) (map link_text (drop (i + 1) links)) ≡ all
link_more links i link last so_far next all below is pushed before =
    let here : texts_from i links ≡ link_text link ∷ texts_from (i + 1) links =
    ap (map link_text) (drop-cons links i link below) ∙ ap (λ l. link_text l ∷ texts_from (suc i) links) (sym is) ∙ ap (λ n. link_text link ∷ texts_from n links) (sym (add-one i)) in
    once_step last so_far next (link_text link) (texts_from (i + 1) links) all pushed (ap (λ ts. so_far ++ once_next last ts) (sym here) ∙ before)

no_more : (last : Option (List ℕ)) → once_next last [] ≡ []
no_more None = refl
no_more (Some last) = refl

pub link_end : (links : List PageLink) (i : ℕ) (last : Option (List ℕ)) (so_far all : List (List ℕ)) → length links ≤ i →
    so_far ++ once_next last (map link_text (drop i links)) ≡ all → so_far ≡ all
link_end links i last so_far all past before = grind (arith, common_steps, no_more, drop_all)

-- ---- the same texts

same_after : (test : List ℕ → Bool) (last : List ℕ) (more : List (List ℕ)) → (test last || list_any test (once_after last more)) ≡ (test last || list_any test more)
same_after test last [] = refl
same_after test last (text ∷ more) =
    grind (arith, common_steps, cases_Bool, cond-true, cond-false, bytes_eq-Decides, same_after test last more, same_after test text more)

pub same_once : (test : List ℕ → Bool) (texts : List (List ℕ)) → list_any test (once texts) ≡ list_any test texts
same_once test [] = refl
same_once test (text ∷ more) = same_after test text more

-- ---- what entries match

same_both : (test : List ℕ → Bool) (front texts other back more : List (List ℕ)) → list_any test texts ≡ list_any test other →
    list_any test (((front ++ texts) ++ back) ++ more) ≡ list_any test (((front ++ other) ++ back) ++ more)
same_both test front texts other back more same = grind (arith, common_steps, list_any-append)

-- the texts, each once, are as good as all
pub are_unused : (front : List ℕ) (entries : List (List ℕ)) (results : List PageResult) (anchors : List Row) (texts all others shown pages unused_ones : List (List ℕ)) (rows : List Broken) →
    anchors_in rows ≡ anchors_left entries anchors → unused_ones ≡ unused entries (((map (λ row. row.text) anchors ++ texts) ++ shown) ++ pages) rows → missing_texts front results ≡ pages → AreTexts all texts → others ≡ shown →
    AreUnused front entries results all others rows unused_ones
are_unused front entries results anchors texts all others shown pages unused_ones rows are exact missing each same =
    record {
      anchors = anchors;
      row_anchors = are;
      exact = exact
          ∙ (λ i. filter (λ entry. not (cond (names_file entry) (list_any (matches_row (file_in entry) (target_in entry)) rows) (same_both (matches entry) (map (λ (row : Row). row.text) anchors) texts all shown pages (each.same (matches entry)) i))) entries)
          ∙ (λ i. unused entries (((map (λ (row : Row). row.text) anchors ++ all) ++ sym same i) ++ sym missing i) rows);
    }

-- ---- in ascending order

by_order : (o p : Ordering) → p ≡ ordering_reverse o → is_eq o ≡ false → is_lt p ≡ false → is_lt o ≡ true
by_order Less p reverse other up = refl
by_order Equal p reverse other up = absurd (true≢false other)
by_order Greater p reverse other up = absurd (true≢false (sym (ap is_lt reverse) ∙ up))

-- what is not less and not equal is greater
less : (text last : List ℕ) → bytes_eq last text ≡ false → is_lt (slice_cmp nat_cmp text last) ≡ false → is_lt (slice_cmp nat_cmp last text) ≡ true
less text last other up =
    by_order (slice_cmp nat_cmp last text) (slice_cmp nat_cmp text last) (nat_list_cmp_total.antisymm text last) (is_eq-slice_cmp last text ∙ other) up

ascends_once_after : (last : List ℕ) (more : List (List ℕ)) → rises_after last more ≡ true → ascends_after last (once_after last more) ≡ true
ascends_once_after last [] up = refl
ascends_once_after last (text ∷ more) up =
    grind (arith, common_steps, cases_Bool, cond-true, cond-false, bytes_eq-Decides, less, ascends_once_after last more, ascends_once_after text more)

pub ascends_once : (texts : List (List ℕ)) → rises texts ≡ true → ascends (once texts) ≡ true
ascends_once [] up = refl
ascends_once (text ∷ more) up = ascends_once_after text more up

-- ---- both

pub are_texts : (listed : Bool) (all sorted texts : List (List ℕ)) → listed ≡ true → rises sorted ≡ true → ((test : List ℕ → Bool) → list_any test sorted ≡ list_any test all) →
    texts ≡ once sorted → AreTexts (cond listed all []) texts
are_texts listed all sorted texts is up same each =
    subst (λ own. AreTexts own texts) (sym (cond-true listed all [] is))
    (record {
      ascending = ap ascends each ∙ ascends_once sorted up;
      same = λ test. ap (list_any test) each ∙ same_once test sorted ∙ same test;
    })

pub no_texts : (listed : Bool) (all texts : List (List ℕ)) → listed ≡ false → texts ≡ [] → AreTexts (cond listed all []) texts
no_texts listed all texts not none =
    subst (λ own. AreTexts own texts) (sym (cond-false listed all [] not))
    (record {
      ascending = ap ascends none;
      same = λ test. ap (list_any test) none;
    })

-- ---- what a sort says

abbrev pub link_lt : PageLink → PageLink → Bool
link_lt a b = is_lt (slice_cmp nat_cmp (link_text a) (link_text b))

up_after : (first : PageLink) (links : List PageLink) → IsSortedBy link_lt (first ∷ links) → rises_after (link_text first) (map link_text links) ≡ true
up_after first [] up = refl
up_after first (next ∷ more) up =
    let here : is_lt (slice_cmp nat_cmp (link_text next) (link_text first)) ≡ false = up 0 first (omega arith) (omega arith) in
    let rest : rises_after (link_text next) (map link_text more) ≡ true =
    up_after next more (λ k d low below. simp unary_clauses (simp unary_clauses at (up (suc k) d (omega arith) (omega (arith, below))))) in
    grind (arith, common_steps)

pub rises_sorted : (links : List PageLink) → IsSortedBy link_lt links → rises (map link_text links) ≡ true
rises_sorted [] up = refl
rises_sorted (first ∷ links) up = up_after first links up
