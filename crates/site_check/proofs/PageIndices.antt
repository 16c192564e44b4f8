-- The links of pages that have an index.
use Rattle.site_check.proofs.Prelude.{PageResult, ◌≡◌, ◌∙◌, ℕ, zero, suc, ◌+◌, ◌<◌, ◌≤◌, Bool, true, false, not, ◌&&◌, List, [], ◌∷◌, ◌++◌, length, get_or, take, take_more, Option, Some, None, inl, inr, sym, ap, subst, arith, slice_get, slice_get_within, is_alias}
use Rattle.std.proofs.Common.{◌⊎◌}
use Rattle.std.proofs.lemmas.Bool.{and_parts, cases_lt, le-ltb, lt-ltb}
use Rattle.std.proofs.lemmas.List.{take_all}
use Rattle.std.proofs.lemmas.List.Elements.{All-contains, All-contains_itself, All-push, All-weaker}
use Rattle.std.specs.List.{All, Contains}
use Rattle.std.specs.Prelude.{nat_lt}
use Rattle.crawl_pages.specs.Pages.{is_found}
use Rattle.crawl_pages.specs.declared.page.Page.TheVariants.{Found}
use Rattle.site_files.specs.declared.alias.Alias.{Alias}
use Rattle.site_check.proofs.Placed.{some_same}
use Rattle.site_check.specs.Complete.{HasIndices, IsIndexed, rises_from}

nothing : {X : Type 0} (x : X) → None ≡ Some x → ⊥
nothing x is = cc

not_true : false ≡ true → ⊥
not_true is = cc

-- ---- one page

-- two links of one page
same_links : (a b : List (List ℕ)) (m n : ℕ) → Found a m ≡ Found b n → a ≡ b
same_links a b m n is = cc

-- there are at least this number of indices, in order
abbrev pub AreEnough : ℕ → List ℕ → Type 0
AreEnough count indices = (count ≤ length indices) × (rises_from 0 indices ≡ true)

-- a page with an index for each link
pub found_indexed : (g : List ℕ → List ℕ) (aliases : List Alias) (page : PageResult) (links : List (List ℕ)) (skipped : ℕ) → page.page ≡ Found links skipped → (is_alias aliases page.url ≡ false → (length links ≡ 0) ⊎ AreEnough (length links) (g page.url)) →
    IsIndexed g aliases page
found_indexed g aliases page links skipped found known =
    record {
      each = λ own at url link.
          let same : links ≡ link.links = same_links links link.links skipped link.skipped (sym found ∙ link.found) in
          let within : at < length link.links = slice_get_within link.links at url link.is_link in
          let counted : length links ≡ length link.links = ap length same in
          elim (known own) [
            | inl none ↦ absurd (omega (arith, none, within, counted))
            | inr enough ↦ let whole : length links ≤ length (g page.url) = enough.0 in (omega (arith, whole, within, counted), enough.1)
          ];
    }

-- a page without links
pub unfound_indexed : (g : List ℕ → List ℕ) (aliases : List Alias) (page : PageResult) → is_found page.page ≡ false → IsIndexed g aliases page
unfound_indexed g aliases page unfound = record { each = λ own at url link. absurd (not_true (sym unfound ∙ ap is_found link.found)) }

-- ---- all pages

pub indexed_more : (P : PageResult → Type 0) (results : List PageResult) (i : ℕ) (one : PageResult) → i < length results → one ≡ get_or results i one → All P (take i results) → P one → All P (take (i + 1) results)
indexed_more P results i one below is all own =
    subst (All P) (sym (take_more results i one below ∙ ap (λ (x : PageResult). take i results ++ x ∷ []) (sym is))) (All-push P (take i results) one all own)

pub indexed_all : (P : PageResult → Type 0) (results : List PageResult) (i : ℕ) → length results ≤ i → All P (take i results) → All P results
indexed_all P results i whole all = subst (All P) (take_all i results whole) all

-- ---- indices in order

rising_next : (least index : ℕ) (more : List ℕ) → least ≤ index → rises_from least (index ∷ more) ≡ rises_from (index + 1) more
rising_next least index more enough = ap (λ b. not b && rises_from (index + 1) more) (le-ltb index least enough)

rising_less : (least index : ℕ) (more : List ℕ) → index < least → rises_from least (index ∷ more) ≡ false
rising_less least index more less = ap (λ b. not b && rises_from (index + 1) more) (lt-ltb index least less)

-- the test, index by index
pub rising_more : (least index : ℕ) (left following all : List ℕ) → left ≡ index ∷ following → least ≤ index → rises_from least left ≡ rises_from 0 all → rises_from (index + 1) following ≡ rises_from 0 all
rising_more least index left following all split enough before = sym (rising_next least index following enough) ∙ sym (ap (rises_from least) split) ∙ before

pub rising_stop : (least index : ℕ) (left following all : List ℕ) → left ≡ index ∷ following → index < least → rises_from least left ≡ rises_from 0 all → false ≡ rises_from 0 all
rising_stop least index left following all split less before = sym (rising_less least index following less) ∙ sym (ap (rises_from least) split) ∙ before

pub rising_end : (least : ℕ) (left all : List ℕ) → left ≡ [] → rises_from least left ≡ rises_from 0 all → true ≡ rises_from 0 all
rising_end least left all none before = sym (ap (rises_from least) none) ∙ before

not_less : (a b : ℕ) → not (nat_lt a b) ≡ true → b ≤ a
not_less a b is =
    elim (cases_lt a b) [
      | inl less ↦ absurd (not_true (ap not (sym (lt-ltb a b less)) ∙ is))
      | inr other ↦ other
    ]

-- each index is at least the first
rises_least : (least : ℕ) (indices : List ℕ) → rises_from least indices ≡ true → (k index : ℕ) → slice_get indices k ≡ Some index → least ≤ index
rises_least least [] rises k index at = absurd (nothing index at)
rises_least least (first ∷ more) rises zero index at =
    let enough : least ≤ first = not_less first least (and_parts (not (nat_lt first least)) (rises_from (first + 1) more) rises).0 in
    subst (λ (i : ℕ). least ≤ i) (some_same first index at) enough
rises_least least (first ∷ more) rises (suc k) index at =
    let both = and_parts (not (nat_lt first least)) (rises_from (first + 1) more) rises in
    let enough : least ≤ first = not_less first least both.0 in
    let above : first + 1 ≤ index = rises_least (first + 1) more both.1 k index at in
    omega (arith, enough, above)

-- two indices are in the order of their places
pub rising_order : (least : ℕ) (indices : List ℕ) → rises_from least indices ≡ true → (k n index next : ℕ) → k < n → slice_get indices k ≡ Some index → slice_get indices n ≡ Some next → index < next
rising_order least [] rises k n index next before at later = absurd (nothing index at)
rising_order least (first ∷ more) rises k zero index next before at later = absurd (omega (arith, before))
rising_order least (first ∷ more) rises zero (suc n) index next before at later =
    let both = and_parts (not (nat_lt first least)) (rises_from (first + 1) more) rises in
    let above : first + 1 ≤ next = rises_least (first + 1) more both.1 n next later in
    let same : first ≡ index = some_same first index at in
    omega (arith, above, same)
rising_order least (first ∷ more) rises (suc k) (suc n) index next before at later =
    let both = and_parts (not (nat_lt first least)) (rises_from (first + 1) more) rises in
    rising_order (first + 1) more both.1 k n index next (omega (arith, before)) at later

-- ---- the links to targets

pub known_indices : (positions : Bool) (f : List ℕ → Option ℕ) (table g : List ℕ → List ℕ) (aliases : List Alias) (results : List PageResult) → ((url : List ℕ) → table url ≡ g url) → (positions ≡ true → All (IsIndexed table aliases) results) →
    All (HasIndices positions f g aliases) results
known_indices positions f table g aliases results same known =
    All-weaker (Contains results) (HasIndices positions f g aliases)
    (λ page contained.
    record {
      each = λ asked own at url link number is.
          subst (λ (l : List ℕ). (at < length l) × (rises_from 0 l ≡ true)) (same page.url) ((All-contains (IsIndexed table aliases) results page (known asked) contained).each own at url link);
    }) results (All-contains_itself results)

-- no link leads to a target
pub no_targets : (positions : Bool) (f : List ℕ → Option ℕ) (g : List ℕ → List ℕ) (aliases : List Alias) (results : List PageResult) → ((url : List ℕ) → f url ≡ None) → All (HasIndices positions f g aliases) results
no_targets positions f g aliases results none =
    All-weaker (Contains results) (HasIndices positions f g aliases) (λ page contained. record { each = λ asked own at url link number is. absurd (nothing number (sym (none url) ∙ is)) }) results (All-contains_itself results)
