-- The table of pages by their URLs.
use Rattle.std.proofs.Common.{◌≡◌, ℕ, ◌<◌, Bool, true, false, List, [], ◌∷◌, ◌++◌, if◌then◌else◌, Result, Ok, Err, get_or, length, map, refl, sym, ap, ◌∙◌, subst, inl, inr}
use Rattle.std.specs.Prelude.{find, slice_get, Some, None, option_and_then}
use Rattle.std.specs.declared.cmp.Ordering.TheVariants.{Equal}
use Rattle.std.specs.Cmp.{IsStrictWeakOrder}
use Rattle.std.specs.Cmp.Lexicographic.{slice_cmp}
use Rattle.std.specs.List.{dedup, dedup_from}
use Rattle.std.specs.List.Sorted.{IsBinarySearchResult, IsSearchInRange, IsSorted, IsStableBy, IsStrictlySortedBy}
use Rattle.std.specs.Ordering.{is_lt, nat_cmp}
use Rattle.std.specs.Result.{result_ok}
use Rattle.std.specs.Str.{bytes_eq}
use Rattle.std.proofs.lemmas.Bool.{cases_Bool, cond-false, cond-true}
use Rattle.std.proofs.lemmas.Option.{slice_get-get_or}
use Rattle.crawl_keys.specs.CanonicalText.{canonical}
use Rattle.site_files.specs.Entries.{Finds, IsEntryAt, IsInOrder, IsOnce, IsTable, Lists, cmp_urls, entry_at, expected, file_in, file_with, is_again, listed, response_of, url_in}
use Rattle.site_files.specs.Pages.{Missing, Page, found_file, is_result, is_text_of, pages, response_in}
use Rattle.site_files.specs.Server.{Server}
use Rattle.site_files.specs.declared.page_table.Entry.{Entry}
use Rattle.site_files.specs.declared.page_table.Source.{Source}
use Rattle.site_files.specs.declared.page_table.Source.TheVariants as source
use Rattle.site_files.specs.declared.page_table.Source.TheVariants.{File}
use Rattle.site_files.proofs.FirstOnes.{ascends-dedup, first-dedup, first-found, first-missing, first-sort, key_found, keys_rank}

pub urls_rank : IsStrictWeakOrder (λ a b. is_lt (cmp_urls a b))
urls_rank = keys_rank url_in

pub none_ascend : IsStrictlySortedBy cmp_urls []
unfolding IsStrictlySortedBy
none_ascend = tt

pub in_order_from_sort : (given ordered : List Entry) → IsSorted cmp_urls ordered → IsStableBy (λ a b. is_lt (cmp_urls a b)) given ordered → IsInOrder given ordered
in_order_from_sort given ordered ascends stable = record {
  ascends = ascends;
  keeps = λ url. first-sort url_in (λ (entry : Entry). response_of entry.source) Missing url given ordered stable;
}

pub once_from_dedup : (given kept : List Entry) → IsSorted cmp_urls given → kept ≡ dedup (λ a b. bytes_eq a.url b.url) given → IsOnce given kept
once_from_dedup given kept ascends is = rw is record {
  ascends = ascends-dedup url_in given ascends;
  keeps = λ url. first-dedup url_in (λ (entry : Entry). response_of entry.source) Missing url given;
}

pub once_in_order : (given ordered kept : List Entry) → IsInOrder given ordered → IsOnce ordered kept → IsOnce given kept
once_in_order given ordered kept order once = record {
  ascends = once.ascends;
  keeps = λ url. once.keeps url ∙ order.keeps url;
}

-- ---- each URL once, one page after another

abbrev pub same_url : Entry → Entry → Bool
same_url a b = bytes_eq a.url b.url

abbrev with_next : List Entry → Entry → List Entry
with_next kept entry = if is_again kept entry then kept else kept ++ entry ∷ []

if_cons : (b : Bool) (first : Entry) (xs ys : List Entry) → (if b then first ∷ xs else first ∷ ys) ≡ first ∷ (if b then xs else ys)
if_cons true first xs ys = refl
if_cons false first xs ys = refl

-- some page is kept
record IsKept (kept : List Entry) : Type 0 where
  first : Entry
  rest : List Entry
  is : kept ≡ first ∷ rest

some_kept : (first : Entry) (entries : List Entry) → IsKept (dedup_from same_url first entries)
some_kept first [] = record { first = first; rest = []; is = refl }
some_kept first (entry ∷ entries) = elim (cases_Bool (same_url entry first)) [
  | inl same ↦
      let more = some_kept first entries in
      record { first = more.first; rest = more.rest; is = cond-true _ _ _ same ∙ more.is }
  | inr other ↦ record { first = first; rest = dedup_from same_url entry entries; is = cond-false _ _ _ other }
]

with_next-cons : (first : Entry) (kept : List Entry) (entry : Entry) → IsKept kept → with_next (first ∷ kept) entry ≡ first ∷ with_next kept entry
with_next-cons first kept entry some =
    let more = some.first ∷ some.rest in
    ap (λ all. with_next (first ∷ all) entry) some.is
    ∙ if_cons (is_again more entry) first more (more ++ entry ∷ [])
    ∙ ap (λ all. first ∷ with_next all entry) (sym some.is)

dedup_from-next : (first : Entry) (entries : List Entry) (entry : Entry) → dedup_from same_url first (entries ++ entry ∷ []) ≡ with_next (dedup_from same_url first entries) entry
dedup_from-next first [] entry = refl
dedup_from-next first (one ∷ entries) entry = elim (cases_Bool (same_url one first)) [
  | inl same ↦
      cond-true _ _ _ same ∙ dedup_from-next first entries entry
      ∙ ap (λ all. with_next all entry) (sym (cond-true _ _ _ same))
  | inr other ↦
      cond-false _ _ _ other ∙ ap (λ all. first ∷ all) (dedup_from-next one entries entry)
      ∙ sym (with_next-cons first (dedup_from same_url one entries) entry (some_kept one entries))
      ∙ ap (λ all. with_next all entry) (sym (cond-false _ _ _ other))
]

dedup-next : (entries : List Entry) (entry : Entry) → dedup same_url (entries ++ entry ∷ []) ≡ with_next (dedup same_url entries) entry
dedup-next [] entry = refl
dedup-next (first ∷ entries) entry = dedup_from-next first entries entry

pub kept_again : (kept entries : List Entry) (entry : Entry) → kept ≡ dedup same_url entries → is_again kept entry ≡ true → kept ≡ dedup same_url (entries ++ entry ∷ [])
kept_again kept entries entry is again =
    sym (dedup-next entries entry ∙ ap (λ all. with_next all entry) (sym is) ∙ cond-true _ _ _ again)

pub kept_next : (kept entries : List Entry) (entry : Entry) → kept ≡ dedup same_url entries → is_again kept entry ≡ false → kept ++ entry ∷ [] ≡ dedup same_url (entries ++ entry ∷ [])
kept_next kept entries entry is other =
    sym (dedup-next entries entry ∙ ap (λ all. with_next all entry) (sym is) ∙ cond-false _ _ _ other)

again_last : (front : List Entry) (last entry : Entry) → is_again (front ++ last ∷ []) entry ≡ bytes_eq entry.url last.url
again_last [] last entry = refl
again_last (first ∷ []) last entry = refl
again_last (first ∷ next ∷ front) last entry = again_last (next ∷ front) last entry

pub again_at : (kept front : List Entry) (last entry : Entry) → kept ≡ front ++ last ∷ [] → is_again kept entry ≡ bytes_eq entry.url last.url
again_at kept front last entry is = ap (λ all. is_again all entry) is ∙ again_last front last entry

-- ---- the pages

pub first-lists : (url : List ℕ) (entries : List Entry) (pages : List Page) → Lists entries pages → entry_at entries url ≡ response_in (find (λ one. is_text_of url one.text) pages)
first-lists url [] [] lists = refl
first-lists url [] (one ∷ pages) lists = cc
first-lists url (entry ∷ entries) [] lists = cc
first-lists url (entry ∷ entries) (one ∷ pages) lists =
    let heads : listed entry ≡ expected one = cc in
    let tails : map listed entries ≡ map expected pages = cc in
    let urls : Ok entry.url ≡ canonical one.text = ap (λ l. l.url) heads in
    let responses : response_of entry.source ≡ one.response = ap (λ l. l.response) heads in
    let test : bytes_eq entry.url url ≡ is_text_of url one.text = ap (is_result url) urls in
    elim (cases_Bool (bytes_eq entry.url url)) [
      | inl is ↦ cond-true _ _ _ is ∙ responses ∙ ap response_in (sym (cond-true _ _ _ (sym test ∙ is)))
      | inr other ↦
          cond-false _ _ _ other ∙ first-lists url entries pages tails
          ∙ ap response_in (sym (cond-false _ _ _ (sym test ∙ other)))
    ]

pub table_of : (server : Server) (names : List (List ℕ)) (given kept : List Entry) → Lists given (pages server names) → IsOnce given kept → IsTable server names kept
table_of server names given kept lists once = record {
  ascends = once.ascends;
  pages = λ url. once.keeps url ∙ first-lists url given (pages server names) lists;
}

-- ---- the file of a page

file_found : (from : Source) → file_in from ≡ found_file (response_of from)
file_found (source.File index) = refl
file_found (source.Index index) = refl
file_found (source.Moved url) = refl

pub file_there : (entries : List Entry) (url : List ℕ) (number : ℕ) → IsEntryAt entries url number → file_with entries number ≡ found_file (entry_at entries url)
file_there entries url number is =
    ap (option_and_then (λ (entry : Entry). file_in entry.source)) is.there ∙ file_found is.entry.source ∙ ap found_file (sym is.first)

pub no_file : (entries : List Entry) (url : List ℕ) → entry_at entries url ≡ Missing → None ≡ found_file (entry_at entries url)
no_file entries url missing = ap found_file (sym missing)

-- ---- the search

pub found_at : (url : List ℕ) (entries : List Entry) (number : ℕ) → IsStrictlySortedBy cmp_urls entries → number < length entries → ((d : Entry) → slice_cmp nat_cmp (get_or entries number d).url url ≡ Equal) → IsEntryAt entries url number
found_at url entries number ascends below equal =
    let none : Entry = record { url = []; source = File 0 } in
    let entry : Entry = get_or entries number none in
    let there : slice_get entries number ≡ Some entry = slice_get-get_or entries number none below in
    let own : entry.url ≡ url = key_found url_in url entry (equal none) in
    record {
      entry = entry;
      there = there;
      own = own;
      first =
          subst (λ text. entry_at entries text ≡ response_of entry.source) own
          (first-found url_in (λ (e : Entry). response_of e.source) Missing entries number entry ascends there);
    }

pub finds : (url : List ℕ) (entries : List Entry) (result : Result ℕ ℕ) → IsStrictlySortedBy cmp_urls entries → IsSearchInRange result (length entries) → IsBinarySearchResult (λ (e : Entry). slice_cmp nat_cmp e.url url) entries result → Finds entries url (result_ok result)
finds url entries (Ok number) ascends range search = found_at url entries number ascends range search
finds url entries (Err number) ascends range search =
    first-missing url_in (λ (e : Entry). response_of e.source) Missing url entries number ascends search
