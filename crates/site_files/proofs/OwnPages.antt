-- The own URLs of files: what is found among their texts, and that it is what is defined.
use Rattle.std.proofs.Common.{◌≡◌, ◌⊎◌, ℕ, ◌+◌, ◌<◌, ◌≤◌, zero, suc, Bool, true, false, Global, String, Option, Some, None, Result, Ok, Err, List, [], ◌∷◌, ◌++◌, find, get_or, length, length-append, option_and_then, string_bytes, refl, sym, ap, subst, ◌∙◌, inl, inr, arith}
use Rattle.std.specs.Prelude.{filter_map, flat_map, is_some, slice_get, option_map}
use Rattle.std.specs.List.{AllByRecursion, cons_option, enumerate_from}
use Rattle.std.specs.Option.{option_or}
use Rattle.std.proofs.lemmas.Bool.{cases_Bool, cases_lt, cond-false, cond-true, eq-eqb, true≢false}
use Rattle.std.proofs.lemmas.Slice.Eq.{bytes_eq-Decides}
use Rattle.std.proofs.lemmas.List.Folds.{find-append}
use Rattle.std.proofs.lemmas.Option.{slice_get-get_or, slice_get-map, slice_get_within}
use Rattle.crawl_keys.specs.CanonicalText.{canonical}
use Rattle.crawl_keys.specs.declared.error.KeyError.{KeyError}
use Rattle.site_files.specs.Entries.{IsEntryAt, IsTable, entry_at, file_in, response_of, texts, url_in}
use Rattle.site_files.specs.Own.{AreOwnNumbers, FindsOwn, HasOwn, HaveOwn, IsOwnNumber, is_file_at, is_page_in, is_some_file, number_in, own_among, own_of, page_url}
use Rattle.site_files.specs.Pages.{Found, Missing, Moved, Page, file_page, folder_texts, index_page, index_pages, index_text, ends_in_slash, folder_page, is_found, is_page_of, is_result, is_text_of, moved_page, named_page, named_pages, own_text, pages, response_in, texts_of}
use Rattle.site_files.specs.Server.{Server}
use Rattle.site_files.specs.declared.page_table.Entry.{Entry}
use Rattle.site_files.specs.declared.page_table.Source.{Source}
use Rattle.site_files.specs.declared.page_table.Source.TheVariants as source
use Rattle.site_files.proofs.FirstOnes.{first-found}

some_same : {X : Type 0} (x y : X) → Some x ≡ Some y → x ≡ y
some_same x y is = cc

none_some : {X : Type 0} (x : X) → None ≡ Some x → ⊥
none_some x is = cc

-- ---- one text

at_entry : (entries : List Entry) (file : ℕ) (text url : List ℕ) (number : ℕ) → canonical text ≡ Ok url → (seen : IsEntryAt entries url number) → is_page_in entries file (canonical text) ≡ is_file_at entries number file
at_entry entries file text url number canon seen =
    ap (is_page_in entries file) canon ∙ ap (is_found file) seen.first
    ∙ sym (ap (λ o. is_some_file o file) seen.there)

pub own_here : (entries : List Entry) (file : ℕ) (text url : List ℕ) (number : ℕ) → canonical text ≡ Ok url → IsEntryAt entries url number → is_file_at entries number file ≡ true → FindsOwn entries file (text ∷ []) (Some number)
own_here entries file text url number canon seen is = record {
  text = text;
  first = cond-true _ _ _ (at_entry entries file text url number canon seen ∙ is);
  at_text = record { entry = seen.entry; there = seen.there; url = canon ∙ ap Ok (sym seen.own) };
}

pub own_other : (entries : List Entry) (file : ℕ) (text url : List ℕ) (number : ℕ) → canonical text ≡ Ok url → IsEntryAt entries url number → is_file_at entries number file ≡ false → FindsOwn entries file (text ∷ []) None
own_other entries file text url number canon seen other = cond-false _ _ _ (at_entry entries file text url number canon seen ∙ other)

pub own_missing : (entries : List Entry) (file : ℕ) (text url : List ℕ) → canonical text ≡ Ok url → entry_at entries url ≡ Missing → FindsOwn entries file (text ∷ []) None
own_missing entries file text url canon missing =
    cond-false _ _ _ (ap (is_page_in entries file) canon ∙ ap (is_found file) missing)

-- ---- one text after another

pub own_found : (entries : List Entry) (file : ℕ) (front rest all : List (List ℕ)) (number : Option ℕ) → is_some number ≡ true → FindsOwn entries file front number → own_among entries file (front ++ rest) ≡ own_among entries file all → FindsOwn entries file all number
own_found entries file front rest all None some own same = cc
own_found entries file front rest all (Some number) some own same = record {
  text = own.text;
  first = sym same ∙ find-append (λ text. is_page_in entries file (canonical text)) front rest ∙ ap (λ o. option_or o (own_among entries file rest)) own.first;
  at_text = own.at_text;
}

pub own_further : (entries : List Entry) (file : ℕ) (front rest all : List (List ℕ)) (number : Option ℕ) → is_some number ≡ false → FindsOwn entries file front number → own_among entries file (front ++ rest) ≡ own_among entries file all → own_among entries file rest ≡ own_among entries file all
own_further entries file front rest all None none own same =
    sym (find-append (λ text. is_page_in entries file (canonical text)) front rest ∙ ap (λ o. option_or o (own_among entries file rest)) own)
    ∙ same
own_further entries file front rest all (Some number) none own same = cc

-- ---- one file after another

get_before : {X : Type 0} (xs : List X) (x : X) (i : ℕ) → i < length xs → slice_get (xs ++ x ∷ []) i ≡ slice_get xs i
get_before [] x i below = absurd (omega (arith, below))
get_before (y ∷ xs) x zero below = refl
get_before (y ∷ xs) x (suc i) below = get_before xs x i (omega arith)

get_last : {X : Type 0} (xs : List X) (x : X) → slice_get (xs ++ x ∷ []) (length xs) ≡ Some x
get_last [] x = refl
get_last (y ∷ xs) x = get_last xs x

-- the numbers of the first names
pub record OwnSoFar (server : Server) (entries : List Entry) (names : List (List ℕ)) (own : List (Option ℕ)) (count : ℕ) : Type 0 where
  pub long : length own ≡ count
  pub has : (i : ℕ) (name : List ℕ) → i < count → slice_get names i ≡ Some name → IsOwnNumber server entries own i name

pub no_own : (server : Server) (entries : List Entry) (names : List (List ℕ)) → OwnSoFar server entries names [] 0
no_own server entries names = record { long = refl; has = λ i name below there. absurd (omega (arith, below)) }

name_there : (names : List (String Global)) (i : ℕ) (name : String Global) → i < length names → get_or names i name ≡ name → slice_get (texts names) i ≡ Some (string_bytes name)
name_there names i name below is =
    slice_get-map string_bytes names i ∙ ap (option_map string_bytes) (slice_get-get_or names i name below ∙ ap Some is)

pub own_next : (server : Server) (entries : List Entry) (names : List (String Global)) (own : List (Option ℕ)) (i : ℕ) (name : String Global) (found : Option ℕ) → i < length names → get_or names i name ≡ name → FindsOwn entries i (folder_texts server i (string_bytes name)) found
    → OwnSoFar server entries (texts names) own i → OwnSoFar server entries (texts names) (own ++ found ∷ []) (i + 1)
own_next server entries names own i name found inside is finds so_far = record {
  long = omega (arith, length-append own (found ∷ []), so_far.long);
  has = λ k text below there. elim (cases_lt k i) [
    | inl before ↦
        let old = so_far.has k text before there in
        record { found = old.found; there = get_before own found k (omega (arith, so_far.long)) ∙ old.there; finds = old.finds }
    | inr after ↦
        let same : k ≡ i = omega arith in
        let text_is : string_bytes name ≡ text = some_same _ _ (sym (name_there names i name inside is) ∙ ap (slice_get (texts names)) (sym same) ∙ there) in
        record {
          found = found;
          there = ap (slice_get (own ++ found ∷ [])) (same ∙ sym so_far.long) ∙ get_last own found;
          finds = subst (λ n. FindsOwn entries n (folder_texts server n text) found) (sym same) (subst (λ t. FindsOwn entries i (folder_texts server i t) found) text_is finds);
        }
  ];
}

pub all_own : (server : Server) (entries : List Entry) (names : List (List ℕ)) (own : List (Option ℕ)) (count : ℕ) → length names ≤ count → OwnSoFar server entries names own count → AreOwnNumbers server entries names own
all_own server entries names own count end so_far = λ i name there. so_far.has i name (omega (arith, slice_get_within names i name there)) there

-- ---- the origin of a page

-- a text is one of some
pub record IsAmong (text : List ℕ) (among : List (List ℕ)) : Type 0 where
  pub index : ℕ
  pub there : slice_get among index ≡ Some text

-- a text of a file's URLs
pub record IsOfFile (server : Server) (names : List (List ℕ)) (file : ℕ) (text : List ℕ) : Type 0 where
  pub name : List ℕ
  pub there : slice_get names file ≡ Some name
  pub is : (text ≡ (file_page server file name).text) ⊎ IsAmong text (folder_texts server file name)

abbrev HasOrigin : Server → List (List ℕ) → Page → Type 0
HasOrigin server names one = (file : ℕ) → one.response ≡ Found file → IsOfFile server names file one.text

all-append : {X : Type 0} (P : X → Type 0) (xs ys : List X) → AllByRecursion P xs → AllByRecursion P ys → AllByRecursion P (xs ++ ys)
all-append P [] ys front back = back
all-append P (x ∷ xs) ys front back = (front.0, all-append P xs ys front.1 back)

all-cons_option : {X : Type 0} (P : X → Type 0) (o : Option X) (xs : List X) → ((x : X) → o ≡ Some x → P x) → AllByRecursion P xs → AllByRecursion P (cons_option o xs)
all-cons_option P None xs has rest = rest
all-cons_option P (Some x) xs has rest = (has x refl, rest)

all-filter_map : {X Y : Type 0} (P : Y → Type 0) (f : X → Option Y) (xs : List X) → ((x : X) (y : Y) → f x ≡ Some y → P y) → AllByRecursion P (filter_map f xs)
all-filter_map P f [] has = tt
all-filter_map P f (x ∷ xs) has = all-cons_option P (f x) (filter_map f xs) (has x) (all-filter_map P f xs has)

all-numbered : {X Y : Type 0} (P : Y → Type 0) (f : ℕ → X → Option Y) (n : ℕ) (xs : List X) → ((i : ℕ) (x : X) (y : Y) → slice_get xs i ≡ Some x → f (n + i) x ≡ Some y → P y) → AllByRecursion P (filter_map (λ one. f one.0 one.1) (enumerate_from n xs))
all-numbered P f n [] has = tt
all-numbered P f n (x ∷ xs) has =
    all-cons_option P (f n x) (filter_map (λ one. f one.0 one.1) (enumerate_from (n + 1) xs))
    (λ y is. has 0 x y refl (ap (λ k. f k x) (omega arith) ∙ is))
    (all-numbered P f (n + 1) xs (λ i one y there is. has (suc i) one y there (ap (λ k. f k one) (omega arith) ∙ is)))

all-flat_map : {X Y : Type 0} (P : Y → Type 0) (f : X → List Y) (xs : List X) → ((i : ℕ) (x : X) → slice_get xs i ≡ Some x → AllByRecursion P (f x)) → AllByRecursion P (flat_map f xs)
all-flat_map P f [] has = tt
all-flat_map P f (x ∷ xs) has = all-append P (f x) (flat_map f xs) (has 0 x refl) (all-flat_map P f xs (λ i one there. has (suc i) one there))

among_more : (o : Option (List ℕ)) (among : List (List ℕ)) (text : List ℕ) → IsAmong text among → IsAmong text (cons_option o among)
among_more None among text is = is
among_more (Some other) among text is = record { index = suc is.index; there = is.there }

among_first : (o : Option (List ℕ)) (among : List (List ℕ)) (text : List ℕ) → o ≡ Some text → IsAmong text (cons_option o among)
among_first None among text is = cc
among_first (Some other) among text is = record { index = 0; there = is }

among-filter_map : (f : List ℕ → Option (List ℕ)) (xs : List (List ℕ)) (i : ℕ) (x text : List ℕ) → slice_get xs i ≡ Some x → f x ≡ Some text → IsAmong text (filter_map f xs)
among-filter_map f [] i x text there is = cc
among-filter_map f (y ∷ xs) zero x text there is =
    let same : y ≡ x = cc in
    among_first (f y) (filter_map f xs) text (ap f same ∙ is)
among-filter_map f (y ∷ xs) (suc i) x text there is = among_more (f y) (filter_map f xs) text (among-filter_map f xs i x text there is)

found_same : (i file : ℕ) → Found i ≡ Found file → i ≡ file
found_same i file is = cc

-- a page that is made of a name
of_name : (server : Server) (names : List (List ℕ)) (i : ℕ) (name : List ℕ) (one : Page) → slice_get names i ≡ Some name → named_page server i name ≡ Some one → HasOrigin server names one
of_name server names i name one there is = elim (cases_Bool (ends_in_slash name)) [
  | inl slash ↦ λ file found. absurd (none_some _ (sym (cond-true _ _ _ slash) ∙ is))
  | inr other ↦ λ file found.
      let made : file_page server i name ≡ one = some_same _ _ (sym (cond-false _ _ _ other) ∙ is) in
      let same : i ≡ file = found_same i file (ap (λ (p : Page). p.response) made ∙ found) in
      record {
        name = name;
        there = ap (slice_get names) (sym same) ∙ there;
        is = inl (ap (λ (p : Page). p.text) (sym made) ∙ ap (λ n. (file_page server n name).text) same);
      }
]

option_response : (server : Server) (i : ℕ) (query : Option (List ℕ)) (folder : Option (List ℕ)) (one : Page) → option_map (folder_page server i query) folder ≡ Some one → one.response ≡ Found i
option_response server i query None one is = absurd (none_some _ is)
option_response server i query (Some folder) one is = ap (λ (p : Page). p.response) (sym (some_same _ _ is))

index_response : (server : Server) (index : List ℕ) (i : ℕ) (name : List ℕ) (one : Page) → index_page server index i name ≡ Some one → one.response ≡ Found i
index_response server index i name one is = elim (cases_Bool (ends_in_slash name)) [
  | inl slash ↦ absurd (none_some _ (sym (cond-true _ _ _ slash) ∙ is))
  | inr other ↦ option_response server i _ _ one (sym (cond-false _ _ _ other) ∙ is)
]

moved_not_found : (url : List ℕ) (file : ℕ) → Moved url ≡ Found file → ⊥
moved_not_found url file is = cc

of_moved : (server : Server) (names : List (List ℕ)) (name : List ℕ) (one : Page) → moved_page server.top name ≡ Some one → HasOrigin server names one
of_moved server names name one is file found = elim (cases_Bool (ends_in_slash name)) [
  | inl slash ↦ absurd (moved_not_found _ file (ap (λ (p : Page). p.response) (some_same _ _ (sym (cond-true _ _ _ slash) ∙ is)) ∙ found))
  | inr other ↦ absurd (none_some _ (sym (cond-false _ _ _ other) ∙ is))
]

of_index : (server : Server) (names : List (List ℕ)) (index : List ℕ) (k i : ℕ) (name : List ℕ) (one : Page) → slice_get server.host.indices k ≡ Some index → slice_get names i ≡ Some name → index_page server index i name ≡ Some one → HasOrigin server names one
of_index server names index k i name one listed there is file found =
    let same : i ≡ file = found_same i file (sym (index_response server index i name one is) ∙ found) in
    let text : index_text server file name index ≡ Some one.text = ap (λ n. index_text server n name index) (sym same) ∙ ap (option_map (λ (p : Page). p.text)) is in
    record {
      name = name;
      there = ap (slice_get names) (sym same) ∙ there;
      is = inr (among-filter_map (index_text server file name) server.host.indices k index one.text listed text);
    }

origins : (server : Server) (names : List (List ℕ)) → AllByRecursion (HasOrigin server names) (pages server names)
origins server names =
    all-append (HasOrigin server names) (named_pages server names ++ flat_map (index_pages server names) server.host.indices) (filter_map (moved_page server.top) names)
    (all-append (HasOrigin server names) (named_pages server names) (flat_map (index_pages server names) server.host.indices)
    (all-numbered (HasOrigin server names) (named_page server) 0 names
    (λ i name one there is. let same : i ≡ 0 + i = omega arith in of_name server names i name one there (ap (λ k. named_page server k name) same ∙ is)))
    (all-flat_map (HasOrigin server names) (index_pages server names) server.host.indices
    (λ k index listed. all-numbered (HasOrigin server names) (index_page server index) 0 names
    (λ i name one there is. let same : i ≡ 0 + i = omega arith in of_index server names index k i name one listed there (ap (λ n. index_page server index n name) same ∙ is)))))
    (all-filter_map (HasOrigin server names) (moved_page server.top) names (λ name one is. of_moved server names name one is))

find_all : {X : Type 0} (P : X → Type 0) (p : X → Bool) (xs : List X) (x : X) → AllByRecursion P xs → find p xs ≡ Some x → P x × (p x ≡ true)
find_all P p [] x all is = absurd (none_some _ is)
find_all P p (y ∷ xs) x all is = elim (cases_Bool (p y)) [
  | inl here ↦
      let same : y ≡ x = some_same _ _ (sym (cond-true _ _ _ here) ∙ is) in
      (subst P same all.0, ap p (sym same) ∙ here)
  | inr later ↦ find_all P p xs x all.1 (sym (cond-false _ _ _ later) ∙ is)
]

find_none_at : (p : List ℕ → Bool) (y : List ℕ) (xs : List (List ℕ)) (i : ℕ) (x : List ℕ) → slice_get (y ∷ xs) i ≡ Some x → p y ≡ false → ((j : ℕ) → slice_get xs j ≡ Some x → p x ≡ false) → p x ≡ false
find_none_at p y xs zero x there differs later = ap p (some_same _ _ (sym there)) ∙ differs
find_none_at p y xs (suc i) x there differs later = later i there

find_none : (p : List ℕ → Bool) (xs : List (List ℕ)) (i : ℕ) (x : List ℕ) → slice_get xs i ≡ Some x → find p xs ≡ None → p x ≡ false
find_none p [] i x there none = absurd (none_some _ there)
find_none p (y ∷ xs) i x there none = elim (cases_Bool (p y)) [
  | inl here ↦ absurd (none_some _ (sym none ∙ cond-true _ _ _ here))
  | inr later ↦ find_none_at p y xs i x there later (λ j more. find_none p xs j x more (sym (cond-false _ _ _ later) ∙ none))
]

-- ---- the page of a file

record IsPageWith (found : Option Page) (file : ℕ) : Type 0 where
  one : Page
  is : found ≡ Some one
  returns : one.response ≡ Found file

missing_not_found : (file : ℕ) → Missing ≡ Found file → ⊥
missing_not_found file is = cc

page_with : (found : Option Page) (file : ℕ) → response_in found ≡ Found file → IsPageWith found file
page_with None file is = absurd (missing_not_found file is)
page_with (Some one) file is = record { one = one; is = refl; returns = is }

source_found : (from : Source) (file : ℕ) → file_in from ≡ Some file → response_of from ≡ Found file
source_found (source.File index) file is = ap Found (some_same _ _ is)
source_found (source.Index index) file is = ap Found (some_same _ _ is)
source_found (source.Moved url) file is = absurd (none_some _ is)

result_url : (url : List ℕ) (r : Result (List ℕ) KeyError) → is_result url r ≡ true → r ≡ Ok url
result_url url (Ok own) is = ap Ok ((bytes_eq-Decides own url).0 is)
result_url url (Err e) is = cc

text_url : (url text : List ℕ) → is_text_of url text ≡ true → canonical text ≡ Ok url
text_url url text is = result_url url (canonical text) is

same_test : (server : Server) (names : List (List ℕ)) (entries : List Entry) (file : ℕ) → IsTable server names entries → (r : Result (List ℕ) KeyError) → is_page_in entries file r ≡ is_page_of server names file r
same_test server names entries file table (Ok url) = ap (is_found file) (table.pages url)
same_test server names entries file table (Err e) = refl

own_in_texts : (server : Server) (names : List (List ℕ)) (entries : List Entry) (file : ℕ) (all : List (List ℕ)) → IsTable server names entries → find (λ text. is_page_of server names file (canonical text)) all ≡ own_among entries file all
own_in_texts server names entries file all table = ap (λ p. find p all) (λ i text. sym (same_test server names entries file table (canonical text)) i)

found_itself : (file : ℕ) → is_found file (Found file) ≡ true
found_itself file = eq-eqb file file refl

-- the first text of a file, if the page is found at its folder
own_in_folder : (server : Server) (names : List (List ℕ)) (entries : List Entry) (file : ℕ) (name text : List ℕ) → IsTable server names entries → slice_get names file ≡ Some name → own_among entries file (folder_texts server file name) ≡ Some text → own_text server names file ≡ Some text
own_in_folder server names entries file name text table there own =
    ap (option_and_then (λ n. find (λ t. is_page_of server names file (canonical t)) (texts_of server file n))) there
    ∙ own_in_texts server names entries file (texts_of server file name) table
    ∙ find-append (λ t. is_page_in entries file (canonical t)) (folder_texts server file name) ((file_page server file name).text ∷ [])
    ∙ ap (λ o. option_or o (own_among entries file ((file_page server file name).text ∷ []))) own

-- the text of its name, if it is not
own_by_name : (server : Server) (names : List (List ℕ)) (entries : List Entry) (file : ℕ) (name url : List ℕ) → IsTable server names entries → slice_get names file ≡ Some name → own_among entries file (folder_texts server file name) ≡ None
    → canonical (file_page server file name).text ≡ Ok url → entry_at entries url ≡ Found file → own_text server names file ≡ Some (file_page server file name).text
own_by_name server names entries file name url table there none canon returns =
    let text = (file_page server file name).text in
    let test : is_page_in entries file (canonical text) ≡ true = ap (is_page_in entries file) canon ∙ ap (is_found file) returns ∙ found_itself file in
    ap (option_and_then (λ n. find (λ t. is_page_of server names file (canonical t)) (texts_of server file n))) there
    ∙ own_in_texts server names entries file (texts_of server file name) table
    ∙ find-append (λ t. is_page_in entries file (canonical t)) (folder_texts server file name) (text ∷ [])
    ∙ ap (λ o. option_or o (own_among entries file (text ∷ []))) none
    ∙ cond-true _ _ _ test

-- ---- the own URL of a page

-- what is known of a page that is a file: the text from which it comes
record IsPageOf (server : Server) (names : List (List ℕ)) (entries : List Entry) (url : List ℕ) (file : ℕ) : Type 0 where
  returns : entry_at entries url ≡ Found file
  text : List ℕ
  canon : canonical text ≡ Ok url
  origin : IsOfFile server names file text

page_of_entry : (server : Server) (names : List (List ℕ)) (entries : List Entry) (number : ℕ) (entry : Entry) (file : ℕ) → IsTable server names entries → slice_get entries number ≡ Some entry → file_in entry.source ≡ Some file → IsPageOf server names entries entry.url file
page_of_entry server names entries number entry file table there is =
    let returns : entry_at entries entry.url ≡ Found file =
    first-found url_in (λ (e : Entry). response_of e.source) Missing entries number entry table.ascends there ∙ source_found entry.source file is in
    let page = page_with (find (λ one. is_text_of entry.url one.text) (pages server names)) file (sym (table.pages entry.url) ∙ returns) in
    let known = find_all (HasOrigin server names) (λ one. is_text_of entry.url one.text) (pages server names) page.one (origins server names) page.is in
    record {
      returns = returns;
      text = page.one.text;
      canon = text_url entry.url page.one.text known.1;
      origin = known.0 file page.returns;
    }

own_with : (server : Server) (names : List (List ℕ)) (entries : List Entry) (own : List (Option ℕ)) (entry : Entry) (file : ℕ) (found : Option ℕ) → IsTable server names entries → (page : IsPageOf server names entries entry.url file) → file_in entry.source ≡ Some file → slice_get own file ≡ Some found
    → FindsOwn entries file (folder_texts server file page.origin.name) found → HasOwn server names entries own entry file
own_with server names entries own entry file (Some number) table page is there finds = record {
  text = finds.text;
  is_own = own_in_folder server names entries file page.origin.name finds.text table page.origin.there finds.first;
  url = finds.at_text.entry.url;
  canon = finds.at_text.url;
  has =
      ap (option_and_then (λ f. page_url entries entry (number_in own f))) is
      ∙ ap (λ o. page_url entries entry (option_and_then (λ n. n) o)) there
      ∙ ap (option_map (λ (e : Entry). e.url)) finds.at_text.there;
}
own_with server names entries own entry file None table page is there finds =
    let name = page.origin.name in
    let has : own_of entries own entry ≡ Some entry.url =
    ap (option_and_then (λ f. page_url entries entry (number_in own f))) is
    ∙ ap (λ o. page_url entries entry (option_and_then (λ n. n) o)) there in
    elim page.origin.is [
      | inl named ↦
          let canon : canonical (file_page server file name).text ≡ Ok entry.url = ap canonical (sym named) ∙ page.canon in
          record {
            text = (file_page server file name).text;
            is_own = own_by_name server names entries file name entry.url table page.origin.there finds canon page.returns;
            url = entry.url;
            canon = canon;
            has = has;
          }
      | inr among ↦
          let differs = find_none (λ t. is_page_in entries file (canonical t)) (folder_texts server file name) among.index page.text among.there finds in
          let test : is_page_in entries file (canonical page.text) ≡ true = ap (is_page_in entries file) page.canon ∙ ap (is_found file) page.returns ∙ found_itself file in
          absurd (true≢false (sym test ∙ differs))
    ]

pub have_own : (server : Server) (names : List (List ℕ)) (entries : List Entry) (own : List (Option ℕ)) → IsTable server names entries → AreOwnNumbers server entries names own → HaveOwn server names entries own
have_own server names entries own table numbers = λ number entry file there is.
    let page = page_of_entry server names entries number entry file table there is in
    let one = numbers file page.origin.name page.origin.there in
    own_with server names entries own entry file one.found table page is one.there one.finds
