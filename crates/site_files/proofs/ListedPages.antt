-- The pages of the lines of a list, one after another.
use Rattle.std.proofs.Common.{◌≡◌, ℕ, ◌+◌, ◌<◌, ◌≤◌, suc, true, false, List, [], ◌∷◌, ◌++◌, drop, get_or, length, if◌then◌else◌, refl, sym, ap, subst, ◌∙◌, inl, inr, add-one, drop-cons}
use Rattle.std.specs.List.{enumerate_from}
use Rattle.std.specs.Str.{bytes_eq}
use Rattle.std.proofs.lemmas.Bool.{cases_Bool, cond-false, cond-true}
use Rattle.std.proofs.lemmas.List.{drop_all}
use Rattle.std.proofs.lemmas.Slice.Eq.{bytes_eq-Decides}
use Rattle.site_files.specs.Below.{begins}
use Rattle.site_files.specs.Entries.{IsOnce, entry_at, response_of}
use Rattle.site_files.specs.Listed.{HasListed, IsListed, content_response, first_listed, listed_at}
use Rattle.site_files.specs.Pages.{Response, Missing, Moved, Found, or_else}
use Rattle.site_files.specs.declared.page_table.Entry.{Entry}
use Rattle.site_files.specs.declared.site_list.ListedUrl.{ListedUrl}
use Rattle.site_files.proofs.Lookups.{or_else-some}

-- what the pages so far have, or else the lines from this index on, is what the list has
pub record SoFar (top : List ℕ) (urls : List ListedUrl) (names : List (List ℕ)) (entries : List Entry) (index : ℕ) : Type 0 where
  pub is : (url : List ℕ) → or_else (entry_at entries url) (first_listed top names (enumerate_from index (drop index urls)) url) ≡ listed_at top urls names url

pub nothing_yet : (top : List ℕ) (urls : List ListedUrl) (names : List (List ℕ)) → SoFar top urls names [] 0
nothing_yet top urls names = record { is = λ url. refl }

-- ---- one line

entry_more : (entries : List Entry) (entry : Entry) (url : List ℕ) (rest : Response) → or_else (entry_at (entries ++ entry ∷ []) url) rest ≡ or_else (entry_at entries url) (or_else (entry_at (entry ∷ []) url) rest)
entry_more [] entry url rest = refl
entry_more (first ∷ entries) entry url rest =
    let more = or_else (entry_at (entry ∷ []) url) rest in
    elim (cases_Bool (bytes_eq first.url url)) [
      | inl is ↦
          ap (λ r. or_else r rest) (cond-true _ _ _ is) ∙ or_else-some first.source rest
          ∙ sym (ap (λ r. or_else r more) (cond-true _ _ _ is) ∙ or_else-some first.source more)
      | inr other ↦
          ap (λ r. or_else r rest) (cond-false _ _ _ other) ∙ entry_more entries entry url rest
          ∙ sym (ap (λ r. or_else r more) (cond-false _ _ _ other))
    ]

urls_left : (urls : List ListedUrl) (i : ℕ) (one : ListedUrl) → i < length urls → get_or urls i one ≡ one → drop i urls ≡ one ∷ drop (i + 1) urls
urls_left urls i one below is = rw (add-one i) (drop-cons urls i one below ∙ ap (λ line. line ∷ drop (suc i) urls) is)

lines_left : (urls : List ListedUrl) (i : ℕ) (one : ListedUrl) → i < length urls → get_or urls i one ≡ one → enumerate_from i (drop i urls) ≡ (i, one) ∷ enumerate_from (i + 1) (drop (i + 1) urls)
lines_left urls i one below is =
    ap (enumerate_from i) (urls_left urls i one below is)

-- a line with another URL has nothing for this one
other_line : (top : List ℕ) (names : List (List ℕ)) (i : ℕ) (one : ListedUrl) (lines : List (ℕ × ListedUrl)) (url : List ℕ) → bytes_eq one.url url ≡ false → first_listed top names ((i, one) ∷ lines) url ≡ first_listed top names lines url
other_line top names i one lines url other = ap (λ r. if begins top url then r else Missing) (cond-false _ _ _ other)

page_of_line : (top : List ℕ) (names : List (List ℕ)) (i : ℕ) (one : ListedUrl) (entry : Entry) (lines : List (ℕ × ListedUrl)) (url : List ℕ) → begins top one.url ≡ true → entry.url ≡ one.url → response_of entry.source ≡ content_response names i one.content
    → or_else (entry_at (entry ∷ []) url) (first_listed top names lines url) ≡ first_listed top names ((i, one) ∷ lines) url
page_of_line top names i one entry lines url below own returns =
    let rest = first_listed top names lines url in
    let same : bytes_eq entry.url url ≡ bytes_eq one.url url = ap (λ u. bytes_eq u url) own in
    elim (cases_Bool (bytes_eq one.url url)) [
      | inl is ↦
          let there : begins top url ≡ true = subst (λ u. begins top u ≡ true) ((bytes_eq-Decides one.url url).0 is) below in
          ap (λ r. or_else r rest) (cond-true _ _ _ (same ∙ is)) ∙ or_else-some entry.source rest ∙ returns
          ∙ sym (cond-true _ _ _ there ∙ cond-true _ _ _ is)
      | inr other ↦
          ap (λ r. or_else r rest) (cond-false _ _ _ (same ∙ other)) ∙ sym (other_line top names i one lines url other)
    ]

line_above : (top : List ℕ) (names : List (List ℕ)) (i : ℕ) (one : ListedUrl) (lines : List (ℕ × ListedUrl)) (url : List ℕ) → begins top one.url ≡ false → first_listed top names lines url ≡ first_listed top names ((i, one) ∷ lines) url
line_above top names i one lines url above =
    elim (cases_Bool (bytes_eq one.url url)) [
      | inl is ↦
          let not_there : begins top url ≡ false = subst (λ u. begins top u ≡ false) ((bytes_eq-Decides one.url url).0 is) above in
          cond-false _ _ _ not_there ∙ sym (cond-false _ _ _ not_there)
      | inr other ↦ sym (other_line top names i one lines url other)
    ]

-- ---- one line further

pub line_listed : (top : List ℕ) (urls : List ListedUrl) (names : List (List ℕ)) (entries : List Entry) (entry : Entry) (i : ℕ) (one : ListedUrl) → i < length urls → get_or urls i one ≡ one → begins top one.url ≡ true → entry.url ≡ one.url → response_of entry.source ≡ content_response names i one.content
    → SoFar top urls names entries i → SoFar top urls names (entries ++ entry ∷ []) (i + 1)
line_listed top urls names entries entry i one inside is below own returns so_far = record {
  is = λ url.
      let lines = enumerate_from (i + 1) (drop (i + 1) urls) in
      entry_more entries entry url (first_listed top names lines url)
      ∙ ap (or_else (entry_at entries url)) (page_of_line top names i one entry lines url below own returns)
      ∙ ap (λ all. or_else (entry_at entries url) (first_listed top names all url)) (sym (lines_left urls i one inside is))
      ∙ so_far.is url;
}

pub line_left_out : (top : List ℕ) (urls : List ListedUrl) (names : List (List ℕ)) (entries : List Entry) (i : ℕ) (one : ListedUrl) → i < length urls → get_or urls i one ≡ one → begins top one.url ≡ false
    → SoFar top urls names entries i → SoFar top urls names entries (i + 1)
line_left_out top urls names entries i one inside is above so_far = record {
  is = λ url.
      let lines = enumerate_from (i + 1) (drop (i + 1) urls) in
      ap (or_else (entry_at entries url)) (line_above top names i one lines url above)
      ∙ ap (λ all. or_else (entry_at entries url) (first_listed top names all url)) (sym (lines_left urls i one inside is))
      ∙ so_far.is url;
}

-- ---- the last line

or_else-missing : (response : Response) → or_else response Missing ≡ response
or_else-missing Missing = refl
or_else-missing (Moved url) = refl
or_else-missing (Found index) = refl

no_lines : (top : List ℕ) (names : List (List ℕ)) (url : List ℕ) → first_listed top names [] url ≡ Missing
no_lines top names url = elim (cases_Bool (begins top url)) [ inl is ↦ cond-true _ _ _ is | inr other ↦ cond-false _ _ _ other ]

pub all_listed : (top : List ℕ) (urls : List ListedUrl) (names : List (List ℕ)) (entries : List Entry) (i : ℕ) → length urls ≤ i → SoFar top urls names entries i → HasListed top urls names entries
all_listed top urls names entries i end so_far = λ url.
    sym (ap (λ lines. or_else (entry_at entries url) (first_listed top names (enumerate_from i lines) url)) (drop_all i urls end)
    ∙ ap (or_else (entry_at entries url)) (no_lines top names url) ∙ or_else-missing (entry_at entries url))
    ∙ so_far.is url

-- ---- in order, each URL once

pub listed_once : (top : List ℕ) (urls : List ListedUrl) (names : List (List ℕ)) (given kept : List Entry) → HasListed top urls names given → IsOnce given kept → IsListed top urls names kept
listed_once top urls names given kept has once = record {
  ascends = once.ascends;
  pages = λ url. once.keeps url ∙ has url;
}
