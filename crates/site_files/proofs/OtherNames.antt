-- The other names of folders in a URL.
use Rattle.std.proofs.Common.{not, ◌≡◌, ℕ, ◌+◌, ◌<◌, suc, inl, inr, List, [], ◌∷◌, ◌++◌, Result, Ok, Err, None, add-one, append_assoc, drop, drop-cons, get_or, length, map, string_bytes, refl, sym, ap, ◌∙◌, subst, arith}
use Rattle.std.specs.Prelude.{IfOk}
use Rattle.std.specs.declared.cmp.Ordering.TheVariants.{Less, Equal, Greater}
use Rattle.std.specs.Cmp.{IsStrictWeakOrder}
use Rattle.std.specs.Cmp.Lexicographic.{slice_cmp}
use Rattle.std.specs.List.{after_first, before_first, dedup, onto_first, position_or_len}
use Rattle.std.specs.List.Sorted.{IsBinarySearchResult, IsNonDecreasingBy, IsPartitionPoint, IsSearchInRange, IsSorted, IsStableBy, IsStrictlySortedBy}
use Rattle.std.specs.Ordering.{is_lt, nat_cmp, ordering_index}
use Rattle.std.specs.Result.{result_ok}
use Rattle.std.specs.Str.{bytes_eq}
use Rattle.std.proofs.lemmas.Bool.{cases_Bool, cond-false, cond-true}
use Rattle.std.proofs.lemmas.Option.{slice_get_cases}
use Rattle.std.proofs.lemmas.List.Splits.{length-slice_split, slice_split-cons_no, slice_split_first}
use Rattle.site_files.specs.Below.{is_slash}
use Rattle.site_files.specs.Firsts.{first_with}
use Rattle.site_files.specs.Links.{FindsLink, IsLinkAt, IsLinkTable, IsLinked, cmp_names, name_in, names_in, own_in, urls_in}
use Rattle.site_files.specs.Pages.{LinkUrls, link_urls, own_folder, own_spelling}
use Rattle.site_files.specs.Server.{key_with, names_of, url_of}
use Rattle.site_files.specs.declared.alias.FolderLink.{FolderLink}
use Rattle.site_files.proofs.FirstOnes.{ascends-dedup, first-dedup, first-found, first-map, first-missing, first-sort, key_found, keys_rank}

pub names_rank : IsStrictWeakOrder (λ a b. is_lt (cmp_names a b))
names_rank = keys_rank name_in

pub link_table : (given ordered kept : List FolderLink) → IsSorted cmp_names ordered → IsStableBy (λ a b. is_lt (cmp_names a b)) given ordered → kept ≡ dedup (λ a b. bytes_eq (string_bytes a.name) (string_bytes b.name)) ordered → IsLinkTable given kept
link_table given ordered kept ascends stable is = rw is record {
  ascends = ascends-dedup name_in ordered ascends;
  keeps = λ url.
      first-dedup name_in (λ (link : FolderLink). string_bytes link.own) url url ordered
      ∙ first-sort name_in (λ (link : FolderLink). string_bytes link.own) url url given ordered stable;
}

pub own_found : (url : List ℕ) (links : List FolderLink) (index : ℕ) → IsStrictlySortedBy cmp_names links → index < length links → ((d : FolderLink) → slice_cmp nat_cmp (name_in (get_or links index d)) url ≡ Equal) → IsLinkAt links url index
own_found url links index ascends below equal =
    elim ((slice_get_cases links index).1) [
      | inl found ↦
          let link = found.0 in
          let is : name_in link ≡ url = key_found name_in url link (subst (λ one. slice_cmp nat_cmp (name_in one) url ≡ Equal) found.3 (equal link)) in
          record {
            link = link;
            there = found.2;
            own =
                subst (λ text. first_with name_in (λ (l : FolderLink). string_bytes l.own) url links text ≡ string_bytes link.own) is
                (first-found name_in (λ (l : FolderLink). string_bytes l.own) url links index link ascends found.2);
          }
      | inr past ↦ absurd (omega (arith, past.0))
    ]

-- ---- one name further

spelled_more : (own : List ℕ → List ℕ) (front name : List ℕ) (names : List (List ℕ)) → 0 < length names → own_spelling own front (name ∷ names) ≡ own_spelling own (own (front ++ name ++ 47 ∷ [])) names
spelled_more own front name [] some = absurd (omega arith)
spelled_more own front name (other ∷ names) some = refl

pub spelled_cut : (own : List ℕ → List ℕ) (front rest : List ℕ) → position_or_len is_slash rest < length rest → own_spelling own front (names_of rest) ≡ own_spelling own (own (front ++ before_first is_slash rest ++ 47 ∷ [])) (names_of (after_first is_slash rest))
spelled_cut own front rest below =
    let some : 0 < length (names_of (after_first is_slash rest)) = omega (arith, length-slice_split is_slash (after_first is_slash rest)) in
    ap (own_spelling own front) (slice_split_first is_slash rest 0 below)
    ∙ spelled_more own front (before_first is_slash rest) (names_of (after_first is_slash rest)) some

pub none_cut : (text : List ℕ) → position_or_len is_slash text ≡ length text → names_of text ≡ text ∷ []
none_cut [] none = refl
none_cut (b ∷ text) none = elim (cases_Bool (is_slash b)) [
  | inl slash ↦
      let zero_is : 0 ≡ length (b ∷ text) = sym (cond-false (not (is_slash b)) (1 + position_or_len is_slash text) 0 (ap not slash)) ∙ none in
      absurd (omega arith)
  | inr other ↦
      let more : 1 + position_or_len is_slash text ≡ length (b ∷ text) = sym (cond-true (not (is_slash b)) (1 + position_or_len is_slash text) 0 (ap not other)) ∙ none in
      slice_split-cons_no is_slash b text other ∙ ap (onto_first b) (none_cut text (omega arith))
]

pub spelled_last : (own : List ℕ → List ℕ) (front rest : List ℕ) → position_or_len is_slash rest ≡ length rest → own_spelling own front (names_of rest) ≡ front ++ rest
spelled_last own front rest none = ap (own_spelling own front) (none_cut rest none)

pub own_missing : (url : List ℕ) (links : List FolderLink) (index : ℕ) → IsStrictlySortedBy cmp_names links → (IsNonDecreasingBy (λ (link : FolderLink). ordering_index (slice_cmp nat_cmp (name_in link) url)) links → IsPartitionPoint (λ link. slice_cmp nat_cmp (name_in link) url ≡ Less) (λ link. slice_cmp nat_cmp (name_in link) url ≡ Greater) links index) → own_in links url ≡ url
own_missing url links index ascends point = first-missing name_in (λ (link : FolderLink). string_bytes link.own) url url links index ascends point

pub finds_link : (url : List ℕ) (links : List FolderLink) (result : Result ℕ ℕ) → IsStrictlySortedBy cmp_names links → IsSearchInRange result (length links) → IsBinarySearchResult (λ (link : FolderLink). slice_cmp nat_cmp (name_in link) url) links result → FindsLink links url (result_ok result)
finds_link url links (Ok index) ascends range search = own_found url links index ascends range search
finds_link url links (Err index) ascends range search = own_missing url links index ascends search

-- ---- the folders of a table

pub linked : (top : List ℕ) (links given kept : List FolderLink) → urls_in given ≡ map (link_urls top) (names_in links) → IsLinkTable given kept → IsLinked top links kept
linked top links given kept urls table = record {
  ascends = table.ascends;
  own = λ url.
      table.keeps url
      ∙ sym (first-map (λ (link : FolderLink). record { name = string_bytes link.name; own = string_bytes link.own }) (λ (link : LinkUrls). link.name) (λ (link : LinkUrls). link.own) url url given)
      ∙ ap (λ all. own_folder all url) urls;
}

urls_back : (urls : List FolderLink) (url : FolderLink) → urls_in (urls ++ url ∷ []) ≡ urls_in urls ++ record { name = string_bytes url.name; own = string_bytes url.own } ∷ []
urls_back [] url = refl
urls_back (first ∷ urls) url = ap (λ rest. record { name = string_bytes first.name; own = string_bytes first.own } ∷ rest) (urls_back urls url)

-- one link further
pub links_more : (top : List ℕ) (links : List FolderLink) (i : ℕ) (link : FolderLink) → i < length links → get_or links i link ≡ link → map (link_urls top) (names_in (drop i links)) ≡ link_urls top (record { name = string_bytes link.name; own = string_bytes link.own }) ∷ map (link_urls top) (names_in (drop (i + 1) links))
links_more top links i link below is =
    let one = ap (λ rest. map (link_urls top) (names_in rest)) (drop-cons links i link below) in
    rw (add-one i) (one ∙ ap (λ (l : FolderLink). link_urls top (record { name = string_bytes l.name; own = string_bytes l.own }) ∷ map (link_urls top) (names_in (drop (suc i) links))) is)

pub urls_more : (top : List ℕ) (links urls : List FolderLink) (i : ℕ) (link url : FolderLink) (all : List LinkUrls) → i < length links → get_or links i link ≡ link → string_bytes url.name ≡ url_of top (key_with None (string_bytes link.name)) → string_bytes url.own ≡ url_of top (key_with None (string_bytes link.own))
    → urls_in urls ++ map (link_urls top) (names_in (drop i links)) ≡ all → urls_in (urls ++ url ∷ []) ++ map (link_urls top) (names_in (drop (i + 1) links)) ≡ all
urls_more top links urls i link url all below is name own so_far =
    let whole : urls_in urls ++ (link_urls top (record { name = string_bytes link.name; own = string_bytes link.own }) ∷ map (link_urls top) (names_in (drop (i + 1) links))) ≡ all = rw (links_more top links i link below is) at so_far in
    let pair : LinkUrls = record { name = string_bytes url.name; own = string_bytes url.own } in
    let same : pair ≡ link_urls top (record { name = string_bytes link.name; own = string_bytes link.own }) = λ k. record { name = name k; own = own k } in
    ap (λ front. front ++ map (link_urls top) (names_in (drop (i + 1) links))) (urls_back urls url)
    ∙ append_assoc (urls_in urls) (pair ∷ []) (map (link_urls top) (names_in (drop (i + 1) links)))
    ∙ ap (λ first. urls_in urls ++ (first ∷ map (link_urls top) (names_in (drop (i + 1) links)))) same ∙ whole

pub linked_result : {E : Type 0} (top : List ℕ) (links given : List FolderLink) → urls_in given ≡ map (link_urls top) (names_in links) → (made : Result (List FolderLink) E) → IfOk made (IsLinkTable given) → IfOk made (IsLinked top links)
linked_result top links given urls (Ok table) is = linked top links given table urls is
linked_result top links given urls (Err error) is = tt
