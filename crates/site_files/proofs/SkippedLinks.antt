-- The symbolic links that are not followed: their table, and the path of a URL.
use Rattle.std.proofs.Common.{◌≡◌, ℕ, ◌<◌, inl, inr, Bool, List, [], ◌∷◌, ◌++◌, IfOk, Option, Some, None, Result, Ok, Err, get_or, length, map, string_bytes, refl, sym, ap, ◌∙◌, subst, arith}
use Rattle.std.specs.declared.cmp.Ordering.TheVariants.{Equal}
use Rattle.std.specs.Cmp.{IsStrictWeakOrder}
use Rattle.std.specs.Cmp.Lexicographic.{slice_cmp}
use Rattle.std.specs.List.{after_first, before_first, dedup, position_or_len}
use Rattle.std.specs.List.Sorted.{IsBinarySearchResult, IsSearchInRange, IsSorted, IsStableBy, IsStrictlySortedBy}
use Rattle.std.specs.Option.{option_or}
use Rattle.std.specs.Ordering.{is_lt, nat_cmp}
use Rattle.std.specs.Result.{result_ok}
use Rattle.std.specs.Str.{bytes_eq}
use Rattle.std.proofs.lemmas.Option.{slice_get_cases}
use Rattle.std.proofs.lemmas.List.Splits.{length-slice_split, slice_split_first}
use Rattle.site_files.specs.Below.{is_slash}
use Rattle.site_files.specs.Firsts.{first_with}
use Rattle.site_files.specs.Server.{names_of}
use Rattle.site_files.specs.Skipped.{AreSkipped, FindsSkipped, IsSkipTable, IsSkippedAt, LinkAt, cmp_names, link_below, link_held, name_in, outside_at, outside_of, outside_on}
use Rattle.site_files.specs.declared.skipped.SkippedLink.{SkippedLink}
use Rattle.site_files.proofs.FirstOnes.{ascends-dedup, first-dedup, first-found, first-map, first-missing, first-sort, key_found, keys_rank}
use Rattle.site_files.proofs.OtherNames.{none_cut}

-- ---- the table

pub names_rank : IsStrictWeakOrder (λ a b. is_lt (cmp_names a b))
names_rank = keys_rank name_in

pub skip_table : (given ordered kept : List SkippedLink) → IsSorted cmp_names ordered → IsStableBy (λ a b. is_lt (cmp_names a b)) given ordered → kept ≡ dedup (λ a b. bytes_eq (string_bytes a.name) (string_bytes b.name)) ordered → IsSkipTable given kept
skip_table given ordered kept ascends stable is = rw is record {
  ascends = ascends-dedup name_in ordered ascends;
  keeps = λ url.
      first-dedup name_in outside_of None url ordered ∙ first-sort name_in outside_of None url given ordered stable;
}

pub skipped_below : (top : List ℕ) (links given kept : List SkippedLink) → map link_held given ≡ map (link_below top) links → IsSkipTable given kept → AreSkipped top links kept
skipped_below top links given kept urls table = record {
  ascends = table.ascends;
  outside = λ url.
      table.keeps url
      ∙ sym (first-map link_held (λ (link : LinkAt). link.url) (λ (link : LinkAt). Some link.is_outside) None url given)
      ∙ ap (λ all. outside_at all url) urls;
}

pub skipped_result : {E : Type 0} (top : List ℕ) (links given : List SkippedLink) → map link_held given ≡ map (link_below top) links → (made : Result (List SkippedLink) E) → IfOk made (IsSkipTable given) → IfOk made (AreSkipped top links)
skipped_result top links given urls (Ok table) is = skipped_below top links given table urls is
skipped_result top links given urls (Err error) is = tt

-- ---- a search

found_at : (url : List ℕ) (links : List SkippedLink) (index : ℕ) → IsStrictlySortedBy cmp_names links → index < length links → ((d : SkippedLink) → slice_cmp nat_cmp (name_in (get_or links index d)) url ≡ Equal) → IsSkippedAt links url index
found_at url links index ascends below equal =
    elim ((slice_get_cases links index).1) [
      | inl found ↦
          let link = found.0 in
          let is : name_in link ≡ url = key_found name_in url link (subst (λ one. slice_cmp nat_cmp (name_in one) url ≡ Equal) found.3 (equal link)) in
          record {
            link = link;
            there = found.2;
            own = subst (λ text. first_with name_in outside_of None links text ≡ Some link.is_outside) is (first-found name_in outside_of None links index link ascends found.2);
          }
      | inr past ↦ absurd (omega (arith, past.0))
    ]

pub finds_skipped : (url : List ℕ) (links : List SkippedLink) (result : Result ℕ ℕ) → IsStrictlySortedBy cmp_names links → IsSearchInRange result (length links) → IsBinarySearchResult (λ (link : SkippedLink). slice_cmp nat_cmp (name_in link) url) links result → FindsSkipped links url (result_ok result)
finds_skipped url links (Ok index) ascends range search = found_at url links index ascends range search
finds_skipped url links (Err index) ascends range search = first-missing name_in outside_of None url links index ascends search

-- ---- one name further on the path of a URL

on_more : (at : List ℕ → Option Bool) (front name : List ℕ) (names : List (List ℕ)) → 0 < length names → outside_on at front (name ∷ names) ≡ option_or (at (front ++ name)) (outside_on at (front ++ name ++ 47 ∷ []) names)
on_more at front name [] some = absurd (omega arith)
on_more at front name (other ∷ names) some = refl

on_cut : (at : List ℕ → Option Bool) (front rest : List ℕ) → position_or_len is_slash rest < length rest → outside_on at front (names_of rest) ≡ option_or (at (front ++ before_first is_slash rest)) (outside_on at (front ++ before_first is_slash rest ++ 47 ∷ []) (names_of (after_first is_slash rest)))
on_cut at front rest below =
    let some : 0 < length (names_of (after_first is_slash rest)) = omega (arith, length-slice_split is_slash (after_first is_slash rest)) in
    ap (outside_on at front) (slice_split_first is_slash rest 0 below)
    ∙ on_more at front (before_first is_slash rest) (names_of (after_first is_slash rest)) some

pub link_on : (at : List ℕ → Option Bool) (front rest : List ℕ) (is_outside : Bool) → position_or_len is_slash rest < length rest → Some is_outside ≡ at (front ++ before_first is_slash rest) → outside_on at front (names_of rest) ≡ Some is_outside
link_on at front rest is_outside below is =
    on_cut at front rest below
    ∙ ap (λ (found : Option Bool). option_or found (outside_on at (front ++ before_first is_slash rest ++ 47 ∷ []) (names_of (after_first is_slash rest)))) (sym is)

pub no_link_on : (at : List ℕ → Option Bool) (front rest : List ℕ) → position_or_len is_slash rest < length rest → None ≡ at (front ++ before_first is_slash rest) → outside_on at front (names_of rest) ≡ outside_on at (front ++ before_first is_slash rest ++ 47 ∷ []) (names_of (after_first is_slash rest))
no_link_on at front rest below is =
    on_cut at front rest below
    ∙ ap (λ (found : Option Bool). option_or found (outside_on at (front ++ before_first is_slash rest ++ 47 ∷ []) (names_of (after_first is_slash rest)))) (sym is)

pub link_last : (at : List ℕ → Option Bool) (front rest : List ℕ) → position_or_len is_slash rest ≡ length rest → outside_on at front (names_of rest) ≡ at (front ++ rest)
link_last at front rest none = ap (outside_on at front) (none_cut rest none)
