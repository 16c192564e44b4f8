-- Folders without an index file.
use Rattle.std.proofs.Common.{◌≡◌, ◌≢◌, ℕ, ◌-◌, ◌==◌, ◌&&◌, Bool, true, false, List, [], ◌∷◌, ◌++◌, codes, length, take, get_or, refl, sym, ap, ◌∙◌, subst, inl, inr, arith}
use Rattle.std.specs.Prelude.{is_some, slice_get, Some, None, option_and_then}
use Rattle.std.specs.Str.Pattern.{FindsTextSuffix, StripsSuffix}
use Rattle.std.proofs.Math.Seq.{get_or-append_seam, take-append_seam}
use Rattle.std.proofs.lemmas.Bool.{cases_Bool}
use Rattle.std.proofs.lemmas.List.{length-append}
use Rattle.site_files.specs.Entries.{IsEntryAt, entry_at, response_of}
use Rattle.site_files.specs.Files.{moved_to, target_in}
use Rattle.site_files.specs.Hints.{is_moved, is_subfolder}
use Rattle.site_files.specs.Pages.{Missing, Response, ends_in_slash}
use Rattle.site_files.specs.declared.files.SiteFiles.{SiteFiles}
use Rattle.site_files.specs.declared.page_table.Entry.{Entry}
use Rattle.site_files.specs.declared.page_table.Source.{Source}
use Rattle.site_files.specs.declared.page_table.Source.TheVariants as source

-- ---- redirects

source_moved : (from : Source) → is_some (target_in from) ≡ is_moved (response_of from)
source_moved (source.File index) = refl
source_moved (source.Index index) = refl
source_moved (source.Moved url) = refl

pub moved_there : (files : SiteFiles) (url : List ℕ) (number : ℕ) → IsEntryAt files.pages url number → is_some (moved_to files number) ≡ is_moved (entry_at files.pages url)
moved_there files url number is =
    ap (λ found. is_some (option_and_then (λ (entry : Entry). target_in entry.source) found)) is.there
    ∙ source_moved is.entry.source ∙ ap is_moved (sym is.first)

pub none_moved : (entries : List Entry) (url : List ℕ) → entry_at entries url ≡ Missing → false ≡ is_moved (entry_at entries url)
none_moved entries url missing = ap is_moved (sym missing)

-- ---- the slash at the end of a folder's URL

before_last : (name : List ℕ) → length (name ++ 47 ∷ []) - 1 ≡ length name
before_last name = omega (arith, length-append name (47 ∷ []))

slash_last : (name : List ℕ) → ends_in_slash (name ++ 47 ∷ []) ≡ true
slash_last name =
    ap (λ n. get_or (name ++ 47 ∷ []) n 0 == 47) (before_last name) ∙ ap (λ b. b == 47) (get_or-append_seam name 47 [] 0)

name_before : (name : List ℕ) → take (length (name ++ 47 ∷ []) - 1) (name ++ 47 ∷ []) ≡ name
name_before name = ap (λ n. take n (name ++ 47 ∷ [])) (before_last name) ∙ take-append_seam name (47 ∷ [])

last_cut : (url : List ℕ) → ends_in_slash url ≡ true → url ≡ take (length url - 1) url ++ 47 ∷ []
last_cut [] is = grind arith
last_cut (b ∷ []) is = grind arith
last_cut (b ∷ c ∷ rest) is = grind (arith, last_cut (c ∷ rest))

module _ (at : List ℕ → Response) (url : List ℕ) where
  pub subfolder : (name : List ℕ) → StripsSuffix (FindsTextSuffix (codes "/")) url name → is_moved (at name) ≡ is_subfolder at url
  subfolder name strips =
      let split : url ≡ name ++ 47 ∷ [] = strips.1.1 ∙ ap (λ t. t ++ 47 ∷ []) (sym strips.2) in
      subst (λ t. is_moved (at name) ≡ is_subfolder at t) (sym split)
      (sym (ap (λ b. b && is_moved (at (take (length (name ++ 47 ∷ []) - 1) (name ++ 47 ∷ [])))) (slash_last name) ∙ ap (λ t. is_moved (at t)) (name_before name)))

  pub no_subfolder : FindsTextSuffix (codes "/") url None → false ≡ is_subfolder at url
  no_subfolder lacks = elim (cases_Bool (ends_in_slash url)) [
    | inl is ↦ absurd (lacks (take (length url - 1) url) (last_cut url is))
    | inr other ↦ sym (ap (λ b. b && is_moved (at (take (length url - 1) url))) other)
  ]
