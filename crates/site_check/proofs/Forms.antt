-- A page in another form: a folder for an HTML file of its name, and an HTML file for a folder of its name.
use Rattle.site_check.proofs.Prelude.{◌≡◌, ◌∙◌, true, false, List, ℕ, ◌++◌, None, length, drop, take, subst, sym, ap, inl, inr, arith, cases_Bool, cond-false, cond-true, length-append, take-append-drop, bytes_eq-Decides, SiteFiles}
use Rattle.std.proofs.Common.{◌-◌, codes}
use Rattle.std.proofs.Math.Seq.{drop-append_seam, take-append_seam}
use Rattle.std.specs.Str.Pattern.{FindsTextSuffix, StripsSuffix}
use Rattle.check_report.specs.declared.value.Place.{Place}
use Rattle.site_check.specs.Names.{ends, folder_form, other_form, page_at, without_end, without_slash}

-- ---- suffixes

ends_itself : (suffix front : List ℕ) → (ends suffix (front ++ suffix) ≡ true) × (without_end suffix (front ++ suffix) ≡ front)
ends_itself suffix front =
    let n : length (front ++ suffix) - length suffix ≡ length front = omega (arith, length-append front suffix) in
    let end : drop (length (front ++ suffix) - length suffix) (front ++ suffix) ≡ suffix = ap (λ k. drop k (front ++ suffix)) n ∙ drop-append_seam front suffix in
    ((bytes_eq-Decides _ suffix).1 end, ap (λ k. take k (front ++ suffix)) n ∙ take-append_seam front suffix)

pub ends_with : (suffix text front : List ℕ) → StripsSuffix (FindsTextSuffix suffix) text front → (ends suffix text ≡ true) × (without_end suffix text ≡ front)
ends_with suffix text front strips =
    let split : text ≡ front ++ suffix = strips.1.1 ∙ ap (λ t. t ++ suffix) (sym strips.2) in
    subst (λ t. (ends suffix t ≡ true) × (without_end suffix t ≡ front)) (sym split) (ends_itself suffix front)

pub ends_not : (suffix text : List ℕ) → FindsTextSuffix suffix text None → ends suffix text ≡ false
ends_not suffix text lacks =
    let n = length text - length suffix in
    elim (cases_Bool (ends suffix text)) [
      | inl with ↦ absurd (lacks (take n text) (sym (take-append-drop n text) ∙ ap (λ t. take n text ++ t) ((bytes_eq-Decides (drop n text) suffix).0 with)))
      | inr without ↦ without
    ]

-- ---- paths of folders

pub slash_cut : (path rest : List ℕ) → StripsSuffix (FindsTextSuffix (codes "/")) path rest → rest ≡ without_slash path
slash_cut path rest strips =
    let parts = ends_with (codes "/") path rest strips in
    sym parts.1 ∙ sym (cond-true (ends (codes "/") path) _ _ parts.0)

pub no_slash : (path : List ℕ) → FindsTextSuffix (codes "/") path None → path ≡ without_slash path
no_slash path lacks = sym (cond-false (ends (codes "/") path) _ _ (ends_not (codes "/") path lacks))

-- ---- forms

module _ (front : List ℕ) (files : SiteFiles) (places : List Place) (path : List ℕ) where
  pub html_there : (name : List ℕ) → StripsSuffix (FindsTextSuffix (codes ".html")) path name → page_at front files places (front ++ name ++ codes "/") ≡ other_form front files places path
  html_there name strips =
      let parts = ends_with (codes ".html") path name strips in
      ap (λ n. page_at front files places (front ++ n ++ codes "/")) (sym parts.1) ∙ sym (cond-true (ends (codes ".html") path) _ _ parts.0)

  pub no_html : FindsTextSuffix (codes ".html") path None → folder_form front files places path ≡ other_form front files places path
  no_html lacks = sym (cond-false (ends (codes ".html") path) _ _ (ends_not (codes ".html") path lacks))

  pub folder_there : (name : List ℕ) → StripsSuffix (FindsTextSuffix (codes "/")) path name → page_at front files places (front ++ name ++ codes ".html") ≡ folder_form front files places path
  folder_there name strips =
      let parts = ends_with (codes "/") path name strips in
      ap (λ n. page_at front files places (front ++ n ++ codes ".html")) (sym parts.1) ∙ sym (cond-true (ends (codes "/") path) _ _ parts.0)

  pub no_folder : FindsTextSuffix (codes "/") path None → None ≡ folder_form front files places path
  no_folder lacks = sym (cond-false (ends (codes "/") path) _ _ (ends_not (codes "/") path lacks))
