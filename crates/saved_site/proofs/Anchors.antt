-- The anchors of pages, while pages come and those of threads are put together.
use Rattle.saved_site.proofs.Prelude.{◌≡◌, ℕ, Bool, true, false, not, List, [], ◌∷◌, ◌++◌, Option, Some, None, is_some, refl, sym, ap, subst, ◌∙◌, arith, append-nil, flat_map, flat_map-append, option_map, if◌then◌else◌, cond-true, bytes_eq, bytes_eq-Decides, cases_Bool, option_or, Page, PageFound, found_of, is_next, page_with, under_page, with_found, SitePage}
use Rattle.std.proofs.lemmas.List.Elements.{filter-append}
use Rattle.std.specs.List.{filter}
use Rattle.std.specs.Option.{option_to_list}
use Rattle.std.specs.Prelude.{MatchOption}
use Rattle.document_links.specs.declared.anchors.PageAnchors.{PageAnchors}
use Rattle.saved_site.proofs.Threads.{with-append}
use Rattle.saved_site.specs.Served.{HaveAnchors, IsServedWith, entry_at, entry_of, entry_with}
use Rattle.saved_site.specs.declared.page.SiteAnchors.{SiteAnchors}

entry-append : (front back : List PageAnchors) (url : List ℕ) → entry_at (front ++ back) url ≡ option_or (entry_at front url) (entry_at back url)
entry-append [] back url = refl
entry-append (first ∷ more) back url = grind (arith, entry-append more back url)

-- there is a page at the URL of an entry
abbrev has : List PageFound → List ℕ → Bool
has pages url = is_some (page_with pages url)

abbrev pub without : List PageFound → List PageAnchors → List PageAnchors
without pages entries = filter (λ one. not (is_some (page_with pages one.url))) entries

-- those at whose URL there is no page
entry-without : (pages : List PageFound) (entries : List PageAnchors) (url : List ℕ) (b : Bool) → has pages url ≡ b → entry_at (without pages entries) url ≡ (if b then None else entry_at entries url)
entry-without pages [] url true is = refl
entry-without pages [] url false is = refl
entry-without pages (first ∷ more) url b is = grind (arith, entry-without pages more url b is, bytes_eq-Decides, cases_Bool, cond-true)

-- ---- pages and more pages

module _ (serves : SitePage → Type 0) (url : List ℕ) where
  abbrev HasEntry : Option Page → Option PageAnchors → Type 0
  HasEntry found entry = MatchOption found (entry ≡ None) (IsServedWith serves url entry)

  first_or : (entry : Option PageAnchors) → entry ≡ option_or entry None
  first_or None = refl
  first_or (Some entry) = refl

  entry_of_both : (one other : Option Page) (own more : Option PageAnchors) → HasEntry one own → HasEntry other more → HasEntry (option_or one other) (option_or own (if is_some one then None else more))
  entry_of_both None other own more none rest = subst (λ (o : Option PageAnchors). HasEntry other (option_or o more)) (sym none) rest
  entry_of_both (Some found) other own more is rest = subst (HasEntry (Some found)) (first_or own) is

-- the pages of threads, one after another
pub anchors_append : (serves : SitePage → Type 0) (front back : List PageFound) (own more : List PageAnchors) → HaveAnchors serves front own → HaveAnchors serves back more → HaveAnchors serves (front ++ back) (own ++ without front more)
anchors_append serves front back own more left right url =
    let P : Option Page → Option PageAnchors → Type 0 = λ found entry. MatchOption found (entry ≡ None) (IsServedWith serves url entry) in
    let both = entry_of_both serves url (page_with front url) (page_with back url) (entry_at own url) (entry_at more url) (left url) (right url) in
    let entries : option_or (entry_at own url) (if has front url then None else entry_at more url) ≡ entry_at (own ++ without front more) url =
    ap (option_or (entry_at own url)) (sym (entry-without front more url (has front url) refl)) ∙ sym (entry-append own (without front more) url) in
    subst (λ (found : Option Page). P found (entry_at (own ++ without front more) url)) (sym (with-append front back url))
    (subst (P (option_or (page_with front url) (page_with back url))) entries both)

-- ---- one page more

entry_single : (own_url url : List ℕ) (own : Option SiteAnchors) (b : Bool) → bytes_eq own_url url ≡ b → entry_at (option_to_list (option_map (entry_with own_url) own)) url ≡ (if b then option_map (entry_with own_url) own else None)
entry_single own_url url None true is = refl
entry_single own_url url None false is = refl
entry_single own_url url (Some own) b is = ap (λ t. if t then Some (entry_with own_url own) else None) is

-- a page by itself
single : (serves : SitePage → Type 0) (page : SitePage) → ∥ serves page ∥₁ → HaveAnchors serves (found_of page ∷ []) (option_to_list (entry_of page))
single serves page served url = by_test (bytes_eq page.url url) refl
  where
    own : Option PageAnchors
    own = entry_at (option_to_list (entry_of page)) url

    by_test : (b : Bool) → bytes_eq page.url url ≡ b → MatchOption (if b then Some (under_page page.url page.under) else None) (own ≡ None) (IsServedWith serves url own)
    by_test true same =
        let at : page.url ≡ url = (bytes_eq-Decides page.url url).0 same in
        record {
          page = page;
          own = at;
          is = ap (λ (u : List ℕ). under_page u page.under) at;
          anchors = sym (entry_single page.url url page.anchors true same);
          served = served;
        }
    by_test false same = entry_single page.url url page.anchors false same

-- the anchors of a page at whose URL there is none
own_without : (pages : List PageFound) (url : List ℕ) (own : Option SiteAnchors) → has pages url ≡ false → without pages (option_to_list (option_map (entry_with url) own)) ≡ option_to_list (option_map (entry_with url) own)
own_without pages url None lacks = refl
own_without pages url (Some own) lacks = ap (λ b. if not b then entry_with url own ∷ [] else []) lacks

-- if there is a page at the URL, neither the page nor its anchors are added
pub anchors_with : (serves : SitePage → Type 0) (top : List ℕ) (pages longer : List PageFound) (page : SitePage) (own more : List PageAnchors) → longer ≡ with_found top pages (found_of page) → is_next top [] page.url ≡ true
    → more ≡ (if is_some (page_with pages page.url) then own else own ++ option_to_list (entry_of page)) → HaveAnchors serves pages own → ∥ serves page ∥₁ → HaveAnchors serves longer more
anchors_with serves top pages longer page own more is kept more_is all served =
    subst (λ (found : List PageFound). HaveAnchors serves found more) (sym (is ∙ cond-true (is_next top [] page.url) _ _ kept))
    (subst (HaveAnchors serves (if has pages page.url then pages else pages ++ found_of page ∷ [])) (sym more_is) (by_has (has pages page.url) refl))
  where
    by_has : (b : Bool) → has pages page.url ≡ b → HaveAnchors serves (if b then pages else pages ++ found_of page ∷ []) (if b then own else own ++ option_to_list (entry_of page))
    by_has true there = all
    by_has false lacks =
        subst (λ (entries : List PageAnchors). HaveAnchors serves (pages ++ found_of page ∷ []) (own ++ entries)) (own_without pages page.url page.anchors lacks)
        (anchors_append serves pages (found_of page ∷ []) own (option_to_list (entry_of page)) all (single serves page served))

-- ---- the pages of a thread more

pub anchors_threads : (serves : SitePage → Type 0) (threads longer : List (List PageFound)) (made : List PageFound) (own more all : List PageAnchors) → longer ≡ threads ++ made ∷ [] → all ≡ own ++ without (flat_map (λ p. p) threads) more
    → HaveAnchors serves (flat_map (λ p. p) threads) own → HaveAnchors serves made more → HaveAnchors serves (flat_map (λ p. p) longer) all
anchors_threads serves threads longer made own more all is all_is left right =
    let same : flat_map (λ p. p) longer ≡ flat_map (λ p. p) threads ++ made =
    ap (flat_map (λ p. p)) is ∙ flat_map-append (λ p. p) threads (made ∷ []) ∙ ap (λ (l : List PageFound). flat_map (λ p. p) threads ++ l) (append-nil made) in
    subst (λ (found : List PageFound). HaveAnchors serves found all) (sym same)
    (subst (HaveAnchors serves (flat_map (λ p. p) threads ++ made)) (sym all_is) (anchors_append serves (flat_map (λ p. p) threads) made own more left right))

-- anchors that are found by their URLs as these are
pub anchors_same : (serves : SitePage → Type 0) (pages : List PageFound) (entries ordered : List PageAnchors) → HaveAnchors serves pages entries → ((url : List ℕ) → entry_at ordered url ≡ entry_at entries url) → HaveAnchors serves pages ordered
anchors_same serves pages entries ordered all same url =
    subst (λ (entry : Option PageAnchors). MatchOption (page_with pages url) (entry ≡ None) (IsServedWith serves url entry)) (sym (same url)) (all url)

-- ---- one entry more, or none

pub none_added : (entries : List PageAnchors) (b : Bool) → entries ≡ entries ++ (if b then [] else [])
none_added entries true = sym (append-nil entries)
none_added entries false = sym (append-nil entries)

pub without_more : (pages : List PageFound) (entries : List PageAnchors) (one : PageAnchors) → without pages (entries ++ one ∷ []) ≡ without pages entries ++ (if not (is_some (page_with pages one.url)) then one ∷ [] else [])
without_more pages entries one = filter-append (λ (e : PageAnchors). not (is_some (page_with pages e.url))) entries (one ∷ [])
