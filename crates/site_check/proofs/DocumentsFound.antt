-- The documents, aliases and results that are found by their URLs are the first with them.
use Rattle.site_check.proofs.Prelude.{◌≡◌, ◌∙◌, ℕ, zero, suc, ◌+◌, ◌<◌, List, [], ◌∷◌, ◌++◌, arith, length, length-append, Option, Some, None, refl, sym, ap, subst, inl, inr, slice_get, get_or_from_slice_get, option_map, PageResult, SiteFiles, Bool, true, false, bytes_eq, bytes_eq-Decides}
use Rattle.std.proofs.Common.{◌⊎◌, Ok, Err, Result}
use Rattle.std.proofs.lemmas.Option.{same_Some}
use Rattle.std.specs.Cmp.Lexicographic.{slice_cmp}
use Rattle.std.specs.List.Sorted.{IsBinarySearchResult, IsSearchInRange, IsStrictlySortedBy}
use Rattle.std.specs.Ordering.{nat_cmp}
use Rattle.document_links.specs.declared.anchors.PageAnchors.{PageAnchors}
use Rattle.document_links.specs.declared.anchors.Target.TheVariants as to
use Rattle.std.specs.Option.{option_or}
use Rattle.std.specs.Prelude.{IfSome, if◌then◌else◌, option_and_then}
use Rattle.site_check.proofs.AllPlaced.{nothing, there}
use Rattle.site_check.specs.Documents.{AreInOrder, AreNumbers, AreSearchable, DocumentAt, HasPageUrl, IsDocumentAt, PushesNumber, alias_at, at_url, document_of, found_at, led_to, own_at, own_url, redirect_at}
use Rattle.site_check.specs.declared.site_pages.Pages.{Pages}
use Rattle.site_files.proofs.FirstOnes.{first-found, first-missing, key_found}
use Rattle.site_files.specs.Files.{url_of}
use Rattle.site_files.specs.Firsts.{cmp_keys, first_with}
use Rattle.site_files.specs.declared.alias.Alias.{Alias}

-- ---- a search

-- the element at which a search ends is the first with the text as its key
pub record IsFirst {X : Type 0} (key : X → List ℕ) (xs : List X) (text : List ℕ) (number : ℕ) : Type 0 where
  pub x : X
  pub at : slice_get xs number ≡ Some x
  pub own : key x ≡ text
  pub first : first_with key (λ y. Some y) None xs text ≡ Some x

pub first_by : {X : Type 0} (key : X → List ℕ) (xs : List X) (text : List ℕ) (r : Result ℕ ℕ) (number : ℕ) → IsStrictlySortedBy (cmp_keys key) xs → IsSearchInRange r (length xs) →
    IsBinarySearchResult (λ x. slice_cmp nat_cmp (key x) text) xs r → r ≡ Ok number → IsFirst key xs text number
first_by {X} key xs text r number ascends range found is =
    let below : number < length xs = subst (λ (o : Result ℕ ℕ). IsSearchInRange o (length xs)) is range in
    let equal = subst (λ (o : Result ℕ ℕ). IsBinarySearchResult (λ (x : X). slice_cmp nat_cmp (key x) text) xs o) is found in
    let one = there xs number below in
    let own : key one.x ≡ text = key_found key text one.x (ap (λ (x : X). slice_cmp nat_cmp (key x) text) (sym (get_or_from_slice_get xs number one.x one.x one.at)) ∙ equal one.x) in
    record {
      x = one.x;
      at = one.at;
      own = own;
      first = subst (λ t. first_with key (λ (y : X). Some y) None xs t ≡ Some one.x) own (first-found key (λ (y : X). Some y) None xs number one.x ascends one.at);
    }

pub first_not : {X : Type 0} (key : X → List ℕ) (xs : List X) (text : List ℕ) (r : Result ℕ ℕ) (number : ℕ) → IsStrictlySortedBy (cmp_keys key) xs →
    IsBinarySearchResult (λ x. slice_cmp nat_cmp (key x) text) xs r → r ≡ Err number → first_with key (λ y. Some y) None xs text ≡ None
first_not {X} key xs text r number ascends found is =
    first-missing key (λ (y : X). Some y) None text xs number ascends (subst (λ (o : Result ℕ ℕ). IsBinarySearchResult (λ (x : X). slice_cmp nat_cmp (key x) text) xs o) is found)

-- what is read there is the first
pub first_read : {X : Type 0} (key : X → List ℕ) (xs : List X) (text : List ℕ) (number : ℕ) (o : Option X) → IsFirst key xs text number → o ≡ slice_get xs number → o ≡ first_with key (λ y. Some y) None xs text
first_read key xs text number o is read = read ∙ is.at ∙ sym is.first

pub own_read : (documents : List PageAnchors) (url : List ℕ) (number : ℕ) (o : Option DocumentAt) → IsFirst (λ (d : PageAnchors). d.url) documents url number → o ≡ option_map (λ d. at_url d.url d) (slice_get documents number) →
    o ≡ option_map (at_url url) (own_at documents url)
own_read documents url number o is read =
    read ∙ ap (option_map (λ (d : PageAnchors). at_url d.url d)) is.at ∙ ap (λ u. Some (at_url u is.x)) is.own ∙ sym (ap (option_map (at_url url)) is.first)

-- the key of a first element is the text
own_cases : {X : Type 0} (key : X → List ℕ) (y x : X) (ys : List X) (text : List ℕ) (b : Bool) → bytes_eq (key y) text ≡ b → (first_with key (λ z. Some z) None ys text ≡ Some x → key x ≡ text) →
    (if b then Some y else first_with key (λ z. Some z) None ys text) ≡ Some x → key x ≡ text
own_cases key y x ys text true same later is = ap key (sym (same_Some y x is)) ∙ (bytes_eq-Decides (key y) text).0 same
own_cases key y x ys text false other later is = later is

first_own : {X : Type 0} (key : X → List ℕ) (xs : List X) (text : List ℕ) (x : X) → first_with key (λ y. Some y) None xs text ≡ Some x → key x ≡ text
first_own key [] text x is = absurd (nothing x is)
first_own key (y ∷ ys) text x is = own_cases key y x ys text (bytes_eq (key y) text) refl (first_own key ys text x) is

own_mapped : (url : List ℕ) (o : Option PageAnchors) (d : DocumentAt) → option_map (at_url url) o ≡ Some d → o ≡ Some d.document
own_mapped url None d is = absurd (nothing d is)
own_mapped url (Some x) d is = ap (λ (e : DocumentAt). Some e.document) (same_Some (at_url url x) d is)

-- the document with an alias
pub other_found : (documents : List PageAnchors) (aliases : List Alias) (url : List ℕ) (alias : Alias) (own : DocumentAt) → alias_at aliases url ≡ Some alias → option_map (at_url alias.own) (own_at documents alias.own) ≡ Some own →
    Some (at_url alias.url own.document) ≡ option_map (at_url url) (option_and_then (own_at documents) (own_url aliases url))
other_found documents aliases url alias own is_alias is_own =
    (λ i. Some (at_url (first_own (λ (a : Alias). a.url) aliases url alias is_alias i) own.document))
    ∙ sym (ap (option_map (at_url url)) (ap (λ (o : Option Alias). option_and_then (own_at documents) (option_map (λ (a : Alias). a.own) o)) is_alias ∙ own_mapped alias.own (own_at documents alias.own) own is_own))

-- the document with the number that a page has
pub numbered : (documents : List PageAnchors) (aliases : List Alias) (files : SiteFiles) (results : List PageResult) (page number : ℕ) (o : Option DocumentAt) → AreInOrder documents aliases results → HasPageUrl files documents page number →
    o ≡ option_map (λ d. at_url d.url d) (slice_get documents number) → o ≡ document_of documents aliases files results (to.Page page)
numbered documents aliases files results page number o order has read =
    let d = has.document in
    let own : own_at documents d.url ≡ Some d = first-found (λ (x : PageAnchors). x.url) (λ (x : PageAnchors). Some x) None documents number d order.own has.there in
    read ∙ ap (option_map (λ (x : PageAnchors). at_url x.url x)) has.there
    ∙ sym (ap (option_and_then (led_to documents aliases results)) has.same
    ∙ ap (λ (p : Option PageAnchors). option_or (option_map (at_url d.url) (option_or p (option_and_then (own_at documents) (own_url aliases d.url)))) (option_and_then (found_at documents aliases) (redirect_at results d.url))) own)

-- ---- the numbers of pages

pushed_at : {X : Type 0} (xs : List X) (x y : X) (k : ℕ) → slice_get (xs ++ x ∷ []) k ≡ Some y → (slice_get xs k ≡ Some y) ⊎ ((k ≡ length xs) × (x ≡ y))
pushed_at [] x y zero at = inr (refl, same_Some x y at)
pushed_at [] x y (suc k) at = absurd (nothing y at)
pushed_at (z ∷ xs) x y zero at = inl at
pushed_at (z ∷ xs) x y (suc k) at = elim (pushed_at xs x y k at) [ inl front ↦ inl front | inr last ↦ inr (ap suc last.0, last.1) ]

pub number_found : (files : SiteFiles) (documents : List PageAnchors) (page : ℕ) (url shown : List ℕ) (found : Option ℕ) → url_of files page ≡ Some url → shown ≡ url → IfSome found (IsDocumentAt documents shown) →
    (number : ℕ) → found ≡ Some number → HasPageUrl files documents page number
number_found files documents page url shown found is_url same has number is =
    let own = subst (λ (o : Option ℕ). IfSome o (IsDocumentAt documents shown)) is has in
    record { document = own.document; there = own.there; same = is_url ∙ ap (λ u. Some u) (sym (own.same ∙ same)) }

pub pushed_length : (files : SiteFiles) (documents : List PageAnchors) (page : ℕ) (old new : List (Option ℕ)) → PushesNumber files documents page old new → length new ≡ length old + 1
pushed_length files documents page old new pushed = omega (arith, ap length pushed.is, length-append old (pushed.found ∷ []))

pub no_numbers : (files : SiteFiles) (documents : List PageAnchors) → AreNumbers files documents []
no_numbers files documents = record { each = λ page number at. absurd (nothing (Some number) at) }

pub numbers_pushed : (files : SiteFiles) (documents : List PageAnchors) (page : ℕ) (old new : List (Option ℕ)) → page ≡ length old → PushesNumber files documents page old new → AreNumbers files documents old → AreNumbers files documents new
numbers_pushed files documents page old new counted pushed are =
    record {
      each = λ p number at.
          elim (pushed_at old pushed.found (Some number) p (subst (λ (l : List (Option ℕ)). slice_get l p ≡ Some (Some number)) pushed.is at)) [
            | inl front ↦ are.each p number front
            | inr last ↦ subst (λ k. HasPageUrl files documents k number) (counted ∙ sym last.0) (pushed.own number last.1)
          ];
    }

-- what a check has can be searched
pub searchable : (files own_files : SiteFiles) (pages : Pages) (documents : List PageAnchors) (aliases : List Alias) (results : List PageResult) (numbers : List (Option ℕ)) → own_files ≡ files → pages.anchors.now ≡ documents → pages.aliases.now ≡ aliases →
    pages.results.now ≡ results → pages.documents.now ≡ numbers → AreInOrder documents aliases results → AreNumbers files documents numbers → AreSearchable own_files pages
searchable files own_files pages documents aliases results numbers same_files d a r n order numbered =
    record {
      order = record {
        own = subst (IsStrictlySortedBy (cmp_keys (λ (x : PageAnchors). x.url))) (sym d) order.own;
        others = subst (IsStrictlySortedBy (cmp_keys (λ (x : Alias). x.url))) (sym a) order.others;
        found = subst (IsStrictlySortedBy (cmp_keys (λ (x : PageResult). x.url))) (sym r) order.found;
      };
      numbers =
          subst (λ (ns : List (Option ℕ)). AreNumbers own_files pages.anchors.now ns) (sym n)
          (subst (λ (ds : List PageAnchors). AreNumbers own_files ds numbers) (sym d) (subst (λ (f : SiteFiles). AreNumbers f documents numbers) (sym same_files) numbered));
    }
