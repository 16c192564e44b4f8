-- Rows with the locations of the links to their targets.
use Rattle.site_check.proofs.Prelude.{◌≡◌, ◌∙◌, ℕ, ◌<◌, Bool, true, false, List, [], ◌∷◌, ◌++◌, length, map, filter, get_or, refl, sym, ap, subst, not, slice_get, slice_get-map, slice_get_read, string_bytes, Some, TargetRow, anchor_text, inl, inr, is_gone, is_leaving, is_place_ignored, option_map, rows_left, shown_at, target_row, text_of, with_left}
use Rattle.std.proofs.lemmas.Bool.{cases_Bool, cond-false, cond-true}
use Rattle.std.proofs.lemmas.List.Elements.{All-append, All-cons, All-head, All-nil, All-tail}
use Rattle.std.specs.List.{All}
use Rattle.check_report.specs.declared.value.Broken.{Broken}
use Rattle.check_report.specs.declared.value.Kind.{Kind}
use Rattle.check_report.specs.declared.value.Kind.TheVariants as row
use Rattle.check_report.specs.declared.value.Place.{Place}
use Rattle.document_links.specs.declared.scheme.InvalidKind.{InvalidKind}
use Rattle.document_links.specs.declared.scheme.InvalidKind.TheVariants.{LocalFile, NotUrl, UnknownScheme}
use Rattle.site_check.proofs.AllRows.{mapped}
use Rattle.site_check.proofs.Orders.{ascends_filter, map_filter}
use Rattle.site_check.specs.Invalid.{row_kind}
use Rattle.site_check.specs.Located.{IsLocatedRow, IsRowPlace, KeepsRows, LocatedRow, TargetLocation, TargetTexts, list_of, located_row, page_text, row_unless, target_texts, texts_at}
use Rattle.site_check.specs.Locations.{Location, ascends, location_of}
use Rattle.site_check.specs.declared.invalid.InvalidText.{InvalidText}
use Rattle.site_check.specs.declared.linked.Linked as code
use Rattle.site_check.specs.declared.missing_anchors.MissingAnchor.{MissingAnchor}
use Rattle.site_check.specs.declared.outside.Outside.{Outside}

not_leaving : false ≡ true → ⊥
not_leaving is = cc

-- ---- one row more

pub keeps_none : (all : List TargetLocation) (list : ℕ) (own : List (List ℕ)) (rows : List LocatedRow) → KeepsRows all list own rows rows
keeps_none all list own rows = record { keeps = λ texts are kept. kept }

row_of : (all : List TargetLocation) (texts : TargetTexts) (kind : Kind) (number : ℕ) (target : List ℕ) (at : List Location) (ignored : Bool) → slice_get (texts_at texts (list_of kind)) number ≡ Some target →
    All (IsRowPlace all (list_of kind) number target) at → ascends at ≡ true → All (IsLocatedRow all texts) (row_unless ignored kind target at)
row_of all texts kind number target at true is each up = All-nil (IsLocatedRow all texts)
row_of all texts kind number target at false is each up =
    All-cons (IsLocatedRow all texts) (record { kind = kind; target = target; places = at }) [] (record { number = number; is_target = is; each = each; order = up }) (All-nil (IsLocatedRow all texts))

pub keeps_more : (all : List TargetLocation) (kind : Kind) (own : List (List ℕ)) (first old new : List LocatedRow) (number : ℕ) (target : List ℕ) (ignored : Bool) (at : List Location) → KeepsRows all (list_of kind) own first old →
    slice_get own number ≡ Some target → All (IsRowPlace all (list_of kind) number target) at → ascends at ≡ true → new ≡ old ++ row_unless ignored kind target at → KeepsRows all (list_of kind) own first new
keeps_more all kind own first old new number target ignored at so_far is each up pushed =
    record {
      keeps = λ texts are kept.
          subst (All (IsLocatedRow all texts)) (sym pushed)
          (All-append (IsLocatedRow all texts) old (row_unless ignored kind target at) (so_far.keeps texts are kept)
          (row_of all texts kind number target at ignored (ap (λ l. slice_get l number) are ∙ is) each up));
    }

-- the row of an invalid link, of any kind
pub keeps_text : (all : List TargetLocation) (kind : InvalidKind) (own : List (List ℕ)) (first old new : List LocatedRow) (number : ℕ) (target : List ℕ) (ignored : Bool) (at : List Location) → KeepsRows all 2 own first old →
    slice_get own number ≡ Some target → All (IsRowPlace all 2 number target) at → ascends at ≡ true → new ≡ old ++ row_unless ignored (row_kind kind) target at → KeepsRows all 2 own first new
keeps_text all NotUrl own first old new number target ignored at so_far is each up pushed = keeps_more all row.NotUrl own first old new number target ignored at so_far is each up pushed
keeps_text all UnknownScheme own first old new number target ignored at so_far is each up pushed = keeps_more all row.UnknownScheme own first old new number target ignored at so_far is each up pushed
keeps_text all LocalFile own first old new number target ignored at so_far is each up pushed = keeps_more all row.LocalFile own first old new number target ignored at so_far is each up pushed

-- the row of a URL outside the site, of any kind
pub keeps_url : (all : List TargetLocation) (kind : Kind) (own : List (List ℕ)) (first old new : List LocatedRow) (number : ℕ) (target : List ℕ) (ignored : Bool) (at : List Location) → is_leaving kind ≡ true → KeepsRows all 3 own first old →
    slice_get own number ≡ Some target → All (IsRowPlace all 3 number target) at → ascends at ≡ true → new ≡ old ++ row_unless ignored kind target at → KeepsRows all 3 own first new
keeps_url all row.Leaves own first old new number target ignored at leaves so_far is each up pushed = keeps_more all row.Leaves own first old new number target ignored at so_far is each up pushed
keeps_url all row.OutsideBase own first old new number target ignored at leaves so_far is each up pushed = keeps_more all row.OutsideBase own first old new number target ignored at so_far is each up pushed
keeps_url all row.NotInMap own first old new number target ignored at leaves so_far is each up pushed = keeps_more all row.NotInMap own first old new number target ignored at so_far is each up pushed
keeps_url all row.NoPage own first old new number target ignored at leaves so_far is each up pushed = absurd (not_leaving leaves)
keeps_url all row.NoAnchor own first old new number target ignored at leaves so_far is each up pushed = absurd (not_leaving leaves)
keeps_url all row.NotUrl own first old new number target ignored at leaves so_far is each up pushed = absurd (not_leaving leaves)
keeps_url all row.UnknownScheme own first old new number target ignored at leaves so_far is each up pushed = absurd (not_leaving leaves)
keeps_url all row.LocalFile own first old new number target ignored at leaves so_far is each up pushed = absurd (not_leaving leaves)

-- the text of the target with this number
pub text_there : {X : Type 0} (text : X → List ℕ) (xs : List X) (i : ℕ) (x : X) → i < length xs → x ≡ get_or xs i x → slice_get (map text xs) i ≡ Some (text x)
text_there text xs i x below is = slice_get-map text xs i ∙ ap (λ o. option_map text o) (slice_get_read xs (length xs) i x refl below is)

-- ---- all rows

pub all_located : (all : List TargetLocation) (front : List ℕ) (linked : List code.Linked) (anchors : List MissingAnchor) (invalid : List InvalidText) (outside : List Outside) (rows_0 rows_1 rows_2 rows_3 : List LocatedRow) →
    KeepsRows all 0 (map (page_text front) linked) [] rows_0 → KeepsRows all 1 (map anchor_text anchors) rows_0 rows_1 → KeepsRows all 2 (map text_of invalid) rows_1 rows_2 → KeepsRows all 3 (map shown_at outside) rows_2 rows_3 →
    All (IsLocatedRow all (target_texts front linked anchors invalid outside)) rows_3
all_located all front linked anchors invalid outside rows_0 rows_1 rows_2 rows_3 pages named texts_in urls =
    let texts = target_texts front linked anchors invalid outside in
    urls.keeps texts refl (texts_in.keeps texts refl (named.keeps texts refl (pages.keeps texts refl (All-nil (IsLocatedRow all texts)))))

-- ---- the rows that are left

all_filter : {X Y : Type 0} (P : Y → Type 0) (f : X → Y) (p : X → Bool) (xs : List X) → All P (map f xs) → All P (map f (filter p xs))
all_filter P f p [] all = all
all_filter P f p (x ∷ xs) all =
    elim (cases_Bool (p x)) [
      | inl passes ↦ subst (λ l. All P (map f l)) (sym (cond-true (p x) (x ∷ filter p xs) (filter p xs) passes)) (All-cons P (f x) (map f (filter p xs)) (All-head P (f x) (map f xs) all) (all_filter P f p xs (All-tail P (f x) (map f xs) all)))
      | inr fails ↦ subst (λ l. All P (map f l)) (sym (cond-false (p x) (x ∷ filter p xs) (filter p xs) fails)) (all_filter P f p xs (All-tail P (f x) (map f xs) all))
    ]

abbrev located_of : TargetRow → LocatedRow
located_of one = record { kind = one.kind; target = one.target; places = map location_of one.places }

row_left : (all : List TargetLocation) (texts : TargetTexts) (entries : List (List ℕ)) (one : TargetRow) → IsLocatedRow all texts (located_of one) → IsLocatedRow all texts (located_of (with_left entries one))
row_left all texts entries one is =
    record {
      number = is.number;
      is_target = is.is_target;
      each = all_filter (IsRowPlace all (list_of one.kind) is.number one.target) location_of (λ (place : Place). not (is_place_ignored entries one.target (string_bytes place.file))) one.places is.each;
      order =
          subst (λ l. ascends l ≡ true) (sym (map_filter location_of (λ (at : Location). not (is_place_ignored entries one.target at.file)) one.places))
          (ascends_filter (λ (at : Location). not (is_place_ignored entries one.target at.file)) (map location_of one.places) is.order);
    }

rows_with_left : (all : List TargetLocation) (texts : TargetTexts) (entries : List (List ℕ)) (rows : List TargetRow) → All (IsLocatedRow all texts) (map located_of rows) → All (IsLocatedRow all texts) (map located_of (map (with_left entries) rows))
rows_with_left all texts entries [] are = are
rows_with_left all texts entries (one ∷ rows) are =
    let P = IsLocatedRow all texts in
    All-cons P (located_of (with_left entries one)) (map located_of (map (with_left entries) rows)) (row_left all texts entries one (All-head P (located_of one) (map located_of rows) are))
    (rows_with_left all texts entries rows (All-tail P (located_of one) (map located_of rows) are))

pub left_located : (all : List TargetLocation) (texts : TargetTexts) (entries : List (List ℕ)) (whole rows : List Broken) → map target_row rows ≡ rows_left entries (map target_row whole) → All (IsLocatedRow all texts) (map located_row whole) →
    All (IsLocatedRow all texts) (map located_row rows)
left_located all texts entries whole rows left are =
    let P = IsLocatedRow all texts in
    let first : All P (map located_of (map target_row whole)) = subst (All P) (sym (mapped located_of target_row whole)) are in
    let kept : All P (map located_of (filter (λ (one : TargetRow). not (is_gone entries one)) (map target_row whole))) = all_filter P located_of (λ (one : TargetRow). not (is_gone entries one)) (map target_row whole) first in
    subst (All P) (ap (map located_of) (sym left) ∙ mapped located_of target_row rows) (rows_with_left all texts entries (filter (λ (one : TargetRow). not (is_gone entries one)) (map target_row whole)) kept)
