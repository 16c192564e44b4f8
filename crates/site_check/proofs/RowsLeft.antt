-- Which rows and locations entries leave out.
use Rattle.site_check.proofs.Prelude.{◌≡◌, ◌∙◌, ℕ, suc, Bool, true, false, not, ◌&&◌, ◌||◌, cond, List, [], ◌∷◌, ◌++◌, length, map, filter, refl, sym, ap, subst, arith, inl, inr, cases_Bool, cond-true, cond-false, flat_map, list_any, string_bytes, AreInvalid, PageResult, SiteFiles, TargetRow, file_in, fits, is_gone, is_place_ignored, matches, missing_texts, names_file, places_left, rows_left, target_in, target_row, with_left}
use Rattle.std.proofs.Common.{◌==◌, eq-eqb, ne_eqb}
use Rattle.std.proofs.lemmas.Bool.{or_parts}
use Rattle.std.specs.List.{list_all}
use Rattle.check_report.specs.declared.value.Broken.{Broken}
use Rattle.check_report.specs.declared.value.Place.{Place}
use Rattle.document_links.specs.declared.positions.LinkPlaces.{LinkPlaces}
use Rattle.site_check.proofs.AllRows.{flat_mapped, mapped}
use Rattle.site_check.specs.Broken.{Row}
use Rattle.site_check.specs.Hints.{hints_with}
use Rattle.site_check.specs.Ignored.{AreUnused, if_anchor}
use Rattle.site_check.specs.Invalid.{if_invalid}
use Rattle.site_check.specs.Leaving.{LeavingRow}
use Rattle.site_check.specs.Names.{name_for, same_name}
use Rattle.site_check.specs.Reported.{AreAllRows, AreReported}
use Rattle.site_check.specs.RowMeanings.{if_page}
use Rattle.site_check.specs.Totals.{is_leaving}
use Rattle.site_check.specs.declared.input.MapName.{MapName}
use Rattle.site_check.specs.declared.input.Scope.{Scope}

-- ---- no entry names a file

-- such entries match no location
none_matches : (entries : List (List ℕ)) (target file : List ℕ) → list_any names_file entries ≡ false → is_place_ignored entries target file ≡ false
none_matches [] target file none = refl
none_matches (entry ∷ entries) target file none =
    let parts = or_parts (names_file entry) (list_any names_file entries) none in
    λ i. (parts.0 i && (matches (target_in entry) target && fits (file_in entry) file)) || none_matches entries target file parts.1 i

pub filter_all : {X : Type 0} (p : X → Bool) → ((x : X) → p x ≡ true) → (xs : List X) → filter p xs ≡ xs
filter_all p passes [] = refl
filter_all p passes (x ∷ xs) = cond-true (p x) (x ∷ filter p xs) (filter p xs) (passes x) ∙ ap (λ l. x ∷ l) (filter_all p passes xs)

map_same : {X : Type 0} (f : X → X) → ((x : X) → f x ≡ x) → (xs : List X) → map f xs ≡ xs
map_same f same [] = refl
map_same f same (x ∷ xs) = λ i. same x i ∷ map_same f same xs i

all_places : (entries : List (List ℕ)) (target : List ℕ) (places : List Place) → list_any names_file entries ≡ false → places_left entries target places ≡ places
all_places entries target places none =
    filter_all (λ (place : Place). not (is_place_ignored entries target (string_bytes place.file))) (λ place. ap not (none_matches entries target (string_bytes place.file) none)) places

not_both : (b : Bool) → (not b && b) ≡ false
not_both true = refl
not_both false = refl

stays : (entries : List (List ℕ)) (row : TargetRow) → list_any names_file entries ≡ false → is_gone entries row ≡ false
stays entries row none =
    ap (λ (ps : List Place). not (length row.places == 0) && length ps == 0) (all_places entries row.target row.places none) ∙ not_both (length row.places == 0)

unchanged : (entries : List (List ℕ)) (row : TargetRow) → list_any names_file entries ≡ false → with_left entries row ≡ row
unchanged entries row none =
    λ i. record { target = row.target; kind = row.kind; pages = row.pages; places = all_places entries row.target row.places none i; same_name = row.same_name; hint = row.hint }

pub all_left : (entries : List (List ℕ)) (rows : List TargetRow) → list_any names_file entries ≡ false → rows_left entries rows ≡ rows
all_left entries rows none =
    ap (map (with_left entries)) (filter_all (λ (row : TargetRow). not (is_gone entries row)) (λ row. ap not (stays entries row none)) rows)
    ∙ map_same (with_left entries) (λ row. unchanged entries row none) rows

-- ---- rows with the same values

flat_seen : {X : Type 0} (f : TargetRow → List X) (rows whole : List Broken) → map target_row rows ≡ map target_row whole → flat_map (λ b. f (target_row b)) rows ≡ flat_map (λ b. f (target_row b)) whole
flat_seen f rows whole same = sym (flat_mapped f target_row rows) ∙ ap (flat_map f) same ∙ flat_mapped f target_row whole

map_seen : {X : Type 0} (f : TargetRow → X) (rows whole : List Broken) → map target_row rows ≡ map target_row whole → map (λ b. f (target_row b)) rows ≡ map (λ b. f (target_row b)) whole
map_seen f rows whole same = sym (mapped f target_row rows) ∙ ap (map f) same ∙ mapped f target_row whole

any_mapped : {X Y : Type 0} (p : Y → Bool) (f : X → Y) (xs : List X) → list_any p (map f xs) ≡ list_any (λ x. p (f x)) xs
any_mapped p f [] = refl
any_mapped p f (x ∷ xs) = ap (λ b. p (f x) || b) (any_mapped p f xs)

any_seen : (p : TargetRow → Bool) (rows whole : List Broken) → map target_row rows ≡ map target_row whole → list_any (λ b. p (target_row b)) rows ≡ list_any (λ b. p (target_row b)) whole
any_seen p rows whole same = sym (any_mapped p target_row rows) ∙ ap (list_any p) same ∙ any_mapped p target_row whole

-- the file and the target of an entry match a location of the row
abbrev matches_seen : List ℕ → List ℕ → TargetRow → Bool
matches_seen file target row = matches target row.target && list_any (λ (place : Place). fits file (string_bytes place.file)) row.places

unused_seen : (front : List ℕ) (entries : List (List ℕ)) (results : List PageResult) (links others : List (List ℕ)) (rows whole : List Broken) (all : List (List ℕ)) →
    map target_row rows ≡ map target_row whole → AreUnused front entries results links others whole all → AreUnused front entries results links others rows all
unused_seen front entries results links others rows whole all same own =
    record {
      anchors = own.anchors;
      row_anchors = flat_seen (λ (row : TargetRow). if_anchor row.kind (record { text = row.target; pages = row.pages })) rows whole same ∙ own.row_anchors;
      exact =
          own.exact
          ∙ sym (λ i. filter (λ entry. not (cond (names_file entry) (any_seen (matches_seen (file_in entry) (target_in entry)) rows whole same i) (list_any (matches entry) (((map (λ (row : Row). row.text) own.anchors ++ links) ++ others) ++ missing_texts front results)))) entries);
    }

-- the row of a link that leads out of the site
abbrev leaving_seen : TargetRow → List LeavingRow
leaving_seen row = cond (is_leaving row.kind) (record { text = row.target; pages = row.pages; kind = row.kind; folder = row.hint; page = row.same_name } ∷ []) []

pub reported_all : (front : List ℕ) (entries : List (List ℕ)) (scope : Scope) (places : List LinkPlaces) (rooted : Bool) (maps : List MapName) (files : SiteFiles) (results found : List PageResult) (rows : List Broken) (unused_ones : List (List ℕ)) →
    list_any names_file entries ≡ false → AreReported front entries scope places rooted maps files results found rows unused_ones → AreAllRows front entries scope places rooted maps files results found rows unused_ones
reported_all front entries scope places rooted maps files results found rows unused_ones none own =
    let whole : List Broken = own.whole in
    let same : map target_row rows ≡ map target_row whole = own.left ∙ all_left entries (map target_row whole) none in
    record {
      pages = flat_seen (λ (row : TargetRow). if_page row.kind (record { text = row.target; pages = row.pages })) rows whole same ∙ own.all.pages;
      names =
          map_seen (λ (row : TargetRow). row.same_name) rows whole same ∙ own.all.names
          ∙ sym (map_seen (λ (row : TargetRow). name_for (is_leaving row.kind) row.kind (same_name front files row.target row.places) row.same_name) rows whole same);
      hints = flat_seen (λ (row : TargetRow). hints_with row.kind row.hint) rows whole same ∙ own.all.hints;
      invalid = subst (AreInvalid entries _) (sym (flat_seen (λ (row : TargetRow). if_invalid row.kind row.target) rows whole same)) own.all.invalid;
      leaving = flat_seen leaving_seen rows whole same ∙ own.all.leaving;
      ignores = unused_seen front entries results _ _ rows whole unused_ones same own.all.ignores;
    }

-- ---- rows that go

-- nothing is left exactly if all are left out
none_left : {X : Type 0} (p : X → Bool) (xs : List X) → (length (filter (λ x. not (p x)) xs) == 0) ≡ list_all p xs
none_left p [] = eq-eqb 0 0 refl
none_left p (x ∷ xs) =
    let rest = filter (λ y. not (p y)) xs in
    elim (cases_Bool (p x)) [
      | inl out ↦
          ap (λ l. length l == 0) (cond-false (not (p x)) (x ∷ rest) rest (ap not out)) ∙ none_left p xs ∙ ap (λ b. b && list_all p xs) (sym out)
      | inr stays ↦
          ap (λ l. length l == 0) (cond-true (not (p x)) (x ∷ rest) rest (ap not stays)) ∙ ne_eqb (suc (length rest)) 0 (λ e. omega (arith, e))
          ∙ ap (λ b. b && list_all p xs) (sym stays)
    ]

pub gone_if_all : (entries : List (List ℕ)) (row : TargetRow) → is_gone entries row ≡ (not (length row.places == 0) && list_all (λ place. is_place_ignored entries row.target (string_bytes place.file)) row.places)
gone_if_all entries row =
    ap (λ b. not (length row.places == 0) && b) (none_left (λ (place : Place). is_place_ignored entries row.target (string_bytes place.file)) row.places)
