-- The rows of a check are those of all results.
use Rattle.site_check.proofs.Prelude.{◌≡◌, ◌∙◌, ℕ, Bool, List, ap, filter, flat_map, map, subst, AreTexts, PageResult, SiteFiles, ◌++◌, sym, unused, is_unfound, linked, linked_at, outside_at, outside_linked, result_at, rows_with, shown_at, text_at, text_of, texts_if}
use Rattle.check_report.specs.declared.value.Broken.{Broken}
use Rattle.document_links.specs.declared.anchors.PageAnchors.{PageAnchors}
use Rattle.document_links.specs.declared.positions.LinkPlaces.{LinkPlaces}
use Rattle.site_check.proofs.AllRows.{hints_of_all, leaving_of_all, mapped, outside_texts_of_all, rows_of_all, texts_of_all}
use Rattle.site_check.proofs.TextsOnce.{are_unused}
use Rattle.site_check.specs.AnchorGroups.{anchor_row}
use Rattle.site_check.specs.Broken.{Row}
use Rattle.site_check.specs.Lacks.{AreAnchors}
use Rattle.site_check.specs.Reported.{AreReported, AreRows, ReportsAnchors}
use Rattle.site_check.specs.declared.input.MapName.{MapName}
use Rattle.site_check.specs.declared.input.Scope.{Scope}
use Rattle.site_check.specs.declared.invalid.InvalidText.{InvalidText}
use Rattle.site_check.specs.declared.outside.Outside.{Outside}
use Rattle.site_check.specs.declared.linked.Linked as code
use Rattle.site_check.specs.declared.missing_anchors.MissingAnchor.{MissingAnchor}
use Rattle.site_files.specs.declared.alias.Alias.{Alias}

are_all : (front : List ℕ) (entries : List (List ℕ)) (scope : Scope) (places : List LinkPlaces) (rooted : Bool) (maps : List MapName) (files : SiteFiles) (results found : List PageResult) (all : List code.Linked) (anchors : List MissingAnchor)
    (invalid : List InvalidText) (outside : List Outside) (rows : List Broken) (unused_ones : List (List ℕ)) → map linked_at all ≡ map (linked results) (filter is_unfound results) → AreTexts (texts_if scope.invalid places results) (map text_of invalid) →
    map outside_at outside ≡ outside_linked rooted maps files results found → AreRows front entries files all anchors invalid outside rows unused_ones →
    AreReported front entries scope places rooted maps files results found rows unused_ones
are_all front entries scope places rooted maps files results found all anchors invalid outside rows unused_ones is texts outs own =
    record {
      whole = own.whole;
      all = record {
        pages = own.pages ∙ ap (flat_map (rows_with front entries)) is ∙ rows_of_all front entries results;
        names = own.names;
        hints = own.hints ∙ hints_of_all front entries files results all is;
        invalid = record { texts = map text_of invalid; each = texts; exact = own.texts_are };
        leaving = own.leaving ∙ leaving_of_all entries rooted maps files results found outside outs;
        ignores =
            are_unused front entries results (map anchor_row anchors) (map text_of invalid) _ _ (map shown_at outside) (flat_map (text_at front) (map result_at all)) unused_ones
            own.whole own.anchors_are
            (own.ignores ∙ ap (λ texts. unused entries (((texts ++ map text_of invalid) ++ map shown_at outside) ++ flat_map (text_at front) (map result_at all)) own.whole) (sym (mapped (λ (row : Row). row.text) anchor_row anchors)))
            (texts_of_all front results all is) texts (outside_texts_of_all rooted maps files results found outside outs);
      };
      left = own.left;
    }

-- of the results and the files that a check has
pub are_reported : (front : List ℕ) (entries : List (List ℕ)) (scope : Scope) (rooted : Bool) (maps : List MapName) (places : List LinkPlaces) (files own_files : SiteFiles) (results own_results found : List PageResult) (all : List code.Linked)
    (anchors : List MissingAnchor) (invalid : List InvalidText) (outside : List Outside) (rows : List Broken) (unused_ones : List (List ℕ)) → own_files ≡ files → own_results ≡ results →
    map linked_at all ≡ map (linked results) (filter is_unfound results) → AreTexts (texts_if scope.invalid places own_results) (map text_of invalid) →
    map outside_at outside ≡ outside_linked rooted maps own_files own_results found → AreRows front entries own_files all anchors invalid outside rows unused_ones →
    AreReported front entries scope places rooted maps files results found rows unused_ones
are_reported front entries scope rooted maps places files own_files results own_results found all anchors invalid outside rows unused_ones same_files same_results is texts outs own =
    are_all front entries scope places rooted maps files results found all anchors invalid outside rows unused_ones is
    (subst (λ rs. AreTexts (texts_if scope.invalid places rs) (map text_of invalid)) same_results texts)
    (outs ∙ (λ i. outside_linked rooted maps (same_files i) (same_results i) found))
    (subst (λ f. AreRows front entries f all anchors invalid outside rows unused_ones) same_files own)

-- the rows of anchors are those of what a check found
pub anchors_reported : (front : List ℕ) (entries : List (List ℕ)) (documents own_documents : List PageAnchors) (aliases own_aliases : List Alias) (files own_files : SiteFiles) (results own_results : List PageResult) (all : List code.Linked)
    (anchors : List MissingAnchor) (invalid : List InvalidText) (outside : List Outside) (rows : List Broken) (unused_ones : List (List ℕ)) → own_documents ≡ documents → own_aliases ≡ aliases → own_files ≡ files → own_results ≡ results →
    AreAnchors front own_documents own_aliases own_files own_results (map anchor_row anchors) → AreRows front entries own_files all anchors invalid outside rows unused_ones → ReportsAnchors front entries documents aliases files results rows
anchors_reported front entries documents own_documents aliases own_aliases files own_files results own_results all anchors invalid outside rows unused_ones same_documents same_aliases same_files same_results are own =
    record {
      whole = own.whole;
      left = own.left;
      anchors = map anchor_row anchors;
      are =
          subst (λ (ds : List PageAnchors). AreAnchors front ds aliases files results (map anchor_row anchors)) same_documents
          (subst (λ (al : List Alias). AreAnchors front own_documents al files results (map anchor_row anchors)) same_aliases
          (subst (λ (f : SiteFiles). AreAnchors front own_documents own_aliases f results (map anchor_row anchors)) same_files
          (subst (λ (rs : List PageResult). AreAnchors front own_documents own_aliases own_files rs (map anchor_row anchors)) same_results are)));
      exact = own.anchors_are;
    }
