-- The links to missing anchors that several threads find are all of them.
use Rattle.site_check.proofs.Prelude.{Global, IfOk, IfOk-at_ok, IfOk-weaker, PageResult, SiteFiles, Vec, flat_map, ◌≡◌, ℕ, ◌<◌, true, List, [], length, map, get_or, refl, sym, subst, arith}
use Rattle.std.proofs.lemmas.List.Sorted.{All-permutation, Contains-permutation, IsPermutation-map}
use Rattle.std.specs.List.{All, Contains}
use Rattle.std.specs.List.Sorted.{IsPermutation, IsSortedBy}
use Rattle.std.specs.Prelude.{◌%◌, Err, IsOk, Ok, Result}
use Rattle.std.specs.declared.alloc.AllocError.{AllocError}
use Rattle.document_links.specs.declared.anchors.PageAnchors.{PageAnchors}
use Rattle.site_check.proofs.AllPlaced.{in_flat, taken_by, there}
use Rattle.site_check.proofs.AnchorCounts.{are_anchors, rises_links}
use Rattle.site_check.proofs.Placed.{all_joined}
use Rattle.site_check.specs.AnchorGroups.{AddsGroups, comes_first}
use Rattle.site_check.specs.Broken.{Row}
use Rattle.site_check.specs.Complete.{is_taken}
use Rattle.site_check.specs.LackedLinks.{lack_of}
use Rattle.site_check.specs.Lacks.{AreAnchors, AreLacks, IsLack, Lack, is_any}
use Rattle.site_check.specs.Located.{items_of}
use Rattle.site_check.specs.declared.leads.ListedLead.{ListedLead}
use Rattle.site_check.specs.declared.missing_anchors.MissingAnchorLink.{MissingAnchorLink}
use Rattle.site_files.specs.declared.alias.Alias.{Alias}

abbrev Part : Type 0
Part = Result (Vec MissingAnchorLink Global) AllocError

false_ok : (e : AllocError) → IsOk {T = Vec MissingAnchorLink Global} (Err e) → ⊥
false_ok e is = cc

module _ (documents : List PageAnchors) (aliases : List Alias) (files : SiteFiles) (results : List PageResult) where
  part_has : (count rest : ℕ) (part : Part) (lack : Lack) → IsOk part → IfOk part (λ own. AreLacks documents aliases files results (is_taken count rest) (map lack_of own.items)) → IsLack documents aliases files results lack →
      is_taken count rest lack.source ≡ true → Contains (map lack_of (items_of part)) lack
  part_has count rest (Ok own) lack ok are is taken = are.whole lack is taken
  part_has count rest (Err e) lack ok are is taken = absurd (false_ok e ok)

  pub all_lacked : (count : ℕ) (parts : List Part) (all : List MissingAnchorLink) → 0 < count → length parts ≡ count → All (λ part. IsOk part) parts →
      ((rest : ℕ) (other : Part) → rest < count → IfOk (get_or parts rest other) (λ own. AreLacks documents aliases files results (is_taken count rest) (map lack_of own.items))) → all ≡ flat_map items_of parts →
      AreLacks documents aliases files results is_any (map lack_of all)
  all_lacked count parts all some counted ok each joined =
      record {
        each =
            subst (λ (l : List MissingAnchorLink). All (IsLack documents aliases files results) (map lack_of l)) (sym joined)
            (all_joined (IsLack documents aliases files results) lack_of parts
            (λ k d below.
            IfOk-weaker (get_or parts k d) (λ own. AreLacks documents aliases files results (is_taken count k) (map lack_of own.items)) (λ own. All (IsLack documents aliases files results) (map lack_of own.items))
            (λ own are. are.each) (each k d (omega (arith, below, counted)))));
        whole = λ lack is taken.
            let rest = lack.source % count in
            let below : rest < count = omega (arith, some) in
            let within : rest < length parts = omega (arith, below, counted) in
            let other : Part = (there parts rest within).x in
            subst (λ (l : List MissingAnchorLink). Contains (map lack_of l) lack) (sym joined)
            (in_flat lack_of parts rest other lack within (part_has count rest (get_or parts rest other) lack (ok rest other within) (each rest other below) is (taken_by count lack.source some)));
      }

  pub lacked_joined : (S : Type 0) (count : ℕ) (parts : List Part) (r : Part) → length parts ≡ count →
      ((rest : ℕ) (other : Part) → rest < count → IfOk (get_or parts rest other) (λ own. S → AreLacks documents aliases files results (is_taken count rest) (map lack_of own.items))) → IfOk r (λ all. all.items ≡ flat_map items_of parts) →
      IfOk r (λ all. All (λ part. IsOk part) parts) → IfOk r (λ all. 0 < count → S → AreLacks documents aliases files results is_any (map lack_of all.items))
  lacked_joined S count parts (Ok all) counted each joined ok = λ some s.
      all_lacked count parts all.items some counted ok
      (λ rest other below.
      IfOk-weaker (get_or parts rest other) (λ own. S → AreLacks documents aliases files results (is_taken count rest) (map lack_of own.items)) (λ own. AreLacks documents aliases files results (is_taken count rest) (map lack_of own.items))
      (λ own given. given s) (each rest other below))
      joined
  lacked_joined S count parts (Err e) counted each joined ok = tt

  pub lacks_moved : (old new : List MissingAnchorLink) → IsPermutation old new → AreLacks documents aliases files results is_any (map lack_of old) → AreLacks documents aliases files results is_any (map lack_of new)
  lacks_moved old new moved are =
      let there = IsPermutation-map lack_of old new moved in
      record {
        each = All-permutation (IsLack documents aliases files results) (map lack_of old) (map lack_of new) there are.each;
        whole = λ lack is taken. Contains-permutation (map lack_of old) (map lack_of new) lack there (are.whole lack is taken);
      }

  -- what was found, sorted
  pub lacks_given : (S : Type 0) (count : ℕ) (r : Part) (own : Vec MissingAnchorLink Global) (sorted given : List MissingAnchorLink) → r ≡ Ok own → 0 < count → IfOk r (λ all. 0 < count → S → AreLacks documents aliases files results is_any (map lack_of all.items)) →
      IsPermutation own.items sorted → given ≡ sorted → S → AreLacks documents aliases files results is_any (map lack_of given)
  lacks_given S count r own sorted given is some found moved same s =
      subst (λ (l : List MissingAnchorLink). AreLacks documents aliases files results is_any (map lack_of l)) (sym same)
      (lacks_moved own.items sorted moved (IfOk-at_ok (λ (all : Vec MissingAnchorLink Global). 0 < count → S → AreLacks documents aliases files results is_any (map lack_of all.items)) is found some s))

  -- the rows of what was found, sorted
  pub anchors_found : (front : List ℕ) (entries : List (List ℕ)) (S : Type 0) (count : ℕ) (r : Part) (own : Vec MissingAnchorLink Global) (sorted given : List MissingAnchorLink) (rows : List Row) (old new : List ListedLead) → r ≡ Ok own → 0 < count →
      IfOk r (λ all. 0 < count → S → AreLacks documents aliases files results is_any (map lack_of all.items)) → IsPermutation own.items sorted → IsSortedBy comes_first sorted → given ≡ sorted → AddsGroups front entries (map lack_of given) rows old new → S →
      AreAnchors front documents aliases files results rows
  anchors_found front entries S count r own sorted given rows old new is some found moved up same groups s =
      are_anchors documents aliases files results front entries is_any (map lack_of given) rows [] groups.found (λ n. refl) (lacks_given S count r own sorted given is some found moved same s)
      (rises_links given (subst (IsSortedBy comes_first) (sym same) up)) groups.are
