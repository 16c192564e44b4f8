-- The links to anchors, target by target.
use Rattle.document_links.proofs.Prelude.{◌≡◌, ◌∙◌, ℕ, ◌+◌, ◌-◌, ◌<◌, ◌≤◌, ◌==◌, Bool, true, false, cond, List, [], ◌∷◌, ◌++◌, Option, Some, None, length, take, drop, get_or, refl, sym, ap, subst, arith, take_all, length-drop, prefix_len, cond-true}
use Rattle.std.proofs.Common.{zero, suc, append-nil, append_assoc, eq-eqb, zero-add}
use Rattle.std.specs.Prelude.{All, bytes_eq, slice_get, flat_map}
use Rattle.std.proofs.lemmas.List.{take-append-le, drop-append-le, length-append, map-append}
use Rattle.std.proofs.lemmas.List.Concat.{flat_map-append}
use Rattle.std.proofs.lemmas.List.Elements.{All-cons, All-head, All-nil, All-tail}
use Rattle.std.proofs.lemmas.Option.{same_Some}
use Rattle.std.proofs.lemmas.Bool.{eqb-true}
use Rattle.page_anchors.specs.Ids.{DoBound}
use Rattle.document_links.specs.declared.anchor_targets.AnchorTargets.{AnchorTargets}
use Rattle.document_links.specs.declared.anchors.Anchors.{Anchors}
use Rattle.document_links.specs.declared.marked_links.MarkedLink.{MarkedLink}
use Rattle.document_links.specs.Anchors.{Link, begin_of, end_of, known_index, links_with}
use Rattle.document_links.specs.KeptAnchors.{index_of}
use Rattle.document_links.specs.Keeping.{HasRows, IsBuilt, IsEven, kept_link, kept_of, led, led_from, led_to, row_of, rows_of, rows_unless}

-- ---- links with fragments and indices

pub rows_push : (fragments : List (List ℕ)) (indices : List ℕ) (fragment : List ℕ) (index : ℕ) → length fragments ≡ length indices
    → links_with (fragments ++ fragment ∷ []) (indices ++ index ∷ []) ≡ links_with fragments indices ++ record { fragment = fragment; index = known_index index } ∷ []
rows_push [] [] fragment index even = refl
rows_push [] (i ∷ is) fragment index even = absurd (omega (arith, even))
rows_push (f ∷ fs) [] fragment index even = absurd (omega (arith, even))
rows_push (f ∷ fs) (i ∷ is) fragment index even = ap (λ l. record { fragment = f; index = known_index i } ∷ l) (rows_push fs is fragment index (omega (arith, even)))

pub length-rows : (fragments : List (List ℕ)) (indices : List ℕ) → length fragments ≡ length indices → length (links_with fragments indices) ≡ length indices
length-rows [] [] even = refl
length-rows [] (i ∷ is) even = absurd (omega (arith, even))
length-rows (f ∷ fs) [] even = absurd (omega (arith, even))
length-rows (f ∷ fs) (i ∷ is) even = omega (arith, length-rows fs is (omega (arith, even)))

pub row_at : (fragments : List (List ℕ)) (indices : List ℕ) (number : ℕ) → number < length fragments → number < length indices
    → slice_get (links_with fragments indices) number ≡ Some (record { fragment = get_or fragments number []; index = known_index (get_or indices number 0) })
row_at [] indices number some other = absurd (omega (arith, some))
row_at (f ∷ fs) [] number some other = absurd (omega (arith, other))
row_at (f ∷ fs) (i ∷ is) zero some other = refl
row_at (f ∷ fs) (i ∷ is) (suc number) some other = row_at fs is number (omega (arith, some)) (omega (arith, other))

pub no_fragment : (fragments : List (List ℕ)) (indices : List ℕ) (number : ℕ) → length fragments ≤ number → slice_get (links_with fragments indices) number ≡ None
no_fragment [] indices number past = refl
no_fragment (f ∷ fs) [] number past = refl
no_fragment (f ∷ fs) (i ∷ is) zero past = absurd (omega (arith, past))
no_fragment (f ∷ fs) (i ∷ is) (suc number) past = no_fragment fs is number (omega (arith, past))

pub no_index : (fragments : List (List ℕ)) (indices : List ℕ) (number : ℕ) → length indices ≤ number → slice_get (links_with fragments indices) number ≡ None
no_index [] indices number past = refl
no_index (f ∷ fs) [] number past = refl
no_index (f ∷ fs) (i ∷ is) zero past = absurd (omega (arith, past))
no_index (f ∷ fs) (i ∷ is) (suc number) past = no_index fs is number (omega (arith, past))

-- one link more
pub link_pushed : (old new : Anchors) (exists : Bool) (fragment : List ℕ) (index stored : ℕ) → exists ≡ false → IsEven old → new.ids ≡ old.ids → new.ends.items ≡ old.ends.items → new.fragments ≡ old.fragments ++ fragment ∷ []
    → new.indices.items ≡ old.indices.items ++ stored ∷ [] → known_index stored ≡ index_of index → HasRows old new (rows_unless exists fragment index)
link_pushed old new exists fragment index stored none even ids ends fragments indices known = record {
  ids = ids;
  ends = ends;
  even = omega (arith, ap length fragments, ap length indices, length-append old.fragments (fragment ∷ []), length-append old.indices.items (stored ∷ []), even);
  more = (λ i. links_with (fragments i) (indices i))
      ∙ rows_push old.fragments old.indices.items fragment stored even
      ∙ ap (λ k. rows_of old ++ record { fragment = fragment; index = k } ∷ []) known
      ∙ ap (λ b. rows_of old ++ rows_unless b fragment index) (sym none);
}

-- ---- ends

pub bound_within : (from : ℕ) (ends : List ℕ) (count : ℕ) → DoBound from ends count → from ≤ count
bound_within from [] count bound = omega (arith, bound)
bound_within from (e ∷ es) count bound = omega (arith, bound.0, bound_within e es count bound.1)

bound_more : (from : ℕ) (ends : List ℕ) (count more : ℕ) → DoBound from ends count → count ≤ more → DoBound from (ends ++ more ∷ []) more
bound_more from [] count more bound le = (omega (arith, bound, le), refl)
bound_more from (e ∷ es) count more bound le = (bound.0, bound_more e es count more bound.1 le)

end_above : (from : ℕ) (ends : List ℕ) (limit count target : ℕ) → DoBound from ends limit → target < length ends → from ≤ end_of ends count target
end_above from [] limit count target bound within = absurd (omega (arith, within))
end_above from (e ∷ es) limit count zero bound within = bound.0
end_above from (e ∷ es) limit count (suc target) bound within = omega (arith, bound.0, end_above e es limit count target bound.1 (omega (arith, within)))

-- the links to the first target begin with this number
abbrev pub begin_from : ℕ → List ℕ → ℕ → ℕ → ℕ
begin_from from ends count zero = from
begin_from from ends count (suc before) = end_of ends count before

pub begin_next : (from end : ℕ) (ends : List ℕ) (count target : ℕ) → begin_from from (end ∷ ends) count (suc target) ≡ begin_from end ends count target
begin_next from end ends count zero = refl
begin_next from end ends count (suc target) = refl

pub begin_first : (ends : List ℕ) (count target : ℕ) → begin_from 0 ends count target ≡ begin_of ends count target
begin_first ends count zero = refl
begin_first ends count (suc target) = refl

pub begin_above : (from : ℕ) (ends : List ℕ) (limit count target : ℕ) → DoBound from ends limit → target < length ends + 1 → from ≤ begin_from from ends count target
begin_above from ends limit count zero bound within = omega arith
begin_above from ends limit count (suc target) bound within = end_above from ends limit count target bound (omega (arith, within))

-- ---- one target more

led_append : (url : List ℕ) (some more : List Link) → led url (some ++ more) ≡ led url some ++ led url more
led_append url some more = map-append (λ row. (url, row)) some more

pub led_more : (from : ℕ) (ends : List ℕ) (urls : List (List ℕ)) (rows : List Link) (url : List ℕ) (more : List Link) → DoBound from ends (from + length rows) → length urls ≡ length ends
    → led_from from (ends ++ (from + length (rows ++ more)) ∷ []) (urls ++ url ∷ []) (rows ++ more) ≡ led_from from ends urls rows ++ led url more
led_more from [] [] [] url more bound paired =
    let all : from + length more - from ≡ length more = omega arith in
    append-nil (led url (take (from + length more - from) more)) ∙ ap (λ n. led url (take n more)) all ∙ ap (led url) (take_all (length more) more (omega arith))
led_more from [] [] (r ∷ rows) url more bound paired = absurd (omega (arith, bound))
led_more from [] (u ∷ us) rows url more bound paired = absurd (omega (arith, paired))
led_more from (e ∷ es) [] rows url more bound paired = absurd (omega (arith, paired))
led_more from (e ∷ es) (u ∷ us) rows url more bound paired =
    let n : ℕ = e - from in
    let within : e ≤ from + length rows = bound_within e es (from + length rows) bound.1 in
    let few : n ≤ length rows = omega (arith, within) in
    let left : from + length rows ≡ e + length (drop n rows) = omega (arith, length-drop n rows, within, bound.0) in
    let all : from + length (rows ++ more) ≡ e + length (drop n rows ++ more) = omega (arith, length-append rows more, length-append (drop n rows) more, left) in
    let back : drop n (rows ++ more) ≡ drop n rows ++ more = drop-append-le n rows more few in
    let later : led_from e (es ++ (from + length (rows ++ more)) ∷ []) (us ++ url ∷ []) (drop n (rows ++ more)) ≡ led_from e es us (drop n rows) ++ led url more =
    (λ i. led_from e (es ++ (all i) ∷ []) (us ++ url ∷ []) (back i))
    ∙ led_more e es us (drop n rows) url more (subst (DoBound e es) left bound.1) (omega (arith, paired)) in
    (λ i. led u (take-append-le n rows more few i) ++ later i) ∙ sym (append_assoc (led u (take n rows)) (led_from e es us (drop n rows)) (led url more))

-- what holds of the anchors after the links to one target were appended
pub record IsMore (old new : AnchorTargets) (url : List ℕ) (rows : List Link) : Type 0 where
  pub built : IsBuilt new
  pub kept : kept_of new ≡ kept_of old ++ led url rows

pub target_more : (old new : AnchorTargets) (url : List ℕ) (rows : List Link) → IsBuilt old → IsEven new.anchors → rows_of new.anchors ≡ rows_of old.anchors ++ rows
    → new.anchors.ends.items ≡ old.anchors.ends.items ++ length new.anchors.indices.items ∷ [] → new.urls.items ≡ old.urls.items ++ url ∷ [] → IsMore old new url rows
target_more old new url rows built even more ends urls =
    let before : List Link = rows_of old.anchors in
    let count : length new.anchors.indices.items ≡ length (before ++ rows) = sym (length-rows new.anchors.fragments new.anchors.indices.items even) ∙ ap length more in
    let stops : new.anchors.ends.items ≡ old.anchors.ends.items ++ length (before ++ rows) ∷ [] = ends ∙ ap (λ n. old.anchors.ends.items ++ n ∷ []) count in
    let bound : DoBound 0 (old.anchors.ends.items ++ length (before ++ rows) ∷ []) (length (before ++ rows)) =
    bound_more 0 old.anchors.ends.items (length before) (length (before ++ rows)) built.bound (omega (arith, length-append before rows)) in
    let first : (n : ℕ) → 0 + n ≡ n = zero-add in
    record {
      built = record {
        even = even;
        bound = subst (λ (x : List ℕ × ℕ). DoBound 0 x.0 x.1) (λ i. (sym stops i, ap length (sym more) i)) bound;
        paired = omega (arith, ap length urls, ap length ends, length-append old.urls.items (url ∷ []), length-append old.anchors.ends.items (length new.anchors.indices.items ∷ []), built.paired);
      };
      kept = (λ i. led_from 0 (stops i) (urls i) (more i))
          ∙ ap (λ n. led_from 0 (old.anchors.ends.items ++ n ∷ []) (old.urls.items ++ url ∷ []) (before ++ rows)) (sym (first (length (before ++ rows))))
          ∙ led_more 0 old.anchors.ends.items old.urls.items before url rows (subst (DoBound 0 old.anchors.ends.items) (sym (first (length before))) built.bound) built.paired;
    }

no_rows : (rows : List Link) → length rows ≡ 0 → rows ≡ []
no_rows [] none = refl
no_rows (r ∷ rows) none = absurd (omega (arith, none))

pub target_same : (old new : AnchorTargets) (url : List ℕ) (rows : List Link) → IsBuilt old → IsEven new.anchors → rows_of new.anchors ≡ rows_of old.anchors ++ rows
    → new.anchors.ends.items ≡ old.anchors.ends.items → new.urls.items ≡ old.urls.items → length new.anchors.indices.items ≤ length old.anchors.indices.items → IsMore old new url rows
target_same old new url rows built even more ends urls few =
    let before : List Link = rows_of old.anchors in
    let one = length-rows new.anchors.fragments new.anchors.indices.items even in
    let two = length-rows old.anchors.fragments old.anchors.indices.items built.even in
    let none : rows ≡ [] = no_rows rows (omega (arith, one, two, ap length more, length-append before rows, few)) in
    let same : rows_of new.anchors ≡ before = more ∙ ap (λ l. before ++ l) none ∙ append-nil before in
    record {
      built = record {
        even = even;
        bound = subst (λ (x : List ℕ × ℕ). DoBound 0 x.0 x.1) (λ i. (sym ends i, ap length (sym same) i)) built.bound;
        paired = ap length urls ∙ built.paired ∙ ap length (sym ends);
      };
      kept = (λ i. led_from 0 (ends i) (urls i) (same i)) ∙ sym (append-nil (kept_of old)) ∙ ap (λ l. kept_of old ++ led url l) (sym none);
    }

-- the same links in other memory
pub shrunk : (old new : AnchorTargets) → new.anchors.fragments ≡ old.anchors.fragments → new.anchors.indices.items ≡ old.anchors.indices.items → new.anchors.ends.items ≡ old.anchors.ends.items → new.urls.items ≡ old.urls.items → IsBuilt old
    → IsBuilt new × (kept_of new ≡ kept_of old)
shrunk old new fragments indices ends urls built =
    let rows : rows_of new.anchors ≡ rows_of old.anchors = λ i. links_with (fragments i) (indices i) in (
      record {
        even = ap length fragments ∙ built.even ∙ ap length (sym indices);
        bound = subst (λ (x : List ℕ × ℕ). DoBound 0 x.0 x.1) (λ i. (sym ends i, ap length (sym rows) i)) built.bound;
        paired = ap length urls ∙ built.paired ∙ ap length (sym ends);
      },
      λ i. led_from 0 (ends i) (urls i) (rows i),
    )

-- ---- a run of links to one target

pub run_led : (values ids : List (List ℕ)) (urls : List (Option (List ℕ))) (page : List ℕ) (target : ℕ) (url : List ℕ) (run : List MarkedLink) → get_or urls target None ≡ Some url → All (λ (link : MarkedLink). link.target ≡ target) run
    → flat_map (kept_link values ids urls page) run ≡ led url (flat_map (row_of values (bytes_eq url page) ids) run)
run_led values ids urls page target url [] is same = refl
run_led values ids urls page target url (x ∷ xs) is same =
    let here : kept_link values ids urls page x ≡ led url (row_of values (bytes_eq url page) ids x) =
    ap (λ t. led_to values ids page x (get_or urls t None)) (All-head (λ (link : MarkedLink). link.target ≡ target) x xs same) ∙ ap (led_to values ids page x) is in
    (λ i. here i ++ run_led values ids urls page target url xs is (All-tail (λ (link : MarkedLink). link.target ≡ target) x xs same) i)
    ∙ sym (led_append url (row_of values (bytes_eq url page) ids x) (flat_map (row_of values (bytes_eq url page) ids) xs))

pub run_lost : (values ids : List (List ℕ)) (urls : List (Option (List ℕ))) (page : List ℕ) (target : ℕ) (run : List MarkedLink) → get_or urls target None ≡ None → All (λ (link : MarkedLink). link.target ≡ target) run
    → flat_map (kept_link values ids urls page) run ≡ []
run_lost values ids urls page target [] is same = refl
run_lost values ids urls page target (x ∷ xs) is same =
    let here : kept_link values ids urls page x ≡ [] =
    ap (λ t. led_to values ids page x (get_or urls t None)) (All-head (λ (link : MarkedLink). link.target ≡ target) x xs same) ∙ ap (led_to values ids page x) is in
    (λ i. here i ++ run_lost values ids urls page target xs is (All-tail (λ (link : MarkedLink). link.target ≡ target) x xs same) i)

-- the links of a run have the same target
pub run_same : (target : ℕ) (links : List MarkedLink) → All (λ (link : MarkedLink). link.target ≡ target) (take (prefix_len (λ (link : MarkedLink). link.target == target) links) links)
run_same target [] = All-nil (λ (link : MarkedLink). link.target ≡ target)
run_same target (x ∷ xs) =
    let P = λ (link : MarkedLink). link.target ≡ target in
    let n : ℕ = prefix_len (λ (link : MarkedLink). link.target == target) xs in
    let next : (b : Bool) → (x.target == target) ≡ b → All (λ (link : MarkedLink). link.target ≡ target) (take (cond b (1 + n) 0) (x ∷ xs)) =
    λ b. elim b as (λ b. (x.target == target) ≡ b → All (λ (link : MarkedLink). link.target ≡ target) (take (cond b (1 + n) 0) (x ∷ xs))) [
      | true ↦ λ is. subst (λ m. All (λ (link : MarkedLink). link.target ≡ target) (take m (x ∷ xs))) (one_more n) (All-cons P x (take n xs) (eqb-true x.target target is) (run_same target xs))
      | false ↦ λ is. All-nil P
    ] in
    next (x.target == target) refl
  where
    one_more : (n : ℕ) → suc n ≡ 1 + n
    one_more n = omega arith

pub run_some : (target : ℕ) (links : List MarkedLink) (first : MarkedLink) → slice_get links 0 ≡ Some first → first.target ≡ target → 0 < prefix_len (λ (link : MarkedLink). link.target == target) links
run_some target [] first is same = absurd (cc)
run_some target (x ∷ xs) first is same =
    let own : x.target ≡ target = ap (λ (link : MarkedLink). link.target) (same_Some x first is) ∙ same in
    omega (arith, cond-true {A = ℕ} (x.target == target) (1 + prefix_len (λ (link : MarkedLink). link.target == target) xs) 0 (eq-eqb x.target target own))

pub passed : {X : Type 0} (keeps : MarkedLink → List X) (rest run more : List MarkedLink) (before now all : List X) → run ++ more ≡ rest → now ≡ before ++ flat_map keeps run → before ++ flat_map keeps rest ≡ all → now ++ flat_map keeps more ≡ all
passed keeps rest run more before now all split wrote so_far =
    ap (λ l. l ++ flat_map keeps more) wrote ∙ append_assoc before (flat_map keeps run) (flat_map keeps more)
    ∙ ap (λ l. before ++ l) (sym (flat_map-append keeps run more) ∙ ap (flat_map keeps) split) ∙ so_far
