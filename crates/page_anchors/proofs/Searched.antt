-- A binary search among ids that ascend.
use Rattle.page_anchors.proofs.Prelude.{◌≡◌, ◌∙◌, ℕ, ◌+◌, ◌<◌, ◌≤◌, true, false, List, [], length, get_or, inl, inr, sym, ap, arith, cases_lt, get_or_default, searchable_from_sorted, slice_cmp, nat_list_cmp_total, is_eq, is_lt, nat_cmp, ordering_index, has_id, DoAscend}
use Rattle.std.proofs.lemmas.List.Folds.{list_any_at, list_any_none}
use Rattle.std.proofs.lemmas.Map.Text.{is_eq-slice_cmp}
use Rattle.std.specs.Str.{bytes_eq}
use Rattle.std.specs.declared.cmp.Ordering.{Ordering}
use Rattle.std.specs.declared.cmp.Ordering.TheVariants.{Less, Greater}

-- the ids before the bounds are less than the text, and those after them greater
pub record IsBetween (ids : List (List ℕ)) (text : List ℕ) (low high : ℕ) : Type 0 where
  pub up : low ≤ high
  pub within : high ≤ length ids
  pub below : DoAscend ids → (k : ℕ) (d : List ℕ) → k < low → slice_cmp nat_cmp (get_or ids k d) text ≡ Less
  pub above : DoAscend ids → (k : ℕ) (d : List ℕ) → high ≤ k → k < length ids → slice_cmp nat_cmp (get_or ids k d) text ≡ Greater

least : (o : Ordering) → ordering_index o ≤ 0 → o ≡ Less
least o few = grind arith

greatest : (o : Ordering) → 2 ≤ ordering_index o → o ≡ Greater
greatest o many = grind arith

rises : (ids : List (List ℕ)) (text : List ℕ) → DoAscend ids → (i j : ℕ) (d : List ℕ) → i ≤ j → j < length ids →
    ordering_index (slice_cmp nat_cmp (get_or ids i d) text) ≤ ordering_index (slice_cmp nat_cmp (get_or ids j d) text)
rises ids text ascend = searchable_from_sorted nat_list_cmp_total (λ (id : List ℕ). id) ids text ascend

if_less : (o : Ordering) → is_lt o ≡ true → o ≡ Less
if_less o is = grind arith

if_greater : (o : Ordering) → is_eq o ≡ false → is_lt o ≡ false → o ≡ Greater
if_greater o other not_less = grind arith

pub half_after : (ids : List (List ℕ)) (text id : List ℕ) (low middle high : ℕ) → IsBetween ids text low high → middle < high → id ≡ get_or ids middle [] → is_lt (slice_cmp nat_cmp id text) ≡ true →
    IsBetween ids text (middle + 1) high
half_after ids text id low middle high between below is less =
    let here : middle < length ids = omega (arith, between.within, below) in
    let order : slice_cmp nat_cmp (get_or ids middle []) text ≡ Less = (λ i. slice_cmp nat_cmp (sym is i) text) ∙ if_less (slice_cmp nat_cmp id text) less in
    record {
      up = omega (arith, below);
      within = between.within;
      below = λ ascend k d before.
          let at_middle : slice_cmp nat_cmp (get_or ids middle d) text ≡ Less = (λ i. slice_cmp nat_cmp (get_or_default ids middle d [] here i) text) ∙ order in
          least (slice_cmp nat_cmp (get_or ids k d) text) (omega (arith, rises ids text ascend k middle d (omega (arith, before)) here, ap ordering_index at_middle));
      above = between.above;
    }

pub half_before : (ids : List (List ℕ)) (text id : List ℕ) (low middle high : ℕ) → IsBetween ids text low high → low ≤ middle → middle < high → id ≡ get_or ids middle [] →
    is_eq (slice_cmp nat_cmp id text) ≡ false → is_lt (slice_cmp nat_cmp id text) ≡ false → IsBetween ids text low middle
half_before ids text id low middle high between from below is other not_less =
    let here : middle < length ids = omega (arith, between.within, below) in
    let order : slice_cmp nat_cmp (get_or ids middle []) text ≡ Greater = (λ i. slice_cmp nat_cmp (sym is i) text) ∙ if_greater (slice_cmp nat_cmp id text) other not_less in
    record {
      up = from;
      within = omega (arith, here);
      below = between.below;
      above = λ ascend k d following inside.
          let at_middle : slice_cmp nat_cmp (get_or ids middle d) text ≡ Greater = (λ i. slice_cmp nat_cmp (get_or_default ids middle d [] here i) text) ∙ order in
          greatest (slice_cmp nat_cmp (get_or ids k d) text) (omega (arith, rises ids text ascend middle k d following inside, ap ordering_index at_middle));
    }

pub found_at : (ids : List (List ℕ)) (text id : List ℕ) (k : ℕ) → k < length ids → id ≡ get_or ids k [] → is_eq (slice_cmp nat_cmp id text) ≡ true → true ≡ has_id ids text
found_at ids text id k below is equal = grind (arith, is_eq-slice_cmp, list_any_at)

pub none_found : (ids : List (List ℕ)) (text : List ℕ) (low high : ℕ) → IsBetween ids text low high → high ≤ low → DoAscend ids → false ≡ has_id ids text
none_found ids text low high between over ascend =
    sym (list_any_none (λ x. bytes_eq x text) ids (λ k d below.
    sym (is_eq-slice_cmp (get_or ids k d) text) ∙ elim (cases_lt k low) [
      | inl before ↦ ap is_eq (between.below ascend k d before)
      | inr following ↦ ap is_eq (between.above ascend k d (omega (arith, over, following)) below)
    ]))
