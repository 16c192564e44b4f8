-- The rows of missing anchors are those of the links to them.
use Rattle.site_check.proofs.Prelude.{◌≡◌, ◌∙◌, ℕ, suc, ◌+◌, ◌<◌, ◌≤◌, Bool, true, false, List, [], ◌∷◌, ◌++◌, length, length-append, map, drop, take, take-append-drop, get_or, Option, Some, None, refl, sym, ap, subst, inl, inr, arith, append_assoc, cases_Bool, cond-true, cond-false, ◌&&◌, flat_map, Lead}
use Rattle.std.proofs.Math.Seq.{drop-append_seam}
use Rattle.std.proofs.Common.{◌==◌, add-one, append-nil, drop-cons, length-drop, take_while}
use Rattle.std.proofs.lemmas.Bool.{and_parts}
use Rattle.std.proofs.lemmas.List.{drop_all, length-map, map-append}
use Rattle.std.proofs.lemmas.List.Concat.{flat_map-append}
use Rattle.std.proofs.lemmas.List.Elements.{All-cons, All-head, All-map, All-nil, All-push, All-weaker}
use Rattle.std.proofs.lemmas.Slice.Eq.{bytes_eq-Decides}
use Rattle.std.proofs.lemmas.List.Folds.{length-prefix_len}
use Rattle.std.specs.List.{All, prefix_len}
use Rattle.std.specs.Str.{bytes_eq}
use Rattle.std.specs.Prelude.{if◌then◌else◌}
use Rattle.site_check.proofs.Placed.{cut_off, passing}
use Rattle.site_check.specs.AnchorGroups.{AreApart, AreGrouped, Group, IsFirstAnchor, IsGroup, anchor_at, group_leads, group_of, group_row, leads_from, leads_to, one_unless, source_count, sources_after}
use Rattle.site_check.specs.Broken.{Row}
use Rattle.site_check.specs.LackedLinks.{lack_of}
use Rattle.site_check.specs.Lacks.{Anchor, Lack, anchor_of}
use Rattle.site_check.specs.declared.missing_anchors.AnchorLinks.{AnchorLinks}
use Rattle.site_check.specs.declared.missing_anchors.MissingAnchorLink.{MissingAnchorLink}

-- ---- one group more

leads_after : (front : List ℕ) (entries : List (List ℕ)) (n : ℕ) (xs ys : List Group) → leads_from front entries n (xs ++ ys) ≡ leads_from front entries n xs ++ leads_from front entries (n + length xs) ys
leads_after front entries n [] ys = ap (λ k. leads_from front entries k ys) (omega arith)
leads_after front entries n (x ∷ xs) ys =
    let here : List Lead = group_leads front entries n x in
    let place : (n + 1) + length xs ≡ n + length (x ∷ xs) = omega arith in
    ap (λ l. here ++ l) (leads_after front entries (n + 1) xs ys)
    ∙ sym (append_assoc here (leads_from front entries (n + 1) xs) (leads_from front entries ((n + 1) + length xs) ys))
    ∙ ap (λ k. (here ++ leads_from front entries (n + 1) xs) ++ leads_from front entries k ys) place

pub no_groups : (front : List ℕ) (entries : List (List ℕ)) (leads : List Lead) → AreGrouped front entries [] [] leads leads
no_groups front entries leads = record { groups = []; are = All-nil IsGroup; apart = tt; split = refl; exact = refl; leads = sym (append-nil leads) }

-- the last of some groups is of another anchor
abbrev pub IsOtherThanLast : List Group → Anchor → Type 0
IsOtherThanLast [] anchor = Unit {0}
IsOtherThanLast (group ∷ []) anchor = group.anchor ≡ anchor → ⊥
IsOtherThanLast (group ∷ next ∷ more) anchor = IsOtherThanLast (next ∷ more) anchor

apart_more : (groups : List Group) (group : Group) → AreApart groups → IsOtherThanLast groups group.anchor → AreApart (groups ++ group ∷ [])
apart_more [] group apart other = tt
apart_more (g ∷ []) group apart other = (other, tt)
apart_more (g ∷ h ∷ more) group apart other = (apart.0, apart_more (h ∷ more) group apart.1 other)

last_more : (groups : List Group) (group : Group) (anchor : Anchor) → (group.anchor ≡ anchor → ⊥) → IsOtherThanLast (groups ++ group ∷ []) anchor
last_more [] group anchor other = other
last_more (g ∷ []) group anchor other = other
last_more (g ∷ h ∷ more) group anchor other = last_more (h ∷ more) group anchor other

pub group_more : (front : List ℕ) (entries : List (List ℕ)) (lacks : List Lack) (rows : List Row) (old before after : List Lead) (group : Group) (row : Row) (number : ℕ) → (are : AreGrouped front entries lacks rows old before) → IsGroup group → IsOtherThanLast are.groups group.anchor →
    row ≡ group_row front group → number ≡ length rows → after ≡ before ++ group_leads front entries number group → AreGrouped front entries (lacks ++ group.lacks) (rows ++ row ∷ []) old after
group_more front entries lacks rows old before after group row number are is other row_is counted added =
    let groups = are.groups in
    let same : number ≡ 0 + length groups = omega (arith, counted, ap length are.exact, length-map groups (group_row front)) in
    record {
      groups = groups ++ group ∷ [];
      are = All-push IsGroup groups group are.are is;
      apart = apart_more groups group are.apart other;
      split =
          ap (λ (l : List Lack). l ++ group.lacks) are.split ∙ ap (λ (l : List Lack). flat_map (λ (g : Group). g.lacks) groups ++ l) (sym (append-nil group.lacks))
          ∙ sym (flat_map-append (λ (g : Group). g.lacks) groups (group ∷ []));
      exact = (λ i. are.exact i ++ row_is i ∷ []) ∙ sym (map-append (group_row front) groups (group ∷ []));
      leads =
          added ∙ (λ i. are.leads i ++ group_leads front entries (same i) group)
          ∙ append_assoc old (leads_from front entries 0 groups) (group_leads front entries (0 + length groups) group)
          ∙ ap (λ (l : List Lead). old ++ (leads_from front entries 0 groups ++ l)) (sym (append-nil (group_leads front entries (0 + length groups) group)))
          ∙ ap (λ (l : List Lead). old ++ l) (sym (leads_after front entries 0 groups (group ∷ [])));
    }

-- the groups of the links before this index
pub record HasGrouped (front : List ℕ) (entries : List (List ℕ)) (links : List MissingAnchorLink) (begin : ℕ) (rows : List Row) (old new : List Lead) : Type 0 where
  pub done : List MissingAnchorLink
  pub left : List MissingAnchorLink
  pub split : links ≡ done ++ left
  pub count : begin ≡ length done
  pub are : AreGrouped front entries (map lack_of done) rows old new
  pub next : (link : MissingAnchorLink) (rest : List MissingAnchorLink) → left ≡ link ∷ rest → IsOtherThanLast are.groups (anchor_of (lack_of link))

pub grouped_none : (front : List ℕ) (entries : List (List ℕ)) (links : List MissingAnchorLink) (leads : List Lead) → HasGrouped front entries links 0 [] leads leads
unfolding no_groups
grouped_none front entries links leads = record { done = []; left = links; split = refl; count = refl; are = no_groups front entries leads; next = λ link rest is. tt }

pub grouped_within : (front : List ℕ) (entries : List (List ℕ)) (links : List MissingAnchorLink) (begin : ℕ) (rows : List Row) (old new : List Lead) → HasGrouped front entries links begin rows old new → begin ≤ length links
grouped_within front entries links begin rows old new has = omega (arith, has.count, ap length has.split, length-append has.done has.left)

left_is : (links done left : List MissingAnchorLink) (begin : ℕ) → links ≡ done ++ left → begin ≡ length done → drop begin links ≡ left
left_is links done left begin split count = (λ i. drop (count i) (split i)) ∙ drop-append_seam done left

-- what is split off fits
pub grouped_fits : (front : List ℕ) (entries : List (List ℕ)) (links left : List MissingAnchorLink) (begin : ℕ) (rows : List Row) (old new : List Lead) (first : AnchorLinks) → HasGrouped front entries links begin rows old new → left ≡ drop begin links →
    IsFirstAnchor left first → (begin + length first.own.now ≤ length links) × (begin < begin + length first.own.now)
grouped_fits front entries links left begin rows old new first has back is =
    let own_left : left ≡ has.left = back ∙ left_is links has.done has.left begin has.split has.count in
    let some : 0 < length first.own.now = omega (arith, is.own.some, length-map first.own.now lack_of) in
    (omega (arith, has.count, ap length has.split, length-append has.done has.left, ap length own_left, ap length is.split, length-append first.own.now first.more.now), omega (arith, some))

-- the first of the links that are split off
record FirstOf (first : AnchorLinks) : Type 0 where
  link : MissingAnchorLink
  rest : List MissingAnchorLink
  are : first.own.now ≡ link ∷ rest
  leads : anchor_of (lack_of link) ≡ anchor_at first.anchor

first_in : (anchor : Anchor) (own : List MissingAnchorLink) → 0 < length own → All (λ lack. anchor_of lack ≡ anchor) (map lack_of own) → (link : MissingAnchorLink) × (rest : List MissingAnchorLink) × (own ≡ link ∷ rest) × (anchor_of (lack_of link) ≡ anchor)
first_in anchor [] some each = absurd (omega (arith, some))
first_in anchor (x ∷ xs) some each = (x, xs, refl, All-head (λ (lack : Lack). anchor_of lack ≡ anchor) (lack_of x) (map lack_of xs) each)

first_of : (left : List MissingAnchorLink) (first : AnchorLinks) → IsFirstAnchor left first → FirstOf first
first_of left first is =
    let own = first_in (anchor_at first.anchor) first.own.now (omega (arith, is.own.some, length-map first.own.now lack_of)) is.own.each in
    record { link = own.0; rest = own.1; are = own.2; leads = own.3 }

pub grouped_more : (front : List ℕ) (entries : List (List ℕ)) (links left : List MissingAnchorLink) (begin next : ℕ) (rows : List Row) (old before after : List Lead) (first : AnchorLinks) (row : Row) (number : ℕ) →
    HasGrouped front entries links begin rows old before → left ≡ drop begin links → IsFirstAnchor left first → next ≡ begin + length first.own.now → row ≡ group_row front (group_of first) → number ≡ length rows →
    after ≡ before ++ group_leads front entries number (group_of first) → HasGrouped front entries links next (rows ++ row ∷ []) old after
unfolding group_more
grouped_more front entries links left begin next rows old before after first row number has back is next_is row_is counted added =
    let own_left : has.left ≡ first.own.now ++ first.more.now = sym (left_is links has.done has.left begin has.split has.count) ∙ sym back ∙ is.split in
    let one = first_of left first is in
    let other : IsOtherThanLast has.are.groups (anchor_at first.anchor) =
    subst (IsOtherThanLast has.are.groups) one.leads (has.next one.link (one.rest ++ first.more.now) (own_left ∙ ap (λ (l : List MissingAnchorLink). l ++ first.more.now) one.are)) in
    let grown = group_more front entries (map lack_of has.done) rows old before after (group_of first) row number has.are is.own other row_is counted added in
    record {
      done = has.done ++ first.own.now;
      left = first.more.now;
      split = has.split ∙ ap (λ (l : List MissingAnchorLink). has.done ++ l) own_left ∙ sym (append_assoc has.done first.own.now first.more.now);
      count = omega (arith, next_is, has.count, length-append has.done first.own.now);
      are = record {
        groups = has.are.groups ++ group_of first ∷ [];
        are = grown.are;
        apart = grown.apart;
        split = map-append lack_of has.done first.own.now ∙ grown.split;
        exact = grown.exact;
        leads = grown.leads;
      };
      next = λ link rest is_next. last_more has.are.groups (group_of first) (anchor_of (lack_of link)) (λ same. is.next link rest is_next (sym same));
    }

pub grouped_all : (front : List ℕ) (entries : List (List ℕ)) (links left : List MissingAnchorLink) (begin : ℕ) (rows : List Row) (old new : List Lead) → left ≡ drop begin links → left ≡ [] → HasGrouped front entries links begin rows old new →
    AreGrouped front entries (map lack_of links) rows old new
grouped_all front entries links left begin rows old new back none has =
    let none_left : has.left ≡ [] = sym (left_is links has.done has.left begin has.split has.count) ∙ sym back ∙ none in
    subst (λ (ls : List MissingAnchorLink). AreGrouped front entries (map lack_of ls) rows old new) (sym (has.split ∙ ap (λ (l : List MissingAnchorLink). has.done ++ l) none_left ∙ append-nil has.done)) has.are

-- ---- the first group

led : (anchor : Anchor) (link : MissingAnchorLink) → leads_to anchor link ≡ true → anchor_of (lack_of link) ≡ anchor
led anchor link is =
    let parts = and_parts (bytes_eq link.anchor.url.now anchor.url) (bytes_eq link.anchor.fragment.now anchor.fragment) is in
    let url = (bytes_eq-Decides link.anchor.url.now anchor.url).0 parts.0 in
    let fragment = (bytes_eq-Decides link.anchor.fragment.now anchor.fragment).0 parts.1 in
    λ i. record { url = url i; fragment = fragment i }

nil_cons : {X : Type 0} (x : X) (xs : List X) → [] ≡ x ∷ xs → ⊥
nil_cons x xs is = cc

heads_same : {X : Type 0} (x y : X) (xs ys : List X) → x ∷ xs ≡ y ∷ ys → x ≡ y
heads_same x y xs ys is = cc

-- the first that does not pass
past_len : {X : Type 0} (p : X → Bool) (xs : List X) (x : X) (rest : List X) → drop (prefix_len p xs) xs ≡ x ∷ rest → p x ≡ false
past_len p [] x rest is = absurd (nil_cons x rest is)
past_len p (y ∷ ys) x rest is =
    elim (cases_Bool (p y)) [
      | inl passes ↦
          let at : prefix_len p (y ∷ ys) ≡ suc (prefix_len p ys) = cond-true (p y) (1 + prefix_len p ys) 0 passes ∙ omega arith in
          past_len p ys x rest (ap (λ k. drop k (y ∷ ys)) (sym at) ∙ is)
      | inr fails ↦
          let at : prefix_len p (y ∷ ys) ≡ 0 = cond-false (p y) (1 + prefix_len p ys) 0 fails in
          ap p (sym (heads_same y x ys rest (ap (λ k. drop k (y ∷ ys)) (sym at) ∙ is))) ∙ fails
    ]

past : {X : Type 0} (p : X → Bool) (xs : List X) (x : X) (rest : List X) → drop (length (take_while p xs)) xs ≡ x ∷ rest → p x ≡ false
past p xs x rest is = past_len p xs x rest (ap (λ k. drop k xs) (sym (length-prefix_len p xs)) ∙ is)

not_led : (anchor : Anchor) (link : MissingAnchorLink) → leads_to anchor link ≡ false → anchor_of (lack_of link) ≡ anchor → ⊥
not_led anchor link other same =
    let url = (bytes_eq-Decides link.anchor.url.now anchor.url).1 (ap (λ (a : Anchor). a.url) same) in
    let fragment = (bytes_eq-Decides link.anchor.fragment.now anchor.fragment).1 (ap (λ (a : Anchor). a.fragment) same) in
    let both : leads_to anchor link ≡ true = λ i. url i && fragment i in
    true_false (sym both ∙ other)
  where
    true_false : true ≡ false → ⊥
    true_false is = cc

pub first_group : (links : List MissingAnchorLink) (first : MissingAnchorLink) (following : List MissingAnchorLink) (found : AnchorLinks) (n : ℕ) → links ≡ first ∷ following → found.anchor ≡ first.anchor →
    n ≡ length (take_while (leads_to (anchor_at first.anchor)) following) → found.own.now ≡ take (suc n) links → found.more.now ≡ drop (suc n) links → IsFirstAnchor links found
first_group links first following found n is anchor count own more =
    let test = leads_to (anchor_at first.anchor) in
    let front : found.own.now ≡ first ∷ take_while test following =
    own ∙ ap (take (suc n)) is ∙ ap (λ (l : List MissingAnchorLink). first ∷ l) (ap (λ k. take k following) count ∙ cut_off test following) in
    let same : anchor_at first.anchor ≡ anchor_at found.anchor = ap anchor_at (sym anchor) in
    let passes : All (λ (one : MissingAnchorLink). anchor_of (lack_of one) ≡ anchor_at found.anchor) (take_while test following) =
    All-weaker (λ (one : MissingAnchorLink). test one ≡ true) (λ (one : MissingAnchorLink). anchor_of (lack_of one) ≡ anchor_at found.anchor) (λ one passed. led (anchor_at first.anchor) one passed ∙ same) (take_while test following) (passing test following) in
    let all : All (λ (one : MissingAnchorLink). anchor_of (lack_of one) ≡ anchor_at found.anchor) found.own.now =
    subst (All (λ (one : MissingAnchorLink). anchor_of (lack_of one) ≡ anchor_at found.anchor)) (sym front) (All-cons (λ (one : MissingAnchorLink). anchor_of (lack_of one) ≡ anchor_at found.anchor) first (take_while test following) same passes) in
    record {
      split = sym ((λ i. own i ++ more i) ∙ take-append-drop (suc n) links);
      own = record {
        some = omega (arith, length-map found.own.now lack_of, ap length front);
        each = All-map (λ (lack : Lack). anchor_of lack ≡ anchor_at found.anchor) lack_of found.own.now all;
      };
      next = λ link rest is_next.
          not_led (anchor_at found.anchor) link
          (subst (λ (a : Anchor). leads_to a link ≡ false) same
          (past test following link rest (ap (λ k. drop k following) (sym count) ∙ (sym (ap (drop (suc n)) is) ∙ sym more) ∙ is_next)));
      less = omega (arith, ap length more, length-drop (suc n) links, ap length is);
    }

-- ---- the number of results

abbrev pub sources_next : Option ℕ → List Lack → ℕ
sources_next None lacks = source_count lacks
sources_next (Some last) lacks = sources_after last lacks

next_source : (last : Option ℕ) (lack : Lack) (more : List Lack) → sources_next last (lack ∷ more) ≡ one_unless last lack.source + sources_next (Some lack.source) more
next_source None lack more = refl
next_source (Some last) lack more = refl

pub source_more : (links : List MissingAnchorLink) (i : ℕ) (link : MissingAnchorLink) (last : Option ℕ) (count next all : ℕ) → i < length links → link ≡ get_or links i link → next ≡ count + one_unless last link.source →
    count + sources_next last (map lack_of (drop i links)) ≡ all → next + sources_next (Some link.source) (map lack_of (drop (i + 1) links)) ≡ all
source_more links i link last count next all below is added before =
    let here : map lack_of (drop i links) ≡ lack_of link ∷ map lack_of (drop (i + 1) links) =
    ap (map lack_of) (drop-cons links i link below) ∙ ap (λ (l : MissingAnchorLink). lack_of l ∷ map lack_of (drop (suc i) links)) (sym is) ∙ ap (λ n. lack_of link ∷ map lack_of (drop n links)) (sym (add-one i)) in
    let split : sources_next last (map lack_of (drop i links)) ≡ one_unless last link.source + sources_next (Some link.source) (map lack_of (drop (i + 1) links)) =
    ap (sources_next last) here ∙ next_source last (lack_of link) (map lack_of (drop (i + 1) links)) in
    omega (arith, added, before, split)

one_or_none : (b : Bool) → (if b then 0 else 1) ≤ 1
one_or_none true = omega arith
one_or_none false = omega arith

pub one_more : (last : Option ℕ) (source count next i : ℕ) → next ≡ count + one_unless last source → count ≤ i → next ≤ i + 1
one_more None source count next i added below = omega (arith, added, below)
one_more (Some last) source count next i added below = omega (arith, added, below, one_or_none (last == source))

no_source : (last : Option ℕ) → sources_next last [] ≡ 0
no_source None = refl
no_source (Some last) = refl

pub source_end : (links : List MissingAnchorLink) (i : ℕ) (last : Option ℕ) (count all : ℕ) → length links ≤ i → count + sources_next last (map lack_of (drop i links)) ≡ all → count ≡ all
source_end links i last count all past before =
    let none : sources_next last (map lack_of (drop i links)) ≡ 0 = ap (λ (l : List MissingAnchorLink). sources_next last (map lack_of l)) (drop_all i links past) ∙ no_source last in
    omega (arith, none, before)
