-- The links to anchors that are kept are those of the document.
use Rattle.document_links.proofs.Prelude.{◌≡◌, ◌∙◌, ◌||◌, ◌==◌, ℕ, ◌+◌, ◌-◌, ◌<◌, ◌≤◌, Bool, true, false, List, [], ◌∷◌, Option, Some, None, Result, length, take, drop, get_or, refl, sym, ap, subst, arith, and_parts, length-drop, length-take, clean, fits}
use Rattle.std.proofs.Common.{◌&&◌, zero, suc, Ok, Err, zero-add, ⊎_elim}
use Rattle.std.specs.Prelude.{IsPermutation, IsSomeAnd, bytes_eq, flat_map, slice_get, if◌then◌else◌}
use Rattle.std.specs.Str.{is_utf8}
use Rattle.std.specs.List.{Contains}
use Rattle.std.specs.Result.{result_ok}
use Rattle.std.proofs.lemmas.Bool.{eqb-true}
use Rattle.std.proofs.lemmas.List.{get_or-drop, get_or-take}
use Rattle.std.proofs.lemmas.List.Elements.{All-contains, Contains-append_cases, Contains-append_left, Contains-append_right, Contains-push_cases}
use Rattle.std.proofs.lemmas.List.Folds.{Any-from_list_any}
use Rattle.std.proofs.lemmas.List.Sorted.{list_any-IsPermutation}
use Rattle.std.proofs.lemmas.Option.{get_or_from_slice_get, same_Some, slice_get-get_or, slice_get_within}
use Rattle.page_anchors.specs.Ids.{DoBound}
use Rattle.page_anchors.specs.Indicated as anchor
use Rattle.crawl_keys.specs.CanonicalText.{resolve}
use Rattle.document_links.specs.declared.anchor_targets.AnchorTargets.{AnchorTargets}
use Rattle.html_links.specs.Links.{base_of, ids_of}
use Rattle.document_links.specs.declared.charset.Charset.{Charset}
use Rattle.document_links.specs.declared.charset.Charset.TheVariants.{Utf8}
use Rattle.document_links.specs.declared.document.ReadOptions.{ReadOptions}
use Rattle.document_links.specs.declared.text_kind.TextKind.TheVariants.{Document}
use Rattle.document_links.specs.Encoding.{charset_of, has_mark, is_known, read_links_of}
use Rattle.document_links.specs.declared.marked_links.MarkedLink.{MarkedLink}
use Rattle.document_links.specs.declared.page_base.PageBase.{PageBase}
use Rattle.document_links.specs.declared.targets.Targets.{Targets}
use Rattle.document_links.specs.Anchors.{Link, end_of}
use Rattle.document_links.specs.KeptAnchors.{AreAnchorsOf, HasIds, IsAnchorLink, IsKept, IsRead, IsReadIn, KeepsLinks, fragment_of, index_of, is_readable, is_within, marked}
use Rattle.document_links.specs.Keeping.{AreKept, AreMarked, IsBuilt, IsMarked, kept_link, kept_of, led, led_from, led_to, parsed, row_of, rows_of, rows_unless, sign_of}
use Rattle.document_links.specs.Written.{has_no_base, keeps_query}
use Rattle.document_links.proofs.Fragments.{fragment_is, marked_is, resolve_marked, signed}
use Rattle.document_links.proofs.Rows.{begin_above, begin_first, begin_from, begin_next, bound_within}

-- ---- the ids in another order

pub indicated_same : (ids kept : List (List ℕ)) (fragment : List ℕ) → IsPermutation ids kept → anchor.is_indicated kept fragment ≡ anchor.is_indicated ids fragment
indicated_same ids kept fragment order =
    let front = anchor.before_directive fragment in
    let own = anchor.fragment_of front in
    let decoded = anchor.decoded_of own in
    let same : (text : List ℕ) → anchor.has_id kept text ≡ anchor.has_id ids text = λ text. sym (list_any-IsPermutation (λ id. bytes_eq id text) ids kept order) in
    λ i. if length front == 0 then true else (if same own i then true else (if same decoded i then true else (anchor.is_top decoded || anchor.is_route decoded)))

-- ---- elements of lists

no_member : {X : Type 0} (x : X) → Contains [] x → ⊥
no_member x in_list = absurd (omega (arith, in_list.1))

member : {X : Type 0} (x : X) → Contains (x ∷ []) x
member x = (0, omega arith, refl)

only : {X : Type 0} (y x : X) → Contains (y ∷ []) x → y ≡ x
only y x in_list = ⊎_elim (λ none. absurd (no_member x none)) (λ same. same) (Contains-push_cases [] y x in_list)

record From {X Y : Type 0} (gives : X → List Y) (xs : List X) (y : Y) : Type 0 where
  item : X
  in_list : Contains xs item
  given : Contains (gives item) y

found_in : {X Y : Type 0} (gives : X → List Y) (xs : List X) (y : Y) → Contains (flat_map gives xs) y → From gives xs y
found_in gives [] y in_list = absurd (no_member y in_list)
found_in gives (x ∷ xs) y in_list =
    ⊎_elim
    (λ here. record { item = x; in_list = Contains-append_left (x ∷ []) xs x (member x); given = here })
    (λ there. let later = found_in gives xs y there in record { item = later.item; in_list = Contains-append_right (x ∷ []) xs later.item later.in_list; given = later.given })
    (Contains-append_cases (gives x) (flat_map gives xs) y in_list)

put_in : {X Y : Type 0} (gives : X → List Y) (xs : List X) (x : X) (y : Y) → Contains xs x → Contains (gives x) y → Contains (flat_map gives xs) y
put_in gives [] x y in_list given = absurd (no_member x in_list)
put_in gives (first ∷ xs) x y in_list given =
    ⊎_elim
    (λ here. Contains-append_left (gives first) (flat_map gives xs) y (subst (λ z. Contains (gives z) y) (sym (only first x here)) given))
    (λ there. Contains-append_right (gives first) (flat_map gives xs) y (put_in gives xs x y there given))
    (Contains-append_cases (first ∷ []) xs x in_list)

-- ---- links with the URL of their target

led_parts : (url other : List ℕ) (rows : List Link) (row : Link) → Contains (led url rows) (other, row) → (url ≡ other) × Contains rows row
led_parts url other [] row in_list = absurd (no_member (other, row) in_list)
led_parts url other (first ∷ rows) row in_list =
    ⊎_elim
    (λ here. let same = only (url, first) (other, row) here in
    (ap (λ (p : List ℕ × Link). p.0) same, subst (Contains (first ∷ rows)) (ap (λ (p : List ℕ × Link). p.1) same) (Contains-append_left (first ∷ []) rows first (member first))))
    (λ there. let later = led_parts url other rows row there in (later.0, Contains-append_right (first ∷ []) rows row later.1))
    (Contains-append_cases ((url, first) ∷ []) (led url rows) (other, row) in_list)

led_one : (url : List ℕ) (rows : List Link) (row : Link) → Contains rows row → Contains (led url rows) (url, row)
led_one url [] row in_list = absurd (no_member row in_list)
led_one url (first ∷ rows) row in_list =
    ⊎_elim
    (λ here. Contains-append_left ((url, first) ∷ []) (led url rows) (url, row) (subst (λ (r : Link). Contains {X = List ℕ × Link} ((url, first) ∷ []) (url, r)) (only first row here) (member {X = List ℕ × Link} (url, first))))
    (λ there. Contains-append_right ((url, first) ∷ []) (led url rows) (url, row) (led_one url rows row there))
    (Contains-append_cases (first ∷ []) rows row in_list)

-- the link with a number among those between two ends
record IsLed (from : ℕ) (ends : List ℕ) (urls : List (List ℕ)) (rows : List Link) (count : ℕ) (url : List ℕ) (row : Link) : Type 0 where
  target : ℕ
  number : ℕ
  leads : slice_get urls target ≡ Some url
  low : begin_from from ends count target ≤ number
  past : from ≤ number
  high : number < end_of ends count target
  within : number - from < length rows
  is : get_or rows (number - from) row ≡ row

later_row : (from end number : ℕ) (rows : List Link) (row : Link) → from ≤ end → end ≤ number → get_or (drop (end - from) rows) (number - end) row ≡ get_or rows (number - from) row
later_row from end number rows row order past =
    let sum : (end - from) + (number - end) ≡ number - from = omega (arith, order, past) in
    get_or-drop (end - from) rows (number - end) row ∙ ap (λ n. get_or rows n row) sum

led_in : (from : ℕ) (ends : List ℕ) (urls : List (List ℕ)) (rows : List Link) (count target number : ℕ) (url : List ℕ) (row : Link) → DoBound from ends (from + length rows) → length urls ≡ length ends → slice_get urls target ≡ Some url
    → begin_from from ends count target ≤ number → from ≤ number → number < end_of ends count target → number - from < length rows → get_or rows (number - from) row ≡ row → Contains (led_from from ends urls rows) (url, row)
led_in from [] [] rows count target number url row bound paired leads low past high within is = absurd (cc)
led_in from [] (u ∷ us) rows count target number url row bound paired leads low past high within is = absurd (omega (arith, paired))
led_in from (e ∷ es) [] rows count target number url row bound paired leads low past high within is = absurd (omega (arith, paired))
led_in from (e ∷ es) (u ∷ us) rows count zero number url row bound paired leads low past high within is =
    let n : ℕ = e - from in
    let k : ℕ = number - from in
    let below : k < n = omega (arith, high, past) in
    let inside : k < length (take n rows) = omega (arith, length-take n rows, below, within) in
    let here : Contains (take n rows) row = (k, inside, get_or-take n rows k row below ∙ is) in
    Contains-append_left (led u (take n rows)) (led_from e es us (drop n rows)) (url, row) (subst (λ w. Contains (led u (take n rows)) (w, row)) (same_Some u url leads) (led_one u (take n rows) row here))
led_in from (e ∷ es) (u ∷ us) rows count (suc target) number url row bound paired leads low past high within is =
    let n : ℕ = e - from in
    let inside : target < length us = slice_get_within us target url leads in
    let begins : begin_from e es count target ≤ number = subst (λ b. b ≤ number) (begin_next from e es count target) low in
    let above : e ≤ number = omega (arith, begin_above e es (from + length rows) count target bound.1 (omega (arith, inside, paired)), begins) in
    let left : from + length rows ≡ e + length (drop n rows) = omega (arith, length-drop n rows, within, bound.0, above, past) in
    Contains-append_right (led u (take n rows)) (led_from e es us (drop n rows)) (url, row)
    (led_in e es us (drop n rows) count target number url row (subst (DoBound e es) left bound.1) (omega (arith, paired)) leads begins above high
    (omega (arith, left, within, bound.0, above)) (later_row from e number rows row bound.0 above ∙ is))

led_out : (from : ℕ) (ends : List ℕ) (urls : List (List ℕ)) (rows : List Link) (count : ℕ) (url : List ℕ) (row : Link) → DoBound from ends (from + length rows) → length urls ≡ length ends → Contains (led_from from ends urls rows) (url, row)
    → IsLed from ends urls rows count url row
led_out from [] urls rows count url row bound paired in_list = absurd (no_member (url, row) in_list)
led_out from (e ∷ es) [] rows count url row bound paired in_list = absurd (omega (arith, paired))
led_out from (e ∷ es) (u ∷ us) rows count url row bound paired in_list =
    let n : ℕ = e - from in
    ⊎_elim
    (λ (here : Contains (led u (take n rows)) (url, row)).
    let parts = led_parts u url (take n rows) row here in
    let k : ℕ = parts.1.0 in
    let below : k < n = omega (arith, parts.1.1, length-take n rows) in
    let same : from + k - from ≡ k = omega arith in
    let led : IsLed from (e ∷ es) (u ∷ us) rows count url row = record {
      target = 0;
      number = from + k;
      leads = ap Some parts.0;
      low = omega arith;
      past = omega arith;
      high = omega (arith, below);
      within = omega (arith, parts.1.1, length-take n rows);
      is = ap (λ m. get_or rows m row) same ∙ sym (get_or-take n rows k row below) ∙ parts.1.2;
    } in
    led)
    (λ (there : Contains (led_from e es us (drop n rows)) (url, row)).
    let count_left : e ≤ from + length rows = bound_within e es (from + length rows) bound.1 in
    let left : from + length rows ≡ e + length (drop n rows) = omega (arith, length-drop n rows, count_left, bound.0) in
    let later = led_out e es us (drop n rows) count url row (subst (DoBound e es) left bound.1) (omega (arith, paired)) there in
    let led : IsLed from (e ∷ es) (u ∷ us) rows count url row = record {
      target = suc later.target;
      number = later.number;
      leads = later.leads;
      low = subst (λ b. b ≤ later.number) (sym (begin_next from e es count later.target)) later.low;
      past = omega (arith, bound.0, later.past);
      high = later.high;
      within = omega (arith, left, later.within, bound.0, later.past);
      is = sym (later_row from e later.number rows row bound.0 later.past) ∙ later.is;
    } in
    led)
    (Contains-append_cases (led u (take n rows)) (led_from e es us (drop n rows)) (url, row) in_list)

no_offset : (n : ℕ) → n - 0 ≡ n
no_offset n = omega arith

from_zero : (kept : AnchorTargets) → IsBuilt kept → DoBound 0 kept.anchors.ends.items (0 + length (rows_of kept.anchors))
from_zero kept built = subst (DoBound 0 kept.anchors.ends.items) (sym (zero-add (length (rows_of kept.anchors)))) built.bound

pub kept_in : (kept : AnchorTargets) (url fragment : List ℕ) (index : Option ℕ) → IsBuilt kept → IsKept kept url fragment index → Contains (kept_of kept) (url, record { fragment = fragment; index = index })
kept_in kept url fragment index built is =
    let rows : List Link = rows_of kept.anchors in
    let row : Link = record { fragment = fragment; index = index } in
    let count : ℕ = length kept.anchors.indices.items in
    led_in 0 kept.anchors.ends.items kept.urls.items rows count is.target is.link.number url row (from_zero kept built) built.paired is.leads
    (subst (λ b. b ≤ is.link.number) (sym (begin_first kept.anchors.ends.items count is.target)) is.link.from) (omega arith) is.link.before
    (omega (arith, slice_get_within rows is.link.number row is.link.is))
    (ap (λ n. get_or rows n row) (no_offset is.link.number) ∙ get_or_from_slice_get rows is.link.number row row is.link.is)

pub kept_out : (kept : AnchorTargets) (url fragment : List ℕ) (index : Option ℕ) → IsBuilt kept → Contains (kept_of kept) (url, record { fragment = fragment; index = index }) → IsKept kept url fragment index
kept_out kept url fragment index built in_list =
    let rows : List Link = rows_of kept.anchors in
    let row : Link = record { fragment = fragment; index = index } in
    let count : ℕ = length kept.anchors.indices.items in
    let led = led_out 0 kept.anchors.ends.items kept.urls.items rows count url row (from_zero kept built) built.paired in_list in
    record {
      target = led.target;
      leads = led.leads;
      link = record {
        number = led.number;
        from = subst (λ b. b ≤ led.number) (begin_first kept.anchors.ends.items count led.target) led.low;
        before = led.high;
        is = slice_get-get_or rows led.number row (omega (arith, led.within)) ∙ ap Some (ap (λ n. get_or rows n row) (sym (no_offset led.number)) ∙ led.is);
      };
    }

-- ---- the link that is kept

-- a link that is kept was one with this target, and the document itself does not have its anchor
record IsSource (values own : List (List ℕ)) (urls : List (Option (List ℕ))) (page : List ℕ) (link : MarkedLink) (url : List ℕ) (row : Link) : Type 0 where
  leads : get_or urls link.target None ≡ Some url
  fragment : parsed (drop link.begin (get_or values link.index [])) ≡ row.fragment
  index : index_of link.index ≡ row.index
  lacks : is_within page own url row.fragment ≡ false

row_source : (exists : Bool) (fragment : List ℕ) (index : ℕ) (row : Link) → Contains (rows_unless exists fragment index) row → (exists ≡ false) × (fragment ≡ row.fragment) × (index_of index ≡ row.index)
row_source true fragment index row in_list = absurd (no_member row in_list)
row_source false fragment index row in_list =
    let same = only (record { fragment = fragment; index = index_of index }) row in_list in
    (refl, ap (λ (r : Link). r.fragment) same, ap (λ (r : Link). r.index) same)

source_at : (values own : List (List ℕ)) (urls : List (Option (List ℕ))) (page : List ℕ) (link : MarkedLink) (url : List ℕ) (row : Link) (target : Option (List ℕ)) → get_or urls link.target None ≡ target
    → Contains (led_to values own page link target) (url, row) → IsSource values own urls page link url row
source_at values own urls page link url row None is in_list = absurd (no_member (url, row) in_list)
source_at values own urls page link url row (Some u) is in_list =
    let parts = led_parts u url (row_of values (bytes_eq u page) own link) row in_list in
    let fragment : List ℕ = parsed (drop link.begin (get_or values link.index [])) in
    let source = row_source (is_within page own u fragment) fragment link.index row parts.1 in
    record {
      leads = is ∙ ap Some parts.0;
      fragment = source.1;
      index = source.2;
      lacks = (λ i. is_within page own (sym parts.0 i) (sym source.1 i)) ∙ source.0;
    }

pub ok_from : {T E : Type 0} (r : Result T E) (x : T) → result_ok r ≡ Some x → r ≡ Ok x
ok_from (Ok y) x is = ap Ok (same_Some y x is)
ok_from (Err e) x is = absurd (cc)

-- the value of a link that is read, up to its `#`
readable_front : (charset : Charset) (value front : List ℕ) → front ≡ marked value → is_readable charset value ≡ true → (fits 5 (clean front) ≡ true) × (keeps_query charset (clean front) ≡ true)
readable_front charset value front same readable =
    let parts = and_parts (fits 5 (clean (marked value))) (keeps_query charset (clean (marked value))) readable in
    (ap (λ t. fits 5 (clean t)) same ∙ parts.0, ap (λ t. keeps_query charset (clean t)) same ∙ parts.1)

-- the URL of the target of a link that is read
target_leads : (targets : Targets) (values : List (List ℕ)) (link : MarkedLink) → has_no_base targets.writer.base ≡ true → IsMarked targets values link → is_readable targets.writer.charset (get_or values link.index []) ≡ true
    → get_or targets.urls.items link.target None ≡ result_ok (resolve targets.base (get_or values link.index []))
target_leads targets values link unbased is readable =
    let value : List ℕ = get_or values link.index [] in
    let same : take link.begin value ≡ marked value = ap (λ n. take n value) is.begin ∙ marked_is value is.sign in
    let parts = readable_front targets.writer.charset value (take link.begin value) same readable in
    is.target.is unbased parts.0 parts.1 ∙ ap (λ t. result_ok (resolve targets.base t)) same ∙ ap result_ok (resolve_marked targets.base value is.sign)

keeps_each : (targets : Targets) (ids own values : List (List ℕ)) (links : List MarkedLink) (kept : AnchorTargets) → IsPermutation ids own → AreMarked targets values (length values) links → IsBuilt kept
    → kept_of kept ≡ flat_map (kept_link values own targets.urls.items targets.base) links → has_no_base targets.writer.base ≡ true
    → (url fragment : List ℕ) (index : Option ℕ) → IsKept kept url fragment index → IsAnchorLink targets.writer.charset targets.base ids values url fragment index
keeps_each targets ids own values links kept order are built same unbased url fragment index is =
    let page : List ℕ = targets.base in
    let urls : List (Option (List ℕ)) = targets.urls.items in
    let row : Link = record { fragment = fragment; index = index } in
    let in_list : Contains (flat_map (kept_link values own urls page) links) (url, row) = subst (λ l. Contains l (url, row)) same (kept_in kept url fragment index built is) in
    let found = found_in (kept_link values own urls page) links (url, row) in_list in
    let link : MarkedLink = found.item in
    let one : IsMarked targets values link = All-contains (IsMarked targets values) links link are.each found.in_list in
    let source : IsSource values own urls page link url row = source_at values own urls page link url row (get_or urls link.target None) refl found.given in
    let value : List ℕ = get_or values link.index [] in
    record {
      number = link.index;
      value = value;
      at = slice_get-get_or values link.index [] one.within;
      indexed = sym source.index;
      cut = fragment_is value one.sign ∙ ap (λ n. Some (parsed (drop n value))) (sym one.begin) ∙ ap Some source.fragment;
      leads = λ readable. ok_from (resolve page value) url (sym (target_leads targets values link unbased one readable) ∙ source.leads);
      lacks = ap (λ b. bytes_eq url page && b) (sym (indicated_same ids own fragment order)) ∙ source.lacks;
    }

keeps_all : (targets : Targets) (ids own values : List (List ℕ)) (links : List MarkedLink) (kept : AnchorTargets) → IsPermutation ids own → AreMarked targets values (length values) links → IsBuilt kept
    → kept_of kept ≡ flat_map (kept_link values own targets.urls.items targets.base) links → has_no_base targets.writer.base ≡ true
    → (number : ℕ) (value url fragment : List ℕ) → slice_get values number ≡ Some value → fragment_of value ≡ Some fragment → is_readable targets.writer.charset value ≡ true → resolve targets.base value ≡ Ok url
    → is_within targets.base ids url fragment ≡ false → IsKept kept url fragment (index_of number)
keeps_all targets ids own values links kept order are built same unbased number value url fragment at cut readable leads lacks =
    let page : List ℕ = targets.base in
    let urls : List (Option (List ℕ)) = targets.urls.items in
    let inside : number < length values = slice_get_within values number value at in
    let is_value : get_or values number [] ≡ value = get_or_from_slice_get values number value [] at in
    let sign : sign_of (get_or values number []) < length (get_or values number []) = subst (λ v. sign_of v < length v) (sym is_value) (signed value fragment cut) in
    let any = Any-from_list_any (λ (link : MarkedLink). link.index == number) links (are.all number inside sign) in
    let link : MarkedLink = any.1 in
    let in_list : Contains links link = (any.0, any.2, any.3) in
    let index : link.index ≡ number = eqb-true link.index number any.4 in
    let one : IsMarked targets values link = All-contains (IsMarked targets values) links link are.each in_list in
    let own_value : get_or values link.index [] ≡ value = ap (λ n. get_or values n []) index ∙ is_value in
    let target : get_or urls link.target None ≡ Some url =
    target_leads targets values link unbased one (ap (is_readable targets.writer.charset) own_value ∙ readable) ∙ ap (λ v. result_ok (resolve page v)) own_value ∙ ap result_ok leads in
    let part : parsed (drop link.begin (get_or values link.index [])) ≡ fragment =
    same_Some (parsed (drop link.begin (get_or values link.index []))) fragment
    (ap (λ n. Some (parsed (drop n (get_or values link.index [])))) one.begin ∙ sym (fragment_is (get_or values link.index []) one.sign) ∙ ap fragment_of own_value ∙ cut) in
    let row : Link = record { fragment = fragment; index = index_of number } in
    let none : is_within page own url fragment ≡ false = ap (λ b. bytes_eq url page && b) (indicated_same ids own fragment order) ∙ lacks in
    let rows : row_of values (bytes_eq url page) own link ≡ row ∷ [] = (λ i. rows_unless (is_within page own url (part i)) (part i) (index i)) ∙ ap (λ b. rows_unless b fragment number) none in
    let given : kept_link values own urls page link ≡ (url, row) ∷ [] = ap (led_to values own page link) target ∙ ap (led url) rows in
    let here : Contains (kept_link values own urls page link) (url, row) = subst (λ l. Contains l (url, row)) (sym given) (member (url, row)) in
    kept_out kept url fragment (index_of number) built (subst (λ l. Contains l (url, row)) (sym same) (put_in (kept_link values own urls page) links link (url, row) in_list here))

pub keeps_links : (targets : Targets) (ids own values : List (List ℕ)) (links : List MarkedLink) (kept : AnchorTargets) → IsPermutation ids own → AreMarked targets values (length values) links → IsBuilt kept
    → kept_of kept ≡ flat_map (kept_link values own targets.urls.items targets.base) links → has_no_base targets.writer.base ≡ true → KeepsLinks targets.writer.charset targets.base ids values kept
keeps_links targets ids own values links kept order are built same unbased = record {
  each = keeps_each targets ids own values links kept order are built same unbased;
  all = keeps_all targets ids own values links kept order are built same unbased;
}

pub anchors_are : (targets : Targets) (base : PageBase) (charset : Charset) (page : List ℕ) (ids own values : List (List ℕ)) (links : List MarkedLink) (kept : AnchorTargets) → targets.writer.base ≡ base → targets.writer.charset ≡ charset → targets.base ≡ page
    → IsPermutation ids own → kept.anchors.ids ≡ own → AreMarked targets values (length values) links → IsBuilt kept → kept_of kept ≡ flat_map (kept_link values own targets.urls.items page) links → AreKept base charset page ids values kept
anchors_are targets base charset page ids own values links kept of_base of_charset of_page order has are built same = record {
  found = record { same = subst (IsPermutation ids) (sym has) order; ascend = kept.anchors.ascend };
  links = λ unbased.
      subst (λ (x : Charset × List ℕ). KeepsLinks x.0 x.1 ids values kept) (λ i. (of_charset i, of_page i))
      (keeps_links targets ids own values links kept order are built (same ∙ ap (λ p. flat_map (kept_link values own targets.urls.items p) links) (sym of_page)) (ap has_no_base of_base ∙ unbased));
}

-- ---- documents

pub anchors_of_text : (options : ReadOptions) (charset : Charset) (page text : List ℕ) (base : PageBase) (written : Charset) (ids values : List (List ℕ)) (anchors : Option AnchorTargets) → written ≡ charset → ids ≡ ids_of options.syntax text
    → (base_of options.syntax text ≡ None → has_no_base base ≡ true) → (base_of options.syntax text ≡ None → values ≡ read_links_of options text) → IsSomeAnd anchors (AreKept base written page ids values)
    → IsSomeAnd anchors (AreAnchorsOf options charset page text)
anchors_of_text options charset page text base written ids values None same of_ids unbased of_values kept = absurd kept
anchors_of_text options charset page text base written ids values (Some found) same of_ids unbased of_values kept = record {
  ids = subst (λ l. HasIds l found.anchors) of_ids kept.found;
  links = λ none. subst (λ (x : Charset × (List (List ℕ) × List (List ℕ))). KeepsLinks x.0 page x.1.0 x.1.1 found) (λ i. (same i, (of_ids i, of_values none i))) (kept.links (unbased none));
}

pub read_in : (options : ReadOptions) (charset : Charset) (page body : List ℕ) (links : List (List ℕ)) (anchors : Option AnchorTargets) → charset ≡ charset_of (Document options.syntax options.styles) body → (has_mark body ≡ true → charset ≡ Utf8) → (is_utf8 body ≡ true → is_known charset ≡ true)
    → IsReadIn options charset page body links anchors → IsRead options page body links anchors
read_in options charset page body links anchors defined marked valid is = record { found = record { charset = charset; defined = defined; marked = marked; valid = valid; has = is.has }; kept = is.kept }
