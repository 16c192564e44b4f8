-- Each link that is looked for has its location among those that are found.
use Rattle.site_check.proofs.Prelude.{Global, IfOk, PageResult, SiteFiles, Vec, flat_map, ◌≡◌, ◌∙◌, ℕ, zero, suc, ◌+◌, ◌<◌, ◌≤◌, Bool, true, false, ◌&&◌, List, [], ◌∷◌, ◌++◌, length, map, map_more, get_or, take, Option, Some, None, refl, sym, ap, subst, arith, append_assoc, slice_get}
use Rattle.std.proofs.Common.{◌==◌, append-nil, eq-eqb}
use Rattle.std.proofs.lemmas.Bool.{lt-ltb}
use Rattle.std.proofs.lemmas.List.{get_or-map, length-map, map-append, take_all}
use Rattle.std.proofs.lemmas.List.Elements.{All-append, All-contains, All-contains_itself, All-nil, All-push, All-weaker, Contains-append_left, Contains-append_right}
use Rattle.std.proofs.lemmas.List.Sorted.{Contains-permutation, IsPermutation-map}
use Rattle.std.specs.List.{All, Contains}
use Rattle.std.specs.List.Sorted.{IsPermutation}
use Rattle.std.specs.Prelude.{◌%◌, Err, IsOk, Ok, Result, nat_lt}
use Rattle.document_links.specs.LinkUrls.{AreFileLinks}
use Rattle.document_links.specs.Places.{point_at, point_of_place}
use Rattle.document_links.specs.declared.places.TextPlace.{TextPlace}
use Rattle.site_files.specs.Bodies.{contents}
use Rattle.site_files.specs.Files.{Document}
use Rattle.site_files.specs.declared.files.SiteFile.{SiteFile}
use Rattle.site_files.specs.declared.notes.Left.{Left}
use Rattle.site_check.proofs.Placed.{contains_slice_get, one_link, own_at, some_same}
use Rattle.site_check.specs.Complete.{HasPlace, HasTaken, IsPlaced, is_taken}
use Rattle.site_check.specs.Located.{IsFileOf, IsFirstPage, Pushes, PushesPlaces, TargetLocation, document_of, index_of, items_of, link_place, link_places, placed_at, places_from}
use Rattle.site_check.specs.Locations.{IsLinkAt, root_of, text_kind}
use Rattle.site_check.specs.declared.check_error.CheckError.{CheckError}
use Rattle.site_check.specs.declared.check_error.CheckError.TheVariants as wrong
use Rattle.site_check.specs.declared.leads.ListedLead.{ListedLead}
use Rattle.site_check.specs.declared.located.PageLeads.{PageLeads}
use Rattle.site_check.specs.declared.located.TargetPlace.{TargetPlace}

-- ---- lists

pub nothing : {X : Type 0} (x : X) → None ≡ Some x → ⊥
nothing x is = cc

not_true : false ≡ true → ⊥
not_true is = cc

-- an element with an index
pub record There {X : Type 0} (xs : List X) (k : ℕ) : Type 0 where
  pub x : X
  pub at : slice_get xs k ≡ Some x

pub there : {X : Type 0} (xs : List X) (k : ℕ) → k < length xs → There xs k
there [] k below = absurd (omega (arith, below))
there (x ∷ xs) zero below = record { x = x; at = refl }
there (x ∷ xs) (suc k) below = let rest = there xs k (omega (arith, below)) in record { x = rest.x; at = rest.at }

pub contains_map : {X Y : Type 0} (f : X → Y) (xs : List X) (x : X) → Contains xs x → Contains (map f xs) (f x)
contains_map f xs x has = let below : has.0 < length xs = has.1 in (has.0, omega (arith, below, length-map xs f), get_or-map f xs has.0 x (f x) below ∙ ap f has.2)

-- ---- the links of a file

-- the location of a link is among those of all links of its file
placed_in : (name : List ℕ) (places : List TextPlace) (n : ℕ) (leads : List ListedLead) (k : ℕ) (one : ListedLead) (place : TextPlace) → slice_get leads k ≡ Some one → slice_get places (n + k) ≡ Some place →
    Contains (places_from name places n leads) (link_place name one place)
placed_in name places n [] k one place at_one at_place = absurd (nothing one at_one)
placed_in name places n (first ∷ leads) zero one place at_one at_place =
    let none_more : n + 0 ≡ n = omega arith in
    let found : slice_get places n ≡ Some place = ap (slice_get places) (sym none_more) ∙ at_place in
    let here : Contains (link_places name first (Some place)) (link_place name one place) =
    subst (λ (x : ListedLead). Contains (link_place name x place ∷ []) (link_place name one place)) (sym (some_same first one at_one)) (0, omega arith, refl) in
    Contains-append_left (link_places name first (slice_get places n)) (places_from name places (n + 1) leads) (link_place name one place)
    (subst (λ (o : Option TextPlace). Contains (link_places name first o) (link_place name one place)) (sym found) here)
placed_in name places n (first ∷ leads) (suc k) one place at_one at_place =
    let next : (n + 1) + k ≡ n + suc k = omega arith in
    Contains-append_right (link_places name first (slice_get places n)) (places_from name places (n + 1) leads) (link_place name one place)
    (placed_in name places (n + 1) leads k one place at_one (ap (slice_get places) next ∙ at_place))

module _ (led_there : Option (List ℕ) → ListedLead → Type 0) (files : SiteFiles) (results : List PageResult) (reads : ℕ → Option (List ℕ) → Type 0) where
  -- ---- more locations

  placed_on : (old new : List TargetLocation) (one : ListedLead) (page : PageResult) → ((x : TargetLocation) → Contains old x → Contains new x) → IsPlaced led_there files reads old one page → IsPlaced led_there files reads new one page
  placed_on old new one page more is = record { name = is.name; place = is.place; own = is.own; is_link = is.is_link; led = is.led; is_in = more (link_place is.name one is.place) is.is_in }

  pub has_on : (old new : List TargetLocation) (one : ListedLead) → ((x : TargetLocation) → Contains old x → Contains new x) → HasPlace led_there files results reads old one → HasPlace led_there files results reads new one
  has_on old new one more has = record { placed = λ page at. placed_on old new one page more (has.placed page at) }

  -- ---- the links of a page

  one_whole : (source : ℕ) (url : List ℕ) (file : Document) (body : List ℕ) (own : List ListedLead) (old new : List TargetLocation) (one : ListedLead) → IsFileOf files results source url file → one.lead.source ≡ source → reads file.index (Some body) →
      PushesPlaces led_there (root_of files) url file.name (text_kind files.rules.now.styles file.kind) body own old new → Contains own one → HasPlace led_there files results reads new one
  one_whole source url file body own old new one of is_source read pushed contained =
      let kind = text_kind files.rules.now.styles file.kind in
      let k = contained.0 in
      let at_one : slice_get own k ≡ Some one = contains_slice_get own k one contained.1 contained.2 in
      let counted : length pushed.places ≡ length own =
      sym (length-map pushed.places point_of_place) ∙ ap length pushed.are.located.placed ∙ length-map (map index_of own) (λ index. point_at pushed.are.text (pushed.are.located.position index)) ∙ length-map own index_of in
      let below : k < length own = contained.1 in
      let found = there pushed.places k (omega (arith, below, counted)) in
      let has = own_at led_there pushed.urls own k one pushed.lead at_one in
      let none_before : 0 + k ≡ k = omega arith in
      record {
        placed = λ page at_page.
            let page_is : page ≡ of.page = some_same page of.page (sym at_page ∙ ap (slice_get results) is_source ∙ of.is_page) in
            record {
              name = file.name;
              place = found.x;
              own = has.url;
              is_link =
                  subst (λ (p : PageResult). IsLinkAt files reads p one.lead.index file.name found.x has.url) (sym page_is)
                  (record {
                    file = file;
                    is_file = of.at;
                    is_name = refl;
                    body = body;
                    read = read;
                    root = pushed.path;
                    is_root = pushed.is_root;
                    is_place =
                        subst (λ from. AreFileLinks pushed.path from kind body (one.lead.index ∷ []) (found.x ∷ []) (has.url ∷ [])) (sym of.is_url)
                        (one_link pushed.path url kind body own pushed.places pushed.urls k one found.x has.url pushed.are at_one found.at has.at);
                  });
              led = has.has;
              is_in =
                  subst (λ (l : List TargetLocation). Contains l (link_place file.name one found.x)) (sym pushed.is)
                  (Contains-append_right old (places_from file.name pushed.places 0 own) (link_place file.name one found.x)
                  (placed_in file.name pushed.places 0 own k one found.x at_one (ap (slice_get pushed.places) none_before ∙ found.at)));
            };
      }

  page_whole : (source : ℕ) (url : List ℕ) (file : Document) (body : List ℕ) (own : List ListedLead) (old new : List TargetLocation) → IsFileOf files results source url file → All (λ one. one.lead.source ≡ source) own → reads file.index (Some body) →
      PushesPlaces led_there (root_of files) url file.name (text_kind files.rules.now.styles file.kind) body own old new → All (HasPlace led_there files results reads new) own
  page_whole source url file body own old new of same read pushed =
      All-weaker (Contains own) (HasPlace led_there files results reads new)
      (λ one contained. one_whole source url file body own old new one of (All-contains (λ (other : ListedLead). other.lead.source ≡ source) own one same contained) read pushed contained) own (All-contains_itself own)

  -- as that, of a file that was read into a room
  pub file_whole : (source : ℕ) (url : List ℕ) (file : SiteFile) (left : Option Left) (room body : List ℕ) (own : List ListedLead) (old new : List TargetLocation) → IsFileOf files results source url (document_of file) →
      All (λ one. one.lead.source ≡ source) own → reads file.index (contents left room) → left ≡ None → body ≡ room → PushesPlaces led_there (root_of files) url file.name.now (text_kind files.rules.now.styles file.kind) body own old new →
      All (HasPlace led_there files results reads new) own
  file_whole source url file left room body own old new of same read none same_body pushed =
      page_whole source url (document_of file) body own old new of same (subst (reads file.index) (ap (λ l. contents l room) none ∙ ap (λ b. Some b) (sym same_body)) read) pushed

  -- ---- the pages that one thread takes

  pub record HasPassed (of rest : ℕ) (all : List TargetLocation) (leads left : List ListedLead) : Type 0 where
    pub done : List ListedLead
    pub split : leads ≡ done ++ left
    pub each : All (HasTaken led_there files results reads of rest all) done

  pub passed_none : (of rest : ℕ) (all : List TargetLocation) (leads : List ListedLead) → HasPassed of rest all leads leads
  passed_none of rest all leads = record { done = []; split = refl; each = All-nil (HasTaken led_there files results reads of rest all) }

  taken_on : (of rest : ℕ) (old new : List TargetLocation) (one : ListedLead) → ((x : TargetLocation) → Contains old x → Contains new x) → HasTaken led_there files results reads of rest old one → HasTaken led_there files results reads of rest new one
  taken_on of rest old new one more has = record { has = λ taken. has_on old new one more (has.has taken) }

  own_taken : (of rest : ℕ) (all : List TargetLocation) (one : ListedLead) → HasPlace led_there files results reads all one → HasTaken led_there files results reads of rest all one
  own_taken of rest all one has = record { has = λ taken. has }

  none_taken : (of rest : ℕ) (all : List TargetLocation) (source : ℕ) (one : ListedLead) → is_taken of rest source ≡ false → one.lead.source ≡ source → HasTaken led_there files results reads of rest all one
  none_taken of rest all source one other is = record { has = λ taken. absurd (not_true (sym other ∙ ap (is_taken of rest) (sym is) ∙ taken)) }

  passed_page : (of rest : ℕ) (all : List TargetLocation) (leads left : List ListedLead) (page : PageLeads) → IsFirstPage left page → HasPassed of rest all leads left → All (HasTaken led_there files results reads of rest all) page.own.now →
      HasPassed of rest all leads page.more.now
  passed_page of rest all leads left page first passed own =
      record {
        done = passed.done ++ page.own.now;
        split = passed.split ∙ ap (λ l. passed.done ++ l) first.split ∙ sym (append_assoc passed.done page.own.now page.more.now);
        each = All-append (HasTaken led_there files results reads of rest all) passed.done page.own.now passed.each own;
      }

  passed_on : (of rest : ℕ) (old new : List TargetLocation) (leads left : List ListedLead) → ((x : TargetLocation) → Contains old x → Contains new x) → HasPassed of rest old leads left → HasPassed of rest new leads left
  passed_on of rest old new leads left more passed =
      record {
        done = passed.done;
        split = passed.split;
        each = All-weaker (HasTaken led_there files results reads of rest old) (HasTaken led_there files results reads of rest new) (λ one has. taken_on of rest old new one more has) passed.done passed.each;
      }

  pub passed_more : (P : TargetLocation → Type 0) (of rest : ℕ) (old new : List TargetLocation) (leads left : List ListedLead) (page : PageLeads) → IsFirstPage left page → Pushes P old new → All (HasPlace led_there files results reads new) page.own.now →
      HasPassed of rest old leads left → HasPassed of rest new leads page.more.now
  passed_more P of rest old new leads left page first pushed own passed =
      passed_page of rest new leads left page first
      (passed_on of rest old new leads left (λ x has. subst (λ (l : List TargetLocation). Contains l x) (sym pushed.is) (Contains-append_left old pushed.more x has)) passed)
      (All-weaker (HasPlace led_there files results reads new) (HasTaken led_there files results reads of rest new) (λ one has. own_taken of rest new one has) page.own.now own)

  pub passed_other : (of rest : ℕ) (all : List TargetLocation) (leads left : List ListedLead) (page : PageLeads) → IsFirstPage left page → is_taken of rest page.source ≡ false → HasPassed of rest all leads left → HasPassed of rest all leads page.more.now
  passed_other of rest all leads left page first other passed =
      passed_page of rest all leads left page first passed
      (All-weaker (λ (one : ListedLead). one.lead.source ≡ page.source) (HasTaken led_there files results reads of rest all) (λ one is. none_taken of rest all page.source one other is) page.own.now first.own)

  pub passed_all : (of rest : ℕ) (all : List TargetLocation) (leads left : List ListedLead) → left ≡ [] → HasPassed of rest all leads left → All (HasTaken led_there files results reads of rest all) leads
  passed_all of rest all leads left none passed =
      subst (All (HasTaken led_there files results reads of rest all)) (sym (passed.split ∙ ap (λ l. passed.done ++ l) none ∙ append-nil passed.done)) passed.each

  -- ---- the lists of threads

  chunk_has : (count rest : ℕ) (leads : List ListedLead) (total : List TargetLocation) (one : ListedLead) (chunk : Result (Vec TargetPlace Global) CheckError) → IsOk chunk →
      IfOk chunk (λ own. All (HasTaken led_there files results reads count rest (map placed_at own.items)) leads) → Contains leads one → is_taken count rest one.lead.source ≡ true →
      ((x : TargetLocation) → Contains (map placed_at (items_of chunk)) x → Contains total x) → HasPlace led_there files results reads total one
  chunk_has count rest leads total one (Ok own) ok all contained taken more =
      has_on (map placed_at own.items) total one more ((All-contains (HasTaken led_there files results reads count rest (map placed_at own.items)) leads one all contained).has taken)
  chunk_has count rest leads total one (Err e) ok all contained taken more = absurd (not_true ok)

pub in_flat : {X Y E : Type 0} (f : X → Y) (chunks : List (Result (Vec X Global) E)) (k : ℕ) (d : Result (Vec X Global) E) (y : Y) → k < length chunks → Contains (map f (items_of (get_or chunks k d))) y → Contains (map f (flat_map items_of chunks)) y
in_flat f [] k d y below has = absurd (omega (arith, below))
in_flat f (chunk ∷ more) zero d y below has =
    subst (λ l. Contains l y) (sym (map-append f (items_of chunk) (flat_map items_of more))) (Contains-append_left (map f (items_of chunk)) (map f (flat_map items_of more)) y has)
in_flat f (chunk ∷ more) (suc k) d y below has =
    subst (λ l. Contains l y) (sym (map-append f (items_of chunk) (flat_map items_of more)))
    (Contains-append_right (map f (items_of chunk)) (map f (flat_map items_of more)) y (in_flat f more k d y (omega (arith, below)) has))

both : (a b : Bool) → a ≡ true → b ≡ true → (a && b) ≡ true
both a b is_a is_b = (λ i. is_a i && is_b i)

-- some thread takes each result
pub taken_by : (count source : ℕ) → 0 < count → is_taken count (source % count) source ≡ true
taken_by count source some = both (nat_lt 0 count) (source % count == source % count) (lt-ltb 0 count some) (eq-eqb (source % count) (source % count) refl)

pub all_placed : (led_there : Option (List ℕ) → ListedLead → Type 0) (files : SiteFiles) (results : List PageResult) (reads : ℕ → Option (List ℕ) → Type 0) (leads : List ListedLead) (count : ℕ) (chunks : List (Result (Vec TargetPlace Global) CheckError)) (places sorted : List TargetPlace) → 0 < count →
    length chunks ≡ count → All (λ chunk. IsOk chunk) chunks →
    ((rest : ℕ) (other : Result (Vec TargetPlace Global) CheckError) → rest < count → IfOk (get_or chunks rest other) (λ own. All (HasTaken led_there files results reads count rest (map placed_at own.items)) leads)) →
    places ≡ flat_map items_of chunks → IsPermutation places sorted → All (HasPlace led_there files results reads (map placed_at sorted)) leads
all_placed led_there files results reads leads count chunks places sorted some counted ok each all permuted =
    All-weaker (Contains leads) (HasPlace led_there files results reads (map placed_at sorted))
    (λ one contained.
    let source = one.lead.source in
    let other : Result (Vec TargetPlace Global) CheckError = Err wrong.NoMemory in
    let below : source % count < count = omega (arith, some) in
    let within : source % count < length chunks = omega (arith, below, counted) in
    chunk_has led_there files results reads count (source % count) leads (map placed_at sorted) one (get_or chunks (source % count) other) (ok (source % count) other within) (each (source % count) other below) contained
    (taken_by count source some)
    (λ x has.
    Contains-permutation (map placed_at places) (map placed_at sorted) x (IsPermutation-map placed_at places sorted permuted)
    (subst (λ (l : List TargetPlace). Contains (map placed_at l) x) (sym all) (in_flat placed_at chunks (source % count) other x within has))))
    leads (All-contains_itself leads)

-- ---- the test of the rows

pub kept_more : (P : TargetLocation → Type 0) (places : List TargetPlace) (i : ℕ) (one : TargetPlace) → i < length places → one ≡ get_or places i one → All P (map placed_at (take i places)) → P (placed_at one) → All P (map placed_at (take (i + 1) places))
kept_more P places i one below is all own =
    subst (All P) (sym (map_more placed_at places i one below ∙ ap (λ (x : TargetPlace). map placed_at (take i places) ++ placed_at x ∷ []) (sym is))) (All-push P (map placed_at (take i places)) (placed_at one) all own)

pub kept_all : (P : TargetLocation → Type 0) (places : List TargetPlace) (i : ℕ) → length places ≤ i → All P (map placed_at (take i places)) → All P (map placed_at places)
kept_all P places i whole all = subst (λ (l : List TargetPlace). All P (map placed_at l)) (take_all i places whole) all
