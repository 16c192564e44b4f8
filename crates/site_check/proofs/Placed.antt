-- The locations of links in files and in rows.
use Rattle.site_check.proofs.Prelude.{common_steps, Global, IfOk, Vec, flat_map, ◌≡◌, ◌∙◌, ℕ, zero, suc, ◌+◌, ◌<◌, Bool, true, false, List, [], ◌∷◌, ◌++◌, length, length-append, length-take-le, map, drop, take, take_more, take-append-drop, get_or, Option, Some, None, refl, sym, ap, subst, arith, append_assoc, slice_get, slice_get-map, slice_get_read, slice_get_within, get_or_from_slice_get, option_map, string_bytes, PageResult, SiteFiles}
use Rattle.std.proofs.Common.{◌==◌, append-nil, eqb-true, length-drop, take_while}
use Rattle.std.proofs.lemmas.Bool.{and_parts}
use Rattle.std.proofs.lemmas.List.{get_or_append_left, get_or-append-add, get_or-drop, get_or-map, get_or-take, get_or_default, length-map, map-append}
use Rattle.std.proofs.lemmas.Option.{slice_get_past}
use Rattle.std.proofs.lemmas.List.Concat.{flat_map-append}
use Rattle.std.proofs.lemmas.List.Elements.{All-append, All-cons, All-contains, All-contains_itself, All-map, All-nil, All-push, All-weaker}
use Rattle.std.proofs.lemmas.List.Folds.{length-prefix_len}
use Rattle.std.proofs.lemmas.List.Sums.{prefix_len_passes, prefix_len-le-length}
use Rattle.std.specs.List.{All, Contains, prefix_len}
use Rattle.std.specs.Slice.{IsItemAt}
use Rattle.std.specs.Borrow.{Bor}
use Rattle.std.specs.Prelude.{Err, Ok, Result, slice_index_or, if◌then◌else◌, is_some}
use Rattle.check_report.specs.declared.value.Place.{Place}
use Rattle.document_links.specs.Encoding.{links_in}
use Rattle.document_links.specs.LinkUrls.{AreFileLinks, AreUrlsOf, IsUrlOf, query_charset}
use Rattle.document_links.specs.Rooted.{all_rooted, rooted}
use Rattle.document_links.specs.Written.{can_write}
use Rattle.document_links.specs.Places.{point_at, point_of_place, positions_in, written_in}
use Rattle.document_links.specs.declared.places.TextPlace.{TextPlace}
use Rattle.document_links.specs.declared.text_kind.TextKind.{TextKind}
use Rattle.site_check.proofs.LeadsFound.{no_more}
use Rattle.site_files.specs.Bodies.{contents}
use Rattle.site_files.specs.Files.{Document}
use Rattle.site_files.specs.declared.files.SiteFile.{SiteFile}
use Rattle.site_files.specs.declared.notes.Left.{Left}
use Rattle.site_check.specs.Located.{AllLead, IsFileOf, IsFirstPage, IsRowPlace, IsTargetPlace, IsToTarget, Pushes, PushesPlaces, TargetLocation, comes_last, document_of, index_of, is_of, is_to, items_of, link_place, link_places, placed_at, places_from, put_last}
use Rattle.site_check.specs.Locations.{Location, comes_before, in_row, location_of, root_of, text_kind}
use Rattle.site_check.specs.declared.leads.ListedLead.{ListedLead}
use Rattle.site_check.specs.declared.located.PageLeads.{PageLeads}
use Rattle.site_check.specs.declared.located.TargetPlace.{TargetPlace}

-- ---- lists

pub all_front : {X : Type 0} (P : X → Type 0) (xs ys : List X) → All P (xs ++ ys) → All P xs
all_front P xs ys h = λ k d below. subst P (get_or_append_left xs ys d k below) (h k d (omega (arith, below, length-append xs ys)))

pub all_back : {X : Type 0} (P : X → Type 0) (xs ys : List X) → All P (xs ++ ys) → All P ys
all_back P xs ys h = λ k d below. subst P (get_or-append-add xs ys k d) (h (length xs + k) d (omega (arith, below, length-append xs ys)))

pub all_pushed : {X : Type 0} (P Q : X → Type 0) (old new : List X) → ((x : X) → P x → Q x) → Pushes P old new → All Q old → All Q new
all_pushed P Q old new each pushed all = subst (All Q) (sym pushed.is) (All-append Q old pushed.more all (All-weaker P Q each pushed.more pushed.each))

pub some_same : {X : Type 0} (x y : X) → Some x ≡ Some y → x ≡ y
some_same x y same = cc

-- what is borrowed from a list at an index
pub item_at : {X : Type 0} (xs : List X) (k : ℕ) (o : Option (Bor X)) → IsItemAt xs k o → option_map (λ x. x.now) o ≡ slice_get xs k
item_at xs k o is = grind (arith, slice_get_past, slice_get_read)

no_false : true ≡ false → ⊥
no_false is = cc

pub not_some : {X : Type 0} (o : Option X) → is_some o ≡ false → o ≡ None
not_some None is = refl
not_some (Some x) is = absurd (no_false is)

pub slice_get_contains : {X : Type 0} (xs : List X) (k : ℕ) (x : X) → slice_get xs k ≡ Some x → Contains xs x
slice_get_contains xs k x at = (k, slice_get_within xs k x at, get_or_from_slice_get xs k x x at)

pub contains_slice_get : {X : Type 0} (xs : List X) (k : ℕ) (x : X) → k < length xs → get_or xs k x ≡ x → slice_get xs k ≡ Some x
contains_slice_get [] k x below is = absurd (omega (arith, below))
contains_slice_get (y ∷ xs) zero x below is = ap Some is
contains_slice_get (y ∷ xs) (suc k) x below is = contains_slice_get xs k x (omega (arith, below)) is

-- ---- the links of a page

-- the elements at the front that pass a test pass it
pub passing : {X : Type 0} (p : X → Bool) (xs : List X) → All (λ x. p x ≡ true) (take_while p xs)
passing p xs = λ k d below.
    let n = prefix_len p xs in
    let within : k < n = omega (arith, below, length-prefix_len p xs) in
    ap p (get_or-take n xs k d within) ∙ prefix_len_passes p xs k d within

-- what is cut off there
pub cut_off : {X : Type 0} (p : X → Bool) (xs : List X) → take (length (take_while p xs)) xs ≡ take_while p xs
cut_off p xs = ap (λ n. take n xs) (length-prefix_len p xs)

pub whole_page : (leads : List ListedLead) (first : ListedLead) (following : List ListedLead) (page : PageLeads) (n : ℕ) → leads ≡ first ∷ following → page.source ≡ first.lead.source →
    n ≡ length (take_while (is_of first.lead.source) following) → page.own.now ≡ take (suc n) leads → page.more.now ≡ drop (suc n) leads → IsFirstPage leads page
whole_page leads first following page n is source count own more =
    let test = is_of first.lead.source in
    let front : page.own.now ≡ first ∷ take_while test following =
    own ∙ ap (take (suc n)) is ∙ ap (λ (l : List ListedLead). first ∷ l) (ap (λ k. take k following) count ∙ cut_off test following) in
    let passes : All (λ (one : ListedLead). one.lead.source ≡ page.source) (take_while test following) =
    All-weaker (λ (one : ListedLead). test one ≡ true) (λ (one : ListedLead). one.lead.source ≡ page.source) (λ one yes_it. eqb-true one.lead.source first.lead.source yes_it ∙ sym source) (take_while test following) (passing test following) in
    record {
      split = sym ((λ i. own i ++ more i) ∙ take-append-drop (suc n) leads);
      own = subst (All (λ (one : ListedLead). one.lead.source ≡ page.source)) (sym front) (All-cons (λ (one : ListedLead). one.lead.source ≡ page.source) first (take_while test following) (sym source) passes);
      less = omega (arith, ap length more, length-drop (suc n) leads, ap length is);
    }

-- ---- the place of one link

same_at : {X Y Z : Type 0} (f : X → Z) (g : Y → Z) (xs : List X) (ys : List Y) (k : ℕ) (x : X) (y : Y) → map f xs ≡ map g ys → slice_get xs k ≡ Some x → slice_get ys k ≡ Some y → f x ≡ g y
same_at f g xs ys k x y same at_x at_y =
    some_same (f x) (g y) (sym (slice_get-map f xs k ∙ ap (λ o. option_map f o) at_x) ∙ ap (λ l. slice_get l k) same ∙ slice_get-map g ys k ∙ ap (λ o. option_map g o) at_y)

none_is_some : {X : Type 0} (x : X) → None ≡ Some x → ⊥
none_is_some x is = cc

-- a link below the path of the top, if there is one
abbrev below : Option (Bor (List ℕ)) → List ℕ → List ℕ
below None link = link
below (Some root) link = rooted root.now link

below_all : (root : Option (Bor (List ℕ))) (links : List (List ℕ)) (k : ℕ) (link : List ℕ) → slice_get links k ≡ Some link → slice_get (all_rooted root links) k ≡ Some (below root link)
below_all None links k link at = at
below_all (Some root) links k link at = slice_get-map (rooted root.now) links k ∙ ap (λ o. option_map (rooted root.now) o) at

module _ (root : Option (Bor (List ℕ))) (page : List ℕ) (kind : TextKind) (body indices : List ℕ) (places : List TextPlace) (all : List (Option (List ℕ))) (are : AreFileLinks root page kind body indices places all) where
  -- of the URLs of several links that of one
  url_at : (links : List (List ℕ)) (urls : List (Option (List ℕ))) (k : ℕ) (link : List ℕ) (url : Option (List ℕ)) → AreUrlsOf (query_charset kind are.charset) page links urls → slice_get links k ≡ Some link → slice_get urls k ≡ Some url →
      IsUrlOf (can_write (query_charset kind are.charset) link) page link url
  url_at [] urls k link url own at_link at_url = absurd (none_is_some link at_link)
  url_at (first ∷ links) [] k link url own at_link at_url = absurd own
  url_at (first ∷ links) (u ∷ urls) zero link url own at_link at_url =
      subst (λ x. IsUrlOf (can_write (query_charset kind are.charset) x) page x url) (some_same first link at_link)
      (subst (IsUrlOf (can_write (query_charset kind are.charset) first) page first) (some_same u url at_url) own.0)
  url_at (first ∷ links) (u ∷ urls) (suc k) link url own at_link at_url = url_at links urls k link url own.1 at_link at_url

  url_of_one : (top : Option (Bor (List ℕ))) (link : List ℕ) (url : Option (List ℕ)) → IsUrlOf (can_write (query_charset kind are.charset) (below top link)) page (below top link) url →
      AreUrlsOf (query_charset kind are.charset) page (all_rooted top (link ∷ [])) (url ∷ [])
  url_of_one None link url own = (own, tt)
  url_of_one (Some top) link url own = (own, tt)

-- of several links of a file that with one index
pub one_link : (root : Option (Bor (List ℕ))) (page : List ℕ) (kind : TextKind) (body : List ℕ) (leads : List ListedLead) (places : List TextPlace) (urls : List (Option (List ℕ))) (k : ℕ) (one : ListedLead) (place : TextPlace) (url : Option (List ℕ)) →
    AreFileLinks root page kind body (map index_of leads) places urls → slice_get leads k ≡ Some one → slice_get places k ≡ Some place → slice_get urls k ≡ Some url → AreFileLinks root page kind body (one.lead.index ∷ []) (place ∷ []) (url ∷ [])
one_link root page kind body leads places urls k one place url are at_one at_place at_url =
    let has = are.located in
    let indices = map index_of leads in
    let at_index : slice_get indices k ≡ Some one.lead.index = slice_get-map index_of leads k ∙ ap (λ o. option_map index_of o) at_one in
    let link_at : ℕ → List ℕ = λ i. slice_index_or (links_in kind are.text) i [] in
    let at_link : slice_get (map link_at indices) k ≡ Some (link_at one.lead.index) = slice_get-map link_at indices k ∙ ap (λ o. option_map link_at o) at_index in
    record {
      charset = are.charset;
      defined = are.defined;
      marked = are.marked;
      unnamed = are.unnamed;
      known = are.known;
      text = are.text;
      decoded = are.decoded;
      ascii = are.ascii;
      located = record {
        position = has.position;
        placed = ap (λ p. p ∷ []) (same_at point_of_place (λ index. point_at are.text (has.position index)) places indices k place one.lead.index has.placed at_place at_index);
        positioned = λ is. ap (λ p. p ∷ []) (same_at has.position (λ i. slice_index_or (positions_in kind are.text) i 0) indices indices k one.lead.index one.lead.index (has.positioned is) at_index at_index);
        written = λ is. ap (λ w. w ∷ []) (same_at (λ (p : TextPlace). string_bytes p.written) (written_in kind are.text) places indices k place one.lead.index (has.written is) at_place at_index);
      };
      lead = λ is none.
          url_of_one root page kind body indices places urls are root (link_at one.lead.index) url
          (url_at root page kind body indices places urls are (all_rooted root (map link_at indices)) urls k (below root (link_at one.lead.index)) url (are.lead is none) (below_all root (map link_at indices) k (link_at one.lead.index) at_link) at_url);
    }

-- the URL of a link, which leads to the link's target if this is a missing page
pub record HasOwn (led_there : Option (List ℕ) → ListedLead → Type 0) (urls : List (Option (List ℕ))) (k : ℕ) (one : ListedLead) : Type 0 where
  pub url : Option (List ℕ)
  pub at : slice_get urls k ≡ Some url
  pub has : led_there url one

pub own_at : (led_there : Option (List ℕ) → ListedLead → Type 0) (urls : List (Option (List ℕ))) (leads : List ListedLead) (k : ℕ) (one : ListedLead) → AllLead led_there urls leads → slice_get leads k ≡ Some one → HasOwn led_there urls k one
own_at led_there urls [] k one have at = absurd (none_is_some one at)
own_at led_there [] (first ∷ leads) k one have at = absurd have
own_at led_there (url ∷ urls) (first ∷ leads) zero one have at = record { url = url; at = refl; has = subst (led_there url) (some_same first one at) have.0 }
own_at led_there (url ∷ urls) (first ∷ leads) (suc k) one have at = let rest = own_at led_there urls leads k one have.1 at in record { url = rest.url; at = rest.at; has = rest.has }

-- the numbers of one link more
pub next_number : (led_there : Option (List ℕ) → ListedLead → Type 0) (urls : List (Option (List ℕ))) (leads : List ListedLead) (k : ℕ) (one : ListedLead) (url : Option (List ℕ)) → slice_get leads k ≡ Some one → slice_get urls k ≡ Some url → AllLead led_there urls (take k leads) → led_there url one →
    AllLead led_there urls (take (suc k) leads)
next_number led_there urls [] k one url at at_url have has = absurd (none_is_some one at)
next_number led_there [] (first ∷ leads) k one url at at_url have has = absurd (none_is_some url at_url)
next_number led_there (own ∷ urls) (first ∷ leads) zero one url at at_url have has =
    (subst (led_there own) (sym (some_same first one at)) (subst (λ u. led_there u one) (sym (some_same own url at_url)) has), none_left urls)
  where
    none_left : (more : List (Option (List ℕ))) → AllLead led_there more []
    none_left [] = tt
    none_left (u ∷ more) = tt
next_number led_there (own ∷ urls) (first ∷ leads) (suc k) one url at at_url have has = (have.0, next_number led_there urls leads k one url at at_url have.1 has)

pub next_at : (led_there : Option (List ℕ) → ListedLead → Type 0) (urls : List (Option (List ℕ))) (leads : List ListedLead) (k : ℕ) (d : ListedLead) (url : Option (List ℕ)) → k < length leads → slice_get urls k ≡ Some url → AllLead led_there urls (take k leads) → led_there url (get_or leads k d) →
    AllLead led_there urls (take (k + 1) leads)
next_at led_there urls leads k d url within at_url have has =
    let one = get_or leads k d in
    let next : suc k ≡ k + 1 = omega arith in
    subst (λ n. AllLead led_there urls (take n leads)) next (next_number led_there urls leads k one url (contains_slice_get leads k one within (get_or_default leads k one d within)) at_url have has)

pub no_numbers : (led_there : Option (List ℕ) → ListedLead → Type 0) (urls : List (Option (List ℕ))) → AllLead led_there urls []
no_numbers led_there [] = tt
no_numbers led_there (url ∷ urls) = tt

-- ---- the places of all links of a file

places_after : (name : List ℕ) (places : List TextPlace) (n : ℕ) (xs ys : List ListedLead) → places_from name places n (xs ++ ys) ≡ places_from name places n xs ++ places_from name places (n + length xs) ys
places_after name places n [] ys = ap (λ k. places_from name places k ys) (omega arith)
places_after name places n (x ∷ xs) ys =
    let here : List TargetLocation = link_places name x (slice_get places n) in
    let at : (n + 1) + length xs ≡ n + length (x ∷ xs) = omega arith in
    ap (λ l. here ++ l) (places_after name places (n + 1) xs ys)
    ∙ sym (append_assoc here (places_from name places (n + 1) xs) (places_from name places ((n + 1) + length xs) ys))
    ∙ ap (λ k. (here ++ places_from name places (n + 1) xs) ++ places_from name places k ys) at

-- one link more
places_more : (name : List ℕ) (places : List TextPlace) (leads : List ListedLead) (i : ℕ) (one : ListedLead) → i < length leads → one ≡ get_or leads i one →
    places_from name places 0 (take (i + 1) leads) ≡ places_from name places 0 (take i leads) ++ link_places name one (slice_get places i)
places_more name places leads i one below is = grind (arith, common_steps, length-take-le, take_more, places_after, no_more)

pub push_more : (name : List ℕ) (places : List TextPlace) (leads : List ListedLead) (i : ℕ) (one : ListedLead) (found : Option TextPlace) (first old new : List TargetLocation) → i < length leads → one ≡ get_or leads i one → found ≡ slice_get places i →
    old ≡ first ++ places_from name places 0 (take i leads) → new ≡ old ++ link_places name one found → new ≡ first ++ places_from name places 0 (take (i + 1) leads)
push_more name places leads i one found first old new below is at so_far pushed =
    pushed ∙ (λ j. so_far j ++ link_places name one (at j)) ∙ append_assoc first (places_from name places 0 (take i leads)) (link_places name one (slice_get places i))
    ∙ ap (λ l. first ++ l) (sym (places_more name places leads i one below is))

-- what holds of each link at its place holds of all
each_place : (P : TargetLocation → Type 0) (name : List ℕ) (places : List TextPlace) (n : ℕ) (leads : List ListedLead) →
    ((k : ℕ) (one : ListedLead) (place : TextPlace) → slice_get leads k ≡ Some one → slice_get places (n + k) ≡ Some place → P (link_place name one place)) → All P (places_from name places n leads)
each_place P name places n [] holds = All-nil P
each_place P name places n (one ∷ leads) holds =
    All-append P (link_places name one (slice_get places n)) (places_from name places (n + 1) leads)
    (here (slice_get places n) refl)
    (each_place P name places (n + 1) leads (λ k other place at_one at_place. holds (suc k) other place at_one (ap (slice_get places) (next k) ∙ at_place)))
  where
    next : (k : ℕ) → n + suc k ≡ (n + 1) + k
    next k = omega arith

    none_more : n + 0 ≡ n
    none_more = omega arith

    here : (found : Option TextPlace) → slice_get places n ≡ found → All P (link_places name one found)
    here None is = All-nil P
    here (Some place) is = All-cons P (link_place name one place) [] (holds 0 one place refl (ap (slice_get places) none_more ∙ is)) (All-nil P)

-- ---- the links of a result in its file

zero_more : (k : ℕ) → k ≡ 0 + k
zero_more k = omega arith

page_placed : (led_there : Option (List ℕ) → ListedLead → Type 0) (files : SiteFiles) (results : List PageResult) (reads : ℕ → Option (List ℕ) → Type 0) (source : ℕ) (url : List ℕ) (file : Document) (body : List ℕ) (own : List ListedLead) (old new : List TargetLocation) →
    IsFileOf files results source url file → All (λ one. one.lead.source ≡ source) own → reads file.index (Some body) → PushesPlaces led_there (root_of files) url file.name (text_kind files.rules.now.styles file.kind) body own old new →
    Pushes (IsTargetPlace led_there files results reads own) old new
page_placed led_there files results reads source url file body own old new of same read pushed =
    let kind = text_kind files.rules.now.styles file.kind in
    record {
      more = places_from file.name pushed.places 0 own;
      is = pushed.is;
      each = each_place (IsTargetPlace led_there files results reads own) file.name pushed.places 0 own (λ k one place at_one at_place.
          let contains = slice_get_contains own k one at_one in
          let has = own_at led_there pushed.urls own k one pushed.lead at_one in
          record {
            one = one;
            is_one = contains;
            page = of.page;
            is_page = ap (slice_get results) (All-contains (λ (other : ListedLead). other.lead.source ≡ source) own one same contains) ∙ of.is_page;
            name = file.name;
            place = place;
            own = has.url;
            is_link = record {
              file = file;
              is_file = of.at;
              is_name = refl;
              body = body;
              read = read;
              root = pushed.path;
              is_root = pushed.is_root;
              is_place =
                  subst (λ from. AreFileLinks pushed.path from kind body (one.lead.index ∷ []) (place ∷ []) (has.url ∷ [])) (sym of.is_url)
                  (one_link pushed.path url kind body own pushed.places pushed.urls k one place has.url pushed.are at_one (ap (slice_get pushed.places) (zero_more k) ∙ at_place) has.at);
            };
            led = has.has;
            is = refl;
          });
    }

-- as that, of a file that was read into a room
pub file_placed : (led_there : Option (List ℕ) → ListedLead → Type 0) (files : SiteFiles) (results : List PageResult) (reads : ℕ → Option (List ℕ) → Type 0) (source : ℕ) (url : List ℕ) (file : SiteFile) (left : Option Left) (room body : List ℕ) (own : List ListedLead) (old new : List TargetLocation) →
    IsFileOf files results source url (document_of file) → All (λ one. one.lead.source ≡ source) own → reads file.index (contents left room) → left ≡ None → body ≡ room →
    PushesPlaces led_there (root_of files) url file.name.now (text_kind files.rules.now.styles file.kind) body own old new → Pushes (IsTargetPlace led_there files results reads own) old new
file_placed led_there files results reads source url file left room body own old new of same read none same_body pushed =
    page_placed led_there files results reads source url (document_of file) body own old new of same (subst (reads file.index) (ap (λ l. contents l room) none ∙ ap (λ b. Some b) (sym same_body)) read) pushed

-- a link of a page is one of all links
among_all : (led_there : Option (List ℕ) → ListedLead → Type 0) (files : SiteFiles) (results : List PageResult) (reads : ℕ → Option (List ℕ) → Type 0) (own leads : List ListedLead) → All (Contains leads) own → (at : TargetLocation) → IsTargetPlace led_there files results reads own at → IsTargetPlace led_there files results reads leads at
among_all led_there files results reads own leads within at placed =
    record {
      one = placed.one;
      is_one = All-contains (Contains leads) own placed.one within placed.is_one;
      page = placed.page;
      is_page = placed.is_page;
      name = placed.name;
      place = placed.place;
      own = placed.own;
      is_link = placed.is_link;
      led = placed.led;
      is = placed.is;
    }

pub pages_more : (led_there : Option (List ℕ) → ListedLead → Type 0) (files : SiteFiles) (results : List PageResult) (reads : ℕ → Option (List ℕ) → Type 0) (leads left : List ListedLead) (page : PageLeads) (old new : List TargetLocation) →
    IsFirstPage left page → All (Contains leads) left → Pushes (IsTargetPlace led_there files results reads page.own.now) old new → All (IsTargetPlace led_there files results reads leads) old → All (IsTargetPlace led_there files results reads leads) new
pages_more led_there files results reads leads left page old new first within pushed all =
    let own = all_front (Contains leads) page.own.now page.more.now (subst (All (Contains leads)) first.split within) in
    all_pushed (IsTargetPlace led_there files results reads page.own.now) (IsTargetPlace led_there files results reads leads) old new (among_all led_there files results reads page.own.now leads own) pushed all

pub all_contained : (leads : List ListedLead) → All (Contains leads) leads
all_contained leads = All-contains_itself leads

pub left_more : (leads left : List ListedLead) (page : PageLeads) → IsFirstPage left page → All (Contains leads) left → All (Contains leads) page.more.now
left_more leads left page first within = all_back (Contains leads) page.own.now page.more.now (subst (All (Contains leads)) first.split within)

-- ---- the links to a target

pub to_target : (all following own : List TargetPlace) (begin list number count : ℕ) → following ≡ drop begin all → count ≡ length (take_while (λ one. is_to list number (placed_at one)) following) → own ≡ take count following →
    All (IsToTarget (map placed_at all) list number) (map placed_at own)
to_target all following own begin list number count is counted cut =
    let test = λ (one : TargetPlace). is_to list number (placed_at one) in
    let same : own ≡ take_while test following = cut ∙ ap (λ n. take n following) counted ∙ cut_off test following in
    All-map (IsToTarget (map placed_at all) list number) placed_at own
    (subst (All (λ (one : TargetPlace). IsToTarget (map placed_at all) list number (placed_at one))) (sym same) (λ k d below.
    let n = prefix_len test following in
    let x : TargetPlace = get_or (take_while test following) k d in
    let within : k < n = omega (arith, below, length-prefix_len test following) in
    let inside : begin + k < length all = omega (arith, within, prefix_len-le-length test following, ap length is, length-drop begin all) in
    let fits = and_parts (x.list == list) (x.number == number) (passing test following k d below) in
    let read : x ≡ get_or all (begin + k) d = get_or-take n following k d within ∙ ap (λ l. get_or l k d) is ∙ get_or-drop begin all k d in
    record {
      list = eqb-true x.list list fits.0;
      is_number = eqb-true x.number number fits.1;
      is_one = (
        begin + k,
        omega (arith, inside, length-map all placed_at),
        get_or-map placed_at all (begin + k) x (placed_at x) inside ∙ ap placed_at (get_or_default all (begin + k) x d inside ∙ sym read),
      );
    }))

-- ---- the locations of a row

pub row_none : (all : List TargetLocation) (list number : ℕ) (target : List ℕ) → All (IsRowPlace all list number target) []
row_none all list number target = All-nil (IsRowPlace all list number target)

put_each : (P : Location → Type 0) (target : List ℕ) (before : List Location) (at : Location) (b : Bool) → P (in_row target at) → All P before → All P (if b then before ++ in_row target at ∷ [] else before)
put_each P target before at true own all = All-push P before (in_row target at) all own
put_each P target before at false own all = all

pub row_more : (all : List TargetLocation) (list number : ℕ) (target : List ℕ) (own : List TargetPlace) (i : ℕ) (one : TargetPlace) (before new : List Location) →
    All (IsToTarget all list number) (map placed_at own) → i < length own → one ≡ get_or own i one → new ≡ put_last target before (location_of one.place) →
    All (IsRowPlace all list number target) before → All (IsRowPlace all list number target) new
row_more all list number target own i one before new each below is put rows =
    let at = location_of one.place in
    let here : IsToTarget all list number (placed_at one) =
    subst (IsToTarget all list number) (get_or-map placed_at own i one (placed_at one) below ∙ ap placed_at (sym is)) (each i (placed_at one) (omega (arith, below, length-map own placed_at))) in
    subst (All (IsRowPlace all list number target)) (sym put)
    (put_each (IsRowPlace all list number target) target before at (comes_last before at) (record { one = placed_at one; to = here; is = refl }) rows)

comes_last_of : (front : List Location) (last at : Location) → comes_last (front ++ last ∷ []) at ≡ comes_before last at
comes_last_of [] last at = refl
comes_last_of (first ∷ []) last at = refl
comes_last_of (first ∷ next ∷ front) last at = comes_last_of (next ∷ front) last at

pub last_at : (all front : List Place) (last : Place) (at : Location) → all ≡ front ++ last ∷ [] → comes_last (map location_of all) at ≡ comes_before (location_of last) at
last_at all front last at is = ap (λ l. comes_last (map location_of l) at) is ∙ ap (λ l. comes_last l at) (map-append location_of front (last ∷ [])) ∙ comes_last_of (map location_of front) (location_of last) at

-- ---- the lists of threads

pub chunk_more : {X E : Type 0} (yielded : List (Result (Vec X Global) E)) (chunk : Result (Vec X Global) E) (own : Vec X Global) (all longer : List X) → chunk ≡ Ok own → all ≡ flat_map items_of yielded → longer ≡ all ++ own.items →
    longer ≡ flat_map items_of (yielded ++ chunk ∷ [])
chunk_more yielded chunk own all longer is so_far more =
    more ∙ ap (λ l. l ++ own.items) so_far
    ∙ sym (flat_map-append items_of yielded (chunk ∷ []) ∙ ap (λ c. flat_map items_of yielded ++ (items_of c ++ [])) is ∙ ap (λ l. flat_map items_of yielded ++ l) (append-nil own.items))

pub all_joined : {X Y E : Type 0} (P : Y → Type 0) (f : X → Y) (chunks : List (Result (Vec X Global) E)) → All (λ chunk. IfOk chunk (λ own. All P (map f own.items))) chunks → All P (map f (flat_map items_of chunks))
all_joined P f [] all = All-nil P
all_joined P f (Ok own ∷ more) all =
    subst (All P) (sym (map-append f own.items (flat_map items_of more))) (All-append P (map f own.items) (map f (flat_map items_of more)) (all 0 (Ok own) (omega arith)) (all_joined P f more (λ k d below. all (suc k) d (omega (arith, below)))))
all_joined P f (Err e ∷ more) all = all_joined P f more (λ k d below. all (suc k) d (omega (arith, below)))
