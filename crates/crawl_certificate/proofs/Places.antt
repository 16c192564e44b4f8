-- What is known while entries, seeds and results are looked up.
use Rattle.crawl_certificate.proofs.Prelude.{◌≡◌, inl, inr, ℕ, zero, suc, ◌+◌, ◌<◌, ◌==◌, Bool, true, false, ◌||◌, ◌&&◌, cond, List, [], ◌∷◌, ◌++◌, length, map, replicate, get_or, set, slice_get, Some, None, refl, sym, ap, subst, ◌∙◌, arith, common_steps, Bor, Contains, list_any, bytes_eq, or-false, cases_Bool, both_ways, false_from_ne_true, and_parts, and_from, or_right, slice_get_within, get_or_from_slice_get, get_or-map, list_any-append, Entry, same_at, PageResult, has_result, contains_url, is_one_hop_after, is_linked, links_of, Finds, Urls, is_in, pointed}
use Rattle.std.specs.BTreeSet as sorted
use Rattle.hash_order.specs.HashOrder.{by_hash, by_hash_ties}
use Rattle.crawl_certificate.proofs.Lists.{no_element, first_or_later, some_has, any_from, same_text, text_itself}

-- ---- lists

-- one more element to check
pub any_push : {X : Type 0} (p : X → Bool) (xs : List X) (x : X) → list_any p (xs ++ x ∷ []) ≡ (list_any p xs || p x)
any_push p xs x = list_any-append p xs (x ∷ []) ∙ ap (λ b. list_any p xs || b) (or-false (p x))

pub any_map : {X Y : Type 0} (p : X → Bool) (f : Y → X) (ys : List Y) → list_any p (map f ys) ≡ list_any (λ y. p (f y)) ys
any_map p f [] = refl
any_map p f (y ∷ ys) = ap (λ b. p (f y) || b) (any_map p f ys)

-- each element of a list is at some index
pub place_among : {X : Type 0} (xs : List X) (x : X) → Contains xs x → (k : ℕ) × (slice_get xs k ≡ Some x)
place_among [] x has = absurd (no_element x has)
place_among (y ∷ ys) x has = elim (first_or_later y x ys has) [
  | inl first ↦ (zero, ap Some first)
  | inr later ↦ let at = place_among ys x later in (suc at.0, at.1)
]

pub among_at : {X : Type 0} (xs : List X) (k : ℕ) (x : X) → slice_get xs k ≡ Some x → Contains xs x
among_at xs k x at = (k, slice_get_within xs k x at, get_or_from_slice_get xs k x x at)

-- the value to which the reference at an index points
pub get_pointed : {X : Type 0} (xs : List (Bor X)) (k : ℕ) (d : Bor X) → get_or (pointed xs) k d.now ≡ (get_or xs k d).now
get_pointed xs k d = grind (arith, common_steps)

pub read_pointed : {X : Type 0} (xs : List (Bor X)) (k : ℕ) (x : Bor X) → x ≡ get_or xs k x → get_or (pointed xs) k x.now ≡ x.now
read_pointed xs k x is = get_pointed xs k x ∙ ap (λ (y : Bor _). y.now) (sym is)

pub length_pointed : {X : Type 0} (xs : List (Bor X)) → length (pointed xs) ≡ length xs
length_pointed xs = grind (arith, common_steps)

-- the mark of an entry
pub mark_of : {X : Type 0} (linked : X → Bool) (xs : List (Bor X)) (marks : List Bool) (k : ℕ) (x : Bor X) (d : Bool) → marks ≡ map linked (pointed xs) → k < length xs → x ≡ get_or xs k x → get_or marks k d ≡ linked x.now
mark_of linked xs marks k x d is below at = ap (λ ms. get_or ms k d) is ∙ get_or-map linked (pointed xs) k x.now d (omega (arith, length_pointed xs)) ∙ ap linked (read_pointed xs k x at)

pub none_marked : {X : Type 0} (xs : List X) → map (λ _. false) xs ≡ replicate (length xs) false
none_marked [] = refl
none_marked (x ∷ xs) = ap (λ bs. false ∷ bs) (none_marked xs)

-- ---- sets of URLs

-- a set of URLs after one was inserted
pub set_put : (old new : Urls) (key : List ℕ) → sorted.Updates by_hash old new key true → (url : List ℕ) → is_in new url ≡ (is_in old url || bytes_eq key url)
set_put old new key updates url =
    updates.0 url ∙ ap (λ b. cond b true (is_in old url)) (sym (by_hash_ties key url)) ∙ or_by_cond (bytes_eq key url) (is_in old url)
  where
    or_by_cond : (b o : Bool) → cond b true o ≡ (o || b)
    or_by_cond b o = grind arith

-- ---- what is found

-- the entry at the index that was found has the URL
own_url : (entries : List Entry) (url : List ℕ) (k : ℕ) → Finds entries url (Some k) → (e : Entry) → slice_get entries k ≡ Some e → e.url ≡ url
own_url entries url k found e at = grind arith

pub found_within : (entries : List Entry) (url : List ℕ) (k : ℕ) → Finds entries url (Some k) → k < length entries
found_within entries url k found = slice_get_within entries k found.0.0 found.0.1

-- ---- marks

pub maps_agree : {X Y : Type 0} (f g : X → Y) (xs : List X) → ((k : ℕ) (x : X) → slice_get xs k ≡ Some x → f x ≡ g x) → map f xs ≡ map g xs
maps_agree f g [] h = refl
maps_agree f g (x ∷ xs) h = ap (λ y. y ∷ map f xs) (h zero x refl) ∙ ap (λ ys. g x ∷ ys) (maps_agree f g xs (λ k z at. h (suc k) z at))

-- a mapped list after one value was written
pub set_agrees : {X Y : Type 0} (f g : X → Y) (xs : List X) (k : ℕ) (v : Y) → ((x : X) → slice_get xs k ≡ Some x → v ≡ g x) → ((i : ℕ) (x : X) → slice_get xs i ≡ Some x → (i ≡ k → ⊥) → f x ≡ g x) → set (map f xs) k v ≡ map g xs
set_agrees f g [] k v at others = refl
set_agrees f g (x ∷ xs) zero v at others = ap (λ y. y ∷ map f xs) (at x refl) ∙ ap (λ ys. g x ∷ ys) (maps_agree f g xs (λ i z here'. others (suc i) z here' (λ e. omega (arith, e))))
set_agrees f g (x ∷ xs) (suc k) v at others =
    ap (λ y. y ∷ set (map f xs) k v) (others zero x refl (λ e. omega (arith, e)))
    ∙ ap (λ ys. g x ∷ ys) (set_agrees f g xs k v at (λ i z here' differs. others (suc i) z here' (λ e. differs (omega (arith, e)))))

or_none : (a b c : Bool) → b ≡ false → a ≡ (a || (b && c))
or_none a b c h = grind arith

or_none_last : (a b c : Bool) → c ≡ false → a ≡ (a || (b && c))
or_none_last a b c h = grind arith

-- the marks of the entries after the one with this URL was marked, if it passes the test
pub marked : (entries : List Entry) (url : List ℕ) (k : ℕ) → Finds entries url (Some k) → (known test : Entry → Bool) (e : Entry) → slice_get entries k ≡ Some e → test e ≡ true → set (map known entries) k true ≡ map (λ e. known e || (bytes_eq url e.url && test e)) entries
marked entries url k found known test e at passes = grind (arith, set_agrees, same_at, or_none, own_url, text_itself, false_from_ne_true)

-- one more link
pub marks_push : (entries : List Entry) (links : List (List ℕ)) (link : List ℕ) (known test : Entry → Bool) → map (λ e. (known e || (contains_url links e.url && test e)) || (bytes_eq link e.url && test e)) entries ≡ map (λ e. known e || (contains_url (links ++ link ∷ []) e.url && test e)) entries
marks_push entries links link known test = grind (arith, maps_agree, any_push)

-- ---- entries one hop after the entry of a URL

after_found : (entries : List Entry) (url : List ℕ) (k : ℕ) → Finds entries url (Some k) → (before : Entry) → slice_get entries k ≡ Some before → (e : Entry) → (e.hops == before.hops + 1) ≡ is_one_hop_after entries url e
after_found entries url k found before at e =
    let p : Entry → Bool = λ b. bytes_eq b.url url && e.hops == b.hops + 1 in
    elim (cases_Bool (e.hops == before.hops + 1)) [
      | inl next ↦
          next ∙ sym (any_from p entries before (among_at entries k before at)
          (and_from _ _ (subst (λ u. bytes_eq before.url u ≡ true) (own_url entries url k found before at) (text_itself before.url)) next))
      | inr not_next ↦
          not_next ∙ sym (false_from_ne_true _ (λ has.
          let some = some_has p entries has in
          let fits = and_parts (bytes_eq some.0.url url) (e.hops == some.0.hops + 1) some.2 in
          let there = place_among entries some.0 some.1 in
          let same_url : url ≡ some.0.url = sym (same_text some.0.url url fits.0) in
          let index : there.0 ≡ k = found.1 there.0 some.0 there.1 (subst (λ u. bytes_eq url u ≡ true) same_url (text_itself url)) in
          let one : before ≡ some.0 = same_at entries k before some.0 at (subst (λ n. slice_get entries n ≡ Some some.0) index there.1) in
          both_ways _ not_next (subst (λ z. (e.hops == z.hops + 1) ≡ true) (sym one) fits.1)))
    ]

after_none : (entries : List Entry) (url : List ℕ) → Finds entries url None → (e : Entry) → is_one_hop_after entries url e ≡ false
after_none entries url none e =
    let p : Entry → Bool = λ b. bytes_eq b.url url && e.hops == b.hops + 1 in
    false_from_ne_true _ (λ has.
    let some = some_has p entries has in
    let fits = and_parts (bytes_eq some.0.url url) (e.hops == some.0.hops + 1) some.2 in
    let there = place_among entries some.0 some.1 in
    let same_url : url ≡ some.0.url = sym (same_text some.0.url url fits.0) in
    both_ways _ (none there.0 some.0 there.1) (subst (λ u. bytes_eq url u ≡ true) same_url (text_itself url)))

-- the marks that the links of a result give, by the hops of the result's entry
pub after_marks : (entries : List Entry) (r : PageResult) (k : ℕ) → Finds entries r.url (Some k) → (before : Entry) → slice_get entries k ≡ Some before → (known : Entry → Bool) → map (λ e. known e || (contains_url (links_of r.page) e.url && e.hops == before.hops + 1)) entries ≡ map (λ e. known e || (contains_url (links_of r.page) e.url && is_one_hop_after entries r.url e)) entries
after_marks entries r k found before at known = grind (arith, maps_agree, after_found)

-- a result whose URL is not accepted gives no marks
pub after_no_marks : (entries : List Entry) (r : PageResult) → Finds entries r.url None → (known : Entry → Bool) → map known entries ≡ map (λ e. known e || (contains_url (links_of r.page) e.url && is_one_hop_after entries r.url e)) entries
after_no_marks entries r none known = grind (arith, maps_agree, or_none_last, after_none)

-- one more result
pub linked_push : (entries : List Entry) (results : List PageResult) (r : PageResult) (known : Entry → Bool) → map (λ e. (known e || is_linked entries results e) || (contains_url (links_of r.page) e.url && is_one_hop_after entries r.url e)) entries ≡ map (λ e. known e || is_linked entries (results ++ r ∷ []) e) entries
linked_push entries results r known = grind (arith, maps_agree, any_push)

-- ---- entries with a result

-- the entry with the URL of a result is marked
pub fetched_marked : (entries : List Entry) (url : List ℕ) (k : ℕ) → Finds entries url (Some k) → (known : List ℕ → Bool) → set (map (λ e. known e.url) entries) k true ≡ map (λ e. known e.url || bytes_eq url e.url) entries
fetched_marked entries url k found known = grind (arith, set_agrees, or_right, own_url, text_itself, false_from_ne_true)

-- whether the entry with the URL was marked
pub fetched_before : (entries : List Entry) (url : List ℕ) (k : ℕ) → Finds entries url (Some k) → (known : List ℕ → Bool) (d : Bool) → get_or (map (λ e. known e.url) entries) k d ≡ known url
fetched_before entries url k found known d =
    get_or-map (λ (e : Entry). known e.url) entries k found.0.0 d (slice_get_within entries k found.0.0 found.0.1)
    ∙ ap (λ (e : Entry). known e.url) (get_or_from_slice_get entries k found.0.0 found.0.0 found.0.1) ∙ ap known found.0.2

-- one more result
pub fetched_push : (entries : List Entry) (results : List PageResult) (r : PageResult) → map (λ e. has_result results e.url || bytes_eq r.url e.url) entries ≡ map (λ e. has_result (results ++ r ∷ []) e.url) entries
fetched_push entries results r = maps_agree _ _ entries (λ k e at. sym (any_push (λ (x : PageResult). bytes_eq x.url e.url) results r))
