-- Marks that only linked entries have, and a run that lost nothing.
use Rattle.crawl_certificate.proofs.Prelude.{common_steps, ◌≡◌, ℕ, zero, suc, ◌+◌, ◌<◌, ◌^◌, ◌==◌, Bool, true, false, not, ◌||◌, ◌&&◌, List, [], ◌∷◌, ◌++◌, length, get_or, slice_get, Option, Some, None, IfSome, IsSomeAnd, Vec, Global, refl, sym, ap, subst, ◌∙◌, arith, length-append, if◌then◌else◌, Bor, bytes_eq, and_from, cases_lt, eq-eqb, not_from_true, or_from, or_left, or_right, slice_get_read, All-contains_itself, All-weaker, list_any-append, list_any_none, Entry, same_at, PageResult, links_of, DifferByUrl, first_error, has_result, is_accepted, is_one_hop_after, is_founded, is_linked, contains_url, twice, NothingLost, entry_urls, result_urls, Urls, at_this, is_in, pointed, has_url_at, MarksOnly, in_one, AreFrom, IsWalk}
use Rattle.std.specs.List.{AllByRecursion, Contains, IsDistinct, list_any}
use Rattle.crawl_certificate.proofs.Certified.{in_map}
use Rattle.crawl_keys.proofs.FilterLemmas.{bytes_eq-comm}
use Rattle.crawl_certificate.proofs.Lists.{any_from, same_text, text_itself}
use Rattle.crawl_certificate.proofs.NothingLost.{accepted_in, nothing_lost}
use Rattle.crawl_certificate.proofs.Order.{Distinct, distinct_entries}
use Rattle.crawl_certificate.proofs.Places.{among_at, length_pointed, read_pointed}

-- an entry that is linked from the result of the entry before it
pub linked_from : (entries : List Entry) (results : List PageResult) (i j : ℕ) (r : PageResult) (before : Entry) → slice_get results i ≡ Some r → slice_get entries j ≡ Some before → before.url ≡ r.url
    → (e : Entry) → contains_url (links_of r.page) e.url ≡ true → e.hops ≡ before.hops + 1 → is_linked entries results e ≡ true
linked_from entries results i j r before at there same e link far = grind (arith, common_steps, any_from, among_at, and_from, text_itself, eq-eqb)

-- ---- no error

none_with : (url : List ℕ) (results : List PageResult) → AllByRecursion (λ y. bytes_eq url y ≡ false) (result_urls results) → has_result results url ≡ false
none_with url [] none = refl
none_with url (r ∷ rs) none = or_from (bytes_eq r.url url) (has_result rs url) (bytes_eq-comm r.url url ∙ none.0) (none_with url rs none.1)

once : (results : List PageResult) → Distinct (result_urls results) → twice results ≡ false
unfolding IsDistinct
once [] distinct = refl
once (r ∷ rs) distinct = or_from (has_result rs r.url) (twice rs) (none_with r.url rs distinct.0) (once rs distinct.1)

all_listed : (entries : List Entry) (results : List PageResult) → entry_urls entries ≡ result_urls results → list_any (λ r. not (is_accepted entries r.url)) results ≡ false
all_listed entries results same =
    list_any_none (λ (r : PageResult). not (is_accepted entries r.url)) results
    (All-weaker (Contains results) (λ (r : PageResult). not (is_accepted entries r.url) ≡ false)
    (λ r has. not_from_true _ (accepted_in entries r.url (subst (λ us. Contains us r.url) (sym same) (in_map (λ (x : PageResult). x.url) results r has))))
    results (All-contains_itself results))

all_founded : (allowed : List ℕ → Bool) (seeds : List (List ℕ)) (entries : List Entry) (results : List PageResult) → ((e : Entry) → Contains entries e → is_founded allowed seeds entries results e ≡ true) → list_any (λ e. not (is_founded allowed seeds entries results e)) entries ≡ false
all_founded allowed seeds entries results each =
    list_any_none (λ (e : Entry). not (is_founded allowed seeds entries results e)) entries
    (All-weaker (Contains entries) (λ (e : Entry). not (is_founded allowed seeds entries results e) ≡ false) (λ e has. not_from_true _ (each e has)) entries (All-contains_itself entries))

-- a run that lost nothing, whose results are those of its entries in their order
pub faultless : (allowed : List ℕ → Bool) (seeds : List (List ℕ)) (entries : List Entry) (results : List PageResult) → NothingLost allowed seeds entries results → DifferByUrl entries → entry_urls entries ≡ result_urls results
    → ((e : Entry) → Contains entries e → is_founded allowed seeds entries results e ≡ true) → first_error allowed seeds entries results ≡ None
faultless allowed seeds entries results kept apart same each = grind (arith, nothing_lost, or_from, all_founded, all_listed, once, distinct_entries)

-- ---- steps of the walk

-- the link at an index is among the links
pub has_url_at_place : (links : List (List ℕ)) (i : ℕ) (link url : List ℕ) → i < length links → link ≡ get_or links i link → url ≡ link → contains_url links url ≡ true
has_url_at_place links i link url within is same = any_from (λ own. bytes_eq own url) links link (i, within, sym is) (subst (λ u. bytes_eq link u ≡ true) (sym same) (text_itself link))

-- the element that is read at an index
pub read_at : {X : Type 0} (xs : List X) (i : ℕ) (x : X) → i < length xs → x ≡ get_or xs i x → slice_get xs i ≡ Some x
read_at xs i x within is = slice_get_read xs (length xs) i x refl within is

-- the test `has_url_at` passes at the index of an entry with the URL
pub has_url_here : (entries : List Entry) (k : ℕ) (e : Entry) (url : List ℕ) → slice_get entries k ≡ Some e → e.url ≡ url → has_url_at entries k url ≡ true
has_url_here entries k e url at same = subst (λ o. at_this o url ≡ true) (sym at) (subst (λ u. bytes_eq e.url u ≡ true) same (text_itself e.url))

-- one more result
pub own_more : (entries : List Entry) (first : ℕ) (results : List PageResult) (i : ℕ) (r : PageResult) → ((k : ℕ) (x : PageResult) → k < i → slice_get results k ≡ Some x → has_url_at entries (first + k) x.url ≡ true)
    → slice_get results i ≡ Some r → has_url_at entries (first + i) r.url ≡ true → (k : ℕ) (x : PageResult) → k < i + 1 → slice_get results k ≡ Some x → has_url_at entries (first + k) x.url ≡ true
own_more entries first results i r so_far at stands k x below there = grind (arith, cases_lt, same_at)

stays : (a z s m : Bool) → (a && (if z then s else false)) ≡ true → (a && (if z then s else m)) ≡ true
stays a z s m h = grind arith

-- one more entry that is founded
pub founded_more : (allowed : List ℕ → Bool) (seeds : Urls) (holds : Entry → Bool) (entries : List (Bor Entry)) (marks : List Bool) (i : ℕ) (e : Bor Entry) (mark : Bool)
    → i < length entries → e ≡ get_or entries i e → slice_get marks i ≡ Some mark → MarksOnly holds (pointed entries) marks
    → (allowed e.now.url && (if e.now.hops == 0 then is_in seeds e.now.url else mark)) ≡ true → (allowed e.now.url && (if e.now.hops == 0 then is_in seeds e.now.url else holds e.now)) ≡ true
founded_more allowed seeds holds entries marks i e mark within is at only passes =
    let there : slice_get (pointed entries) i ≡ Some e.now = read_at (pointed entries) i e.now (omega (arith, within, length_pointed entries)) (sym (read_pointed entries i e is)) in
    by_mark mark (λ set. only i e.now there (subst (λ b. slice_get marks i ≡ Some b) set at)) passes
  where
    by_mark : (b : Bool) → (b ≡ true → holds e.now ≡ true) → (allowed e.now.url && (if e.now.hops == 0 then is_in seeds e.now.url else b)) ≡ true → (allowed e.now.url && (if e.now.hops == 0 then is_in seeds e.now.url else holds e.now)) ≡ true
    by_mark true then' h = subst (λ b. (allowed e.now.url && (if e.now.hops == 0 then is_in seeds e.now.url else b)) ≡ true) (sym (then' refl)) h
    by_mark false then' h = stays (allowed e.now.url) (e.now.hops == 0) (is_in seeds e.now.url) (holds e.now) h

-- entries and results of equal number have the same URLs if each result has the URL of the entry at its index
urls_by_index : (entries : List Entry) (results : List PageResult) → length entries ≡ length results → ((k : ℕ) (r : PageResult) → slice_get results k ≡ Some r → has_url_at entries k r.url ≡ true) → entry_urls entries ≡ result_urls results
urls_by_index [] [] long own = refl
urls_by_index [] (r ∷ rs) long own = absurd (omega (arith, long))
urls_by_index (e ∷ es) [] long own = absurd (omega (arith, long))
urls_by_index (e ∷ es) (r ∷ rs) long own =
    let first : e.url ≡ r.url = same_text e.url r.url (own zero r refl) in
    let rest = urls_by_index es rs (omega (arith, long)) (λ k x at. own (suc k) x at) in
    (λ i. first i ∷ rest i)

pub all_urls : (entries : List Entry) (results : List PageResult) → length entries ≡ length results → AreFrom entries 0 results → entry_urls entries ≡ result_urls results
all_urls entries results long own =
    urls_by_index entries results long (λ k r at. let same : 0 + k ≡ k = omega arith in subst (λ n. has_url_at entries n r.url ≡ true) same (own k r at))

-- if the test `has_url_at` passes at an index, an entry with the URL is there
pub has_url_there : (entries : List Entry) (k : ℕ) (url : List ℕ) → has_url_at entries k url ≡ true → (e : Entry) × (slice_get entries k ≡ Some e) × (e.url ≡ url)
has_url_there entries k url h = grind (arith, same_text)

-- ---- two walks combined

in_one_only : (test : Entry → Bool) (entries : List Entry) (marks more : List Bool) → MarksOnly test entries marks → MarksOnly test entries more → MarksOnly test entries (in_one marks more)
in_one_only test entries marks [] only more_only k e at mark = only k e at mark
in_one_only test entries [] (y ∷ ys) only more_only k e at mark = only k e at mark
in_one_only test [] (x ∷ xs) (y ∷ ys) only more_only k e at mark = absurd (cc)
in_one_only test (z ∷ zs) (x ∷ xs) (y ∷ ys) only more_only zero e at mark = by_mark x y refl refl mark
  where
    by_mark : (a b : Bool) → x ≡ a → y ≡ b → Some (a || b) ≡ Some true → test e ≡ true
    by_mark true b p q either = only zero e at (ap Some p)
    by_mark false true p q either = more_only zero e at (ap Some q)
    by_mark false false p q either = absurd (cc)
in_one_only test (z ∷ zs) (x ∷ xs) (y ∷ ys) only more_only (suc k) e at mark = in_one_only test zs xs ys (λ i w. only (suc i) w) (λ i w. more_only (suc i) w) k e at mark

length_in_one : (marks more : List Bool) → length (in_one marks more) ≡ length marks
length_in_one marks [] = refl
length_in_one [] (y ∷ ys) = refl
length_in_one (x ∷ xs) (y ∷ ys) = ap suc (length_in_one xs ys)

own_append : (entries : List Entry) (first : ℕ) (xs ys : List PageResult) → AreFrom entries first xs → AreFrom entries (first + length xs) ys → AreFrom entries first (xs ++ ys)
own_append entries first [] ys own more k r at =
    let same : (first + 0) + k ≡ first + k = omega arith in
    subst (λ n. has_url_at entries n r.url ≡ true) same (more k r at)
own_append entries first (x ∷ xs) ys own more zero r at = own zero r at
own_append entries first (x ∷ xs) ys own more (suc k) r at =
    let next : suc first + k ≡ first + suc k = omega arith in
    subst (λ n. has_url_at entries n r.url ≡ true) next
    (own_append entries (suc first) xs ys
    (λ i y there. let e : first + suc i ≡ suc first + i = omega arith in subst (λ n. has_url_at entries n y.url ≡ true) e (own (suc i) y there))
    (λ i y there. let e : (first + suc (length xs)) + i ≡ (suc first + length xs) + i = omega arith in subst (λ n. has_url_at entries n y.url ≡ true) e (more i y there))
    k r at)

linked_front : (entries : List Entry) (xs ys : List PageResult) (e : Entry) → is_linked entries xs e ≡ true → is_linked entries (xs ++ ys) e ≡ true
linked_front entries xs ys e link = list_any-append (λ (r : PageResult). contains_url (links_of r.page) e.url && is_one_hop_after entries r.url e) xs ys ∙ or_left _ _ link

linked_back : (entries : List Entry) (xs ys : List PageResult) (e : Entry) → is_linked entries ys e ≡ true → is_linked entries (xs ++ ys) e ≡ true
linked_back entries xs ys e link = list_any-append (λ (r : PageResult). contains_url (links_of r.page) e.url && is_one_hop_after entries r.url e) xs ys ∙ or_right _ _ link

-- walks over results and over those after them
walks_together : (entries : List Entry) (first following : ℕ) (xs ys : List PageResult) (marks more : List Bool) → (first + length (xs ++ ys) < 2 ^ 64 → following ≡ first + length xs) → IsWalk entries first xs marks → IsWalk entries following ys more → IsWalk entries first (xs ++ ys) (in_one marks more)
walks_together entries first following xs ys marks more at p q = record {
  long = length_in_one marks more ∙ p.long;
  own = λ fits.
      let sum : length (xs ++ ys) ≡ length xs + length ys = length-append xs ys in
      let middle : following ≡ first + length xs = at fits in
      let later : AreFrom entries following ys = q.own (omega (arith, fits, sum, middle)) in
      own_append entries first xs ys (p.own (omega (arith, fits, sum))) (subst (λ n. AreFrom entries n ys) middle later);
  only =
      in_one_only (is_linked entries (xs ++ ys)) entries marks more
      (λ k e at mark. linked_front entries xs ys e (p.only k e at mark)) (λ k e at mark. linked_back entries xs ys e (q.only k e at mark));
}

-- likewise for two parts of a chunk
pub parts_together : (entries here' there' : List Entry) → here' ≡ entries → there' ≡ entries → (first front following : ℕ) → front ≡ first → (xs ys whole : List PageResult) → xs ++ ys ≡ whole → (first + length whole < 2 ^ 64 → following ≡ first + length xs)
    → (one other all : List Bool) → IsWalk here' front xs one → IsWalk there' following ys other → all ≡ in_one one other → IsWalk entries first whole all
parts_together entries here' there' e f first front following at xs ys whole joined past one other all p q both =
    let own : IsWalk entries first xs one = subst (λ n. IsWalk entries n xs one) at (subst (λ es. IsWalk es front xs one) e p) in
    let later : IsWalk entries following ys other = subst (λ es. IsWalk es following ys other) f q in
    let sum : IsWalk entries first (xs ++ ys) (in_one one other) =
    walks_together entries first following xs ys one other (λ fits. past (subst (λ rs. first + length rs < 2 ^ 64) joined fits)) own later in
    subst (λ ms. IsWalk entries first whole ms) (sym both) (subst (λ rs. IsWalk entries first rs (in_one one other)) joined sum)

-- a property of the combined marks of two walks that follows from properties of the marks of each
pub both_least : (P Q R : List Bool → Type 0) → ((one other all : List Bool) → P one → Q other → all ≡ in_one one other → R all) → (first second least : Option (Vec Bool Global))
    → IfSome first (λ v. P v.items) → IfSome second (λ v. Q v.items) → IfSome least (λ all. IsSomeAnd first (λ one. IsSomeAnd second (λ other. all.items ≡ in_one one.items other.items))) → IfSome least (λ v. R v.items)
both_least P Q R sum first second least p q t = grind arith
