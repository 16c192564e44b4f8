-- The least text that passes a test, and how two of these are combined.
use Rattle.crawl_certificate.proofs.Prelude.{◌≡◌, inl, inr, ℕ, ◌+◌, ◌<◌, ◌≤◌, Bool, true, false, ◌||◌, ◌&&◌, List, [], ◌∷◌, ◌++◌, length, take, get_or, Option, Some, None, is_some, refl, sym, ap, subst, ◌∙◌, arith, common_steps, nat_tests, Bor, slice_cmp, nat_cmp, is_lt, is_eq, ordering_reverse, Ordering, Less, Equal, Greater, is_eq-slice_cmp, list_any, bytes_eq, or-false, cases_Bool, and_parts, and_from, or_cases, or_left, or_right, or_from, both_ways, false_from_ne_true, take_more, take_all, map_more, list_any-append, ranks_by, Entry, is_below, IsLeast, url_if, lesser, pointed}
use Rattle.std.specs.Bool.{if◌then◌else◌}
use Rattle.std.specs.Cmp.{IsStrictWeakOrder}
use Rattle.std.proofs.lemmas.Cmp.{nat_list_cmp_total}
use Rattle.crawl_certificate.proofs.Lists.{some_has, any_from, same_text, text_itself}
use Rattle.crawl_certificate.proofs.Places.{any_push}

-- ---- the order

ranks : IsStrictWeakOrder is_below
ranks = ranks_by nat_list_cmp_total (λ t. t)

not_below_itself : (t : List ℕ) → is_below t t ≡ false
not_below_itself t = elim (cases_Bool (is_below t t)) [ inl h ↦ ranks.one_way t t h | inr h ↦ h ]

-- two texts are equal if neither is less than the other
pub neither_below : (a b : List ℕ) → is_below a b ≡ false → is_below b a ≡ false → a ≡ b
neither_below a b p q = by (slice_cmp nat_cmp a b) refl
  where
    by : (o : Ordering) → slice_cmp nat_cmp a b ≡ o → a ≡ b
    by Less is = absurd (both_ways _ p (ap is_lt is))
    by Equal is = same_text a b (sym (is_eq-slice_cmp a b) ∙ ap is_eq is)
    by Greater is = absurd (both_ways _ q (ap is_lt (nat_list_cmp_total.antisymm b a ∙ ap ordering_reverse is)))

-- ---- tests

pub same_bool : (a b : Bool) → (a ≡ true → b ≡ true) → (b ≡ true → a ≡ true) → a ≡ b
same_bool a b there' back = grind arith

or_and : (a b c : Bool) → ((a && c) || (b && c)) ≡ ((a || b) && c)
or_and a b c = grind arith

-- tests that agree on all texts have the same least text
pub by_test : (p q : List ℕ → Bool) (least : Option (List ℕ)) → ((text : List ℕ) → p text ≡ q text) → IsLeast p least → IsLeast q least
by_test p q least same is = subst (λ t. IsLeast t least) (λ i text. same text i) is

-- ---- one text, and two tests

-- the least text that equals this one and passes the test is the text itself, if it passes
pub only_one : (text : List ℕ) (test : List ℕ → Bool) → IsLeast (λ t. bytes_eq text t && test t) (url_if (test text) text)
only_one text test = grind (arith, and_from, text_itself, and_parts, same_text, not_below_itself, false_from_ne_true, both_ways)

two_least : (p q : List ℕ → Bool) (a b : List ℕ) → IsLeast p (Some a) → IsLeast q (Some b) → (below : Bool) → is_below b a ≡ below → IsLeast (λ t. p t || q t) (Some (if below then b else a))
two_least p q a b of_a of_b below is = grind (arith, or_right, or_cases, ranks, or_left)

-- the least text that passes either of two tests is the lesser of the least texts of the two
pub least_of_both : (p q : List ℕ → Bool) (a b : Option (List ℕ)) → IsLeast p a → IsLeast q b → IsLeast (λ t. p t || q t) (lesser a b)
least_of_both p q a b of_a of_b = grind (arith, or_from, or_left, or_cases, both_ways, or_right, two_least)

pub lesser_none : (a b : Option (List ℕ)) → lesser a b ≡ None → (a ≡ None) × (b ≡ None)
lesser_none a b none = grind arith

pub some_lesser : (a b : Option (List ℕ)) → is_some (lesser a b) ≡ (is_some a || is_some b)
some_lesser a b = grind arith

-- ---- lists

-- the least text for which some element is wrong, after one more element
pub least_push : {X : Type 0} (at : X → List ℕ → Bool) (xs : List X) (x : X) (least one : Option (List ℕ)) → IsLeast (λ t. list_any (λ y. at y t) xs) least → IsLeast (at x) one → IsLeast (λ t. list_any (λ y. at y t) (xs ++ x ∷ [])) (lesser least one)
least_push at xs x least one before now = grind (arith, by_test, any_push, least_of_both)

-- likewise after one more list, for texts that also pass a test
pub least_append : {X : Type 0} (at : X → List ℕ → Bool) (bad : List ℕ → Bool) (xs ys : List X) (least one : Option (List ℕ)) → IsLeast (λ t. list_any (λ y. at y t) xs && bad t) least → IsLeast (λ t. list_any (λ y. at y t) ys && bad t) one → IsLeast (λ t. list_any (λ y. at y t) (xs ++ ys) && bad t) (lesser least one)
least_append at bad xs ys least one before now = grind (arith, by_test, or_and, list_any-append, least_of_both)

pub least_more : {X : Type 0} (at : X → List ℕ → Bool) (bad : List ℕ → Bool) (xs : List X) (x : X) (least one : Option (List ℕ)) → IsLeast (λ t. list_any (λ y. at y t) xs && bad t) least → IsLeast (λ t. at x t && bad t) one → IsLeast (λ t. list_any (λ y. at y t) (xs ++ x ∷ []) && bad t) (lesser least one)
least_more at bad xs x least one before now = grind (arith, least_append, by_test, or-false)

-- a text is the URL of an element whose URL passes the test if and only if it is the URL of an element and passes the test
pub at_urls : {X : Type 0} (url : X → List ℕ) (test : List ℕ → Bool) (xs : List X) (text : List ℕ) → list_any (λ x. bytes_eq (url x) text && test (url x)) xs ≡ (list_any (λ x. bytes_eq (url x) text) xs && test text)
at_urls url test [] text = refl
at_urls url test (x ∷ xs) text = grind (arith, nat_tests, at_urls url test xs, cases_Bool, or_and, same_text)

-- ---- whether there is a least text

-- there is a least text if and only if `holds` is true, and that is so if and only if some text passes the test
pub some_least : (holds : Bool) (test : List ℕ → Bool) (least : Option (List ℕ)) → IsLeast test least → (holds ≡ true → (t : List ℕ) × (test t ≡ true)) → ((t : List ℕ) → test t ≡ true → holds ≡ true) → is_some least ≡ holds
some_least holds test least is found back = grind arith

-- elements whose own URL is wrong
pub urls_at : {X : Type 0} (url : X → List ℕ) (bad : List ℕ → Bool) (xs : List X) (t : List ℕ) → (list_any (λ x. bytes_eq (url x) t) xs && bad t) ≡ true → list_any (λ x. bad (url x)) xs ≡ true
urls_at url bad xs t passes =
    let parts = and_parts (list_any (λ x. bytes_eq (url x) t) xs) (bad t) passes in
    let x = some_has (λ y. bytes_eq (url y) t) xs parts.0 in
    any_from (λ y. bad (url y)) xs x.0 x.1 (subst (λ u. bad u ≡ true) (sym (same_text (url x.0) t x.2)) parts.1)

pub some_of_urls : {X : Type 0} (url : X → List ℕ) (bad : List ℕ → Bool) (xs : List X) (least : Option (List ℕ)) → IsLeast (λ t. list_any (λ x. bytes_eq (url x) t) xs && bad t) least → is_some least ≡ list_any (λ x. bad (url x)) xs
some_of_urls url bad xs least is = grind (arith, common_steps, some_least, some_has, and_from, any_from, text_itself, urls_at)

-- elements that are wrong themselves
pub elements_at : {X : Type 0} (url : X → List ℕ) (bad : X → Bool) (xs : List X) (t : List ℕ) → list_any (λ x. bytes_eq (url x) t && bad x) xs ≡ true → list_any bad xs ≡ true
elements_at url bad xs t passes = grind (arith, common_steps, some_has, any_from, and_parts)

pub some_of_elements : {X : Type 0} (url : X → List ℕ) (bad : X → Bool) (xs : List X) (least : Option (List ℕ)) → IsLeast (λ t. list_any (λ x. bytes_eq (url x) t && bad x) xs) least → is_some least ≡ list_any bad xs
some_of_elements url bad xs least is =
    some_least (list_any bad xs) (λ t. list_any (λ x. bytes_eq (url x) t && bad x) xs) least is
    (λ yes.
    let x = some_has bad xs yes in
    (url x.0, any_from (λ y. bytes_eq (url y) (url x.0) && bad y) xs x.0 x.1 (and_from _ _ (text_itself (url x.0)) x.2)))
    (elements_at url bad xs)

-- elements that have texts, some of which are wrong
pub lists_at : {X : Type 0} (texts : X → List (List ℕ)) (bad : List ℕ → Bool) (xs : List X) (t : List ℕ) → (list_any (λ x. list_any (λ own. bytes_eq own t) (texts x)) xs && bad t) ≡ true → list_any (λ x. list_any bad (texts x)) xs ≡ true
lists_at texts bad xs t passes =
    let parts = and_parts (list_any (λ x. list_any (λ own. bytes_eq own t) (texts x)) xs) (bad t) passes in
    let x = some_has (λ y. list_any (λ own. bytes_eq own t) (texts y)) xs parts.0 in
    let own = some_has (λ y. bytes_eq y t) (texts x.0) x.2 in
    any_from (λ y. list_any bad (texts y)) xs x.0 x.1 (any_from bad (texts x.0) own.0 own.1 (subst (λ u. bad u ≡ true) (sym (same_text own.0 t own.2)) parts.1))

pub some_of_lists : {X : Type 0} (texts : X → List (List ℕ)) (bad : List ℕ → Bool) (xs : List X) (least : Option (List ℕ)) → IsLeast (λ t. list_any (λ x. list_any (λ own. bytes_eq own t) (texts x)) xs && bad t) least → is_some least ≡ list_any (λ x. list_any bad (texts x)) xs
some_of_lists texts bad xs least is = grind (arith, common_steps, some_least, some_has, and_from, any_from, text_itself, lists_at)

-- ---- loops

-- one more text of a list
pub text_more : (bad : List ℕ → Bool) (texts : List (List ℕ)) (k : ℕ) (text : List ℕ) (least one new : Option (List ℕ)) → k < length texts → text ≡ get_or texts k text → one ≡ url_if (bad text) text → new ≡ lesser least one → IsLeast (λ t. list_any (λ own. bytes_eq own t) (take k texts) && bad t) least → IsLeast (λ t. list_any (λ own. bytes_eq own t) (take (k + 1) texts) && bad t) new
text_more bad texts k text least one new below at is put before =
    let more : take k texts ++ text ∷ [] ≡ take (k + 1) texts = ap (λ x. take k texts ++ x ∷ []) at ∙ sym (take_more texts k text below) in
    let now : IsLeast (λ t. bytes_eq text t && bad t) one = subst (IsLeast (λ t. bytes_eq text t && bad t)) (sym is) (only_one text bad) in
    subst (λ ts. IsLeast (λ t. list_any (λ own. bytes_eq own t) ts && bad t) new) more
    (subst (IsLeast (λ t. list_any (λ own. bytes_eq own t) (take k texts ++ text ∷ []) && bad t)) (sym put)
    (least_more (λ own t. bytes_eq own t) bad (take k texts) text least one before now))

-- one more entry
pub entry_more : (test : Entry → Bool) (xs : List (Bor Entry)) (k : ℕ) (x : Bor Entry) (bad : Bool) (least one new : Option (List ℕ)) → k < length xs → x ≡ get_or xs k x → bad ≡ test x.now → one ≡ url_if bad x.now.url → new ≡ lesser least one → IsLeast (λ t. list_any (λ e. bytes_eq e.url t && test e) (pointed (take k xs))) least → IsLeast (λ t. list_any (λ e. bytes_eq e.url t && test e) (pointed (take (k + 1) xs))) new
entry_more test xs k x bad least one new below at same is put before =
    let more : pointed (take k xs) ++ x.now ∷ [] ≡ pointed (take (k + 1) xs) = ap (λ (y : Bor Entry). pointed (take k xs) ++ y.now ∷ []) at ∙ sym (map_more (λ (y : Bor Entry). y.now) xs k x below) in
    let now : IsLeast (λ t. bytes_eq x.now.url t && test x.now) one = subst (IsLeast (λ t. bytes_eq x.now.url t && test x.now)) (sym (is ∙ ap (λ b. url_if b x.now.url) same)) (only_one x.now.url (λ _. test x.now)) in
    subst (λ es. IsLeast (λ t. list_any (λ (e : Entry). bytes_eq e.url t && test e) es) new) more
    (subst (IsLeast (λ t. list_any (λ (e : Entry). bytes_eq e.url t && test e) (pointed (take k xs) ++ x.now ∷ []))) (sym put)
    (least_push (λ (e : Entry) t. bytes_eq e.url t && test e) (pointed (take k xs)) x.now least one before now))

-- all entries were checked
pub entries_all : (test : Entry → Bool) (xs : List (Bor Entry)) (k : ℕ) (least : Option (List ℕ)) → length xs ≤ k → IsLeast (λ t. list_any (λ e. bytes_eq e.url t && test e) (pointed (take k xs))) least → IsLeast (λ t. list_any (λ e. bytes_eq e.url t && test e) (pointed xs)) least
entries_all test xs k least past is = subst (λ ys. IsLeast (λ t. list_any (λ (e : Entry). bytes_eq e.url t && test e) (pointed ys)) least) (take_all k xs past) is
