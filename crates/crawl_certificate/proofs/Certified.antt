-- A run without errors has the pages of exactly the URLs that can be reached.
use Rattle.crawl_certificate.proofs.Prelude.{◌≡◌, ◌↔◌, inl, inr, ℕ, zero, suc, ◌+◌, ◌==◌, Bool, true, false, ◌&&◌, not, IsTrue, List, [], ◌∷◌, ◌++◌, map, None, refl, sym, ap, subst, ◌∙◌, arith, length-append, common_steps, Contains, bytes_eq, or_parts, and_parts, both_ways, false_from_ne_true, not-false, cond-true, cond-false, eqb-true, ne_eqb, Entry, Page, PageResult, is_accepted, has_result, contains_url, some_missing, seed_missing, not_fetched, link_missing, is_one_hop_after, is_linked, is_founded, unfounded, twice, first_error, links_of, page_in}
use Rattle.crawl_certificate.specs.Reachable.{Continues, IsWalk, Reachable, WalkOf}
use Rattle.crawl_certificate.proofs.Lists.{no_element, here, there, first_or_later, some_has, any_from, none_has, same_text, text_itself}

-- the run has none of the five errors
pub record NoError (allowed : List ℕ → Bool) (seeds : List (List ℕ)) (entries : List Entry) (results : List PageResult) : Type 0 where
  pub seeds_accepted : seed_missing allowed seeds entries ≡ false
  pub fetched : not_fetched entries results ≡ false
  pub links_accepted : link_missing allowed entries results ≡ false
  pub founded : unfounded allowed seeds entries results ≡ false
  pub once : twice results ≡ false

pub no_error : (allowed : List ℕ → Bool) (seeds : List (List ℕ)) (entries : List Entry) (results : List PageResult) → first_error allowed seeds entries results ≡ None → NoError allowed seeds entries results
no_error allowed seeds entries results h = grind arith

-- ---- what the tests mean

pub record EntryWith (entries : List Entry) (url : List ℕ) : Type 0 where
  pub entry : Entry
  pub among : Contains entries entry
  pub has : entry.url ≡ url

pub record ResultWith (results : List PageResult) (url : List ℕ) : Type 0 where
  pub one : PageResult
  pub among : Contains results one
  pub has : one.url ≡ url

pub entry_with : (entries : List Entry) (url : List ℕ) → is_accepted entries url ≡ true → EntryWith entries url
entry_with entries url h = grind (arith, some_has, same_text)

pub result_with : (results : List PageResult) (url : List ℕ) → has_result results url ≡ true → ResultWith results url
result_with results url h = grind (arith, some_has, same_text)

text_holds : (urls : List (List ℕ)) (url : List ℕ) → contains_url urls url ≡ true → Contains urls url
text_holds urls url h = grind (arith, some_has, same_text)

pub in_map : {X Y : Type 0} (f : X → Y) (xs : List X) (x : X) → Contains xs x → Contains (map f xs) (f x)
in_map f xs x has = grind (arith, common_steps, no_element, first_or_later, here, there)

pub from_map : {X Y : Type 0} (f : X → Y) (xs : List X) (y : Y) → Contains (map f xs) y → (x : X) × Contains xs x × (f x ≡ y)
from_map f [] y has = absurd (no_element y has)
from_map f (x ∷ xs) y has = elim (first_or_later (f x) y (map f xs) has) [
  | inl first ↦ (x, here x xs, first)
  | inr later ↦ let found = from_map f xs y later in (found.0, there x found.0 xs found.1, found.2)
]

-- if no URL has two results, the page that is found for the URL of a result is the page of that result
pub page_at_result : (results : List PageResult) (r : PageResult) → twice results ≡ false → Contains results r → page_in results r.url ≡ r.page
page_at_result [] r once has = absurd (no_element r has)
page_at_result (x ∷ xs) r once has =
    let apart = or_parts (has_result xs x.url) (twice xs) once in
    elim (first_or_later x r xs has) [
      | inl first ↦ subst (λ s. page_in (x ∷ xs) s.url ≡ s.page) first (cond-true (bytes_eq x.url x.url) _ _ (text_itself x.url))
      | inr later ↦
          let differs : bytes_eq x.url r.url ≡ false =
          false_from_ne_true _ (λ same. both_ways (has_result xs x.url) apart.0
          (any_from (λ (s : PageResult). bytes_eq s.url x.url) xs r later (subst (λ u. bytes_eq r.url u ≡ true) (sym (same_text x.url r.url same)) (text_itself r.url)))) in
          cond-false (bytes_eq x.url r.url) _ _ differs ∙ page_at_result xs r apart.1 later
    ]

-- ---- walks

Continues-push : (page : List ℕ → Page) (allowed : List ℕ → Bool) (url : List ℕ) (rest : List (List ℕ)) (end next : List ℕ) → Continues page allowed url rest end → Contains (links_of (page end)) next → IsTrue (allowed next) → Continues page allowed url (rest ++ next ∷ []) next
Continues-push page allowed url [] end next goes link allows = (subst (λ u. Contains (links_of (page u)) next) (sym goes) link, allows, refl)
Continues-push page allowed url (x ∷ rest) end next goes link allows = (goes.0, goes.1, Continues-push page allowed x rest end next goes.2 link allows)

IsWalk-push : (page : List ℕ → Page) (allowed : List ℕ → Bool) (seeds walk : List (List ℕ)) (end next : List ℕ) → IsWalk page allowed seeds walk end → Contains (links_of (page end)) next → IsTrue (allowed next) → IsWalk page allowed seeds (walk ++ next ∷ []) next
IsWalk-push page allowed seeds walk end next walks link allows = grind (arith, Continues-push)

-- ---- the entries have walks, by induction on their hops

linked_walk : (page : List ℕ → Page) (allowed : List ℕ → Bool) (seeds : List (List ℕ)) (entries : List Entry) (results : List PageResult) (hops : ℕ) → ((r : PageResult) → Contains results r → page r.url ≡ r.page) → ((e : Entry) → Contains entries e → e.hops ≡ hops → WalkOf page allowed seeds hops e.url) → (e : Entry) → e.hops ≡ suc hops → IsTrue (allowed e.url) → is_linked entries results e ≡ true → WalkOf page allowed seeds (suc hops) e.url
linked_walk page allowed seeds entries results hops agrees before e far allows linked =
    let from = some_has (λ (r : PageResult). contains_url (links_of r.page) e.url && is_one_hop_after entries r.url e) results linked in
    let r = from.0 in
    let parts = and_parts (contains_url (links_of r.page) e.url) (is_one_hop_after entries r.url e) from.2 in
    let following = some_has (λ (b : Entry). bytes_eq b.url r.url && e.hops == b.hops + 1) entries parts.1 in
    let b = following.0 in
    let fits = and_parts (bytes_eq b.url r.url) (e.hops == b.hops + 1) following.2 in
    let same : b.url ≡ r.url = same_text b.url r.url fits.0 in
    let count : e.hops ≡ b.hops + 1 = eqb-true e.hops (b.hops + 1) fits.1 in
    let nearer : b.hops ≡ hops = omega (arith, count, far) in
    let walk = before b following.1 nearer in
    let found : page b.url ≡ r.page = ap page same ∙ agrees r from.1 in
    let link : Contains (links_of (page b.url)) e.url = subst (λ p. Contains (links_of p) e.url) (sym found) (text_holds (links_of r.page) e.url parts.0) in
    record {
      walk = walk.walk ++ e.url ∷ [];
      leads = IsWalk-push page allowed seeds walk.walk b.url e.url walk.leads link allows;
      long = omega (arith, length-append walk.walk (e.url ∷ []), walk.long);
    }

founded_entry : (allowed : List ℕ → Bool) (seeds : List (List ℕ)) (entries : List Entry) (results : List PageResult) → NoError allowed seeds entries results → (e : Entry) → Contains entries e → is_founded allowed seeds entries results e ≡ true
founded_entry allowed seeds entries results clear e among = grind (arith, common_steps, or_parts, not-false, none_has)

pub entry_walk : (page : List ℕ → Page) (allowed : List ℕ → Bool) (seeds : List (List ℕ)) (entries : List Entry) (results : List PageResult) → ((r : PageResult) → Contains results r → page r.url ≡ r.page) → NoError allowed seeds entries results → (hops : ℕ) (e : Entry) → Contains entries e → e.hops ≡ hops → WalkOf page allowed seeds hops e.url
entry_walk page allowed seeds entries results agrees clear zero e among far = grind (arith, common_steps, and_parts, founded_entry, cond-true, text_holds)
entry_walk page allowed seeds entries results agrees clear (suc hops) e among far = grind (arith, common_steps, and_parts, founded_entry, ne_eqb, cond-false, linked_walk, entry_walk page allowed seeds entries results agrees clear hops)

-- ---- what a walk reaches was accepted, by induction on the walk

second_false : (a b : Bool) → a ≡ true → (a && b) ≡ false → b ≡ false
second_false a b h none = grind arith

accepted_missing : (allowed accepted : List ℕ → Bool) (urls : List (List ℕ)) (url : List ℕ) → some_missing allowed accepted urls ≡ false → Contains urls url → IsTrue (allowed url) → accepted url ≡ true
accepted_missing allowed accepted urls url none has allows = grind (arith, common_steps, none_has, not-false, second_false)

pub accepted_has_result : (entries : List Entry) (results : List PageResult) (url : List ℕ) → not_fetched entries results ≡ false → is_accepted entries url ≡ true → ResultWith results url
accepted_has_result entries results url fetched accepted =
    let found = entry_with entries url accepted in
    let has : has_result results found.entry.url ≡ true = not-false _ (none_has (λ (e : Entry). not (has_result results e.url)) entries found.entry fetched found.among) in
    result_with results url (subst (λ u. has_result results u ≡ true) found.has has)

next_accepted : (page : List ℕ → Page) (allowed : List ℕ → Bool) (seeds : List (List ℕ)) (entries : List Entry) (results : List PageResult) → ((r : PageResult) → Contains results r → page r.url ≡ r.page) → NoError allowed seeds entries results → (url next : List ℕ) → is_accepted entries url ≡ true → Contains (links_of (page url)) next → IsTrue (allowed next) → is_accepted entries next ≡ true
next_accepted page allowed seeds entries results agrees clear url next accepted link allows =
    let r = accepted_has_result entries results url clear.fetched accepted in
    let found : page url ≡ r.one.page = ap page (sym r.has) ∙ agrees r.one r.among in
    let none = none_has (λ (x : PageResult). some_missing allowed (is_accepted entries) (links_of x.page)) results r.one clear.links_accepted r.among in
    accepted_missing allowed (is_accepted entries) (links_of r.one.page) next none (subst (λ p. Contains (links_of p) next) found link) allows

walk_accepted : (page : List ℕ → Page) (allowed : List ℕ → Bool) (seeds : List (List ℕ)) (entries : List Entry) (results : List PageResult) → ((r : PageResult) → Contains results r → page r.url ≡ r.page) → NoError allowed seeds entries results → (url : List ℕ) (rest : List (List ℕ)) (end : List ℕ) → is_accepted entries url ≡ true → Continues page allowed url rest end → is_accepted entries end ≡ true
walk_accepted page allowed seeds entries results agrees clear url [] end accepted goes = subst (λ u. is_accepted entries u ≡ true) goes accepted
walk_accepted page allowed seeds entries results agrees clear url (next ∷ rest) end accepted goes =
    walk_accepted page allowed seeds entries results agrees clear next rest end (next_accepted page allowed seeds entries results agrees clear url next accepted goes.0 goes.1) goes.2

pub reached_accepted : (page : List ℕ → Page) (allowed : List ℕ → Bool) (seeds : List (List ℕ)) (entries : List Entry) (results : List PageResult) → ((r : PageResult) → Contains results r → page r.url ≡ r.page) → NoError allowed seeds entries results → (walk : List (List ℕ)) (end : List ℕ) → IsWalk page allowed seeds walk end → is_accepted entries end ≡ true
reached_accepted page allowed seeds entries results agrees clear walk end walks = grind (arith, common_steps, walk_accepted, accepted_missing)

-- ---- together

pub result_accepted : (allowed : List ℕ → Bool) (seeds : List (List ℕ)) (entries : List Entry) (results : List PageResult) → NoError allowed seeds entries results → (r : PageResult) → Contains results r → is_accepted entries r.url ≡ true
result_accepted allowed seeds entries results clear r among = grind (arith, common_steps, or_parts, not-false, none_has)

pub results_reached : (page : List ℕ → Page) (allowed : List ℕ → Bool) (seeds : List (List ℕ)) (entries : List Entry) (results : List PageResult) → ((r : PageResult) → Contains results r → page r.url ≡ r.page) → NoError allowed seeds entries results → (url : List ℕ) → Contains (map (λ r. r.url) results) url ↔ Reachable page allowed seeds url
results_reached page allowed seeds entries results agrees clear url = (
  λ has.
      let r = from_map (λ (r : PageResult). r.url) results url has in
      let e = entry_with entries url (subst (λ u. is_accepted entries u ≡ true) r.2 (result_accepted allowed seeds entries results clear r.0 r.1)) in
      let walk = entry_walk page allowed seeds entries results agrees clear e.entry.hops e.entry e.among refl in
      record { walk = walk.walk; leads = subst (λ u. IsWalk page allowed seeds walk.walk u) e.has walk.leads },
  λ reach.
      let r = accepted_has_result entries results url clear.fetched (reached_accepted page allowed seeds entries results agrees clear reach.walk url reach.leads) in
      subst (λ u. Contains (map (λ (r : PageResult). r.url) results) u) r.has (in_map (λ (r : PageResult). r.url) results r.one r.among),
)
