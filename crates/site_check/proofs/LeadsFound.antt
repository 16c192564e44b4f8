-- The links that lead to pages that are not there, list by list.
use Rattle.site_check.proofs.Prelude.{common_steps, ◌≡◌, ◌∙◌, ℕ, ◌+◌, ◌<◌, Bool, cond, List, [], ◌∷◌, ◌++◌, length, map, fold, take, get_or, length-take-le, Option, Some, None, refl, sym, ap, arith, append_assoc, length-map, map_more, take_more, fold-append, fold_more, fold_push, Bor, flat_map, option_map_or, bytes_eq, Page, PageResult, result_at, HasNoLink, Numbers, Target, indices_in, indices_with, invalid_in, invalid_with, lead_to, leads_at, leads_from, leads_of, missing_from, moved_target, number_at, number_in, number_with, own_number, target_at, targets_of, to_number, Lead}
use Rattle.std.specs.BTreeMap as tree
use Rattle.document_links.specs.declared.positions.LinkPlaces.{LinkPlaces}
use Rattle.hash_order.specs.HashOrder.{by_hash, by_hash_ties}
use Rattle.site_check.specs.declared.leads.Target as made
use Rattle.site_check.specs.declared.linked.Linked as code

-- ---- lists after one another

pub no_more : {X : Type 0} (xs : List X) → xs ++ [] ≡ xs
no_more [] = refl
no_more (x ∷ xs) = ap (λ l. x ∷ l) (no_more xs)

pub leads_after : (f : List ℕ → Option ℕ) (g : List ℕ → List ℕ) (n : ℕ) (xs ys : List PageResult) → leads_from f g n (xs ++ ys) ≡ leads_from f g n xs ++ leads_from f g (n + length xs) ys
leads_after f g n [] ys = ap (λ k. leads_from f g k ys) (omega arith)
leads_after f g n (x ∷ xs) ys =
    let here : List Lead = leads_of f g n x.url x.page in
    let place : (n + 1) + length xs ≡ n + length (x ∷ xs) = omega arith in
    ap (λ l. here ++ l) (leads_after f g (n + 1) xs ys)
    ∙ sym (append_assoc here (leads_from f g (n + 1) xs) (leads_from f g ((n + 1) + length xs) ys))
    ∙ ap (λ k. (here ++ leads_from f g (n + 1) xs) ++ leads_from f g k ys) place

pub missing_after : (front : List ℕ) (entries : List (List ℕ)) (n : ℕ) (xs ys : List PageResult) →
    missing_from front entries n (xs ++ ys) ≡ missing_from front entries n xs ++ missing_from front entries (n + length xs) ys
missing_after front entries n [] ys = ap (λ k. missing_from front entries k ys) (omega arith)
missing_after front entries n (x ∷ xs) ys =
    let here : List Target = to_number x.url (own_number front entries n x) in
    let place : (n + 1) + length xs ≡ n + length (x ∷ xs) = omega arith in
    ap (λ l. here ++ l) (missing_after front entries (n + 1) xs ys)
    ∙ sym (append_assoc here (missing_from front entries (n + 1) xs) (missing_from front entries ((n + 1) + length xs) ys))
    ∙ ap (λ k. (here ++ missing_from front entries (n + 1) xs) ++ missing_from front entries k ys) place

-- one result more
pub missing_more : (front : List ℕ) (entries : List (List ℕ)) (ls : List code.Linked) (i : ℕ) (l : code.Linked) → i < length ls → l ≡ get_or ls i l →
    missing_from front entries 0 (map result_at (take (i + 1) ls)) ≡ missing_from front entries 0 (map result_at (take i ls)) ++ to_number l.result.now.url (own_number front entries i l.result.now)
missing_more front entries ls i l below is = grind (arith, common_steps, length-map, length-take-le, map_more, missing_after, no_more)

pub leads_more : (f : List ℕ → Option ℕ) (g : List ℕ → List ℕ) (n : ℕ) (rs : List PageResult) (i : ℕ) (r : PageResult) → i < length rs → r ≡ get_or rs i r →
    leads_from f g n (take (i + 1) rs) ≡ leads_from f g n (take i rs) ++ leads_of f g (n + i) r.url r.page
leads_more f g n rs i r below is = grind (arith, common_steps, length-take-le, take_more, leads_after, no_more)

-- ---- targets and places, one more

pub target_more : (ts : List made.Target) (i : ℕ) (t : made.Target) (url : List ℕ) (before : Option ℕ) → i < length ts → t ≡ get_or ts i t →
    number_with url (fold (number_with url) before (map target_at (take i ts))) (target_at t) ≡ fold (number_with url) before (map target_at (take (i + 1) ts))
target_more ts i t url before below is = grind (arith, common_steps, map_more, fold_push)

pub place_more : (ps : List LinkPlaces) (i : ℕ) (p : LinkPlaces) (url : List ℕ) → i < length ps → p ≡ get_or ps i p →
    indices_with url (indices_in (take i ps) url) p ≡ indices_in (take (i + 1) ps) url
place_more ps i p url below is = ap (indices_with url (indices_in (take i ps) url)) is ∙ sym (fold_more (indices_with url) [] ps i p below)

pub document_more : (ps : List LinkPlaces) (i : ℕ) (p : LinkPlaces) (url : List ℕ) → i < length ps → p ≡ get_or ps i p →
    invalid_with url (invalid_in (take i ps) url) p ≡ invalid_in (take (i + 1) ps) url
document_more ps i p url below is = ap (invalid_with url (invalid_in (take i ps) url)) is ∙ sym (fold_more (invalid_with url) [] ps i p below)

-- ---- the maps

-- what a map has after one value was written
pub put_at : {X : Type 0} (old new : tree.BTreeMap (List ℕ) X) (key : List ℕ) (w : Option X) → tree.Updates by_hash old new key w → (url : List ℕ) →
    tree.get_by (λ k. by_hash url k) new ≡ cond (bytes_eq key url) w (tree.get_by (λ k. by_hash url k) old)
put_at old new key w updates url = updates.0 url ∙ ap (λ b. cond b w (tree.get_by (λ k. by_hash url k) old)) (sym (by_hash_ties key url))

pub number_put : (old new : Numbers) (key : List ℕ) (number : ℕ) → tree.Updates by_hash old new key (Some number) → (url : List ℕ) →
    number_at new url ≡ number_with url (number_at old url) (record { url = key; number = number })
number_put old new key number updates url = put_at old new key (Some number) updates url

either_list : {X : Type 0} (b : Bool) (i : Bor (List X)) (o : Option (Bor (List X))) →
    option_map_or (λ (x : Bor (List X)). x.now) (cond b (Some i) o) [] ≡ cond b i.now (option_map_or (λ (x : Bor (List X)). x.now) o [])
either_list b i o = grind (arith, common_steps)

-- the list at a URL
abbrev pub list_at : {X : Type 0} → tree.BTreeMap (List ℕ) (Bor (List X)) → List ℕ → List X
list_at lists url = option_map_or (λ x. x.now) (tree.get_by (λ k. by_hash url k) lists) []

pub list_put : {X : Type 0} (old new : tree.BTreeMap (List ℕ) (Bor (List X))) (key : List ℕ) (i : Bor (List X)) → tree.Updates by_hash old new key (Some i) → (url : List ℕ) →
    list_at new url ≡ cond (bytes_eq key url) i.now (list_at old url)
list_put old new key i updates url =
    ap (λ o. option_map_or (λ x. x.now) o []) (put_at old new key (Some i) updates url)
    ∙ either_list (bytes_eq key url) i (tree.get_by (λ k. by_hash url k) old)

-- nothing is found if nothing is kept
pub none_at : (numbers : Numbers) → length numbers.entries ≡ 0 → (url : List ℕ) → number_at numbers url ≡ None
none_at numbers none url = grind (arith, common_steps)

-- ---- no target

no_leads_at : (f : List ℕ → Option ℕ) → ((url : List ℕ) → f url ≡ None) → (n : ℕ) (urls : List (List ℕ)) (indices : List ℕ) → leads_at f n urls indices ≡ []
no_leads_at f none n [] indices = refl
no_leads_at f none n (url ∷ urls) [] = refl
no_leads_at f none n (url ∷ urls) (index ∷ indices) = (λ i. lead_to n index (none url i) ++ leads_at f n urls indices) ∙ no_leads_at f none n urls indices

no_leads_of : (f : List ℕ → Option ℕ) (g : List ℕ → List ℕ) → ((url : List ℕ) → f url ≡ None) → (n : ℕ) (url : List ℕ) (page : Page) → leads_of f g n url page ≡ []
no_leads_of f g none n url page = grind (arith, common_steps, no_leads_at)

pub no_leads : (f : List ℕ → Option ℕ) (g : List ℕ → List ℕ) → ((url : List ℕ) → f url ≡ None) → (n : ℕ) (results : List PageResult) → leads_from f g n results ≡ []
no_leads f g none n [] = refl
no_leads f g none n (r ∷ more) = (λ i. no_leads_of f g none n r.url r.page i ++ leads_from f g (n + 1) more) ∙ no_leads f g none (n + 1) more

-- ---- all targets

pub numbers_of_all : (front : List ℕ) (entries : List (List ℕ)) (results : List PageResult) (missing moved : List Target) (first : List ℕ → Option ℕ) →
    missing ≡ missing_from front entries 0 results → ((url : List ℕ) → first url ≡ number_in missing url) → moved ≡ flat_map (moved_target first) results →
    (url : List ℕ) → fold (number_with url) (first url) moved ≡ number_in (targets_of front entries results) url
numbers_of_all front entries results missing moved first is known moving url = grind (arith, common_steps, fold-append)

-- ---- the links of a page, one by one

pub link_more : (f : List ℕ → Option ℕ) (n : ℕ) (so_far next : List Lead) (url : List ℕ) (urls more : List (List ℕ)) (index : ℕ) (indices following : List ℕ) (all : List Lead) →
    urls ≡ url ∷ more → indices ≡ index ∷ following → next ≡ so_far ++ lead_to n index (f url) → so_far ++ leads_at f n urls indices ≡ all → next ++ leads_at f n more following ≡ all
link_more f n so_far next url urls more index indices following all first second pushed before = grind (arith, common_steps)

pub link_end : (f : List ℕ → Option ℕ) (n : ℕ) (so_far : List Lead) (urls : List (List ℕ)) (indices : List ℕ) (all : List Lead) → HasNoLink urls indices → so_far ++ leads_at f n urls indices ≡ all → so_far ≡ all
link_end f n so_far urls indices all none before = grind (arith, common_steps, no_more)
