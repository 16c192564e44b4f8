-- What is counted for a URL while the links to it are counted.
use Rattle.crawl_sources.proofs.Prelude.{◌≡◌, ℕ, zero, suc, ◌+◌, ◌<◌, Bool, true, false, ◌||◌, cond, List, [], ◌∷◌, ◌++◌, length, take, get_or, Option, Some, None, refl, sym, ap, ◌∙◌, arith, append-nil, length-append, le-ltb, if◌then◌else◌, cases_Bool, cond-true, cond-false, lt-ltb, map_more, map-append, filter-append, list_any, option_map, bytes_eq, PageResult, pointed, Count, none_counted, counted, Tallies, count_of, IsTally}
use Rattle.std.proofs.lemmas.Grind.{common_steps}
use Rattle.std.proofs.Math.Bool.{or-false}
use Rattle.std.proofs.lemmas.List.Folds.{list_any-append, list_any_at}
use Rattle.std.proofs.lemmas.List.Sums.{fold-append}
use Rattle.std.proofs.lemmas.Slice.Eq.{bytes_eq-Decides}
use Rattle.std.specs.Borrow.{Bor}
use Rattle.std.specs.BTreeMap as tree
use Rattle.std.specs.BTreeSet as sets
use Rattle.hash_order.specs.HashOrder.{by_hash, by_hash_ties}
use Rattle.crawl_pages.specs.Pages.{links_of}
use Rattle.crawl_pages.proofs.StableSort.{filter-kept, filter-dropped}

-- ---- lists

pub any_push : {X : Type 0} (p : X → Bool) (xs : List X) (x : X) → list_any p (xs ++ x ∷ []) ≡ (list_any p xs || p x)
any_push p xs x = list_any-append p xs (x ∷ []) ∙ ap (λ b. list_any p xs || b) (or-false (p x))

-- the elements up to an index, and the one at that index
pub pointed_more : {X : Type 0} (xs : List (Bor X)) (i : ℕ) (x : Bor X) → i < length xs → x ≡ get_or xs i x → pointed (take (i + 1) xs) ≡ pointed (take i xs) ++ x.now ∷ []
pointed_more xs i x below at = grind (arith, common_steps, map_more)

pub get_pointed : {X : Type 0} (xs : List (Bor X)) (k : ℕ) (d : Bor X) → get_or (pointed xs) k d.now ≡ (get_or xs k d).now
get_pointed [] k d = refl
get_pointed (y ∷ ys) zero d = refl
get_pointed (y ∷ ys) (suc k) d = get_pointed ys k d

pub read_pointed : {X : Type 0} (xs : List (Bor X)) (k : ℕ) (x : Bor X) → x ≡ get_or xs k x → get_or (pointed xs) k x.now ≡ x.now
read_pointed xs k x is = get_pointed xs k x ∙ ap (λ (y : Bor _). y.now) (sym is)

pub length_pointed : {X : Type 0} (xs : List (Bor X)) → length (pointed xs) ≡ length xs
length_pointed [] = refl
length_pointed (x ∷ xs) = ap suc (length_pointed xs)

-- the URL of a result to which a reference points is among theirs
pub url_among : (all : List (Bor PageResult)) (i : ℕ) (x : Bor PageResult) → i < length all → x ≡ get_or all i x → list_any (λ (r : PageResult). bytes_eq r.url x.now.url) (pointed all) ≡ true
url_among all i x below is =
    let p : PageResult → Bool = λ r. bytes_eq r.url x.now.url in
    list_any_at p (pointed all) i x.now (omega (arith, length_pointed all, below)) (ap p (read_pointed all i x is) ∙ (bytes_eq-Decides x.now.url x.now.url).1 refl)

-- ---- a set after one URL was inserted

pub set_put : (old new : sets.BTreeSet (List ℕ)) (key : List ℕ) → sets.Updates by_hash old new key true → (url : List ℕ) → sets.contains by_hash new url ≡ (sets.contains by_hash old url || bytes_eq key url)
set_put old new key updates url =
    updates.0 url ∙ ap (λ b. cond b true (sets.contains by_hash old url)) (sym (by_hash_ties key url)) ∙ or_by_cond (bytes_eq key url) (sets.contains by_hash old url)
  where
    or_by_cond : (b o : Bool) → cond b true o ≡ (o || b)
    or_by_cond b o = grind arith

-- ---- a map after one count was written

put_at : (old new : Tallies) (key : List ℕ) (w : Option Count) → tree.Updates by_hash old new key w → (url : List ℕ) → count_of new url ≡ cond (bytes_eq key url) w (count_of old url)
put_at old new key w updates url = updates.0 url ∙ ap (λ b. cond b w (count_of old url)) (sym (by_hash_ties key url))

written : (b : Bool) (o : Option Count) (c : Count) (f : Count → Count) → (b ≡ true → o ≡ Some c) → cond b (Some (f c)) o ≡ option_map (λ x. if b then f x else x) o
written b o c f at = grind arith

pub count_put : (old new : Tallies) (key : List ℕ) (c w : Count) (f : Count → Count) → tree.Updates by_hash old new key (Some w) → w ≡ f c → count_of old key ≡ Some c → (url : List ℕ) → count_of new url ≡ option_map (λ x. if bytes_eq key url then f x else x) (count_of old url)
count_put old new key c w f updates value at url =
    put_at old new key (Some w) updates url
    ∙ ap (λ x. cond (bytes_eq key url) (Some x) (count_of old url)) value
    ∙ written (bytes_eq key url) (count_of old url) c f (λ same. ap (count_of old) (sym ((bytes_eq-Decides key url).0 same)) ∙ at)

none_written : (b any : Bool) → cond b (Some none_counted) (if any then Some none_counted else None) ≡ (if any || b then Some none_counted else None)
none_written b any = grind arith

pub none_put : (old new : Tallies) (rs : List PageResult) (r : PageResult) (key : List ℕ) (v : Count) → key ≡ r.url → v ≡ none_counted → tree.Updates by_hash old new key (Some v) → (url : List ℕ) → count_of old url ≡ (if list_any (λ (x : PageResult). bytes_eq x.url url) rs then Some none_counted else None) → count_of new url ≡ (if list_any (λ (x : PageResult). bytes_eq x.url url) (rs ++ r ∷ []) then Some none_counted else None)
none_put old new rs r key v text value updates url known =
    let p : PageResult → Bool = λ x. bytes_eq x.url url in
    put_at old new key (Some v) updates url
    ∙ ap (λ x. cond (bytes_eq key url) (Some x) (count_of old url)) value
    ∙ ap (λ o. cond (bytes_eq key url) (Some none_counted) o) known
    ∙ none_written (bytes_eq key url) (list_any p rs)
    ∙ ap (λ t. if list_any p rs || bytes_eq t url then Some none_counted else None) text
    ∙ ap (λ b. if b then Some none_counted else None) (sym (any_push p rs r))

-- ---- one more link

pub link_more : (all : Bool) (links : List (List ℕ)) (link : List ℕ) (n : ℕ) (page url : List ℕ) (o mid new : Option Count) → mid ≡ option_map (λ c. if list_any (λ own. bytes_eq own url) links then counted all n page c else c) o → new ≡ option_map (λ c. if bytes_eq link url then counted all n page c else c) mid → new ≡ option_map (λ c. if list_any (λ own. bytes_eq own url) (links ++ link ∷ []) then counted all n page c else c) o
link_more all links link n page url o mid new before after = grind (arith, any_push, cases_Bool, cond-true, cond-false, le-ltb)

-- ---- one more result

pub tally_more : (all : Bool) (results : List PageResult) (r : PageResult) (links : List (List ℕ)) (page url : List ℕ) (n : ℕ) (old new : Option Count) → links ≡ links_of r.page → page ≡ r.url → n ≡ length results + 1 → new ≡ option_map (λ c. if list_any (λ link. bytes_eq link url) links then counted all n page c else c) old → IsTally all results url old → IsTally all (results ++ r ∷ []) url new
tally_more all results r links page url n old new those own numbered is k = grind (arith, filter-append, filter-kept, lt-ltb, cond-true, length-append, fold-append, map-append, filter-dropped, append-nil)
