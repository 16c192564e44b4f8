-- Sets of URLs.
use Rattle.crawl_report.proofs.Prelude.{◌≡◌, ℕ, zero, suc, ◌+◌, ◌<◌, Bool, ◌&&◌, not, List, [], ◌∷◌, length, filter, get_or, refl, sym, subst, ◌∙◌, arith, true, false, map, Option, Some, ap, if◌then◌else◌, Bor, slice_cmp, IsSortedBy, IsSortedByKey, nat_cmp, is_lt, PageResult, pointed, Count, IsCount, IsTally, has_result, is_in, is_unreached, length_pointed, sources_of, from_line, lines_at}
use Rattle.std.specs.BTreeSet as sorted
use Rattle.crawl_report.specs.Lines as line

-- what is not in the set of the results' URLs
pub unseen_unreached : (allowed : List ℕ → Bool) (results : List PageResult) (seen : sorted.BTreeSet (List ℕ)) → ((url : List ℕ) → is_in seen url ≡ has_result results url) → (urls : List (List ℕ)) → filter (λ url. allowed url && not (is_in seen url)) urls ≡ filter (is_unreached allowed results) urls
unseen_unreached allowed results seen known urls = λ i. filter (λ url. allowed url && not (known url i)) urls

at_index : {X : Type 0} (xs : List (Bor X)) (k : ℕ) (d : X) → k < length xs → (x : Bor X) × (get_or (pointed xs) k d ≡ x.now) × ((e : Bor X) → get_or xs k e ≡ x)
at_index [] k d below = absurd (omega (arith, below))
at_index (x ∷ xs) zero d below = (x, refl, λ e. refl)
at_index (x ∷ xs) (suc k) d below = at_index xs k d (omega (arith, below))

-- references that ascend refer to texts that do
pub sorted_pointed : (urls : List (Bor (List ℕ))) → IsSortedBy (λ a b. is_lt (slice_cmp nat_cmp a.now b.now)) urls → IsSortedByKey (λ url. url) (slice_cmp nat_cmp) (pointed urls)
sorted_pointed urls ascends k d low below =
    let within : k + 1 < length urls = subst (λ n. k + 1 < n) (length_pointed urls) below in
    let a = at_index urls (k + 1) d within in
    let b = at_index urls k d (omega (arith, within)) in
    (λ i. is_lt (slice_cmp nat_cmp (a.1 i) (b.1 i)))
    ∙ sym (λ i. is_lt (slice_cmp nat_cmp (a.2 a.0 i).now (b.2 a.0 i).now))
    ∙ ascends k a.0 low within

-- The lines of what is counted of a URL

pub lines_counted : (all : Bool) (results : List PageResult) (url : List ℕ) (o : Option Count) (c : Count) → o ≡ Some c → IsTally all results url o → line.from c.count c.page url ∷ map (λ page. line.link page url) c.all ≡ lines_at all results url
lines_counted all results url o c is k =
    let kept : IsCount all results url c = subst (IsTally all results url) is k in
    (λ i. line.from (kept.count i) (kept.page i) url ∷ map (λ page. line.link page url) (kept.kept i))
    ∙ ap (λ ls. from_line results url ∷ ls) (links_kept all (sources_of results url))
  where
    links_of_all : (rs : List PageResult) → map (λ page. line.link page url) (map (λ r. r.url) rs) ≡ map (λ r. line.link r.url url) rs
    links_of_all [] = refl
    links_of_all (r ∷ rs) = ap (λ ls. line.link r.url url ∷ ls) (links_of_all rs)

    links_kept : (b : Bool) (rs : List PageResult) → map (λ page. line.link page url) (if b then map (λ r. r.url) rs else []) ≡ (if b then map (λ r. line.link r.url url) rs else [])
    links_kept true rs = links_of_all rs
    links_kept false rs = refl
