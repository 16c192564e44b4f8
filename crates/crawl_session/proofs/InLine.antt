-- The URLs that wait in a queue, in the order in which they are given out.
use Rattle.crawl_session.proofs.Prelude.{◌≡◌, ℕ, suc, ◌+◌, ◌-◌, ◌≤◌, ◌<◌, List, [], ◌∷◌, ◌++◌, length, take, drop, refl, sym, ap, ◌∙◌, arith, append_assoc, length-drop, take-append-le, drop-append-le, take_all, drop_of_length-le, Deferred}

-- the line once `taken` URLs were taken: `urls`, and each URL that was put back, after the URLs that were accepted before that
abbrev pub in_line : ℕ → List (List ℕ) → List Deferred → List (List ℕ)
in_line taken urls [] = urls
in_line taken urls (d ∷ ds) = take (d.after - taken) urls ++ d.url ∷ in_line (taken + (d.after - taken)) (drop (d.after - taken) urls) ds

-- no URL that was put back comes after more than `most` accepted URLs
abbrev pub Within : ℕ → List Deferred → Type 0
Within most [] = Unit {0}
Within most (d ∷ ds) = (d.after ≤ most) × Within most ds

pub within_more : (most more : ℕ) (ds : List Deferred) → most ≤ more → Within most ds → Within more ds
within_more most more [] below within = tt
within_more most more (d ∷ ds) below within = (omega (arith, below, within.0), within_more most more ds below within.1)

pub within_push : (most : ℕ) (ds : List Deferred) (d : Deferred) → d.after ≤ most → Within most ds → Within most (ds ++ d ∷ [])
within_push most [] d below within = (below, tt)
within_push most (e ∷ ds) d below within = (within.0, within_push most ds d below within.1)

-- likewise for what is left after the first URL that was put back
rest_within : (taken n : ℕ) (urls : List (List ℕ)) (ds : List Deferred) → n ≤ length urls → Within (taken + length urls) ds → Within (taken + n + length (drop n urls)) ds
rest_within taken n urls ds below within = grind (arith, length-drop, within_more)

-- one more URL is accepted
pub line_accepts : (taken : ℕ) (urls : List (List ℕ)) (url : List ℕ) (ds : List Deferred) → Within (taken + length urls) ds → in_line taken (urls ++ url ∷ []) ds ≡ in_line taken urls ds ++ url ∷ []
line_accepts taken urls url [] within = refl
line_accepts taken urls url (d ∷ ds) within =
    let n = d.after - taken in
    let below : n ≤ length urls = omega (arith, within.0) in
    let more = line_accepts (taken + n) (drop n urls) url ds (rest_within taken n urls ds below within.1) in
    let first : take n (urls ++ url ∷ []) ≡ take n urls = take-append-le n urls (url ∷ []) below in
    let rest : drop n (urls ++ url ∷ []) ≡ drop n urls ++ url ∷ [] = drop-append-le n urls (url ∷ []) below in
    ap (λ (l : List (List ℕ)). l ++ d.url ∷ in_line (taken + n) (drop n (urls ++ url ∷ [])) ds) first
    ∙ ap (λ (l : List (List ℕ)). take n urls ++ d.url ∷ in_line (taken + n) l ds) rest
    ∙ ap (λ (l : List (List ℕ)). take n urls ++ d.url ∷ l) more
    ∙ sym (append_assoc (take n urls) (d.url ∷ in_line (taken + n) (drop n urls) ds) (url ∷ []))

-- one more URL is put back
pub line_defers : (taken : ℕ) (urls : List (List ℕ)) (ds : List Deferred) (d : Deferred) → Within (taken + length urls) ds → d.after ≡ taken + length urls → in_line taken urls (ds ++ d ∷ []) ≡ in_line taken urls ds ++ d.url ∷ []
line_defers taken urls [] d within is =
    let n = d.after - taken in
    let all : n ≡ length urls = omega (arith, is) in
    ap (λ (l : List (List ℕ)). l ++ d.url ∷ drop n urls) (take_all n urls (omega (arith, all)))
    ∙ ap (λ (l : List (List ℕ)). urls ++ d.url ∷ l) (drop_of_length-le urls (omega (arith, all)))
line_defers taken urls (e ∷ ds) d within is =
    let n = e.after - taken in
    let below : n ≤ length urls = omega (arith, within.0) in
    let left = length-drop n urls in
    let more = line_defers (taken + n) (drop n urls) ds d (rest_within taken n urls ds below within.1) (omega (arith, is, left, below)) in
    ap (λ (l : List (List ℕ)). take n urls ++ e.url ∷ l) more
    ∙ sym (append_assoc (take n urls) (e.url ∷ in_line (taken + n) (drop n urls) ds) (d.url ∷ []))

-- if it is not due, the first URL that is still to be taken is next
pub line_takes : (taken : ℕ) (url : List ℕ) (urls : List (List ℕ)) (d : Deferred) (ds : List Deferred) → taken < d.after → in_line taken (url ∷ urls) (d ∷ ds) ≡ url ∷ in_line (suc taken) urls (d ∷ ds)
line_takes taken url urls d ds early = grind arith
