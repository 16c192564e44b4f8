-- Lines that are printed after each other.
use Rattle.crawl_report.proofs.Prelude.{common_steps, ◌≡◌, ℕ, ◌+◌, ◌<◌, ◌≤◌, List, [], ◌∷◌, ◌++◌, length, map, take, get_or, Result, IfOk, append-nil, refl, sym, ap, subst, ◌∙◌, arith, append_assoc, map-append, map_more, take_more, take_all, length-take-le, flat_map-append, Bor, enumerate_from, flat_map, PageResult, Line, Adds, bytes_of, pointed, Out, pointed_more}
use Rattle.crawl_report.specs.Lines as line

pub adds_none : (out : Out) → Adds out out []
adds_none out = record { same = refl; added = sym (append-nil (bytes_of out)) }

pub adds_both : (out mid more : Out) (xs ys : List Line) → Adds out mid xs → Adds mid more ys → Adds out more (xs ++ ys)
adds_both out mid more xs ys p q = grind (arith, append_assoc, flat_map-append)

-- the same lines in other words
pub adds_same : (out more : Out) (xs ys : List Line) → xs ≡ ys → Adds out more xs → Adds out more ys
adds_same out more xs ys same is = subst (Adds out more) same is

-- all elements were looked at
pub lines_all : {X : Type 0} (lines : List X → List Line) (out more : Out) (xs : List X) (k : ℕ) → length xs ≤ k → Adds out more (lines (take k xs)) → Adds out more (lines xs)
lines_all lines out more xs k past is = adds_same out more _ _ (ap lines (take_all k xs past)) is

-- ---- queues

numbered_push : (n : ℕ) (xs : List ℕ) (x : ℕ) → enumerate_from n (xs ++ x ∷ []) ≡ enumerate_from n xs ++ (n + length xs, x) ∷ []
numbered_push n [] x = ap (λ m. (m, x) ∷ []) (omega arith)
numbered_push n (y ∷ ys) x = ap (λ l. (n, y) ∷ l) (numbered_push (n + 1) ys x ∙ ap (λ m. enumerate_from (n + 1) ys ++ (m, x) ∷ []) (omega arith))

pub queue_more : (out mid more : Out) (counts : List ℕ) (k d : ℕ) → k < length counts → Adds out mid (map (λ x. line.queue x.0 x.1) (enumerate_from 0 (take k counts))) → Adds mid more (line.queue k (get_or counts k d) ∷ []) → Adds out more (map (λ x. line.queue x.0 x.1) (enumerate_from 0 (take (k + 1) counts)))
queue_more out mid more counts k d below p q = grind (arith, common_steps, length-take-le, take_more, numbered_push, adds_same, map-append, adds_both)

-- ---- what is referred to

pub pointed_line_at : {X : Type 0} (f : X → Line) (out mid more : Out) (xs : List (Bor X)) (k : ℕ) (d : Bor X) → k < length xs → Adds out mid (map f (pointed (take k xs))) → Adds mid more (f (get_or xs k d).now ∷ []) → Adds out more (map f (pointed (take (k + 1) xs)))
pointed_line_at {X} f out mid more xs k d below p q = grind (arith, common_steps, adds_same, map-append, map_more, adds_both)

-- ---- a whole report

-- lines more, for one result more
pub listed_more : (f : PageResult → List Line) (out mid more : Out) (xs : List (Bor PageResult)) (k : ℕ) (x : Bor PageResult) → k < length xs → x ≡ get_or xs k x → Adds out mid (flat_map f (pointed (take k xs))) → Adds mid more (f x.now) → Adds out more (flat_map f (pointed (take (k + 1) xs)))
listed_more f out mid more xs k x below at p q = grind (arith, common_steps, adds_same, append-nil, flat_map-append, pointed_more, adds_both)

-- what was printed first, and then more
pub then_more : {E : Type 0} (result : Result Out E) (out mid : Out) (xs ys zs : List Line) → Adds out mid xs → xs ++ ys ≡ zs → IfOk result (λ more. Adds mid more ys) → IfOk result (λ more. Adds out more zs)
then_more result out mid xs ys zs before same after = grind (arith, adds_same, adds_both)
