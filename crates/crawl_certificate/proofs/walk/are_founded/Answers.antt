use Rattle.crawl_certificate.proofs.Prelude.{◌≡◌, ◌==◌, ◌&&◌, true, false, [], ◌∷◌, ◌++◌, take, get_or, sym, ap, subst, ◌∙◌, arith, if◌then◌else◌, All, take_more, take_all, All-append, All-contains, All-from_recursion, slice_get-get_or, Entry, allows, is_in, pointed}
use Rattle.crawl_certificate.proofs.Places.{length_pointed, read_pointed}
use Rattle.crawl_certificate.proofs.Walks.{founded_more}
use Rattle.crawl_certificate.proofs.walk.are_founded.Goals as goal

pub loop-index-preserved : goal.loop-index-preserved
loop-index-preserved c = λ holds only.
    let all = c.args.entries.now in
    let marks = c.args.marks.now in
    let i = c.loop-index.index in
    let e = c.index-entries-index.result in
    let allowed = allows c.args.filter.now in
    let P : Entry → Type 0 = λ x. (allowed x.url && (if x.hops == 0 then is_in c.args.seeds.now x.url else holds x)) ≡ true in
    let more = ap (λ x. take i (pointed all) ++ x ∷ []) (sym (read_pointed all i e c.index-entries-index.is)) ∙ sym (take_more (pointed all) i e.now (omega (arith, c.loop-index-test.true, length_pointed all))) in
    let one : P e.now =
    founded_more allowed c.args.seeds.now holds all marks i e (get_or marks i false) c.loop-index-test.true c.index-entries-index.is
    (slice_get-get_or marks i false (omega (arith, c.loop-index-test.true, c.requires))) only (sym c.if-not-is_founded.ensures) in
    subst (All P) more (All-append P (take i (pointed all)) (e.now ∷ []) (c.loop-index.invariant holds only) (All-from_recursion P (e.now ∷ []) (one, tt)))

pub returns : goal.returns
returns c = λ holds yes only e has.
    let all = pointed c.args.entries.now in
    let P : Entry → Type 0 = λ x. (allows c.args.filter.now x.url && (if x.hops == 0 then is_in c.args.seeds.now x.url else holds x)) ≡ true in
    let whole = take_all c.loop-index.index all (omega (arith, c.loop-index-test.false, length_pointed c.args.entries.now)) in
    All-contains P all e (subst (All P) whole (c.loop-index.invariant holds only)) has
