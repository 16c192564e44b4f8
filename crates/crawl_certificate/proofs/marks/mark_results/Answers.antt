use Rattle.crawl_certificate.proofs.Prelude.{ℕ, List, Bool, false, not, ◌&&◌, [], ◌∷◌, ◌++◌, map, take, sym, ap, subst, ◌∙◌, bytes_eq, take_more, Entry, PageResult, allows, links_of, is_accepted, has_result, is_linked, contains_url, is_lost, is_a_link, is_twice, IsLeast, url_of}
use Rattle.crawl_certificate.proofs.LeastUrls.{only_one, least_more}
use Rattle.crawl_certificate.proofs.Places.{linked_push, fetched_push}
use Rattle.crawl_certificate.proofs.Twice.{least_twice}
use Rattle.crawl_certificate.proofs.marks.mark_results.Goals as goal

pub loop-one-preserved : goal.loop-one-preserved
loop-one-preserved c =
    let entries = c.args.accepted.now in
    let all = c.args.results.now in
    let i = c.loop-one.one-index in
    let r = c.one-item.result in
    let more = ap (λ x. take i all ++ x ∷ []) c.one-item.is ∙ sym (take_more all i r c.loop-one-test.true) in
    let unlisted : List ℕ → Bool = λ url. not (is_accepted entries url) in
    let lost = is_lost (allows c.args.filter.now) entries in
    let least = c.loop-one.least in
    let one = c.mark_result-of_one.result in
    let before = c.loop-one.invariant in
    let now = c.mark_result-of_one.ensures in
    let both = c.and-least.ensures in
    let stray' = subst (IsLeast (λ url. bytes_eq r.url url && unlisted url)) (sym now.stray) (only_one r.url unlisted) in
    record {
      fetched =
          now.fetched (has_result (take i all)) before.fetched
          ∙ fetched_push entries (take i all) r
          ∙ ap (λ rs. map (λ (e : Entry). has_result rs e.url) entries) more;
      linked =
          now.linked (is_linked entries (take i all)) before.linked
          ∙ linked_push entries (take i all) r (λ _. false)
          ∙ ap (λ rs. map (is_linked entries rs) entries) more;
      missing =
          subst (λ rs. IsLeast (λ url. is_a_link rs url && lost url) (url_of c.and-least.result.missing)) more
          (subst (IsLeast (λ url. is_a_link (take i all ++ r ∷ []) url && lost url)) (sym both.missing)
          (least_more (λ (x : PageResult) url. contains_url (links_of x.page) url) lost (take i all) r (url_of least.missing) (url_of one.missing) before.missing now.missing));
      stray =
          subst (λ rs. IsLeast (λ url. has_result rs url && unlisted url) (url_of c.and-least.result.stray)) more
          (subst (IsLeast (λ url. has_result (take i all ++ r ∷ []) url && unlisted url)) (sym both.stray)
          (least_more (λ (x : PageResult) url. bytes_eq x.url url) unlisted (take i all) r (url_of least.stray) (url_of one.stray) before.stray stray'));
      twice = λ none.
          subst (λ rs. IsLeast (is_twice rs) (url_of c.and-least.result.twice)) more
          (subst (IsLeast (is_twice (take i all ++ r ∷ []))) (sym both.twice)
          (least_twice (take i all) r (url_of least.stray) (url_of one.stray) (url_of least.twice) (url_of one.twice) before.twice (now.twice (has_result (take i all)) before.fetched) (sym both.stray ∙ none)));
    }
