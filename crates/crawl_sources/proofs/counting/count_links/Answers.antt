use Rattle.crawl_sources.proofs.Prelude.{◌≡◌, ℕ, List, [], ◌∷◌, ◌++◌, take, sym, ap, subst, ◌∙◌, if◌then◌else◌, take_more, list_any, option_map, bytes_eq, counted, count_of}
use Rattle.crawl_sources.proofs.Counts.{link_more}
use Rattle.crawl_sources.proofs.counting.count_links.Goals as goal

pub loop-link-preserved : goal.loop-link-preserved
loop-link-preserved c = λ url.
    let all = c.args.links.now in
    let i = c.loop-link.link-index in
    let x = c.link-item.result in
    let more = ap (λ l. take i all ++ l ∷ []) c.link-item.is ∙ sym (take_more all i x c.loop-link-test.true) in
    let P : List (List ℕ) → Type 0 = λ ls. count_of c.count_link.new.tallies url ≡ option_map (λ n. if list_any (λ link. bytes_eq link url) ls then counted c.args.all c.args.number c.args.page.now n else n) (count_of c.args.tallies.now url) in
    subst P more (link_more c.args.all (take i all) x c.args.number c.args.page.now url (count_of c.args.tallies.now url) (count_of c.loop-link.tallies url) (count_of c.count_link.new.tallies url) (c.loop-link.invariant url) (c.in_ok-count_link.ensures url))
