use Rattle.site_check.proofs.Prelude.{common_steps, ◌≡◌, ◌||◌, ◌∙◌, true, ap, arith, bytes_eq, is_in}
use Rattle.crawl_sources.proofs.Counts.{set_put}
use Rattle.site_check.proofs.Listed.{with_true}
use Rattle.site_check.proofs.unlisted.add_own.Goals as goal

pub returns-in_ok-insert : goal.returns-in_ok-insert
returns-in_ok-insert c = λ own.
    let old = c.args.owns.now in
    let alias = c.args.alias.now in
    let listed : is_in c.args.listed.now alias.url ≡ true = grind (arith, common_steps) in
    set_put old c.insert.new.self c.hashed-own.result c.in_ok-insert.ensures.updates own ∙ ap (λ t. is_in old own || bytes_eq t own) c.hashed-own.ensures
    ∙ with_true (is_in old own) (bytes_eq alias.own own) (is_in c.args.listed.now alias.url) listed
