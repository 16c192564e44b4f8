use Rattle.site_check.proofs.Prelude.{◌||◌, [], ◌∷◌, ◌++◌, take, sym, ap, ◌∙◌, take_more, bytes_eq, is_alias}
use Rattle.crawl_sources.proofs.Counts.{any_push, set_put}
use Rattle.site_files.specs.declared.alias.Alias.{Alias}
use Rattle.site_check.proofs.url_sets.alias_urls.Goals as goal

pub loop-alias-preserved : goal.loop-alias-preserved
loop-alias-preserved c = λ url.
    let i = c.loop-alias.alias-index in
    let all = c.args.aliases.now in
    set_put c.loop-alias.set c.insert.new.self c.hashed.result c.in_ok-insert.ensures.updates url
    ∙ ap (λ b. b || bytes_eq c.hashed.result url) (c.loop-alias.invariant url)
    ∙ ap (λ t. is_alias (take i all) url || bytes_eq t url) c.hashed.ensures
    ∙ sym (any_push (λ (a : Alias). bytes_eq a.url url) (take i all) c.alias-item.result)
    ∙ ap (λ xs. is_alias xs url) (ap (λ x. take i all ++ x ∷ []) c.alias-item.is ∙ sym (take_more all i c.alias-item.result c.loop-alias-test.true))
