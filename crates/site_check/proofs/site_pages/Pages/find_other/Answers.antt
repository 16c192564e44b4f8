use Rattle.site_check.proofs.Prelude.{◌≡◌, ◌∙◌, Some, ap, option_map, subst, sym}
use Rattle.site_check.proofs.DocumentsFound.{other_found}
use Rattle.site_check.specs.Documents.{at_url, found_of, own_at}
use Rattle.site_check.proofs.site_pages.Pages.find_other.Goals as goal

pub returns : goal.returns
returns c = λ order.
    let pages = c.args.self.now in
    let alias = c.in_ok-alias.alias.now in
    let own = found_of c.in_ok-own.own in
    other_found pages.anchors.now pages.aliases.now c.args.url.now alias own (sym (c.find_alias.ensures order) ∙ ap (option_map (λ a. a.now)) c.in_ok-alias.was)
    (subst (λ url. option_map (at_url url) (own_at pages.anchors.now url) ≡ Some own) c.as_str.ensures.value (sym (c.find_own.ensures order) ∙ ap (option_map found_of) c.in_ok-own.was))
