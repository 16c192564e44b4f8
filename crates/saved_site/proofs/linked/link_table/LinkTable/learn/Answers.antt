use Rattle.saved_site.proofs.Prelude.{◌≡◌, ℕ, true, List, ◌∙◌, ap, sym, subst, is_of_folder, link_url, LeadsTo}
use Rattle.saved_site.proofs.LinkIndices.{known_still}
use Rattle.saved_site.proofs.linked.link_table.LinkTable.learn.Goals as goal

pub returns-in_ok-add-clause-known : goal.returns-in_ok-add-clause-known
returns-in_ok-add-clause-known c =
    let base = c.args.base.now in
    let urls = c.url_index.new.urls in
    let still = known_still base c.args.self.now.urls urls c.args.self.now.known c.url_index.ensures.keep c.requires.known in
    let P : List ℕ → Type 0 = λ t. LeadsTo urls c.in_ok-index.index (link_url base t) in
    let leads = subst P c.as_str.ensures c.in_ok-index.ensures.leads in
    let own : is_of_folder c.args.key.now ≡ true =
    ap is_of_folder (sym c.as_str-2.ensures) ∙ sym c.is_of_folder.ensures ∙ c.if-is_of_folder.true in
    record {
      known = c.in_ok-add.ensures.known base urls still leads;
      of_folder = c.in_ok-add.ensures.of_folder own c.requires.of_folder;
    }
