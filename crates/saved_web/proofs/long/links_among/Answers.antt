use Rattle.saved_web.proofs.Prelude.{◌≡◌, ap, ◌∙◌, count_by, filter_map, is_none, lines, link_texts, link_url}
use Rattle.saved_web.proofs.long.links_among.Goals as goal

pub returns-in-Ok-find_links : goal.returns-in-Ok-find_links
returns-in-Ok-find_links c =
    let texts = link_texts (lines c.args.text.now) in
    let same : c.new-folder.result ≡ c.args.url.now = c.new-folder.ensures ∙ c.in-Ok.ensures in
    record {
      links = c.in-Ok-find_links.ensures.links ∙ ap (λ url. filter_map (link_url url) texts) same;
      skipped = c.in-Ok-find_links.ensures.skipped ∙ ap (λ url. count_by (λ text. is_none (link_url url text)) texts) same;
    }
