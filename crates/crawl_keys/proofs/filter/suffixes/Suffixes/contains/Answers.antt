use Rattle.crawl_keys.proofs.Prelude.{ap, ◌∙◌, bytes_eq, list_any}
use Rattle.crawl_keys.proofs.FilterLemmas.{list_any-contains}
use Rattle.crawl_keys.proofs.filter.suffixes.Suffixes.contains.Goals as goal

pub returns-then-has : goal.returns-then-has
returns-then-has c =
    c.contains.ensures ∙ list_any-contains c.args.text.now c.self.inside.texts.keys
    ∙ ap (list_any (bytes_eq c.args.text.now)) c.self.view_is
