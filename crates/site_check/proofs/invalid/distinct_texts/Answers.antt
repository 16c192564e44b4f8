use Rattle.site_check.proofs.Prelude.{link_text, map, once, option_map, text_of}
use Rattle.site_check.proofs.TextsOnce.{link_more}
use Rattle.site_check.proofs.invalid.distinct_texts.Goals as goal

pub loop-index-preserved : goal.loop-index-preserved
loop-index-preserved c =
    link_more c.args.links.now c.loop-index.index c.index-links-index.result (option_map link_text c.loop-index.last) (map text_of c.loop-index.texts.items) (map text_of c.add_text.new.texts.items)
    (once (map link_text c.args.links.now)) c.loop-index-test.true c.index-links-index.is c.in_ok-add_text.ensures c.loop-index.invariant
