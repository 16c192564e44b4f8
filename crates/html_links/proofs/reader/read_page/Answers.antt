use Rattle.html_links.proofs.Prelude.{base_at, length, seen_from, values_at}
use Rattle.html_links.specs.Seen.{seen_at}
use Rattle.html_links.proofs.Passing.{more_links, more_ids, more_base, more_positions}
use Rattle.html_links.proofs.reader.read_page.Goals as goal

pub tags-preserved : goal.tags-preserved
tags-preserved g c = (
  more_links c.args.styles (g.L.Links.texts c.tags.links) (g.L.Links.texts c.push_tag.new.links) _ (seen_from c.tags.context c.tags.rest.now) (seen_from c.in-Some.tag.context c.in-Some.tag.rest.now) (seen_at c.in-Some.tag (values_at c.next_tag.new.values)) c.tags.invariant.0 c.in-Some.ensures.finds c.in_ok-push_tag.ensures.texts,
  more_ids (g.I.DocumentIds.texts c.tags.ids) (g.I.DocumentIds.texts c.push_ids.new.ids) _ (seen_from c.tags.context c.tags.rest.now) (seen_from c.in-Some.tag.context c.in-Some.tag.rest.now) (seen_at c.in-Some.tag (values_at c.next_tag.new.values)) c.tags.invariant.1 c.in-Some.ensures.finds c.in_ok-push_ids.ensures,
  more_base (base_at c.tags.base) (base_at c.take_base.new.base) _ (seen_from c.tags.context c.tags.rest.now) (seen_from c.in-Some.tag.context c.in-Some.tag.rest.now) (seen_at c.in-Some.tag (values_at c.next_tag.new.values)) c.tags.invariant.2 c.in-Some.ensures.finds c.in_ok-take_base.ensures,
  more_positions c.args.styles (length c.args.document.now) (g.L.Links.positions c.tags.links) (g.L.Links.positions c.push_tag.new.links) _ (seen_from c.tags.context c.tags.rest.now) (seen_from c.in-Some.tag.context c.in-Some.tag.rest.now) (seen_at c.in-Some.tag (values_at c.next_tag.new.values)) c.tags.invariant.3 c.in-Some.ensures.finds c.in_ok-push_tag.ensures.positions,
)
