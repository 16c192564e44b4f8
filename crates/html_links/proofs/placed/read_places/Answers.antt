use Rattle.html_links.proofs.Prelude.{base_at, length, seen_from, values_at}
use Rattle.html_links.specs.Seen.{seen_at}
use Rattle.html_links.proofs.Passing.{enough_links, enough_positions, more_base, more_links, more_positions, never_enough}
use Rattle.html_links.proofs.placed.read_places.Goals as goal

pub tags-preserved : goal.tags-preserved
tags-preserved g c = (
  more_links c.args.styles (g.L.Links.texts c.tags.links) (g.L.Links.texts c.push_tag.new.links) _ (seen_from c.tags.context c.tags.rest.now) (seen_from c.in-Some.tag.context c.in-Some.tag.rest.now) (seen_at c.in-Some.tag (values_at c.next_tag.new.values)) c.tags.invariant.0 c.in-Some.ensures.finds c.in_ok-push_tag.ensures.texts,
  more_base (base_at c.tags.base) (base_at c.take_base.new.base) _ (seen_from c.tags.context c.tags.rest.now) (seen_from c.in-Some.tag.context c.in-Some.tag.rest.now) (seen_at c.in-Some.tag (values_at c.next_tag.new.values)) c.tags.invariant.1 c.in-Some.ensures.finds c.in_ok-take_base.ensures,
  more_positions c.args.styles (length c.args.document.now) (g.L.Links.positions c.tags.links) (g.L.Links.positions c.push_tag.new.links) _ (seen_from c.tags.context c.tags.rest.now) (seen_from c.in-Some.tag.context c.in-Some.tag.rest.now) (seen_at c.in-Some.tag (values_at c.next_tag.new.values)) c.tags.invariant.2 c.in-Some.ensures.finds c.in_ok-push_tag.ensures.positions,
)

pub returns-then-has_enough-clause-links : goal.returns-then-has_enough-clause-links
returns-then-has_enough-clause-links g c =
    enough_links c.args.styles c.args.needed (g.L.Links.texts c.tags.links) (g.L.Links.texts c.push_tag.new.links) _ (seen_from c.tags.context c.tags.rest.now) (seen_from c.in-Some.tag.context c.in-Some.tag.rest.now) (seen_at c.in-Some.tag (values_at c.next_tag.new.values)) c.tags.invariant.0 c.in-Some.ensures.finds c.in_ok-push_tag.ensures.texts
    (c.has_enough.ensures.texts c.if-has_enough.true)

pub returns-then-has_enough-clause-positions : goal.returns-then-has_enough-clause-positions
returns-then-has_enough-clause-positions g c =
    enough_positions c.args.styles c.args.needed (length c.args.document.now) (g.L.Links.positions c.tags.links) (g.L.Links.positions c.push_tag.new.links) _ (seen_from c.tags.context c.tags.rest.now) (seen_from c.in-Some.tag.context c.in-Some.tag.rest.now) (seen_at c.in-Some.tag (values_at c.next_tag.new.values)) c.tags.invariant.2 c.in-Some.ensures.finds c.in_ok-push_tag.ensures.positions
    (c.has_enough.ensures.positions c.if-has_enough.true)

pub returns-then-has_enough-clause-base : goal.returns-then-has_enough-clause-base
returns-then-has_enough-clause-base g c = λ none. absurd (never_enough c.args.needed _ (c.has_enough.ensures.texts c.if-has_enough.true) none)
