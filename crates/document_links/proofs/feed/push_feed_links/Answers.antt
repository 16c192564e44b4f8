use Rattle.document_links.proofs.Prelude.{◌≡◌, ◌∙◌, ◌++◌, List, [], length, ap, sym}
use Rattle.std.proofs.Common.{append-nil}
use Rattle.document_links.specs.Feeds.{markup_links, markup_positions}
use Rattle.document_links.proofs.Feeding.{next_element, no_markup}
use Rattle.document_links.proofs.Runs.{appended}
use Rattle.document_links.proofs.feed.push_feed_links.Goals as goal

pub markup-preserved : goal.markup-preserved
markup-preserved c = (
  appended c.markup.raw.texts c.push_markup_links.new.raw.texts _ _ _ _ c.in_ok-push_markup_links.ensures.texts
      (next_element markup_links c.markup.kind c.kind_after-kind.result c.markup.rest.now c.in-Some.opened.now c.split_at.result.0.now c.split_at.result.1.now c.markup_of-markup.result c.markup_len.result
      c.in-Some.ensures.1 c.markup_of-markup.ensures c.markup_len.ensures.value c.split_at.ensures.front c.split_at.ensures.back c.kind_after-kind.ensures) c.markup.invariant.0,
  appended c.markup.raw.positions.items c.push_markup_links.new.raw.positions.items _ _ _ _ c.in_ok-push_markup_links.ensures.positions
      (next_element (markup_positions (length c.args.text.now)) c.markup.kind c.kind_after-kind.result c.markup.rest.now c.in-Some.opened.now c.split_at.result.0.now c.split_at.result.1.now c.markup_of-markup.result c.markup_len.result
      c.in-Some.ensures.1 c.markup_of-markup.ensures c.markup_len.ensures.value c.split_at.ensures.front c.split_at.ensures.back c.kind_after-kind.ensures) c.markup.invariant.1,
)

-- nothing is left
all_read : {X : Type 0} (found left all : List X) → left ≡ [] → found ++ left ≡ all → found ≡ all
all_read found left all none so_far = sym (append-nil found) ∙ sym (ap (λ l. found ++ l) none) ∙ so_far

pub returns-clause-texts : goal.returns-clause-texts
returns-clause-texts c = all_read c.markup.raw.texts _ _ (no_markup markup_links c.markup.kind c.markup.rest.now c.in_default.ensures) c.markup.invariant.0

pub returns-clause-positions : goal.returns-clause-positions
returns-clause-positions c =
    all_read c.markup.raw.positions.items _ _ (no_markup (markup_positions (length c.args.text.now)) c.markup.kind c.markup.rest.now c.in_default.ensures) c.markup.invariant.1
