use Rattle.crawl_queues.proofs.Prelude.{◌+◌, ◌∙◌, true, sym, ap, subst, set, LogLine, AreThere, lists_of, log_of}
use Rattle.crawl_queues.proofs.LogLines.{line_more, there_more}
use Rattle.crawl_queues.proofs.book.Book.accept.Goals as goal

pub returns-clause-log : goal.returns-clause-log
returns-clause-log c = λ e has.
    let b = c.args.self.now in
    let lists = lists_of b.learned.items in
    let line : LogLine = record { index = c.args.index; queue = c.args.queue; accepted = true } in
    λ i. record {
      id = b.id;
      counts = set b.counts.items c.args.queue (c.args.number + 1);
      log = (ap (log_of lists) c.push_reserved.ensures.items ∙ line_more lists b.lines.items line e has) i;
    }

pub returns-clause-known : goal.returns-clause-known
returns-clause-known c = λ queues workers e has known.
    let b = c.args.self.now in
    let lists = lists_of b.learned.items in
    let line : LogLine = record { index = c.args.index; queue = c.args.queue; accepted = true } in
    record {
      len = known.len;
      lists_are = known.lists_are;
      there = subst (AreThere lists) (sym c.push_reserved.ensures.items) (there_more lists b.lines.items line e known.there has);
    }
