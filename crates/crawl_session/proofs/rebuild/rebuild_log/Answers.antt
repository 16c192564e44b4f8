use Rattle.crawl_session.proofs.Rebuilding.{rebuilt_all}
use Rattle.crawl_session.proofs.rebuild.rebuild_log.Goals as goal

pub returns-clause-written : goal.returns-clause-written
returns-clause-written g c =
    let written = g.O.Write.contents in
    rw (c.in_ok-plus.ensures, c.in_ok-left_out.ensures)
    (rebuilt_all c.args.inventory.now c.args.queue c.args.session.now c.write_done.new.session c.write_unfinished.new.session c.write_closing.new.session (written c.args.out.now) (written c.write_done.new.out) (written c.write_unfinished.new.out) (written c.write_closing.new.out)
    c.in_ok-done.done c.in_ok-unfinished.unfinished c.in_ok-others.others c.in_ok-done.ensures.written c.in_ok-unfinished.ensures.written c.in_ok-others.ensures.written)
