use Rattle.crawl_session.proofs.Prelude.{rules}
use Rattle.crawl_session.specs.Rebuilding.{Writes, by_turns, each_url, waiting_url}
use Rattle.crawl_session.proofs.Rebuilding.{unfinished_both}
use Rattle.crawl_session.proofs.rebuild.write_unfinished.Goals as goal

pub returns-clause-written : goal.returns-clause-written
returns-clause-written g c =
    let written = g.O.Write.contents in
    let had = c.args.inventory.now in
    let old = c.args.session.now in
    let mid = c.waiting_urls.new.session in
    let new = c.pending_urls.new.session in
    let busy : Writes (each_url (waiting_url old.settings) had.in_progress) old (written c.args.out.now) (written c.waiting_urls.new.out) c.in_ok-busy.busy mid = search rules in
    let pending : Writes (each_url (waiting_url mid.settings) (by_turns had.pending)) mid (written c.waiting_urls.new.out) (written c.pending_urls.new.out) c.in_ok-pending.pending new = search rules in
    rw (c.in_ok-plus.ensures) (unfinished_both had old mid new (written c.args.out.now) (written c.waiting_urls.new.out) (written c.pending_urls.new.out) c.in_ok-busy.busy c.in_ok-pending.pending busy pending)
