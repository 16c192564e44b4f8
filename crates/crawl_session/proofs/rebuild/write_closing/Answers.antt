use Rattle.crawl_session.proofs.Prelude.{rules, says_closed}
use Rattle.crawl_session.specs.Rebuilding.{Writes, each_url, line_if, next_line, none_left_out, other_url}
use Rattle.crawl_session.proofs.Rebuilding.{closing_both}
use Rattle.crawl_session.proofs.rebuild.write_closing.Goals as goal

pub returns-clause-written : goal.returns-clause-written
returns-clause-written g c =
    let written = g.O.Write.contents in
    let had = c.args.inventory.now in
    let old = c.args.session.now in
    let mid = c.other_urls.new.session in
    let new = c.close_if.new.session in
    let others : Writes (each_url (other_url old.settings) had.elsewhere) old (written c.args.out.now) (written c.other_urls.new.out) c.in_ok-others.others mid = search rules in
    let close : Writes (line_if had.closed mid.settings (next_line c.args.queue) says_closed) mid (written c.other_urls.new.out) (written c.close_if.new.out) none_left_out new = search rules in
    closing_both had c.args.queue old mid new (written c.args.out.now) (written c.other_urls.new.out) (written c.close_if.new.out) c.in_ok-others.others others close
