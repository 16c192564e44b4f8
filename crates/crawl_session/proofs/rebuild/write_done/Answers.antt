use Rattle.crawl_session.proofs.Prelude.{IfOk, rules}
use Rattle.crawl_session.specs.Listing.{is_count}
use Rattle.crawl_session.specs.Rebuilding.{Writes, done_url, each_url, end_line, line_if, none_left_out}
use Rattle.crawl_session.proofs.Rebuilding.{ended_both}
use Rattle.crawl_session.proofs.rebuild.write_done.Goals as goal

pub returns-clause-written : goal.returns-clause-written
returns-clause-written g c =
    let written = g.O.Write.contents in
    let had = c.args.inventory.now in
    let old = c.args.session.now in
    let mid = c.end_seeds_if.new.session in
    let new = c.done_urls.new.session in
    let before : Writes (line_if had.ended old.settings end_line is_count) old (written c.args.out.now) (written c.end_seeds_if.new.out) none_left_out mid = search rules in
    let here : IfOk c.done_urls.result (λ b. Writes (each_url (done_url mid.settings) had.done) mid (written c.end_seeds_if.new.out) (written c.done_urls.new.out) b new) = search rules in
    ended_both had old mid new (written c.args.out.now) (written c.end_seeds_if.new.out) (written c.done_urls.new.out) c.done_urls.result before here
