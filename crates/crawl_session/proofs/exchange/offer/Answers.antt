use Rattle.crawl_session.proofs.Steps.{gives_up_looking}
use Rattle.crawl_session.proofs.exchange.offer.Goals as goal

pub returns-clause-err : goal.returns-clause-err
returns-clause-err c = gives_up_looking c.args.core.now c.in_ok-_word._word c.step.new.self c.enter.result c.enter.new.core c.in_ok-_word.ensures.step c.enter.ensures.err
