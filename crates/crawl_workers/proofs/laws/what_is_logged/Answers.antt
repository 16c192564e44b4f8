use Rattle.crawl_workers.proofs.Lossless.{logged_accepted}
use Rattle.link_offers.proofs.Logs.{offer_line, offer_grows, has_line_on}
use Rattle.crawl_workers.proofs.laws.what_is_logged.Goals as goal

pub returns : goal.returns
returns c = record { accepted = logged_accepted; offered = offer_line; grows = offer_grows; stays = has_line_on }
