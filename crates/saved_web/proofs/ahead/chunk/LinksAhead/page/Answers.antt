use Rattle.std.proofs.Common.{rules}
use Rattle.saved_web.proofs.AheadLinks.{copied_page}
use Rattle.saved_web.proofs.ahead.chunk.LinksAhead.page.Goals as goal

pub returns : goal.returns
returns c = λ page is. copied_page page c.args.urls.now c.args.self.now c.from.result is (search rules)
