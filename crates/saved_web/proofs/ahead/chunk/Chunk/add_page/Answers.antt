use Rattle.saved_web.proofs.Prelude.{rules, ◌≡◌, [], ◌∷◌, ◌++◌, slice_get, IsAhead, shown_page, PageAhead}
use Rattle.saved_web.proofs.AheadLinks.{still_ahead, more_ahead}
use Rattle.saved_web.proofs.ahead.chunk.Chunk.add_page.Goals as goal

pub returns-in_err-links : goal.returns-in_err-links
returns-in_err-links c =
    let old = c.args.self.now in
    still_ahead c.args.web.now old.pages.items old.urls c.links_at.new.urls c.links_at.ensures.keep c.requires

pub returns-in_default : goal.returns-in_default
returns-in_default c =
    let old = c.args.self.now in
    still_ahead c.args.web.now old.pages.items old.urls c.links_at.new.urls c.links_at.ensures.keep c.requires

pub returns-in_err-push : goal.returns-in_err-push
returns-in_err-push c =
    let old = c.args.self.now in
    rw c.in_err-push.ensures.items (still_ahead c.args.web.now old.pages.items old.urls c.links_at.new.urls c.links_at.ensures.keep c.requires)

pub returns : goal.returns
returns c =
    let old = c.args.self.now in
    let web = c.args.web.now in
    let page : PageAhead = record { index = c.args.index; links = c.in-Some.links } in
    let longer : c.push.new.self.items ≡ old.pages.items ++ page ∷ [] = search rules in
    let own : IsAhead (shown_page (slice_get web c.args.index)) c.links_at.new.urls c.in-Some.links = search rules in
    more_ahead web old.pages.items c.push.new.self.items page c.links_at.new.urls longer
    (still_ahead web old.pages.items old.urls c.links_at.new.urls c.links_at.ensures.keep c.requires) own
