use Rattle.std.proofs.Common.{◌≡◌, ℕ, List, None, ap, string_bytes, sym, ◌∙◌}
use Rattle.site_files.specs.Server.{key_with, url_of}
use Rattle.site_files.specs.declared.alias.FolderLink.{FolderLink}
use Rattle.site_files.proofs.OtherNames.{urls_more}
use Rattle.site_files.proofs.site.Site.link_urls.Goals as goal

pub links-preserved : goal.links-preserved
links-preserved c =
    let top = string_bytes c.args.self.now.top in
    let link = c.link-item.result in
    let url : FolderLink = record { name = c.in_ok-name.name; own = c.in_ok-own.own } in
    let spelled : List ℕ → List ℕ = λ name. url_of top (key_with None name) in
    let name : string_bytes url.name ≡ spelled (string_bytes link.name) = c.in_ok-name.ensures ∙ ap spelled c.as_bytes.ensures.value in
    let own : string_bytes url.own ≡ spelled (string_bytes link.own) = c.in_ok-own.ensures ∙ ap spelled c.as_bytes-in-links.ensures.value in
    rw c.in_ok-push.ensures.items
    (urls_more top c.args.links.now c.links.urls.items c.links.link-index link url _ c.links-test.true (sym c.link-item.is) name own c.links.invariant)
