use Rattle.std.proofs.Common.{string_bytes}
use Rattle.site_files.proofs.OtherNames.{linked_result}
use Rattle.site_files.proofs.site.Site.linked_folders.Goals as goal

pub returns : goal.returns
returns c = linked_result (string_bytes c.args.self.now.top) c.args.links.now c.in_ok-link_urls.field-0.items c.in_ok-link_urls.ensures c.new.result c.new.ensures
