use Rattle.std.proofs.Common.{string_bytes}
use Rattle.site_files.proofs.SkippedLinks.{skipped_result}
use Rattle.site_files.proofs.site.Site.skipped_links.Goals as goal

pub returns : goal.returns
returns c = skipped_result (string_bytes c.args.self.now.top) c.args.links.now c.in_ok-skipped_urls.field-0.items c.in_ok-skipped_urls.ensures c.new.result c.new.ensures
