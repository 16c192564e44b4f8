use Rattle.mercator_site.proofs.Prelude.{map, string_bytes, ap, ◌∙◌, seed_link}
use Rattle.mercator_site.proofs.folder.folder_settings.Goals as goal

pub returns-clause-seeds : goal.returns-clause-seeds
returns-clause-seeds c = c.in_ok-seeds.ensures ∙ ap (λ ls. map (seed_link c.args.options.now.paths) (map string_bytes ls)) c.as_slice.ensures.value
