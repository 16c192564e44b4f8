use Rattle.std.proofs.Common.{refl, ap}
use Rattle.site_files.specs.declared.rules.Rules.{Rules}
use Rattle.saved_site.proofs.file_document.options_of.Goals as goal

pub returns : goal.returns
returns c = record {
  syntax = c.syntax_of.ensures;
  styles = ap (λ (rules : Rules). rules.styles) c.rules-rules.ensures;
  anchors = ap (λ (rules : Rules). rules.anchors) c.rules-rules.ensures;
  places = ap (λ (rules : Rules). rules.places) c.rules-rules.ensures;
  root = c.root_of.ensures;
  limit = refl;
}
