use Rattle.document_links.specs.Keeping.{AreMarked, AreMore, AreTargets}
use Rattle.document_links.proofs.marked_links.find_marked.Given as goal

abbrev pub invariant-loop-index : goal.invariant-loop-index
invariant-loop-index l = record {
  more : AreMore l.initial.targets l.targets;
  targets : AreTargets l.targets;
  links : AreMarked l.targets l.raw.texts l.index l.all.items;
}
