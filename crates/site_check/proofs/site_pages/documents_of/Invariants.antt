use Rattle.site_check.proofs.Prelude.{◌≡◌, length}
use Rattle.site_check.specs.Documents.{AreNumbers}
use Rattle.site_check.proofs.site_pages.documents_of.Given as goal

abbrev pub invariant-loop-number : goal.invariant-loop-number
invariant-loop-number l = record {
  counted : length l.all.items ≡ l.number;
  are : AreNumbers l.files l.anchors l.all.items;
}
