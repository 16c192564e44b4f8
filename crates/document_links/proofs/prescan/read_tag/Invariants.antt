use Rattle.document_links.proofs.Prelude.{◌≡◌, ◌≤◌, length}
use Rattle.document_links.specs.Prescan.{BeforeName, prescan}
use Rattle.document_links.specs.Scans.{meta_of}
use Rattle.document_links.proofs.prescan.read_tag.Given as goal

-- after the attributes so far, what is left declares what the whole declares
abbrev pub invariant-attributes : goal.invariant-attributes
invariant-attributes l = record {
  reads : prescan (BeforeName (meta_of l.tag)) l.rest ≡ prescan (BeforeName (meta_of l.initial.tag)) l.fn.text;
  within : length l.rest ≤ length l.fn.text;
}

abbrev pub decreases-attributes : goal.decreases-attributes
decreases-attributes l = length l.rest
