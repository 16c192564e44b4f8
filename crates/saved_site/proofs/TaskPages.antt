-- The page of a task is the one that a server returns.
use Rattle.saved_site.proofs.Prelude.{◌≡◌, ◌∙◌, ℕ, Bool, true, false, List, [], Option, Some, None, refl, sym, subst, option_map, Links, SitePage, Under}
use Rattle.std.proofs.Common.{true≢false}
use Rattle.std.specs.Bool.{then_some}
use Rattle.std.specs.Borrow.{Bor}
use Rattle.std.specs.Option.{IfSome}
use Rattle.site_files.specs.Files.{Document}
use Rattle.site_files.specs.declared.files.SiteFiles.{SiteFiles}
use Rattle.document_links.specs.declared.anchor_targets.AnchorTargets.{AnchorTargets}
use Rattle.site_files.specs.declared.kinds.FileKind.{FileKind}
use Rattle.saved_site.specs.FileLinks.{IsFileDocument, IsFilePage, IsPageOf, IsPageWith, is_read}
use Rattle.saved_site.specs.SiteAnchors.{KeepsAnchors}
use Rattle.saved_site.specs.declared.page.SiteAnchors.{SiteAnchors}
use Rattle.saved_site.specs.TaskPages.{PageKind, IsPageOfKind, IsOwnPage, IsReadPage, IsTaskPage, kind_at, kind_of, read_if}
use Rattle.saved_site.specs.declared.task.Response.{Response}

pub read_found : (is_read : Bool) (body : Bor (List ℕ)) → option_map (λ (b : Bor (List ℕ)). b.now) (then_some is_read body) ≡ read_if is_read body.now
read_found true body = refl
read_found false body = refl

-- the page of a file, of which this was read
pub own_page : (files : SiteFiles) (reads : ℕ → Option (List ℕ) → Type 0) (url : List ℕ) (file : Document) (found : Option (List ℕ)) (page : Option SitePage) → reads file.index found → IfSome page (IsReadPage files url file.kind found) → IfSome page (IsOwnPage files reads url file)
own_page files reads url file found None reads_found is = tt
own_page files reads url file found (Some page) reads_found is = record { found = found; reads_found = reads_found; is = is }

-- what is answered is what the server returns
pub page_of_kind : (files : SiteFiles) (reads : ℕ → Option (List ℕ) → Type 0) (number : ℕ) (url : List ℕ) (response : Response) (page : Option SitePage) → kind_of response ≡ kind_at files number url → IfSome page (IsPageOfKind files reads number url (kind_of response)) → IfSome page (IsTaskPage files reads number url)
page_of_kind files reads number url response page same is =
    subst (λ (page_kind : PageKind). IfSome page (IsPageOfKind files reads number url page_kind)) same is

-- ---- pages with anchors

-- a page has the anchors that it is made with
pub page_keeps : (files : SiteFiles) (url : List ℕ) (under : Under) (kept : Option AnchorTargets) (own : Option SiteAnchors) (page : Option SitePage) → KeepsAnchors files kept own → IfSome page (IsPageWith url under own) → IfSome page (λ p. KeepsAnchors files kept p.anchors)
page_keeps files url under kept own None keeps is = tt
page_keeps files url under kept own (Some page) keeps is = subst (KeepsAnchors files kept) (sym is.2) keeps

-- the page of a file that is not read
pub unread_page : (files : SiteFiles) (url : List ℕ) (kind : FileKind) (body : List ℕ) (page : Option SitePage) → is_read kind body ≡ false → IfSome page (IsPageOf url (Links [])) → IfSome page (IsFilePage files url kind body)
unread_page files url kind body None unread is = tt
unread_page files url kind body (Some page) unread is = record {
  links = [];
  kept = None;
  own = is.0;
  under = is.1;
  anchors = is.2;
  has = λ read. absurd (true≢false (sym read ∙ unread));
  none = λ _. (refl, refl);
}

-- the page of a document
pub file_page : (files : SiteFiles) (url : List ℕ) (kind : FileKind) (body : List ℕ) (links : List (List ℕ)) (kept : Option AnchorTargets) (page : Option SitePage) → is_read kind body ≡ true → IsFileDocument files url kind body links kept
    → IfSome page (λ p. (p.url ≡ url) × (p.under ≡ Links links)) → IfSome page (λ p. KeepsAnchors files kept p.anchors) → IfSome page (IsFilePage files url kind body)
file_page files url kind body links kept None read document is keeps = tt
file_page files url kind body links kept (Some page) read document is keeps = record {
  links = links;
  kept = kept;
  own = is.0;
  under = is.1;
  anchors = keeps;
  has = λ _. document;
  none = λ unread. absurd (true≢false (sym read ∙ unread));
}
