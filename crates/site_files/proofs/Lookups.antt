-- What a look-up leads to.
use Rattle.std.proofs.Common.{◌≡◌, ℕ, List, Option, Some, None, refl, sym, ap, ◌∙◌}
use Rattle.site_files.specs.Entries.{Finds, IsEntryAt, LeadsTo, entry_at, response_of}
use Rattle.site_files.specs.Pages.{Missing, Response, or_else}
use Rattle.site_files.specs.declared.page_table.Entry.{Entry}
use Rattle.site_files.specs.declared.page_table.Source.{Source}
use Rattle.site_files.specs.declared.page_table.Source.TheVariants as source

pub leads_finds : (entries : List Entry) (url : List ℕ) (found : Option ℕ) → Finds entries url found → LeadsTo entries (entry_at entries url) found
leads_finds entries url None finds = finds
leads_finds entries url (Some number) finds = record { entry = finds.entry; there = finds.there; returns = sym finds.first }

-- an entry returns something
some_response : (from : Source) → response_of from ≡ Missing → ⊥
some_response (source.File index) is = cc
some_response (source.Index index) is = cc
some_response (source.Moved url) is = cc

pub no_entry : (entries : List Entry) (url : List ℕ) (number : ℕ) → IsEntryAt entries url number → entry_at entries url ≡ Missing → ⊥
no_entry entries url number is missing = some_response is.entry.source (sym is.first ∙ missing)

pub or_else-some : (from : Source) (other : Response) → or_else (response_of from) other ≡ response_of from
or_else-some (source.File index) other = refl
or_else-some (source.Index index) other = refl
or_else-some (source.Moved url) other = refl

pub leads_first : (entries : List Entry) (url : List ℕ) (number : ℕ) (other : Response) → IsEntryAt entries url number → LeadsTo entries (or_else (entry_at entries url) other) (Some number)
leads_first entries url number other is = record {
  entry = is.entry;
  there = is.there;
  returns = sym (ap (λ first. or_else first other) is.first ∙ or_else-some is.entry.source other);
}

pub leads_other : (entries : List Entry) (url : List ℕ) (found : Option ℕ) (other : Response) → entry_at entries url ≡ Missing → LeadsTo entries other found → LeadsTo entries (or_else (entry_at entries url) other) found
leads_other entries url found other missing leads = rw missing leads
