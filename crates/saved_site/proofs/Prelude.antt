-- The names that most proofs cite, passed on from one place. Declares nothing.
pub use Rattle.crawl_keys.specs.Folders.{is_of_folder}
pub use Rattle.crawl_pages.specs.declared.page.Page.{Page}
pub use Rattle.document_links.proofs.Fitting.{fits_inner, fits_utf8}
pub use Rattle.document_links.specs.Texts.{all_fit, fits, is_inner}
pub use Rattle.hash_index.proofs.Keeping.{pushed_item}
pub use Rattle.hash_index.specs.Lists.{index_of}
pub use Rattle.hash_order.specs.HashOrder.{hash_of}
pub use Rattle.saved_pages.specs.WebLines.{is_link, is_moved_line, is_page, is_page_at, line_of, line_of_text, says_moved, says_page, url_said}
pub use Rattle.saved_pages.specs.declared.line.Line.{Line}
pub use Rattle.saved_site.specs.Below.{IsWebBelow, is_next}
pub use Rattle.saved_site.specs.LinkTables.{AreKnown, AreOfFolder, IsTableOf, LeadsTo, TextIndex}
pub use Rattle.saved_site.specs.Linked.{AreKept, IsKept, IsSiteSource, PageFound, found_of, page_at, page_with, with_found}
pub use Rattle.saved_site.specs.LinkedPages.{AreLed, IsLed, found_all, found_in, page_led, urls_of}
pub use Rattle.saved_site.specs.Meaning.{IsSiteWeb, page_in, under_page}
pub use Rattle.saved_site.specs.Pages.{AscendsAfter, IsPage, ascending_after, fits_under, is_after, link_line, link_lines, moved_line, page_line, page_text, under_text, web_text}
pub use Rattle.saved_site.specs.WebTexts.{AreInOrder, IsPageText, TextAt, last_url, web_bytes}
pub use Rattle.saved_site.specs.declared.linked.linked_page.LinkedPage.{LinkedPage}
pub use Rattle.saved_site.specs.declared.page.SitePage.{SitePage}
pub use Rattle.saved_site.specs.declared.page.Under.{Under}
pub use Rattle.saved_site.specs.declared.page.Under.TheVariants.{Links, Moved}
pub use Rattle.saved_pages.proofs.UrlIndices.{lead_still}
pub use Rattle.saved_pages.specs.UrlIndices.{KeepIndices, LeadTo}
pub use Rattle.saved_pages.specs.SavedWeb.{found_page, link_url}
pub use Rattle.site_files.specs.Below.{is_below}
pub use Rattle.std.proofs.Common.{Bool, List, None, Ok, Option, Some, [], ap, append-nil, append_assoc, arith, codes, cond, drop, false, get_or, is_some, length, length-append, lt-ltb, map, not, refl, rules, slice_get, string_bytes, subst, sym, take, take_all, true, ℕ, ◌*◌, ◌++◌, ◌+◌, ◌-◌, ◌<◌, ◌||◌, ◌∙◌, ◌∷◌, ◌≡◌, ◌≤◌}
pub use Rattle.std.proofs.lemmas.Bool.{and_parts, cases_Bool, cond-false, cond-true, leb-true, not-true, or_from, or_parts}
pub use Rattle.std.proofs.lemmas.Cmp.{nat_list_cmp_total, tied_itself}
pub use Rattle.std.proofs.lemmas.Grind.{common_steps}
pub use Rattle.std.proofs.lemmas.List.{drop_more, flat_map_more, get_or-map, length-map, map_push, take_more}
pub use Rattle.std.proofs.lemmas.List.Concat.{flat_map-append}
pub use Rattle.std.proofs.lemmas.List.Elements.{All-append, All-head, All-push, All-tail, Contains-get_or, filter_map-append}
pub use Rattle.std.proofs.lemmas.Map.Text.{is_eq-slice_cmp}
pub use Rattle.std.proofs.lemmas.Slice.Eq.{bytes_eq-Decides}
pub use Rattle.std.proofs.lemmas.Str.{IsUtf8-append, IsUtf8-from_is_utf8}
pub use Rattle.std.specs.Bool.{if◌then◌else◌}
pub use Rattle.std.specs.Cmp.Lexicographic.{slice_cmp}
pub use Rattle.std.specs.Io.KnownBytes.{Appends, append_known}
pub use Rattle.std.specs.List.{AllPass, Contains, count_by, filter_map, flat_map, list_all, list_any}
pub use Rattle.std.specs.Option.{is_none, option_and_then, option_map, option_map_or, option_or, unwrap_or}
pub use Rattle.std.specs.Ordering.{is_eq, is_lt, nat_cmp, ordering_reverse}
pub use Rattle.std.specs.Prelude.{Result, nat_le}
pub use Rattle.std.specs.Str.{IsUtf8, bytes_eq, is_utf8}
pub use Rattle.std.specs.Str.Lines.{lines, lines_of_parts, strip_carriage_return}
pub use Rattle.std.specs.declared.cmp.Ordering.{Ordering}
pub use Rattle.std.specs.declared.cmp.Ordering.TheVariants.{Equal, Greater, Less}
