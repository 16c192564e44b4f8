-- The names that most proofs cite, passed on from one place. Declares nothing.
pub use Rattle.crawl_keys.specs.Bases.{IsBase, IsFolderOf, IsSchemeOf}
pub use Rattle.crawl_keys.specs.CanonicalText.{IsCanonical, IsPage, canonical, is_web, resolve, resolve_from, text_of_parse, without_fragment}
pub use Rattle.crawl_keys.specs.Folders.{is_colon, is_of_folder, root_text}
pub use Rattle.crawl_keys.specs.Fragments.{before_fragment, ends_visibly, is_number_sign}
pub use Rattle.crawl_keys.specs.HostFilter.{allows, in_order, is_dot, is_within}
pub use Rattle.crawl_keys.specs.HostKey.{host_key, host_of_parse}
pub use Rattle.crawl_keys.specs.Lanes.{Follow, IsRun, first_set}
pub use Rattle.crawl_keys.specs.Layout.{IsLaidOut}
pub use Rattle.crawl_keys.specs.Links.{IsAhead, IsAtRoot, IsAfterDots, IsByHost, IsInFolder, IsWithin, above, after_ups, folder_above, has_no_scheme, is_query, is_rooted, is_same}
pub use Rattle.crawl_keys.specs.Outcome.{Gives}
pub use Rattle.crawl_keys.specs.Plain.{first_is_slash, host_len, is_host_byte, is_kept, is_lower, is_named, is_other, is_plain, is_plain_host, may_begin, may_follow}
pub use Rattle.crawl_keys.specs.Spelled.{IsSpelled}
pub use Rattle.crawl_keys.specs.declared.canon_url.Laid.{Laid}
pub use Rattle.crawl_keys.specs.declared.error.KeyError.TheVariants.{NoMemory, NotHttp}
pub use Rattle.crawl_keys.specs.declared.plain.TheConstants.{CLASS}
pub use Rattle.hash_order.specs.HashOrder.{hash_of}
pub use Rattle.percent_encoding.proofs.PercentLemmas.{percent_decode-nil, percent_decode_not_percent, percent_encode_unchanged}
pub use Rattle.percent_encoding.specs.Percent.{IsKept, percent_decode, percent_encode}
pub use Rattle.std.proofs.Common.{All, Bool, Contains, Err, Fits, Global, IfSome, IsCharBoundary, List, None, Ok, Result, Some, String, [], add-one, ap, append-nil, append_assoc, arith, bit_and, bit_or, codes, cond, drop, drop_at, false, fold, get_or, inl, inr, leb, length, length-append, length-drop, length-take-le, lit<, ltb, map, nat_eq, nat_lt, not, one-add, refl, replicate, reverse, rules, string_bytes, subst, suc, sym, take, take-append-drop, take_all, take_at, true, w8, zero, ℕ, ⊎_elim, ◌%◌, ◌&&◌, ◌*◌, ◌++◌, ◌+◌, ◌-◌, ◌<◌, ◌==◌, ◌^◌, ◌||◌, ◌↔◌, ◌∙◌, ◌∷◌, ◌≡◌, ◌≢◌, ◌≤◌, ◌⊎◌}
pub use Rattle.std.proofs.Math.Bool.{or-false}
pub use Rattle.std.proofs.Math.Seq.{get_or-append_seam, take-append-add, take-nil, take-suc}
pub use Rattle.std.proofs.lemmas.Bool.{agree_below, agree_below_at, and_from, and_left, and_parts, and_right, cases_Bool, cases_eq, cases_lt, cases_order, cond-false, cond-true, cond_both, eq-eqb, eqb-true, false_from_ne_true, le-ltb, lt-leb, lt-ltb, ltb-true, ne_eqb, not-false, not-true, or_cases, or_from, or_left, or_parts, or_right, true≢false}
pub use Rattle.std.proofs.lemmas.Bool.Decides.{nat_tests}
pub use Rattle.std.proofs.lemmas.Grind.{common_steps, flat_map-append}
pub use Rattle.std.proofs.lemmas.List.{get_or-map, get_or-reverse, get_or_at, length-map, length-reverse}
pub use Rattle.std.proofs.lemmas.List.Elements.{All-append, All-cons, All-filter, All-from_get_or, All-head, All-map, All-nil, All-tail, All-take, All-weaker, filter-append}
pub use Rattle.std.proofs.lemmas.List.Folds.{list_all-append, list_any-append, list_any_at}
pub use Rattle.std.proofs.lemmas.List.Sums.{fails_before_first, passes_at_first, prefix_len-le-length, prefix_len_passes, split_at_first}
pub use Rattle.std.proofs.lemmas.Simd.{first_set_mask_l, get_or-chunk, get_or-zip2, leading_from_mask_l, length-chunk, length-zip2, map-map, mask_l-mod, run_in_chunk_fails, run_in_chunk_le, run_in_chunk_stops, splat_is_map, zip2_of_maps, zip2_splat}
pub use Rattle.std.proofs.lemmas.Slice.Eq.{bytes_eq-Decides}
pub use Rattle.std.specs.BTreeSet.{insert_key}
pub use Rattle.std.specs.Char.{is_ascii, is_ascii_alphabetic, is_ascii_alphanumeric, is_ascii_digit, is_ascii_lowercase, to_ascii_lowercase}
pub use Rattle.std.specs.Cmp.Lexicographic.{nat_list_eq_equiv, slice_cmp}
pub use Rattle.std.specs.List.{after_first, before_first, ends_with, list_all, list_any, position, position_or_len, prefix_len, suffix_len}
pub use Rattle.std.specs.Ordering.{is_eq, match_ordering, nat_cmp}
pub use Rattle.std.specs.Prelude.{IsAscii, Option, bytes_eq, decimal, filter, if◌then◌else◌, is_some, option_map, slice_range, unwrap_or}
pub use Rattle.url.proofs.InputLemmas.{All-take-prefix_len, All-take_from_reads, All_from_list_all, IsNot, Passes, StopsAt, StopsAt-drop-prefix_len, filter_all, is_empty_nonempty, list_all_from_All, lowercase_other, map_fixed, prefix_len_at, prefix_len_is, rsplit_once_at, rsplit_once_at_last, rsplit_once_none, split_around, split_once_at, split_once_none}
pub use Rattle.url.proofs.PathLemmas.{IsNoSlash, empty_segment, parse_path_more, push_valid, rooted, without_last_valid}
pub use Rattle.url.proofs.RoundTrip.{parse_after_slash, parse_own_segments, split_own_scheme, stays_unless_file, stops_at_path}
pub use Rattle.url.proofs.SchemeLemmas.{lowercase-lowercase_all, not_special_from}
pub use Rattle.url.proofs.SetLemmas.{kept_from_passes}
pub use Rattle.url.proofs.Theorems.{parse_url-serialize_special}
pub use Rattle.url.proofs.ValidLemmas.{IsAscii-serialize, base_from_authority, hierarchical, option_unchanged, special_has_authority}
pub use Rattle.url.specs.Head.{head_only, scheme_only, with_authority}
pub use Rattle.url.specs.Parts.{IsValid, IsValidHead, Parts, has_authority, kind_of, offset, pieces, query_set, serialize, text_before, text_between}
pub use Rattle.url.specs.Path.{IsSegmentList, parse_path, without_last_segment}
pub use Rattle.url.specs.Scheme.{IsScheme, is_slash, is_special}
pub use Rattle.url.specs.declared.host.Host.TheVariants.{Domain}
pub use Rattle.url.specs.declared.scheme.SchemeType.{SchemeType}
pub use Rattle.url.specs.declared.scheme.SchemeType.TheVariants.{NotSpecial, SpecialNotFile}
pub use Rattle.url.specs.declared.sets.TheConstants.{FORBIDDEN_DOMAIN, FORBIDDEN_HOST, OPAQUE_PATH, PATH, SPECIAL_QUERY, USERINFO}
pub use Rattle.url.specs.declared.slicing.Position.TheVariants.{AfterHost, AfterPath, BeforeHost, BeforeScheme}
pub use denote.Shadow.{shadow}
pub use denote.Text.{Utf8}
pub use lib.Lanes.{chunk, mask_l, top, zip2}
