-- The names that most proofs cite, passed on from one place. Declares nothing.
pub use Rattle.html_links.specs.Candidates.{candidates_of, is_unspaced, without_commas}
pub use Rattle.html_links.specs.Decoding.{is_mark, is_plain}
pub use Rattle.html_links.specs.Contexts.{element_at, ends_template, inner_context, opens_template, outer_context, tag_context}
pub use Rattle.html_links.specs.Document.{Data, EndTagOpen, InTag, Start, TagOpen, TemplateEnd, Token, after_start, past_tag, content_at, content_of, end_tag, entered, passed, read, start_tags, tags_of}
pub use Rattle.html_links.specs.Elements.{AttributeNames, element_of, has_rare_names, is_template, is_usual, names_of_attributes}
pub use Rattle.html_links.specs.Lengths.{may_be}
pub use Rattle.html_links.specs.Links.{base_in, base_of, needed_texts, ids_in, ids_of, is_link_type, links_in, links_of, or_later, types_after}
pub use Rattle.html_links.specs.Markup.{in_tag_name, led_after, led_front, read_rest, rest_of, start_tag_at}
pub use Rattle.html_links.specs.Reads.{base_at}
pub use Rattle.html_links.specs.Seen.{Seen, opened, seen_from, seen_rest, seen_with, seen_within}
pub use Rattle.html_links.specs.Shown.{BeginsName, Leaves, Stopped, attribute_at, begins, following, front, in_name, in_unquoted, is_space, following_name, name_front, tag_at}
pub use Rattle.html_links.specs.Styles.{past_comment, style_links_of}
pub use Rattle.html_links.specs.Tags.{Attribute, BeforeName, Tag, class_of, is_letter, lower, run, tag_of}
pub use Rattle.html_links.specs.Values.{Values, first_named, no_values, or_named, tag_with, values_at, values_in, values_of, with_attribute}
pub use Rattle.html_links.specs.declared.context.Context.{Context}
pub use Rattle.html_links.specs.declared.context.Context.TheVariants.{Html}
pub use Rattle.html_links.specs.declared.bytes.Class.{Class}
pub use Rattle.html_links.specs.declared.bytes.Class.TheVariants.{Apostrophe, Equals, Greater, Quote, Slash, Space}
pub use Rattle.html_links.specs.declared.element.Element.{Element}
pub use Rattle.html_links.specs.declared.element.Element.TheVariants.{Anchor, Other}
pub use Rattle.memchr.specs.Find.{IsFirstByte, Passes, is_byte}
pub use Rattle.std.proofs.Common.{Bool, IfSome, List, MatchOption, None, Option, Some, [], ap, append-nil, append_assoc, ap₂, arith, bit_or, cond, drop, eqb, false, get_or, inl, inr, length, map, not, refl, reverse, rules, slice_index, subst, suc, sym, take, tests, true, zero, ℕ, ⊎_elim, ◌%◌, ◌&&◌, ◌++◌, ◌+◌, ◌-◌, ◌<◌, ◌==◌, ◌^◌, ◌||◌, ◌∙◌, ◌∷◌, ◌≡◌, ◌≤◌}
pub use Rattle.std.proofs.lemmas.Bool.{cases_eq, cases_lt, cond-false, cond-true, eq-eqb, eqb-false, eqb-true, false_from_ne_true, false≢true, ne_eqb, not-false, not-true, or_from}
pub use Rattle.std.proofs.lemmas.Grind.{common_steps, reverse_onto}
pub use Rattle.std.proofs.lemmas.List.{drop_all, get_or-drop, get_or-take, length-drop, length-map, length-take-le, map-append, take_rest}
pub use Rattle.std.proofs.lemmas.List.Sums.{position_or_len_is, prefix_len_passes, prefix_len_stops}
pub use Rattle.std.proofs.lemmas.Simd.{leading_from_mask_l, map-map, mask_l-mod, trailing_mask_l, zip2_splat}
pub use Rattle.std.proofs.lemmas.Slice.Eq.{bytes_eq-Decides}
pub use Rattle.std.specs.Borrow.{Bor}
pub use Rattle.std.specs.Char.{encode_utf8, is_ascii_alphanumeric, to_ascii_lowercase}
pub use Rattle.std.specs.List.{find, position_or_len, prefix_len, slice_split, take_while}
pub use Rattle.std.specs.Option.{option_map, option_or}
pub use Rattle.std.specs.Prelude.{codes}
pub use Rattle.std.specs.Str.{bytes_eq}
