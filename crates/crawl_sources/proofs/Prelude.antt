-- The names that most proofs cite, passed on from one place. Declares nothing.
pub use Rattle.crawl_pages.specs.declared.page.PageResult.{PageResult}
pub use Rattle.crawl_sources.specs.Seeds.{first_error, line_error, seed_url}
pub use Rattle.crawl_sources.specs.Tallies.{Count, IsTally, Tallies, count_of, counted, none_counted, pointed}
pub use Rattle.std.proofs.Common.{Bool, IsSome, List, None, Option, Some, [], ap, append-nil, append_assoc, arith, cond, false, fold, get_or, if◌then◌else◌, inl, inr, le-ltb, length, length-append, refl, rules, subst, suc, suc-le-suc, sym, take, true, zero, zero-le, ℕ, ◌++◌, ◌+◌, ◌<◌, ◌||◌, ◌∙◌, ◌∷◌, ◌≡◌, ◌≤◌, ◌⊎◌}
pub use Rattle.std.proofs.lemmas.Bool.{cases_Bool, cond-false, cond-true, lt-ltb}
pub use Rattle.std.proofs.lemmas.List.{map-append, map_more, take_more}
pub use Rattle.std.proofs.lemmas.List.Elements.{All-cons, All-nil, filter-append}
pub use Rattle.std.specs.List.{All, Contains, filter_map, list_any}
pub use Rattle.std.specs.Option.{option_map, option_or}
pub use Rattle.std.specs.Str.{bytes_eq}
