-- Links that are resolved without the parser.
use Rattle.std.specs.Prelude.{◌≡◌, ◌≤◌, ◌+◌, ◌-◌, ◌++◌, ℕ, zero, suc, Bool, true, false, ◌&&◌, ◌||◌, ◌==◌, List, [], ◌∷◌, length, take, slice_index, slice_range, ⊤}
use Rattle.std.specs.List.{list_all}
use Rattle.url.specs.declared.scheme.SchemeType.TheVariants.{SpecialNotFile}
use Rattle.url.specs.Ascii.{dot, number_sign, question_mark, slash}
use Rattle.url.specs.Input.{split_once}
use Rattle.url.specs.Path.{parse_path, without_last_segment}
use Rattle.crawl_keys.specs.declared.plain.PlainLink.{PlainLink}
use Rattle.crawl_keys.specs.declared.plain.PlainLink.TheVariants.{Absolute, ByHost, Rooted, Query, Same, Relative, Other}
use Rattle.crawl_keys.specs.Folders.{is_of_folder}
use Rattle.crawl_keys.specs.Plain.{first_is_slash, host_len, is_kept, is_plain, is_plain_host}
use Rattle.crawl_keys.specs.Spelled.{IsSpelled}

-- two slashes, a plain host of this length, and then a path and a query
pub record IsByHost (text : List ℕ) (len : ℕ) : Type 0 where
  pub rest : List ℕ
  pub is : text ≡ slash ∷ slash ∷ rest
  pub plain : is_plain_host rest ≡ true
  pub host : len ≡ host_len rest
  pub within : len ≤ length rest

-- a path that begins with one slash, and possibly a query
abbrev pub is_rooted : List ℕ → Bool
is_rooted text = first_is_slash text && is_plain 0 text

-- only a query
abbrev pub is_query : List ℕ → Bool
is_query text = slice_index text 0 == question_mark && is_plain 0 text

-- `../` n times, and then a text
abbrev pub after_ups : ℕ → List ℕ → List ℕ
after_ups zero text = text
after_ups (suc n) text = dot ∷ dot ∷ slash ∷ after_ups n text

-- the path of the folder that is n folders above the one with this path
abbrev pub above : ℕ → List ℕ → List ℕ
above zero path = path
above (suc n) path = without_last_segment (above n path)

-- After any other path, the parser reads the path of the text as it reads that of the rest after a path that is n folders higher.
-- Both texts have the same query.
pub record ReadsAs (text : List ℕ) (ups : ℕ) (rest : List ℕ) : Type 0 where
  pub path : (front : List ℕ) → parse_path SpecialNotFile front (split_once question_mark text).0 ≡ parse_path SpecialNotFile (above ups front) (split_once question_mark rest).0
  pub query : (split_once question_mark text).1 ≡ (split_once question_mark rest).1

-- the text is the rest after dot segments, and after segments that dot segments remove
pub record IsAfterDots (text : List ℕ) (ups : ℕ) (rest : List ℕ) : Type 0 where
  pub reads : ReadsAs text ups rest
  pub kept : list_all is_kept rest ≡ true → list_all is_kept text ≡ true
  pub rootless : first_is_slash rest ≡ false → first_is_slash text ≡ false

-- the text is whole segments and then the rest; and whatever the rest reads as, the text reads as these segments and then that
pub record IsAhead (text rest : List ℕ) : Type 0 where
  pub front : List ℕ
  pub is : text ≡ front ++ rest
  pub lifts : (more : List ℕ) → IsAfterDots rest 0 more → IsAfterDots text 0 (front ++ more)

-- the text ends with dot segments and more, and reads as what is before these dot segments and what is after them
pub record IsWithin (text dots following : List ℕ) : Type 0 where
  pub within : length dots ≤ length text
  pub reads : IsAfterDots text 0 (take (length text - length dots) text ++ following)

-- a slash, and a path that reads as plain segments after the root, above which there is no folder
pub record IsAtRoot (text rest : List ℕ) : Type 0 where
  pub path : List ℕ
  pub ups : ℕ
  pub is : text ≡ slash ∷ path
  pub following : IsAfterDots path ups rest
  pub plain : is_plain slash rest ≡ true

-- no scheme begins with a dot
abbrev pub has_no_scheme : List ℕ → Bool
has_no_scheme text = slice_index text 0 == dot || is_of_folder text

-- the text leads to the folder n above the page's, and from there along a path that begins with a segment, and a query
pub record IsInFolder (text : List ℕ) (ups : ℕ) (rest : List ℕ) : Type 0 where
  pub following : IsAfterDots text ups rest
  pub plain : is_plain slash rest ≡ true
  pub no_scheme : has_no_scheme text ≡ true

-- The position in the text of a page, whose path begins at `root`, at which the folder n above the page's ends. A folder ends after
-- its slash, and there is none above the first one.
abbrev pub folder_above : List ℕ → ℕ → ℕ → ℕ → ℕ
folder_above page root folder zero = folder
folder_above page root folder (suc n) = root + length (without_last_segment (slice_range page root (folder_above page root folder n - 1))) + 1

-- nothing, or only a fragment
abbrev pub is_same : List ℕ → Bool
is_same [] = true
is_same (b ∷ text) = b == number_sign

-- the text is a link of this kind
abbrev pub IsLink : List ℕ → PlainLink → Type 0
IsLink text (Absolute host) = IsSpelled text host.start host.end
IsLink text (ByHost len) = IsByHost text len
IsLink text Rooted = is_rooted text ≡ true
IsLink text Query = is_query text ≡ true
IsLink text Same = is_same text ≡ true
IsLink text Relative = ⊤
IsLink text Other = ⊤
