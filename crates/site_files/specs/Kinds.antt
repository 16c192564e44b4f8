-- The kinds of files that can have links, by their names or media types.
use Rattle.std.specs.Prelude.{ℕ, ◌==◌, nat_le, Bool, true, false, not, ◌||◌, ◌&&◌, List, length, take, codes, bytes_eq, Option, Some, None, if◌then◌else◌}
use Rattle.std.specs.List.{before_first, list_all, list_any, slice_split}
use Rattle.std.specs.Option.{option_map_or}
use Rattle.std.specs.Str.{str_eq_ignore_ascii_case}
use Rattle.url.specs.Input.{rsplit_once}
use Rattle.site_files.specs.Server.{before_query}
use Rattle.site_files.specs.declared.kinds.FileKind.{FileKind}
use Rattle.site_files.specs.declared.kinds.FileKind.TheVariants.{Html, Xml, Svg, Style, Feed, UrlList, Unknown}
use Rattle.site_files.specs.declared.rules.Rules.{Rules}
use Rattle.site_files.specs.declared.kinds.TheConstants.{OTHERS}

abbrev pub is_dot : ℕ → Bool
is_dot b = b == 46

-- the last name on a path
abbrev pub last_name : List ℕ → List ℕ
last_name path = (rsplit_once 47 path).1

-- what is after a last dot, unless only dots are before it
abbrev pub after_stem : Option (List ℕ) → List ℕ → Option (List ℕ)
after_stem None suffix = None
after_stem (Some stem) suffix = if list_all is_dot stem then None else Some suffix

-- the suffix of a file's name
abbrev pub suffix_of : List ℕ → Option (List ℕ)
suffix_of path = after_stem (rsplit_once 46 (last_name path)).0 (rsplit_once 46 (last_name path)).1

-- ---- suffixes, in any case but those of packed files

abbrev pub is_html : List ℕ → Bool
is_html suffix = str_eq_ignore_ascii_case suffix (codes "html") || str_eq_ignore_ascii_case suffix (codes "htm")

abbrev pub is_xhtml : List ℕ → Bool
is_xhtml suffix = str_eq_ignore_ascii_case suffix (codes "xhtml") || str_eq_ignore_ascii_case suffix (codes "xht")

-- a suffix that only feeds have
abbrev pub is_feed_only : List ℕ → Bool
is_feed_only suffix = str_eq_ignore_ascii_case suffix (codes "rss") || str_eq_ignore_ascii_case suffix (codes "atom")

abbrev pub is_feed : List ℕ → Bool
is_feed suffix = is_feed_only suffix || str_eq_ignore_ascii_case suffix (codes "xml")

abbrev pub is_packed : List ℕ → Bool
is_packed suffix =
    bytes_eq suffix (codes "gz") || bytes_eq suffix (codes "Z") || bytes_eq suffix (codes "bz2") || bytes_eq suffix (codes "xz")
    || bytes_eq suffix (codes "br")

-- one of the suffixes in a text, in which spaces separate them
abbrev pub is_among : List ℕ → List ℕ → Bool
is_among suffix suffixes = list_any (str_eq_ignore_ascii_case suffix) (slice_split (λ b. b == 32) suffixes)

abbrev pub is_other : List ℕ → Bool
is_other suffix = is_among suffix OTHERS.now

-- the kind of a file with this suffix; none if it has no links
abbrev pub kind_by : List ℕ → Option FileKind
kind_by suffix =
    if is_html suffix then Some Html
    else if is_xhtml suffix then Some Xml
    else if str_eq_ignore_ascii_case suffix (codes "svg") then Some Svg
    else if str_eq_ignore_ascii_case suffix (codes "css") then Some Style
    else if is_feed suffix then Some Feed
    else if is_packed suffix || is_other suffix then None
    else Some Unknown

-- the name begins with a text, in any case
abbrev pub begins_with : List ℕ → List ℕ → Bool
begins_with front name = nat_le (length front) (length name) && str_eq_ignore_ascii_case (take (length front) name) front

abbrev pub is_sitemap : List ℕ → Bool
is_sitemap name = begins_with (codes "sitemap") name

-- `sitemap*.txt` has one URL per line
abbrev pub is_url_list : List ℕ → List ℕ → Bool
is_url_list name suffix = is_sitemap name && str_eq_ignore_ascii_case suffix (codes "txt")

abbrev pub kind_with : List ℕ → List ℕ → Option FileKind
kind_with name suffix = if is_url_list name suffix then Some UrlList else kind_by suffix

-- the kind of the file with this path
abbrev pub kind_of : List ℕ → Option FileKind
kind_of path = option_map_or (kind_with (last_name path)) (suffix_of path) (Some Unknown)

-- ---- media types, in any case

abbrev pub is_semicolon : ℕ → Bool
is_semicolon b = b == 59

abbrev pub is_feed_type : List ℕ → Bool
is_feed_type name =
    str_eq_ignore_ascii_case name (codes "application/xml") || str_eq_ignore_ascii_case name (codes "text/xml")
    || str_eq_ignore_ascii_case name (codes "application/rss+xml") || str_eq_ignore_ascii_case name (codes "application/atom+xml")

-- the kind of a file with this media type, which has no parameters
abbrev pub kind_by_type : List ℕ → Option FileKind
kind_by_type name =
    if str_eq_ignore_ascii_case name (codes "text/html") then Some Html
    else if str_eq_ignore_ascii_case name (codes "application/xhtml+xml") then Some Xml
    else if str_eq_ignore_ascii_case name (codes "image/svg+xml") then Some Svg
    else if str_eq_ignore_ascii_case name (codes "text/css") then Some Style
    else if is_feed_type name then Some Feed
    else None

-- parameters come after a semicolon
abbrev pub kind_of_type : List ℕ → Option FileKind
kind_of_type text = kind_by_type (before_first is_semicolon text)

-- ---- which files are read

-- known to be a page
abbrev pub is_page : FileKind → Bool
is_page Html = true
is_page Xml = true
is_page Svg = false
is_page Style = false
is_page Feed = false
is_page UrlList = false
is_page Unknown = false

-- can be a sitemap or a feed
abbrev pub is_feed_kind : FileKind → Bool
is_feed_kind Html = false
is_feed_kind Xml = false
is_feed_kind Svg = false
is_feed_kind Style = false
is_feed_kind Feed = true
is_feed_kind UrlList = true
is_feed_kind Unknown = false

abbrev pub is_unknown : FileKind → Bool
is_unknown Html = false
is_unknown Xml = false
is_unknown Svg = false
is_unknown Style = false
is_unknown Feed = false
is_unknown UrlList = false
is_unknown Unknown = true

-- files of this kind are read: style sheets and files of unknown kind only if the rules say so
abbrev pub is_read : Rules → FileKind → Bool
is_read rules Html = true
is_read rules Xml = true
is_read rules Svg = true
is_read rules Style = rules.styles
is_read rules Feed = true
is_read rules UrlList = true
is_read rules Unknown = rules.sniff

abbrev pub if_read : Rules → FileKind → Option FileKind
if_read rules kind = if is_read rules kind then Some kind else None

-- ---- the starts of a check

-- usual names of feeds
abbrev pub is_feed_name : List ℕ → Bool
is_feed_name name =
    str_eq_ignore_ascii_case name (codes "feed.xml") || str_eq_ignore_ascii_case name (codes "rss.xml")
    || str_eq_ignore_ascii_case name (codes "atom.xml") || str_eq_ignore_ascii_case name (codes "index.xml")

abbrev pub is_start_with : List ℕ → List ℕ → Bool
is_start_with name suffix = is_sitemap name || is_feed_only suffix || is_feed_name name

-- the path of a sitemap or a feed at which a check starts, by its name
abbrev pub is_start : List ℕ → Bool
is_start path = option_map_or (is_start_with (last_name path)) (suffix_of path) false

-- a check starts at a file of this kind, whose own URL this is
abbrev pub starts_at : FileKind → List ℕ → Bool
starts_at kind url = is_page kind || is_feed_kind kind && is_start (before_query url)

-- ---- sitemaps

-- a file of this kind at this URL is a sitemap by its name
abbrev pub is_named_sitemap : FileKind → List ℕ → Bool
is_named_sitemap kind url = is_feed_kind kind && is_sitemap (last_name (before_query url))

-- its name does not say whether it is a sitemap or a feed
abbrev pub is_unnamed : FileKind → List ℕ → Bool
is_unnamed kind url = is_feed_kind kind && not (is_start (before_query url))

-- ---- index files with names that the rules do not have

-- the names of index files usually begin so
abbrev pub is_home_name : List ℕ → Bool
is_home_name name = begins_with (codes "index.") name || begins_with (codes "default.") name || begins_with (codes "home.") name

-- the file with this path is a page, or it may be one
abbrev pub may_be_page : List ℕ → Bool
may_be_page path = option_map_or (λ kind. is_page kind || is_unknown kind) (kind_of path) false

-- the file with this path may be the page of its folder
abbrev pub is_home : List ℕ → Bool
is_home path = is_home_name (last_name path) && may_be_page path
