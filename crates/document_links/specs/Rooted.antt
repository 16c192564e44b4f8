-- The texts of links in a folder whose URL is not known: a path that begins with one slash is a path below the top.
use Rattle.std.specs.Prelude.{ℕ, ◌+◌, ◌-◌, ◌==◌, Bool, false, not, ◌&&◌, ◌||◌, List, [], ◌∷◌, ◌++◌, map, Option, None, Some, option_map, unwrap_or, if◌then◌else◌}
use Rattle.std.specs.Borrow.{Bor}
use Rattle.url.specs.Input.{is_c0_control_or_space, trim_c0_control_and_space}
use Rattle.url.specs.Path.{dot_count}
use Rattle.document_links.specs.Written.{clean}

-- a slash of either kind, at which a segment of a path ends
abbrev pub is_slash : ℕ → Bool
is_slash b = b == 47 || b == 92

abbrev pub begins_path : List ℕ → Bool
begins_path [] = false
begins_path (b ∷ bytes) = is_slash b

-- the first byte is one that a URL parser keeps
abbrev pub begins_visibly : List ℕ → Bool
begins_visibly [] = false
begins_visibly (b ∷ bytes) = not (is_c0_control_or_space b)

-- the text after the slash of a text that begins with exactly one slash; after two slashes comes a host
abbrev pub path_of : List ℕ → Option (List ℕ)
path_of [] = None
path_of (b ∷ bytes) = if is_slash b && not (begins_path bytes) then Some bytes else None

-- the byte begins a query or a fragment
abbrev pub ends_path : ℕ → Bool
ends_path b = b == 63 || b == 35

abbrev pub in_segment : ℕ → Bool
in_segment b = not (is_slash b || b == 63 || b == 35)

-- the segment is `..` and leads above the top, because no folder is open
abbrev pub climbs : ℕ → List ℕ → Bool
climbs depth segment = depth == 0 && dot_count segment == 2

-- the number of open folders after a segment: `..` closes one, `.` none, and any other segment opens one
abbrev pub depth_after : ℕ → List ℕ → ℕ
depth_after depth segment = if dot_count segment == 2 then depth - 1 else (if dot_count segment == 1 then depth else depth + 1)

-- a segment and the slash that ends it, unless the segment leads above the top
abbrev pub kept : ℕ → List ℕ → List ℕ → List ℕ
kept depth segment end = if climbs depth segment then [] else segment ++ end

-- the text without the segments that lead above the top; `depth` folders are open, and the segment so far has these bytes
abbrev pub below_after : ℕ → List ℕ → List ℕ → List ℕ
below_after depth segment [] = kept depth segment []
below_after depth segment (b ∷ bytes) =
    if ends_path b then kept depth segment [] ++ b ∷ bytes
    else (if is_slash b then kept depth segment (b ∷ []) ++ below_after (depth_after depth segment) [] bytes
    else below_after depth (segment ++ b ∷ []) bytes)

-- likewise from the top, without a segment so far
abbrev pub path_below : List ℕ → List ℕ
path_below path = below_after 0 [] path

-- a text in which a URL parser drops nothing, below the path of the top; none if it does not begin with one slash
abbrev pub below_root : List ℕ → List ℕ → Option (List ℕ)
below_root root text = option_map (λ path. root ++ path_below path) (path_of text)

-- the text of a link, below the path of the top if it begins with one slash
abbrev pub rooted : List ℕ → List ℕ → List ℕ
rooted root text = if begins_path (trim_c0_control_and_space text) then unwrap_or (below_root root (clean text)) text else text

-- the texts, below the path of the top if there is one
abbrev pub all_rooted : Option (Bor (List ℕ)) → List (List ℕ) → List (List ℕ)
all_rooted None texts = texts
all_rooted (Some root) texts = map (rooted root.now) texts
