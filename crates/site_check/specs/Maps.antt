-- The folders in which links that lead out of a site are looked up, by the URLs that begin with their prefixes.
use Rattle.std.specs.Prelude.{◌==◌, ◌-◌, ℕ, Bool, true, ◌&&◌, ◌||◌, if◌then◌else◌, List, length, fold, nat_lt, Option, None, Some, option_map}
use Rattle.site_check.specs.Broken.{begins}
use Rattle.site_check.specs.declared.input.MapName.{MapName}

-- the URL begins with the prefix, or is all of it but its last byte, which is a slash
abbrev pub is_under : List ℕ → MapName → Bool
is_under url m = begins m.prefix.now url || (begins url m.prefix.now && length m.prefix.now - length url == 1)

-- the prefix is longer than that of the best map so far
abbrev pub is_longer : Option MapName → MapName → Bool
is_longer None m = true
is_longer (Some best) m = nat_lt (length best.prefix.now) (length m.prefix.now)

abbrev pub better : List ℕ → Option MapName → MapName → Option MapName
better url best m = if is_under url m && is_longer best m then Some m else best

-- of the maps that the URL is under, the first of those with the longest prefix
abbrev pub map_of : List MapName → List ℕ → Option MapName
map_of maps url = fold (better url) None maps

abbrev pub folder_of : List MapName → List ℕ → Option (List ℕ)
folder_of maps url = option_map (λ m. m.folder.now) (map_of maps url)
