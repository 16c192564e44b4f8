-- The rows that values of a report mean.
use Rattle.std.specs.Prelude.{List, [], ◌∷◌, string_bytes, flat_map, option_map}
use Rattle.check_report.specs.declared.value.Broken.{Broken}
use Rattle.check_report.specs.declared.value.Kind.{Kind}
use Rattle.check_report.specs.declared.value.Kind.TheVariants.{NoPage}
use Rattle.check_report.specs.declared.value.Redirect.{Redirect}
use Rattle.site_check.specs.Broken.{Row, Way}

abbrev pub if_page : Kind → Row → List Row
if_page NoPage row = row ∷ []
if_page _ row = []

-- the rows of pages that are not there; those of anchors and of invalid links are left out
abbrev pub row_in : Broken → List Row
row_in b = if_page b.kind (record { text = string_bytes b.target; pages = b.pages })

abbrev pub rows_in : List Broken → List Row
rows_in all = flat_map row_in all

abbrev pub way_of : Redirect → Way
way_of r = record { page = string_bytes r.page; target = option_map string_bytes r.target; pages = r.pages }
