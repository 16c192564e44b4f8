-- What the lines of a site list mean, and the error of lines that are none: that of the first line that fails a check.
use Rattle.std.specs.Prelude.{ℕ, ◌+◌, ◌==◌, Bool, not, ◌||◌, List, [], ◌∷◌, codes, length, map, bytes_eq, filter_map, if◌then◌else◌, Option, Some, None, option_and_then, option_map, Result, Ok, Err, false, string_bytes}
use Rattle.std.specs.List.{list_any, slice_split}
use Rattle.std.specs.Option.{option_or}
use Rattle.std.specs.Result.{result_ok}
use Rattle.crawl_keys.specs.CanonicalText.{canonical}
use Rattle.crawl_keys.specs.declared.error.KeyError.{KeyError}
use Rattle.crawl_keys.specs.declared.error.KeyError.TheVariants as key
use Rattle.text_lines.specs.Fields.{at_space}
use Rattle.text_lines.specs.Lines.{text_of}
use Rattle.text_lines.specs.declared.lines.LineError.{LineError}
use Rattle.text_lines.specs.declared.lines.LineError.TheVariants.{TooLong, NotText}
use Rattle.site_files.specs.Below.{is_slash}
use Rattle.site_files.specs.Kinds.{kind_of_type}
use Rattle.site_files.specs.declared.kinds.FileKind.{FileKind}
use Rattle.site_files.specs.declared.kinds.FileKind.TheVariants.{Unknown}
use Rattle.site_files.specs.declared.site_list.Content.{Content}
use Rattle.site_files.specs.declared.site_list.Content.TheVariants.{File, Redirect}
use Rattle.site_files.specs.declared.site_list.ListedUrl.{ListedUrl}
use Rattle.site_files.specs.declared.site_list.ListError.{ListError}
use Rattle.site_files.specs.declared.site_list.ListError.TheVariants as wrong
use Rattle.site_files.specs.declared.site_list.SiteList.{SiteList}

-- ---- the fields of a line

-- the text of a URL, what is there, and the name of the file or the target of the redirect
pub record Fields : Type 0 where
  pub url : List ℕ
  pub content : Content
  pub name : List ℕ

-- what is at a URL of this type: a redirect, a file of unknown type, or one whose type is a media type
abbrev pub content_of : List ℕ → Option Content
content_of kind =
    if bytes_eq kind (codes "redirect") then Some Redirect
    else if bytes_eq kind (codes "-") then Some (File (Some Unknown))
    else if list_any is_slash kind then Some (File (kind_of_type kind))
    else None

-- the kind of the file; a redirect has no links
abbrev pub kind_in : Content → Option FileKind
kind_in (File kind) = kind
kind_in Redirect = None

abbrev pub fields : List ℕ → List ℕ → Content → Fields
fields url name content = record { url = url; content = content; name = name }

-- a URL with a type and a name, unless the name is empty
abbrev pub with_rest : List ℕ → List ℕ × List ℕ → Option Fields
with_rest url rest = if length rest.1 == 0 then None else option_map (fields url rest.1) (content_of rest.0)

-- a URL, a type and a name, separated by spaces
abbrev pub fields_in : List ℕ → Option Fields
fields_in text = option_and_then (λ x. option_and_then (with_rest x.0) (at_space x.1)) (at_space text)

-- ---- the checks of a line, by its number

-- the error of a list one of whose lines has no text
abbrev pub error_of : LineError → ListError
error_of (TooLong number) = wrong.LineTooLong number
error_of (NotText number) = wrong.NotText number

-- the error of a text that has no canonical URL
abbrev pub key_error : ℕ → KeyError → ListError
key_error number key.NotUrl = wrong.NotUrl number
key_error number key.NotHttp = wrong.NotHttp number
key_error number key.NoMemory = wrong.NoMemory

-- the canonical URL of a text in the line of this number
abbrev pub url_in : ℕ → Result (List ℕ) KeyError → Result (List ℕ) ListError
url_in number (Ok url) = Ok url
url_in number (Err e) = Err (key_error number e)

abbrev pub is_bad_name : List ℕ → Bool
is_bad_name name = length name == 0 || bytes_eq name (codes ".") || bytes_eq name (codes "..")

-- the path is relative, and none of its names means another folder
abbrev pub is_path : List ℕ → Bool
is_path file = not (list_any is_bad_name (slice_split is_slash file))

-- the name of a file must be a path; the target of a redirect can be anything
abbrev pub is_bad_file : Content → List ℕ → Bool
is_bad_file Redirect name = false
is_bad_file (File kind) name = not (is_path name)

abbrev pub url_error : ℕ → Fields → Result (List ℕ) KeyError → Option ListError
url_error number found (Ok url) = if is_bad_file found.content found.name then Some (wrong.BadFile number) else None
url_error number found (Err e) = Some (key_error number e)

abbrev pub fields_error : ℕ → Option Fields → Option ListError
fields_error number None = Some (wrong.BadLine number)
fields_error number (Some found) = url_error number found (canonical found.url)

-- an empty line is no error
abbrev pub text_error : ℕ → Result (List ℕ) LineError → Option ListError
text_error number (Err e) = Some (error_of e)
text_error number (Ok text) = if length text == 0 then None else fields_error number (fields_in text)

-- the first check that a line fails: its length, its bytes, its fields, its URL, and then its file
abbrev pub line_error : ℕ → List ℕ → Option ListError
line_error number line = text_error number (text_of number line)

-- the first error of lines, the first of which has this number
abbrev pub first_error : ℕ → List (List ℕ) → Option ListError
first_error number [] = None
first_error number (line ∷ more) = option_or (line_error number line) (first_error (number + 1) more)

-- ---- the list

-- a canonical URL with what is there, and the name
pub record Row : Type 0 where
  pub url : List ℕ
  pub content : Content
  pub name : List ℕ

abbrev pub row : Content → List ℕ → List ℕ → Row
row content name url = record { url = url; content = content; name = name }

abbrev pub row_of : Fields → Option Row
row_of found = option_map (row found.content found.name) (result_ok (canonical found.url))

-- the row of a line that is not empty
abbrev pub row_in : List ℕ → Option Row
row_in line = if length line == 0 then None else option_and_then row_of (fields_in line)

-- the URLs of rows and what is there, and their names
pub record Columns : Type 0 where
  pub urls : List ListedUrl
  pub names : List (List ℕ)

abbrev pub listed : Row → ListedUrl
listed r = record { url = r.url; content = r.content }

abbrev pub row_name : Row → List ℕ
row_name r = r.name

abbrev pub columns : List ListedUrl → List (List ℕ) → Columns
columns urls names = record { urls = urls; names = names }

abbrev pub columns_of : List Row → Columns
columns_of rows = columns (map listed rows) (map row_name rows)

abbrev pub columns_in : SiteList → Columns
columns_in list = columns list.urls.items (map string_bytes list.names.items)

abbrev pub unless_error : Option ListError → Columns → Result Columns ListError
unless_error None found = Ok found
unless_error (Some error) found = Err error

-- the rows of the lines that are not empty, in order; the first error, if a line has one
abbrev pub list_in : List (List ℕ) → Result Columns ListError
list_in lines = unless_error (first_error 1 lines) (columns_of (filter_map row_in lines))

-- a check that a line fails, if it fails one, as a result
abbrev pub checked : Option ListError → Result (Unit {0}) ListError
checked None = Ok tt
checked (Some error) = Err error
