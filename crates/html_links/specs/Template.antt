-- What contracts state of the code that reads the contents of a template.
use Rattle.std.specs.Prelude.{◌≡◌, ◌<◌, ℕ, suc, Bool, List, [], length, map}
use Rattle.html_links.specs.declared.template.Inner.{Inner}
use Rattle.html_links.specs.declared.template.Inner.TheVariants as inner
use Rattle.html_links.specs.Tags.{lower, BeforeName}
use Rattle.html_links.specs.Document.{Token, Data, InTag, read}
use Rattle.html_links.specs.declared.context.Context.{Context}
use Rattle.html_links.specs.Seen.{seen_within}

-- what contracts state of the code: the tokens in a template, in which any number of templates is open
abbrev pub Reads : Inner → List Token → Type 0
Reads (inner.Opens after more) tokens = (n : ℕ) → seen_within (suc n) tokens ≡ seen_within (suc (suc n)) (read after Data more.now)
Reads (inner.Closes after more) tokens = (n : ℕ) → seen_within (suc n) tokens ≡ seen_within n (read after Data more.now)
Reads (inner.Other after more) tokens = (n : ℕ) → seen_within (suc n) tokens ≡ seen_within (suc n) (read after Data more.now)
Reads inner.Unfinished tokens = (n : ℕ) → seen_within (suc n) tokens ≡ []

abbrev pub InnerReads : Inner → Context → List ℕ → Type 0
InnerReads found at bytes = Reads found (read at Data bytes)

-- likewise from the bytes after the name of a start tag or an end tag
abbrev pub TagReads : Inner → Context → Bool → List ℕ → List ℕ → Type 0
TagReads found at ends name bytes = Reads found (read at (InTag ends (map lower name) BeforeName []) bytes)

abbrev pub InnerLeaves : Inner → List ℕ → Type 0
InnerLeaves (inner.Opens after more) bytes = length more.now < length bytes
InnerLeaves (inner.Closes after more) bytes = length more.now < length bytes
InnerLeaves (inner.Other after more) bytes = length more.now < length bytes
InnerLeaves inner.Unfinished bytes = Unit {0}
