-- The document's machine over runs, over a whole tag and over a whole comment.
use Rattle.html_links.proofs.Prelude.{common_steps, ◌≡◌, ℕ, ◌+◌, ◌-◌, ◌<◌, ◌≤◌, ◌==◌, Bool, true, false, not, ◌&&◌, cond, List, [], ◌∷◌, ◌++◌, length, take, drop, map, Option, None, Some, refl, ap, sym, ◌∙◌, arith, append_assoc, append-nil, cond-false, not-true, take_while, take_rest, map-append, Class, Space, Slash, Greater, Attribute, Tag, class_of, lower, BeforeName, tag_of, front, following, in_tag_name, led_front, led_after, rest_of, read_rest, start_tag_at, tag_context, inner_context, outer_context, ends_template, element_at, Element, AttributeNames, names_of_attributes, Values, values_of, values_in, tag_with, Context, Html, Bor}
use Rattle.html_links.specs.Comments.{mark_of, bytes_at}
use Rattle.html_links.specs.declared.document.Opening.{Opening}
use Rattle.html_links.specs.declared.document.Opening.TheVariants as opening
use Rattle.html_links.specs.Markup.{MarkupEnds, MarkupLeaves, RestLeaves, other_markup}
use Rattle.html_links.specs.Tags as tags
use Rattle.html_links.specs.Comments as comments
use Rattle.html_links.specs.RawText as raw
use Rattle.html_links.specs.Contexts.{is_foreign}
use Rattle.html_links.specs.Values.{TagValues}
use Rattle.html_links.specs.Cdata as cdata
use Rattle.html_links.specs.declared.cdata.State.TheVariants as section
use Rattle.html_links.specs.declared.cdata.State as sections
use Rattle.html_links.specs.declared.cdata.Next as section_nexts
use Rattle.html_links.specs.declared.context.Context.TheVariants.{Svg, Math, Xml}
use Rattle.html_links.specs.declared.document.Content.{Content}
use Rattle.html_links.specs.declared.document.Content.TheVariants as content
use Rattle.html_links.specs.declared.script.State as code
use Rattle.html_links.specs.declared.script.State.TheVariants as script
use Rattle.html_links.specs.declared.script.Next as nexts
use Rattle.html_links.specs.Script as scripts
use Rattle.html_links.proofs.Scripts.{left}
use Rattle.html_links.specs.Document.{State, Data, TagOpen, EndTagOpen, TagName, InTag, Bogus, MarkupDeclaration, InComment, InCdata, InRaw, after_start, past_tag, content_at, content_of, raw_step, InScript, InPlain, script_step, Go, StartTag, Token, Start, TemplateEnd, end_tag, entered, passed, start_tags, emitted, bogus_step, open_step, end_open_step, opening_of, name_step, tag_step, comment_step, cdata_step, step, follow, read}
use Rattle.html_links.specs.declared.document.StartTagAt.{StartTagAt}
use Rattle.html_links.proofs.Cuts.{front_cut, after_cut, tail_front, tail_after}
use Rattle.html_links.proofs.Jumps.{stopped, shorter}

pub led_cut : (test : ℕ → Bool) (bytes : List ℕ) (n : ℕ) → 0 < length bytes → n ≡ length (take_while test (take (length bytes - 1) (drop 1 bytes))) →
    (take (1 + n) bytes ≡ led_front test bytes) × (drop (1 + n) bytes ≡ led_after test bytes)
led_cut test bytes n some len = grind (arith, common_steps, take_rest, tail_front, front_cut, tail_after, after_cut)

pub led_shorter : (test : ℕ → Bool) (bytes : List ℕ) → length (led_after test bytes) ≤ length bytes
led_shorter test bytes = grind (arith, shorter)

-- if the machine stays in a state over a run, the run is one jump

jump : (at : Context) (here : State) (test : ℕ → Bool) → ((c n : ℕ) → test c ≡ true → step at here c n ≡ Go here) → (bytes : List ℕ) → read at here bytes ≡ read at here (following test bytes)
jump at here test stays [] = refl
jump at here test stays (c ∷ rest) = grind (arith, jump at here test stays rest)

to_less : (at : Context) (bytes : List ℕ) → read at Data bytes ≡ read at Data (following (λ c. not (c == 60)) bytes)
to_less at = jump at Data (λ c. not (c == 60)) (λ c n e. cond-false (c == 60) (Go TagOpen) (Go Data) (not-true (c == 60) e))

pub read_less : (at : Context) (bytes opened : List ℕ) → 60 ∷ opened ≡ following (λ c. not (c == 60)) bytes → read at Data bytes ≡ read at TagOpen opened
read_less at bytes opened cut = to_less at bytes ∙ ap (read at Data) (sym cut)

pub read_text : (at : Context) (bytes : List ℕ) → following (λ c. not (c == 60)) bytes ≡ [] → read at Data bytes ≡ []
read_text at bytes none = to_less at bytes ∙ ap (read at Data) none

pub to_greater : (at : Context) (bytes : List ℕ) → read at Bogus bytes ≡ read at Bogus (following (λ c. not (c == 62)) bytes)
to_greater at = jump at Bogus (λ c. not (c == 62)) (λ c n e. cond-false (c == 62) (Go Data) (Go Bogus) (not-true (c == 62) e))

pub cut_shorter : (test : ℕ → Bool) (bytes rest : List ℕ) (c : ℕ) → c ∷ rest ≡ following test bytes → length rest < length bytes
cut_shorter test bytes rest c cut =
    let e : length (c ∷ rest) ≡ length (following test bytes) = ap length cut in
    let le : length (following test bytes) ≤ length bytes = shorter test bytes in
    omega arith

-- a tag's name

abbrev names : Class → Bool
names k = elim k [ Space ↦ false | Slash ↦ false | Greater ↦ false | _ ↦ true ]

name_stays : (at : Context) (k : Class) (ends : Bool) (name : List ℕ) (c : ℕ) → names k ≡ true → name_step at k ends name c ≡ Go (TagName ends (name ++ lower c ∷ []))
name_stays at k ends name c e = grind arith

name_ends : (at : Context) (k : Class) (ends : Bool) (name : List ℕ) (c n : ℕ) → names k ≡ false → name_step at k ends name c ≡ tag_step at ends name (tags.step BeforeName k c n [])
name_ends at k ends name c n e = grind arith

name_jump_at : (at : Context) (ends b : Bool) (name : List ℕ) (c : ℕ) (rest some more : List ℕ) → (b ≡ true → step at (TagName ends name) c (length rest) ≡ Go (TagName ends (name ++ lower c ∷ []))) →
    read at (TagName ends (name ++ lower c ∷ [])) rest ≡ read at (TagName ends ((name ++ lower c ∷ []) ++ map lower some)) more →
    read at (TagName ends name) (c ∷ rest) ≡ read at (TagName ends (name ++ map lower (cond b (c ∷ some) []))) (cond b more (c ∷ rest))
name_jump_at at ends true name c rest some more stays later =
    ap (λ n. follow at n rest (λ at here. read at here rest)) (stays refl) ∙ later ∙ ap (λ n. read at (TagName ends n) more) (append_assoc name (lower c ∷ []) (map lower some))
name_jump_at at ends false name c rest some more stays later = ap (λ n. read at (TagName ends n) (c ∷ rest)) (sym (append-nil name))

name_jump : (at : Context) (ends : Bool) (name bytes : List ℕ) → read at (TagName ends name) bytes ≡ read at (TagName ends (name ++ map lower (front in_tag_name bytes))) (following in_tag_name bytes)
name_jump at ends name [] = refl
name_jump at ends name (c ∷ rest) =
    name_jump_at at ends (in_tag_name c) name c rest (front in_tag_name rest) (following in_tag_name rest) (λ e. name_stays at (class_of c) ends name c e) (name_jump at ends (name ++ lower c ∷ []) rest)

-- from a state in which a letter begins a name
pub read_tag_name : (at : Context) (here : State) (ends : Bool) (bytes : List ℕ) (first : ℕ) (more name rest : List ℕ) → bytes ≡ first ∷ more → step at here first (length more) ≡ Go (TagName ends (lower first ∷ [])) →
    name ≡ led_front in_tag_name bytes → rest ≡ led_after in_tag_name bytes → read at here bytes ≡ read at (InTag ends (map lower name) BeforeName []) rest
read_tag_name at here ends bytes first more name rest is begins front_is after_is = grind (arith, name_jump, stopped, name_ends)

pub letter_opens : (at : Context) (first n : ℕ) → opening.Letter ≡ opening_of first → step at TagOpen first n ≡ Go (TagName false (lower first ∷ []))
letter_opens at first n letter = ap (λ k. open_step k first) (sym letter)

pub letter_opens_end : (at : Context) (first n : ℕ) → opening.Letter ≡ opening_of first → step at EndTagOpen first n ≡ Go (TagName true (lower first ∷ []))
letter_opens_end at first n letter = ap (λ k. end_open_step k first) (sym letter)

-- a `</` before a byte other than a letter

not_letter : (k : Opening) (c : ℕ) → (k ≡ opening.Letter → ⊥) → end_open_step k c ≡ bogus_step c
not_letter opening.Bang c other = refl
not_letter opening.Solidus c other = refl
not_letter opening.Question c other = refl
not_letter opening.Letter c other = absurd (other refl)
not_letter opening.Plain c other = refl

to_bogus : (bytes more : List ℕ) (first : ℕ) (k : Opening) → bytes ≡ first ∷ more → k ≡ opening_of first → (k ≡ opening.Letter → ⊥) → (at : Context) → read at EndTagOpen bytes ≡ read at Bogus bytes
to_bogus bytes more first k is opens other at =
    ap (read at EndTagOpen) is ∙ ap (λ k. follow at (end_open_step k first) more (λ at here. read at here more)) (sym opens) ∙ ap (λ n. follow at n more (λ at here. read at here more)) (not_letter k first other)
    ∙ sym (ap (read at Bogus) is)

ends_at : (o : Option (Bor (List ℕ))) (bytes : List ℕ) → ((at : Context) → read at EndTagOpen bytes ≡ read_rest at o) → MarkupEnds (other_markup o) bytes
ends_at None bytes reads = reads
ends_at (Some x) bytes reads = reads

pub bogus_end : (o : Option (Bor (List ℕ))) (bytes more : List ℕ) (first : ℕ) (k : Opening) → bytes ≡ first ∷ more → k ≡ opening_of first → (k ≡ opening.Letter → ⊥) →
    ((at : Context) → read at Bogus bytes ≡ read_rest at o) → MarkupEnds (other_markup o) bytes
bogus_end o bytes more first k is opens other reads = ends_at o bytes (λ at. to_bogus bytes more first k is opens other at ∙ reads at)

pub bogus_leaves : (o : Option (Bor (List ℕ))) (bytes : List ℕ) → RestLeaves o bytes → MarkupLeaves (other_markup o) bytes
bogus_leaves None bytes leaves = leaves
bogus_leaves (Some x) bytes leaves = leaves

-- a whole tag

abbrev pub tag_then : Context → Bool → List ℕ → Option Tag → List Token
tag_then at ends name None = []
tag_then at ends name (Some t) = emitted at ends name t.attributes t.self_closing t.rest ++ read (passed at ends name t.attributes t.self_closing) (past_tag at ends name) t.rest

in_tag_at : (at : Context) (ends : Bool) (name : List ℕ) (next : tags.Next) (rest : List ℕ) → ((s : tags.State) (all : List Attribute) → read at (InTag ends name s all) rest ≡ tag_then at ends name (tags.run s all rest)) →
    follow at (tag_step at ends name next) rest (λ at here. read at here rest) ≡ tag_then at ends name (tags.follow next (λ s all. tags.run s all rest) rest)
in_tag_at at ends name next rest later = grind arith

pub in_tag : (at : Context) (ends : Bool) (name : List ℕ) (s : tags.State) (all : List Attribute) (bytes : List ℕ) → read at (InTag ends name s all) bytes ≡ tag_then at ends name (tags.run s all bytes)
in_tag at ends name s all [] = refl
in_tag at ends name s all (c ∷ rest) = in_tag_at at ends name (tags.step s (class_of c) c (length rest) all) rest (λ s all. in_tag at ends name s all rest)

-- a whole comment, and a whole CDATA section

abbrev pub comment_then : Context → Option (List ℕ) → List Token
comment_then at None = []
comment_then at (Some rest) = read at Data rest

in_comment_at : (at : Context) (next : comments.Next) (rest : List ℕ) → ((s : comments.State) → read at (InComment s) rest ≡ comment_then at (comments.run s rest)) →
    follow at (comment_step next) rest (λ at here. read at here rest) ≡ comment_then at (comments.follow next (λ s. comments.run s rest) rest)
in_comment_at at next rest later = grind arith

pub in_comment : (at : Context) (s : comments.State) (bytes : List ℕ) → read at (InComment s) bytes ≡ comment_then at (comments.run s bytes)
in_comment at s [] = refl
in_comment at s (c ∷ rest) = in_comment_at at (comments.step s (mark_of c)) rest (λ s. in_comment at s rest)

rest_read : (at : Context) (r : Option (Bor (List ℕ))) → comment_then at (bytes_at r) ≡ read_rest at r
rest_read at None = refl
rest_read at (Some x) = refl

in_cdata_at : (at : Context) (next : section_nexts.Next) (rest : List ℕ) → ((s : sections.State) → read at (InCdata s) rest ≡ comment_then at (cdata.run s rest)) →
    follow at (cdata_step next) rest (λ at here. read at here rest) ≡ comment_then at (cdata.follow next (λ s. cdata.run s rest) rest)
in_cdata_at at next rest later = grind arith

pub in_cdata : (at : Context) (s : sections.State) (bytes : List ℕ) → read at (InCdata s) bytes ≡ comment_then at (cdata.run s bytes)
in_cdata at s [] = refl
in_cdata at s (c ∷ rest) = in_cdata_at at (cdata.step s c) rest (λ s. in_cdata at s rest)

-- a `<![` in foreign content
pub in_marked : (at : Context) (bytes more : List ℕ) (r : Option (Bor (List ℕ))) → is_foreign at ≡ true → bytes ≡ 91 ∷ more → bytes_at r ≡ cdata.run (section.Name 0) more → read at MarkupDeclaration bytes ≡ read_rest at r
in_marked at bytes more r foreign is ends =
    ap (read at MarkupDeclaration) is ∙ ap (λ b. follow at (cond (b && true) (Go (InCdata (section.Name 0))) (Go Bogus)) more (λ at here. read at here more)) foreign
    ∙ in_cdata at (section.Name 0) more ∙ ap (comment_then at) (sym ends) ∙ rest_read at r

cdata_less_at : (next : section_nexts.Next) (rest here : List ℕ) → ((s : sections.State) → cdata.run s rest ≡ Some here → length here ≤ length rest) →
    cdata.follow next (λ s. cdata.run s rest) rest ≡ Some here → length here ≤ length rest
cdata_less_at next rest here later e = grind arith

pub cdata_less : (s : sections.State) (bytes here : List ℕ) → cdata.run s bytes ≡ Some here → length here ≤ length bytes
cdata_less s [] here e = absurd (cc)
cdata_less s (c ∷ rest) here e =
    let le : length here ≤ length rest = cdata_less_at (cdata.step s c) rest here (λ s e. cdata_less s rest here e) e in omega arith

-- there are fewer bytes after it

tag_less_at : (next : tags.Next) (rest : List ℕ) (t : Tag) → ((s : tags.State) (all : List Attribute) → tags.run s all rest ≡ Some t → length t.rest < length rest) →
    tags.follow next (λ s all. tags.run s all rest) rest ≡ Some t → length t.rest < length rest + 1
tag_less_at next rest t later e = grind arith

pub tag_less : (s : tags.State) (all : List Attribute) (bytes : List ℕ) (t : Tag) → tags.run s all bytes ≡ Some t → length t.rest < length bytes
tag_less s all [] t e = absurd (cc)
tag_less s all (c ∷ rest) t e =
    let less : length t.rest < length rest + 1 = tag_less_at (tags.step s (class_of c) c (length rest) all) rest t (λ s all e. tag_less s all rest t e) e in omega arith

-- the loop over a document

pub nothing_more : (at : Context) (found whole : List StartTag) (rest : List ℕ) → found ++ start_tags (read at Data rest) ≡ whole → read at Data rest ≡ [] → found ≡ whole
nothing_more at found whole rest inv none = sym (append-nil found) ∙ ap (λ more. found ++ start_tags more) (sym none) ∙ inv

pub one_more : (at own : Context) (items new : List StartTagAt) (one : StartTagAt) (whole : List StartTag) (more : List Token) (rest bytes : List ℕ) → map start_tag_at items ++ start_tags (read at Data rest) ≡ whole → new ≡ items ++ one ∷ [] →
    read at Data rest ≡ Start own (start_tag_at one) bytes ∷ more → map start_tag_at new ++ start_tags more ≡ whole
one_more at own items new one whole more rest bytes inv pushed same = grind (arith, common_steps, map-append)

pub last_one : (found whole : List StartTag) (more : List Token) → found ++ start_tags more ≡ whole → more ≡ [] → found ≡ whole
last_one found whole more inv none = sym (append-nil found) ∙ ap (λ m. found ++ start_tags m) (sym none) ∙ inv

pub end_then : (at : Context) (name : List ℕ) (o : Option Tag) (left : List ℕ) → Some left ≡ rest_of o → tag_then at true name o ≡ end_tag at name ++ read (outer_context at name) Data left
end_then at name o left e = grind (arith, left)

pub read_end_tag : (at : Context) (rest opened name more left : List ℕ) → 60 ∷ opened ≡ following (λ c. not (c == 60)) rest → read at TagOpen opened ≡ read at (InTag true name BeforeName []) more → Some left ≡ rest_of (tag_of more) →
    read at Data rest ≡ end_tag at name ++ read (outer_context at name) Data left
read_end_tag at rest opened name more left cut reads ends = read_less at rest opened cut ∙ reads ∙ in_tag at true name BeforeName [] more ∙ end_then at name (tag_of more) left ends

pub read_open_end_tag : (at : Context) (rest opened name more : List ℕ) → 60 ∷ opened ≡ following (λ c. not (c == 60)) rest → read at TagOpen opened ≡ read at (InTag true name BeforeName []) more → None ≡ rest_of (tag_of more) →
    read at Data rest ≡ []
read_open_end_tag at rest opened name more cut reads ends = grind (arith, read_less, in_tag)

pub read_start_tag : (at : Context) (rest opened name more : List ℕ) (t : Tag) → 60 ∷ opened ≡ following (λ c. not (c == 60)) rest → read at TagOpen opened ≡ read at (InTag false name BeforeName []) more → Some t ≡ tag_of more →
    read at Data rest ≡ Start (tag_context at name) (record { name = name; attributes = t.attributes; self_closing = t.self_closing }) t.rest ∷
    read (entered (tag_context at name) name t.attributes t.self_closing) (past_tag at false name) t.rest
read_start_tag at rest opened name more t cut reads ends = read_less at rest opened cut ∙ reads ∙ in_tag at false name BeforeName [] more ∙ ap (tag_then at false name) (sym ends)

pub read_open_start_tag : (at : Context) (rest opened name more : List ℕ) → 60 ∷ opened ≡ following (λ c. not (c == 60)) rest → read at TagOpen opened ≡ read at (InTag false name BeforeName []) more → None ≡ tag_of more →
    read at Data rest ≡ []
read_open_start_tag at rest opened name more cut reads ends = read_less at rest opened cut ∙ reads ∙ in_tag at false name BeforeName [] more ∙ ap (tag_then at false name) (sym ends)

pub start_less : (rest opened more : List ℕ) (t : Tag) → 60 ∷ opened ≡ following (λ c. not (c == 60)) rest → length more ≤ length opened → Some t ≡ tag_of more → length t.rest < length rest
start_less rest opened more t cut leaves ends = grind (arith, cut_shorter, tag_less)

pub rest_less : (o : Option Tag) (more left : List ℕ) → ((t : Tag) → o ≡ Some t → length t.rest < length more) → Some left ≡ rest_of o → length left < length more
rest_less o more left less e = grind (arith, left)

pub tag_rest_less : (bytes left : List ℕ) → Some left ≡ rest_of (tag_of bytes) → length left < length bytes
tag_rest_less bytes left ends = rest_less (tag_of bytes) bytes left (λ t e. tag_less BeforeName [] bytes t e) ends

pub end_less : (rest opened more left : List ℕ) → 60 ∷ opened ≡ following (λ c. not (c == 60)) rest → length more ≤ length opened → Some left ≡ rest_of (tag_of more) → length left < length rest
end_less rest opened more left cut leaves ends = grind (arith, cut_shorter, left, rest_less, tag_less)

no_starts : (b : Bool) (more : List Token) → start_tags (cond b (TemplateEnd ∷ []) [] ++ more) ≡ start_tags more
no_starts true more = refl
no_starts false more = refl

-- the start tags after an end tag
pub end_starts : (at after : Context) (rest opened name more left : List ℕ) → 60 ∷ opened ≡ following (λ c. not (c == 60)) rest → read at TagOpen opened ≡ read at (InTag true name BeforeName []) more → Some left ≡ rest_of (tag_of more) →
    after ≡ outer_context at name → start_tags (read after Data left) ≡ start_tags (read at Data rest)
end_starts at after rest opened name more left cut reads ends here =
    ap (λ at. start_tags (read at Data left)) here ∙ sym (no_starts (ends_template at name) (read (outer_context at name) Data left))
    ∙ sym (ap start_tags (read_end_tag at rest opened name more left cut reads ends))

-- a start tag whose values were found

abbrev value_or : Values → Option TagValues → Values
value_or v None = v
value_or v (Some x) = x.values

pub none_tag : (w : AttributeNames) (o : Option Tag) → None ≡ values_in w o → None ≡ o
none_tag w None e = refl
none_tag w (Some t) e = absurd (cc)

pub start_content : (at own after : Context) (name more : List ℕ) (element : Element) (v : Values) (text : List ℕ) (t : Tag) → own ≡ tag_context at name → element ≡ element_at own name → after ≡ inner_context own name element v →
    Some t ≡ tag_of more → Some (tag_with v text) ≡ values_in (names_of_attributes element) (tag_of more) →
    read (entered (tag_context at name) name t.attributes t.self_closing) (past_tag at false name) t.rest ≡ read after (after_start (content_at own name) name) t.rest
start_content at own after name more element v text t here is inner ends found =
    ap (λ own. read (entered own name t.attributes t.self_closing) (after_start (content_at own name) name) t.rest) (sym here)
    ∙ ap (λ element. read (inner_context own name element (values_of (names_of_attributes element) t.attributes t.self_closing)) (after_start (content_at own name) name) t.rest) (sym is)
    ∙ ap (λ v. read (inner_context own name element v) (after_start (content_at own name) name) t.rest) (sym (ap (value_or v) (found ∙ ap (values_in (names_of_attributes element)) (sym ends))))
    ∙ ap (λ at. read at (after_start (content_at own name) name) t.rest) (sym inner)

-- an end tag whose name is left out

no_name_at : (points : ℕ) (b : Bool) → cond b (Html points) (Html points) ≡ Html points
no_name_at points true = refl
no_name_at points false = refl

pub no_name : (at : Context) → outer_context at [] ≡ at
no_name (Html points) = no_name_at points (points == 0)
no_name (Svg points nested) = refl
no_name (Math points nested) = refl
no_name Xml = refl

no_end : (at : Context) → end_tag at [] ≡ []
no_end at = grind arith

nameless_at : (at : Context) (o : Option Tag) (r : Option (Bor (List ℕ))) → bytes_at r ≡ rest_of o → tag_then at true [] o ≡ read_rest at r
nameless_at at o r e = grind (arith, no_name, no_end, end_then)

-- the end tag after a text
nameless : (at : Context) (more : List ℕ) (r : Option (Bor (List ℕ))) → bytes_at r ≡ rest_of (tag_of more) → read at (InTag true [] BeforeName []) more ≡ read_rest at r
nameless at more r e = in_tag at true [] BeforeName [] more ∙ nameless_at at (tag_of more) r e

-- a whole raw text

abbrev pub raw_then : Context → Option (List ℕ) → List Token
raw_then at None = []
raw_then at (Some here) = read at (InTag true [] BeforeName []) here

in_raw_at : (at : Context) (name : List ℕ) (c : ℕ) (next : raw.Next) (rest : List ℕ) → ((s : raw.State) → read at (InRaw name s) rest ≡ raw_then at (raw.run name s rest)) →
    follow at (raw_step at name c (length rest) next) rest (λ at here. read at here rest) ≡ raw_then at (raw.follow next (λ s. raw.run name s rest) (c ∷ rest))
in_raw_at at name c next rest later = grind arith

pub in_raw : (at : Context) (name : List ℕ) (s : raw.State) (bytes : List ℕ) → read at (InRaw name s) bytes ≡ raw_then at (raw.run name s bytes)
in_raw at name s [] = refl
in_raw at name s (c ∷ rest) = in_raw_at at name c (raw.step name s c) rest (λ s. in_raw at name s rest)

raw_left_at : (name : List ℕ) (c : ℕ) (next : raw.Next) (rest here : List ℕ) → ((s : raw.State) → raw.run name s rest ≡ Some here → length here ≤ length rest) →
    raw.follow next (λ s. raw.run name s rest) (c ∷ rest) ≡ Some here → length here ≤ length rest + 1
raw_left_at name c next rest here later e = grind arith

pub raw_left : (name : List ℕ) (s : raw.State) (bytes here : List ℕ) → raw.run name s bytes ≡ Some here → length here ≤ length bytes
raw_left name s [] here e = absurd (cc)
raw_left name s (c ∷ rest) here e =
    let le : length here ≤ length rest + 1 = raw_left_at name c (raw.step name s c) rest here (λ s e. raw_left name s rest here e) e in omega arith

pub read_raw : (name bytes more : List ℕ) (r : Option (Bor (List ℕ))) → Some more ≡ raw.run name raw.Text bytes → bytes_at r ≡ rest_of (tag_of more) → (at : Context) → read at (InRaw name raw.Text) bytes ≡ read_rest at r
read_raw name bytes more r ends tag_ends at = in_raw at name raw.Text bytes ∙ ap (raw_then at) (sym ends) ∙ nameless at more r tag_ends

pub read_open_raw : (name bytes : List ℕ) → None ≡ raw.run name raw.Text bytes → (at : Context) → read at (InRaw name raw.Text) bytes ≡ []
read_open_raw name bytes ends at = in_raw at name raw.Text bytes ∙ ap (raw_then at) (sym ends)

in_plain : (at : Context) (bytes : List ℕ) → read at InPlain bytes ≡ []
in_plain at [] = refl
in_plain at (c ∷ rest) = in_plain at rest

-- the content of an element, by its kind

pub foreign_markup : (own : Context) (name bytes : List ℕ) → is_foreign own ≡ true → (at : Context) → read at (after_start (content_at own name) name) bytes ≡ read at Data bytes
foreign_markup (Html points) name bytes foreign at = absurd (cc)
foreign_markup (Svg points nested) name bytes foreign at = refl
foreign_markup (Math points nested) name bytes foreign at = refl
foreign_markup Xml name bytes foreign at = refl

pub html_content_at : (own : Context) (name : List ℕ) → is_foreign own ≡ false → content_at own name ≡ content_of name
html_content_at (Html points) name html = refl
html_content_at (Svg points nested) name html = absurd (cc)
html_content_at (Math points nested) name html = absurd (cc)
html_content_at Xml name html = absurd (cc)

pub to_markup : (k : Content) (name bytes : List ℕ) → content.Markup ≡ k → (at : Context) → read at (after_start k name) bytes ≡ read at Data bytes
to_markup k name bytes e at = ap (λ k. read at (after_start k name) bytes) (sym e)

pub to_plain : (k : Content) (name bytes : List ℕ) → content.Plain ≡ k → (at : Context) → read at (after_start k name) bytes ≡ []
to_plain k name bytes e at = ap (λ k. read at (after_start k name) bytes) (sym e) ∙ in_plain at bytes

pub to_raw : (k : Content) (name bytes : List ℕ) → content.Raw ≡ k → (at : Context) → read at (after_start k name) bytes ≡ read at (InRaw name raw.Text) bytes
to_raw k name bytes e at = ap (λ k. read at (after_start k name) bytes) (sym e)

pub to_script : (k : Content) (name bytes : List ℕ) → content.Script ≡ k → (at : Context) → read at (after_start k name) bytes ≡ read at (InScript script.Text) bytes
to_script k name bytes e at = ap (λ k. read at (after_start k name) bytes) (sym e)

in_script_at : (at : Context) (c : ℕ) (n : nexts.Next) (rest : List ℕ) → ((s : code.State) → read at (InScript s) rest ≡ raw_then at (scripts.run s rest)) →
    follow at (script_step at c (length rest) n) rest (λ at here. read at here rest) ≡ raw_then at (scripts.follow n (λ s. scripts.run s rest) (c ∷ rest))
in_script_at at c n rest later = grind arith

pub in_script : (at : Context) (s : code.State) (bytes : List ℕ) → read at (InScript s) bytes ≡ raw_then at (scripts.run s bytes)
in_script at s [] = refl
in_script at s (c ∷ rest) = in_script_at at c (scripts.step s c) rest (λ s. in_script at s rest)

-- a whole script

pub read_script : (bytes more : List ℕ) (r : Option (Bor (List ℕ))) → Some more ≡ scripts.run script.Text bytes → bytes_at r ≡ rest_of (tag_of more) → (at : Context) → read at (InScript script.Text) bytes ≡ read_rest at r
read_script bytes more r ends tag_ends at = in_script at script.Text bytes ∙ ap (raw_then at) (sym ends) ∙ nameless at more r tag_ends

pub read_open_script : (bytes : List ℕ) → None ≡ scripts.run script.Text bytes → (at : Context) → read at (InScript script.Text) bytes ≡ []
read_open_script bytes ends at = in_script at script.Text bytes ∙ ap (raw_then at) (sym ends)
