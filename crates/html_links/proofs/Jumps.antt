-- The machine over runs of bytes: a run over which it stays in a state is one jump.
use Rattle.html_links.proofs.Prelude.{◌≡◌, ℕ, suc, ◌+◌, ◌<◌, ◌≤◌, ◌==◌, Bool, true, false, not, cond, List, [], ◌∷◌, ◌++◌, length, map, reverse, None, Some, refl, ap, sym, ◌∙◌, arith, append_assoc, append-nil, subst, codes, Class, Space, Slash, Greater, Equals, Quote, Apostrophe, front, following, is_space, in_name, in_unquoted, begins, BeginsName, name_front, following_name, Stopped, Leaves}
use Rattle.html_links.specs.Tags.{Attribute, State, BeforeName, Name, AfterName, BeforeValue, DoubleQuoted, SingleQuoted, Unquoted, AfterQuoted, SelfClosing, Go, step, start, to_name, to_value, begin_value, lower, class_of, run, follow}
use Rattle.html_links.specs.declared.tag.Piece.{Piece}

-- the steps at the bytes of a run, one after another
abbrev written : (ℕ → List Attribute → List Attribute) → List Attribute → List ℕ → List Attribute
written write all [] = all
written write all (c ∷ rest) = written write (write c all) rest

-- if the machine stays in s over bytes that pass a test, they are one jump
pub jump : (s : State) (test : ℕ → Bool) (write : ℕ → List Attribute → List Attribute) →
    ((c n : ℕ) (all : List Attribute) → test c ≡ true → step s (class_of c) c n all ≡ Go s (write c all)) →
    (all : List Attribute) (bytes : List ℕ) → run s all bytes ≡ run s (written write all (front test bytes)) (following test bytes)
jump s test write stays all [] = refl
jump s test write stays all (c ∷ rest) = grind (arith, stays, jump s test write stays (write c all) rest)

-- two states with the same step at the first byte
pub same_at : (s t : State) (c : ℕ) (rest : List ℕ) (all : List Attribute) → step s (class_of c) c (length rest) all ≡ step t (class_of c) c (length rest) all → run s all (c ∷ rest) ≡ run t all (c ∷ rest)
same_at s t c rest all same = ap (λ n. follow n (λ state all. run state all rest) rest) same

pub stopped : (test : ℕ → Bool) (bytes : List ℕ) → Stopped test (following test bytes)
stopped test [] = tt
stopped test (c ∷ rest) = grind (arith, stopped test rest)

-- two states with the same step at each byte that ends a run
pub same_stopped : (s t : State) (test : ℕ → Bool) → ((c n : ℕ) (all : List Attribute) → test c ≡ false → step s (class_of c) c n all ≡ step t (class_of c) c n all) →
    (all : List Attribute) (bytes : List ℕ) → Stopped test bytes → run s all bytes ≡ run t all bytes
same_stopped s t test same all bytes ends = grind (arith, same_at)

pub shorter : (test : ℕ → Bool) (bytes : List ℕ) → length (following test bytes) ≤ length bytes
shorter test [] = omega arith
shorter test (c ∷ rest) = grind (arith, shorter test rest)

-- white space

nothing_written : (all : List Attribute) (run : List ℕ) → written (λ c a. a) all run ≡ all
nothing_written all [] = refl
nothing_written all (c ∷ rest) = nothing_written all rest

skip : (s : State) → ((c n : ℕ) (all : List Attribute) → is_space c ≡ true → step s (class_of c) c n all ≡ Go s all) →
    (all : List Attribute) (bytes : List ℕ) → run s all bytes ≡ run s all (following is_space bytes)
skip s stays all bytes = jump s is_space (λ c a. a) stays all bytes ∙ ap (λ a. run s a (following is_space bytes)) (nothing_written all (front is_space bytes))

abbrev spaces : Class → Bool
spaces k = elim k [ Space ↦ true | _ ↦ false ]

space_before_name : (k : Class) (c n : ℕ) (all : List Attribute) → spaces k ≡ true → step BeforeName k c n all ≡ Go BeforeName all
space_before_name k c n all is = grind arith

space_after_name : (k : Class) (c n : ℕ) (all : List Attribute) → spaces k ≡ true → step AfterName k c n all ≡ Go AfterName all
space_after_name k c n all is = grind arith

space_before_value : (k : Class) (c n : ℕ) (all : List Attribute) → spaces k ≡ true → step BeforeValue k c n all ≡ Go BeforeValue all
space_before_value k c n all is = grind arith

pub skip_before_name : (all : List Attribute) (bytes : List ℕ) → run BeforeName all bytes ≡ run BeforeName all (following is_space bytes)
skip_before_name = skip BeforeName (λ c n all. space_before_name (class_of c) c n all)

pub skip_after_name : (all : List Attribute) (bytes : List ℕ) → run AfterName all bytes ≡ run AfterName all (following is_space bytes)
skip_after_name = skip AfterName (λ c n all. space_after_name (class_of c) c n all)

pub skip_before_value : (all : List Attribute) (bytes : List ℕ) → run BeforeValue all bytes ≡ run BeforeValue all (following is_space bytes)
skip_before_value = skip BeforeValue (λ c n all. space_before_value (class_of c) c n all)

-- names

abbrev names : Class → Bool
names k = elim k [ Space ↦ false | Slash ↦ false | Greater ↦ false | Equals ↦ false | _ ↦ true ]

name_stays : (k : Class) (c n : ℕ) (all : List Attribute) → names k ≡ true → step Name k c n all ≡ Go Name (to_name c n all)
name_stays k c n all is = grind arith

name_ends : (k : Class) (c n : ℕ) (all : List Attribute) → names k ≡ false → step Name k c n all ≡ step AfterName k c n all
name_ends k c n all is = grind arith

name_begins : (k : Class) (c n : ℕ) (all : List Attribute) → begins k ≡ true → step BeforeName k c n all ≡ Go Name (start c n all)
name_begins k c n all is = grind arith

name_at : (b : Bool) (name value : List ℕ) (c : ℕ) (rest some more : List ℕ) (all : List Attribute) →
    (b ≡ true → step Name (class_of c) c (length rest) (record { name = name; value = value; left = length (c ∷ rest) } ∷ all) ≡ Go Name (record { name = name ++ lower c ∷ []; value = value; left = length rest } ∷ all)) →
    run Name (record { name = name ++ lower c ∷ []; value = value; left = length rest } ∷ all) rest ≡ run Name (record { name = (name ++ lower c ∷ []) ++ map lower some; value = value; left = length more } ∷ all) more →
    run Name (record { name = name; value = value; left = length (c ∷ rest) } ∷ all) (c ∷ rest)
    ≡ run Name (record { name = name ++ map lower (cond b (c ∷ some) []); value = value; left = length (cond b more (c ∷ rest)) } ∷ all) (cond b more (c ∷ rest))
name_at true name value c rest some more all stays later =
    ap (λ n. follow n (λ state all. run state all rest) rest) (stays refl) ∙ later
    ∙ ap (λ n. run Name (record { name = n; value = value; left = length more } ∷ all) more) (append_assoc name (lower c ∷ []) (map lower some))
name_at false name value c rest some more all stays later =
    ap (λ n. run Name (record { name = n; value = value; left = length (c ∷ rest) } ∷ all) (c ∷ rest)) (sym (append-nil name))

-- after a run of a name's bytes, the missing value is at its end
name_jump : (name value : List ℕ) (all : List Attribute) (bytes : List ℕ) →
    run Name (record { name = name; value = value; left = length bytes } ∷ all) bytes
    ≡ run Name (record { name = name ++ map lower (front in_name bytes); value = value; left = length (following in_name bytes) } ∷ all) (following in_name bytes)
name_jump name value all [] = ap (λ n. run Name (record { name = n; value = value; left = 0 } ∷ all) []) (sym (append-nil name))
name_jump name value all (c ∷ rest) =
    name_at (in_name c) name value c rest (front in_name rest) (following in_name rest) all (λ e. name_stays (class_of c) c (length rest) (record { name = name; value = value; left = length (c ∷ rest) } ∷ all) e)
    (name_jump (name ++ lower c ∷ []) value all rest)

-- an attribute's name, and the white space after it
pub read_name : (bytes : List ℕ) → BeginsName bytes → (all : List Attribute) →
    run BeforeName all bytes ≡ run AfterName (record { name = map lower (name_front bytes); value = []; left = length (following_name bytes) } ∷ all) (following is_space (following_name bytes))
read_name [] begins all = absurd begins
read_name (c ∷ rest) begins all =
    ap (λ n. follow n (λ state all. run state all rest) rest) (name_begins (class_of c) c (length rest) all begins)
    ∙ name_jump (lower c ∷ []) [] all rest
    ∙ same_stopped Name AfterName in_name (λ c n all. name_ends (class_of c) c n all) _ (following in_name rest) (stopped in_name rest)
    ∙ skip_after_name _ (following in_name rest)

pub name_shorter : (bytes : List ℕ) → BeginsName bytes → length (following is_space (following_name bytes)) < length bytes
name_shorter bytes begins = grind (arith, shorter)

-- the class of a byte determines the byte

other_greater : (c : ℕ) → (c == 62) ≡ false → class_of c ≡ Greater → ⊥
other_greater c other is = grind arith

other_equals : (c : ℕ) → (c == 61) ≡ false → class_of c ≡ Equals → ⊥
other_equals c other is = grind arith

other_quote : (c : ℕ) → not (c == 34) ≡ true → class_of c ≡ Quote → ⊥
other_quote c other is = grind arith

other_apostrophe : (c : ℕ) → not (c == 39) ≡ true → class_of c ≡ Apostrophe → ⊥
other_apostrophe c other is = grind arith

-- the first byte

at_class : (s : State) (k : Class) (c : ℕ) (rest : List ℕ) (all : List Attribute) → k ≡ class_of c → run s all (c ∷ rest) ≡ follow (step s k c (length rest) all) (λ state all. run state all rest) rest
at_class s k c rest all is = ap (λ k. follow (step s k c (length rest) all) (λ state all. run state all rest) rest) (sym is)

-- an attribute without a value: the bytes after its name are read as those before a name
no_value : (k : Class) (c n : ℕ) (all : List Attribute) → spaces k ≡ false → (k ≡ Equals → ⊥) → step AfterName k c n all ≡ step BeforeName k c n all
no_value k c n all space equals = grind arith

pub read_no_value : (all : List Attribute) (bytes : List ℕ) → Stopped is_space bytes → Stopped (λ c. c == 61) bytes → run AfterName all bytes ≡ run BeforeName all bytes
read_no_value all bytes space equals = grind (arith, same_at, no_value, other_equals)

-- a slash that is not before `>`
only_slash : (k : Class) (c n : ℕ) (all : List Attribute) → (k ≡ Greater → ⊥) → step SelfClosing k c n all ≡ step BeforeName k c n all
only_slash k c n all greater = grind arith

pub read_slash : (all : List Attribute) (bytes : List ℕ) → Stopped (λ c. c == 62) bytes → run SelfClosing all bytes ≡ run BeforeName all bytes
read_slash all bytes greater = grind (arith, same_at, only_slash, other_greater)

-- a quoted value

value_written : (name value : List ℕ) (left : ℕ) (all : List Attribute) (run : List ℕ) →
    written to_value (record { name = name; value = value; left = left } ∷ all) run ≡ record { name = name; value = value ++ run; left = left } ∷ all
value_written name value left all [] = ap (λ v. record { name = name; value = v; left = left } ∷ all) (sym (append-nil value))
value_written name value left all (c ∷ rest) = value_written name (value ++ c ∷ []) left all rest ∙ ap (λ v. record { name = name; value = v; left = left } ∷ all) (append_assoc value (c ∷ []) rest)

read_after_quoted : (all : List Attribute) (bytes : List ℕ) → run AfterQuoted all bytes ≡ run BeforeName all bytes
read_after_quoted all [] = refl
read_after_quoted all (c ∷ rest) = grind (arith, same_at)

double_stays : (k : Class) (c n : ℕ) (all : List Attribute) → (k ≡ Quote → ⊥) → step DoubleQuoted k c n all ≡ Go DoubleQuoted (to_value c all)
double_stays k c n all quote = grind arith

single_stays : (k : Class) (c n : ℕ) (all : List Attribute) → (k ≡ Apostrophe → ⊥) → step SingleQuoted k c n all ≡ Go SingleQuoted (to_value c all)
single_stays k c n all quote = grind arith

abbrev pub before : ℕ → ℕ → Bool
before quote c = not (c == quote)

double_jump : (name : List ℕ) (left : ℕ) (all : List Attribute) (bytes : List ℕ) →
    run DoubleQuoted (record { name = name; value = []; left = left } ∷ all) bytes ≡ run DoubleQuoted (record { name = name; value = front (before 34) bytes; left = left } ∷ all) (following (before 34) bytes)
double_jump name left all bytes =
    jump DoubleQuoted (before 34) to_value (λ c n all passes. double_stays (class_of c) c n all (other_quote c passes)) _ bytes
    ∙ ap (λ a. run DoubleQuoted a (following (before 34) bytes)) (value_written name [] left all (front (before 34) bytes))

single_jump : (name : List ℕ) (left : ℕ) (all : List Attribute) (bytes : List ℕ) →
    run SingleQuoted (record { name = name; value = []; left = left } ∷ all) bytes ≡ run SingleQuoted (record { name = name; value = front (before 39) bytes; left = left } ∷ all) (following (before 39) bytes)
single_jump name left all bytes =
    jump SingleQuoted (before 39) to_value (λ c n all passes. single_stays (class_of c) c n all (other_apostrophe c passes)) _ bytes
    ∙ ap (λ a. run SingleQuoted a (following (before 39) bytes)) (value_written name [] left all (front (before 39) bytes))

pub read_double : (name bytes : List ℕ) (first : ℕ) (more value rest : List ℕ) → bytes ≡ first ∷ more → Quote ≡ class_of first →
    (value ≡ front (before 34) more) × (34 ∷ rest ≡ following (before 34) more) →
    (left : ℕ) (all : List Attribute) → run BeforeValue (record { name = name; value = []; left = left } ∷ all) bytes ≡ run BeforeName (record { name = name; value = value; left = length more } ∷ all) rest
read_double name bytes first more value rest is quote cut left all = grind (arith, at_class, double_jump, read_after_quoted)

pub read_open_double : (name bytes : List ℕ) (first : ℕ) (more : List ℕ) → bytes ≡ first ∷ more → Quote ≡ class_of first → following (before 34) more ≡ [] →
    (left : ℕ) (all : List Attribute) → run BeforeValue (record { name = name; value = []; left = left } ∷ all) bytes ≡ None
read_open_double name bytes first more is quote none left all = grind (arith, at_class, double_jump)

pub read_single : (name bytes : List ℕ) (first : ℕ) (more value rest : List ℕ) → bytes ≡ first ∷ more → Apostrophe ≡ class_of first →
    (value ≡ front (before 39) more) × (39 ∷ rest ≡ following (before 39) more) →
    (left : ℕ) (all : List Attribute) → run BeforeValue (record { name = name; value = []; left = left } ∷ all) bytes ≡ run BeforeName (record { name = name; value = value; left = length more } ∷ all) rest
read_single name bytes first more value rest is quote cut left all = grind (arith, at_class, single_jump, read_after_quoted)

pub read_open_single : (name bytes : List ℕ) (first : ℕ) (more : List ℕ) → bytes ≡ first ∷ more → Apostrophe ≡ class_of first → following (before 39) more ≡ [] →
    (left : ℕ) (all : List Attribute) → run BeforeValue (record { name = name; value = []; left = left } ∷ all) bytes ≡ None
read_open_single name bytes first more is quote none left all = grind (arith, at_class, single_jump)

pub quoted_shorter : (test : ℕ → Bool) (bytes : List ℕ) (first quote : ℕ) (more rest : List ℕ) → bytes ≡ first ∷ more → quote ∷ rest ≡ following test more → length rest < length bytes + 1
quoted_shorter test bytes first quote more rest is cut =
    let a : length bytes ≡ length (first ∷ more) = ap length is in
    let b : length (quote ∷ rest) ≡ length (following test more) = ap length cut in
    let le : length (following test more) ≤ length more = shorter test more in
    omega arith

-- an unquoted value

abbrev unquoted : Class → Bool
unquoted k = elim k [ Space ↦ false | Greater ↦ false | _ ↦ true ]

unquoted_stays : (k : Class) (c n : ℕ) (all : List Attribute) → unquoted k ≡ true → step Unquoted k c n all ≡ Go Unquoted (to_value c all)
unquoted_stays k c n all is = grind arith

unquoted_ends : (k : Class) (c n : ℕ) (all : List Attribute) → unquoted k ≡ false → step Unquoted k c n all ≡ step BeforeName k c n all
unquoted_ends k c n all is = grind arith

unquoted_begins : (k : Class) (c n : ℕ) (all : List Attribute) → spaces k ≡ false → (k ≡ Greater → ⊥) → (k ≡ Quote → ⊥) → (k ≡ Apostrophe → ⊥) → step BeforeValue k c n all ≡ step Unquoted k c n (begin_value (suc n) all)
unquoted_begins k c n all space greater quote apostrophe = grind arith

unquoted_jump : (name : List ℕ) (left : ℕ) (all : List Attribute) (bytes : List ℕ) →
    run Unquoted (record { name = name; value = []; left = left } ∷ all) bytes ≡ run BeforeName (record { name = name; value = front in_unquoted bytes; left = left } ∷ all) (following in_unquoted bytes)
unquoted_jump name left all bytes =
    jump Unquoted in_unquoted to_value (λ c n all. unquoted_stays (class_of c) c n all) _ bytes
    ∙ ap (λ a. run Unquoted a (following in_unquoted bytes)) (value_written name [] left all (front in_unquoted bytes))
    ∙ same_stopped Unquoted BeforeName in_unquoted (λ c n all. unquoted_ends (class_of c) c n all) _ (following in_unquoted bytes) (stopped in_unquoted bytes)

pub read_unquoted : (name bytes : List ℕ) (first : ℕ) (more value rest : List ℕ) → bytes ≡ first ∷ more → Stopped is_space bytes →
    (class_of first ≡ Greater → ⊥) → (class_of first ≡ Quote → ⊥) → (class_of first ≡ Apostrophe → ⊥) → value ≡ front in_unquoted bytes → rest ≡ following in_unquoted bytes →
    (left : ℕ) (all : List Attribute) → run BeforeValue (record { name = name; value = []; left = left } ∷ all) bytes ≡ run BeforeName (record { name = name; value = value; left = length bytes } ∷ all) rest
read_unquoted name bytes first more value rest is space greater quote apostrophe cut end left all =
    let here : Stopped is_space (first ∷ more) = subst (λ (xs : List ℕ). Stopped is_space xs) is space in
    ap (run BeforeValue _) is
    ∙ ap (λ n. follow n (λ state all. run state all more) more) (unquoted_begins (class_of first) first (length more) (record { name = name; value = []; left = left } ∷ all) here greater quote apostrophe)
    ∙ ap (λ (xs : List ℕ). run Unquoted (record { name = name; value = []; left = length xs } ∷ all) xs) (sym is) ∙ unquoted_jump name (length bytes) all bytes
    ∙ ap (λ v. run BeforeName (record { name = name; value = v; left = length bytes } ∷ all) (following in_unquoted bytes)) (sym cut)
    ∙ ap (run BeforeName _) (sym end)

-- a value that is missing before the `>`

pub read_missing : (name bytes : List ℕ) (first : ℕ) (more : List ℕ) → bytes ≡ first ∷ more → Greater ≡ class_of first →
    (left : ℕ) (all : List Attribute) → run BeforeValue (record { name = name; value = []; left = left } ∷ all) bytes ≡ run BeforeName (record { name = name; value = []; left = length bytes } ∷ all) bytes
read_missing name bytes first more is greater left all = grind (arith, at_class)

-- an `="` right after a name

stays : (bytes rest more : List ℕ) → rest ≡ following_name bytes → rest ≡ 61 ∷ 34 ∷ more → rest ≡ following is_space (following_name bytes)
stays bytes rest more cut is = is ∙ sym (ap (following is_space) is) ∙ ap (following is_space) cut

pub read_quote : (bytes name rest more : List ℕ) → BeginsName bytes → name ≡ name_front bytes → rest ≡ following_name bytes → rest ≡ 61 ∷ 34 ∷ more → (all : List Attribute) →
    run BeforeName all bytes ≡ run BeforeValue (record { name = map lower name; value = []; left = length rest } ∷ all) (34 ∷ more)
read_quote bytes name rest more begins named cut is all = grind (arith, stays, read_name, skip, space_before_value)

pub quote_within : (bytes rest more : List ℕ) → BeginsName bytes → rest ≡ following_name bytes → rest ≡ 61 ∷ 34 ∷ more → length more ≤ length bytes
quote_within bytes rest more begins cut is = grind (arith, stays, name_shorter)

-- a `class`, up to the first quote of its value

pub read_class : (bytes more : List ℕ) → bytes ≡ codes " class=" ++ 34 ∷ more → (all : List Attribute) →
    run BeforeName all bytes ≡ run BeforeValue (record { name = map lower (codes "class"); value = []; left = suc (suc (length more)) } ∷ all) (34 ∷ more)
read_class bytes more is all = ap (run BeforeName all) is

-- likewise for a `href`

pub read_href : (bytes more : List ℕ) → bytes ≡ codes " href=" ++ 34 ∷ more → (all : List Attribute) →
    run BeforeName all bytes ≡ run BeforeValue (record { name = map lower (codes "href"); value = []; left = suc (suc (length more)) } ∷ all) (34 ∷ more)
read_href bytes more is all = ap (run BeforeName all) is

-- an attribute without a value

pub read_bare : (bytes zs : List ℕ) → BeginsName bytes → zs ≡ following is_space (following_name bytes) → Stopped is_space zs → Stopped (λ c. c == 61) zs → (all : List Attribute) →
    run BeforeName all bytes ≡ run BeforeName (record { name = map lower (name_front bytes); value = []; left = length (following_name bytes) } ∷ all) zs
read_bare bytes zs begins skipped space equals all = grind (arith, read_name, read_no_value)

-- the pieces that begin at the first byte that is not white space

to_slash : (bytes zs : List ℕ) (first : ℕ) (more : List ℕ) → zs ≡ following is_space bytes → zs ≡ first ∷ more → Slash ≡ class_of first → (all : List Attribute) →
    run BeforeName all bytes ≡ run SelfClosing all more
to_slash bytes zs first more skipped is slash all = grind (arith, skip_before_name, at_class)

pub read_self_closing : (bytes zs : List ℕ) (first : ℕ) (more last : List ℕ) → zs ≡ following is_space bytes → zs ≡ first ∷ more → Slash ≡ class_of first → more ≡ 62 ∷ last → (all : List Attribute) →
    run BeforeName all bytes ≡ Some (record { attributes = reverse all; self_closing = true; rest = last })
read_self_closing bytes zs first more last skipped is slash end all = to_slash bytes zs first more skipped is slash all ∙ ap (run SelfClosing all) end

pub read_only_slash : (bytes zs : List ℕ) (first : ℕ) (more : List ℕ) → zs ≡ following is_space bytes → zs ≡ first ∷ more → Slash ≡ class_of first → Stopped (λ c. c == 62) more → (all : List Attribute) →
    run BeforeName all bytes ≡ run BeforeName all more
read_only_slash bytes zs first more skipped is slash alone all = to_slash bytes zs first more skipped is slash all ∙ read_slash all more alone

-- the rest of a tag, and the attributes so far

pub leaves_less : (p : Piece) (n m : ℕ) → n ≤ m → Leaves p n → Leaves p m
leaves_less p n m le less = grind arith
