-- Bytes and rows that are appended one after another.
use Rattle.check_report.proofs.Prelude.{common_steps, ◌≡◌, ℕ, ◌+◌, ◌<◌, ◌≤◌, List, [], ◌∷◌, ◌++◌, length, map, take, get_or, Result, OnOk, append-nil, sym, ap, refl, subst, ◌∙◌, arith, Bor, Bool, append_assoc, flat_map-map, map-map, map_more, take_more, take_all, flat_map-append, flat_map, Adds, Line, bare_lines, begin, edge, file_lines, finish, in_section, link_line, place, place_lines, rest_lines, target_lines}
use Rattle.check_report.specs.Order.{link_of, links_by_file, shown_places}
use Rattle.check_report.specs.declared.form.Form.{Form}
use Rattle.check_report.specs.Pieces.{piece_text, text_from, text_of}
use Rattle.check_report.specs.declared.ordered.Link.{Link}
use Rattle.check_report.specs.declared.piece.Piece.{Piece}
use Rattle.check_report.specs.declared.row.Section.{Section}
use Rattle.check_report.specs.declared.value.Broken.{Broken}
use Rattle.check_report.specs.declared.value.Place.{Place}
use Rattle.check_report.specs.declared.view.View.{View}
use Rattle.check_report.proofs.Sorting.{shown-map}

-- ---- bytes

-- two appended texts are one
pub joined : {X : Type 0} (old mid new a b : List X) → mid ≡ old ++ a → new ≡ mid ++ b → new ≡ old ++ (a ++ b)
joined old mid new a b p q = q ∙ ap (λ t. t ++ b) p ∙ append_assoc old a b

-- as `joined`, if the last call may run out of memory
pub last_joined : {X V E : Type 0} (answer : Result V E) (old mid new a b : List X) → mid ≡ old ++ a → OnOk answer (new ≡ mid ++ b) → OnOk answer (new ≡ old ++ (a ++ b))
last_joined answer old mid new a b p q = grind (arith, joined)

-- ---- pieces

pieces_after : (text : List ℕ) (ps : List Piece) → text_from text ps ≡ text ++ flat_map piece_text ps
pieces_after text [] = sym (append-nil text)
pieces_after text (p ∷ ps) = pieces_after (text ++ piece_text p) ps ∙ append_assoc text (piece_text p) (flat_map piece_text ps)

pieces_joined : (ps : List Piece) → text_of ps ≡ flat_map piece_text ps
pieces_joined [] = refl
pieces_joined (p ∷ ps) = pieces_after (piece_text p) ps

-- all pieces were put
pub pieces_put : (old new : List ℕ) (ps : List Piece) (k : ℕ) → length ps ≤ k → new ≡ old ++ flat_map piece_text (take k ps) → new ≡ old ++ text_of ps
pieces_put old new ps k past so_far = so_far ∙ ap (λ qs. old ++ flat_map piece_text qs) (take_all k ps past) ∙ ap (λ t. old ++ t) (sym (pieces_joined ps))

-- ---- rows

pub adds_none : (how : Form) (out : List ℕ) → Adds how out out []
adds_none how out = sym (append-nil out)

pub adds_both : (how : Form) (out mid more : List ℕ) (xs ys : List Line) → Adds how out mid xs → Adds how mid more ys → Adds how out more (xs ++ ys)
adds_both how out mid more xs ys p q = grind (arith, joined, flat_map-append)

-- the same rows in other words
pub adds_same : (how : Form) (out more : List ℕ) (xs ys : List Line) → xs ≡ ys → Adds how out more xs → Adds how out more ys
adds_same how out more xs ys same is = subst (Adds how out more) same is

-- a row more, for one element more
pub row_more : {X : Type 0} (how : Form) (f : X → Line) (out mid more : List ℕ) (xs : List X) (k : ℕ) (x : X) → k < length xs → x ≡ get_or xs k x → Adds how out mid (map f (take k xs)) → Adds how mid more (f x ∷ []) → Adds how out more (map f (take (k + 1) xs))
row_more how f out mid more xs k x below at p q = grind (arith, common_steps, adds_same, map_more, adds_both)

-- rows more, for one element more
pub rows_more : {X : Type 0} (how : Form) (f : X → List Line) (out mid more : List ℕ) (xs : List X) (k : ℕ) (x : X) → k < length xs → x ≡ get_or xs k x → Adds how out mid (flat_map f (take k xs)) → Adds how mid more (f x) → Adds how out more (flat_map f (take (k + 1) xs))
rows_more how f out mid more xs k x below at p q = grind (arith, common_steps, adds_same, append-nil, flat_map-append, take_more, adds_both)

-- all elements were looked at
pub rows_all : {X : Type 0} (how : Form) (rows : List X → List Line) (out more : List ℕ) (xs : List X) (k : ℕ) → length xs ≤ k → Adds how out more (rows (take k xs)) → Adds how out more (rows xs)
rows_all how rows out more xs k past is = adds_same how out more _ _ (ap rows (take_all k xs past)) is

-- what follows if there is memory
pub then_ok : {V E P Q : Type 0} (answer : Result V E) → (P → Q) → OnOk answer P → OnOk answer Q
then_ok answer follows holds = grind arith

-- a section, if it has rows
pub section_more : {V E : Type 0} (how : Form) (answer : Result V E) (out begun listed more : List ℕ) (of_section : Section) (rows : ℕ) (lines : List Line) → Adds how out begun (edge rows (begin of_section)) → Adds how begun listed lines
    → OnOk answer (Adds how listed more (edge rows (finish of_section))) → OnOk answer (Adds how out more (in_section of_section rows lines))
section_more how answer out begun listed more of_section rows lines first middle last =
    then_ok answer (λ tail. adds_both how out listed more _ _ (adds_both how out begun listed _ _ first middle) tail) last

-- the rows of a target
pub target_more : {V E : Type 0} (how : Form) (answer : Result V E) (out begun listed more : List ℕ) (xs ys zs : List Line) → Adds how out begun xs → Adds how begun listed ys → OnOk answer (Adds how listed more zs) → OnOk answer (Adds how out more (xs ++ (ys ++ zs)))
target_more how answer out begun listed more xs ys zs first middle last =
    then_ok answer (λ tail. adds_both how out begun more _ _ first (adds_both how begun listed more _ _ middle tail)) last

-- the same rows in other words, after an allocation that may fail
pub then_same : {V E : Type 0} (how : Form) (answer : Result V E) (out more : List ℕ) (xs ys : List Line) → xs ≡ ys → OnOk answer (Adds how out more xs) → OnOk answer (Adds how out more ys)
then_same how answer out more xs ys same is = then_ok answer (λ rows. adds_same how out more xs ys same rows) is

-- the locations of a target that are listed, by reference
pub adds_listed : {V E : Type 0} (how : Form) (answer : Result V E) (out more : List ℕ) (target : Broken) (all : Bool) (listed : List Place) (places shown : List (Bor Place)) → map (λ (p : Bor Place). p.now) places ≡ listed → shown ≡ shown_places all places
    → OnOk answer (Adds how out more (map (λ (p : Bor Place). place target p.now) shown)) → OnOk answer (Adds how out more (place_lines target (shown_places all listed)))
adds_listed how answer out more target all listed places shown same first is =
    then_same how answer out more _ _
    (sym (map-map (place target) (λ (p : Bor Place). p.now) shown) ∙ ap (λ ps. place_lines target (map (λ (p : Bor Place). p.now) ps)) first
    ∙ ap (place_lines target) (sym (shown-map (λ (p : Bor Place). p.now) all places) ∙ ap (shown_places all) same)) is

-- the targets by reference, each with its locations
pub adds_targets : {V E : Type 0} (how : Form) (answer : Result V E) (out more : List ℕ) (view : View) (targets : List Broken) (ordered : List (Bor Broken)) → map (λ (t : Bor Broken). t.now) ordered ≡ targets
    → OnOk answer (Adds how out more (flat_map (λ (t : Bor Broken). target_lines view t.now) ordered)) → OnOk answer (Adds how out more (flat_map (target_lines view) targets))
adds_targets how answer out more view targets ordered same is =
    then_same how answer out more _ _ (sym (flat_map-map (target_lines view) (λ (t : Bor Broken). t.now) ordered) ∙ ap (flat_map (target_lines view)) same) is

-- the links, then the targets without locations, then those of which not all locations are listed
pub adds_files : {V E : Type 0} (how : Form) (answer : Result V E) (out linked bare more : List ℕ) (all : Bool) (targets : List (Bor Broken)) (links : List Link)
    → map link_of links ≡ links_by_file all (map (λ (t : Bor Broken). t.now) targets) → Adds how out linked (map (λ (l : Link). link_line (link_of l)) links)
    → Adds how linked bare (flat_map (λ (t : Bor Broken). bare_lines t.now) targets) → OnOk answer (Adds how bare more (flat_map (λ (t : Bor Broken). rest_lines all t.now) targets))
    → OnOk answer (Adds how out more (file_lines all (map (λ (t : Bor Broken). t.now) targets)))
adds_files how answer out linked bare more all targets links same first second third =
    let of = λ (t : Bor Broken). t.now in
    let both = adds_both how out linked bare _ _
    (adds_same how out linked _ _ (sym (map-map link_line link_of links) ∙ ap (map link_line) same) first)
    (adds_same how linked bare _ _ (sym (flat_map-map bare_lines of targets)) second) in
    then_ok answer (λ rest. adds_both how out bare more _ _ both (adds_same how bare more _ _ (sym (flat_map-map (rest_lines all) of targets)) rest)) third

-- what is put for one element more
pub flat_more : {X T : Type 0} (f : X → List T) (old mid new : List T) (xs : List X) (k : ℕ) (x : X) → k < length xs → x ≡ get_or xs k x → mid ≡ old ++ flat_map f (take k xs) → new ≡ mid ++ f x → new ≡ old ++ flat_map f (take (k + 1) xs)
flat_more f old mid new xs k x below at so_far more =
    joined old mid new (flat_map f (take k xs)) (f x) so_far more
    ∙ ap (λ t. old ++ t) (ap (λ t. flat_map f (take k xs) ++ t) (sym (append-nil (f x))) ∙ sym (flat_map-append f (take k xs) (x ∷ [])) ∙ ap (flat_map f) ((λ i. take k xs ++ at i ∷ []) ∙ sym (take_more xs k x below)))
