-- The results of a report as SARIF.
use Rattle.check_report.proofs.Prelude.{Bor, Global, String, string_bytes, ◌≡◌, List, [], ◌∷◌, ◌++◌, map, refl, sym, ap, ◌∙◌, append_assoc, flat_map, flat_map-append, flat_map-map}
use Rattle.json.specs.Json.{Json, array}
use Rattle.json.specs.Token.{begin_array, end_array}
use Rattle.json.specs.Tree.{items_tokens, json_tokens}
use Rattle.check_report.specs.Order.{link_of}
use Rattle.check_report.specs.Sarif.{bare_result, items_of, link_result, unlisted_result}
use Rattle.check_report.specs.declared.ordered.Link.{Link}
use Rattle.check_report.specs.declared.value.Broken.{Broken}
use Rattle.check_report.specs.declared.value.Contents.{Contents}
use Rattle.check_report.specs.declared.value.Place.{Place}

items_written : (jsons : List Json) → items_tokens (items_of jsons) ≡ flat_map json_tokens jsons ++ end_array ∷ []
items_written [] = refl
items_written (json ∷ jsons) = ap (λ ts. json_tokens json ++ ts) (items_written jsons) ∙ sym (append_assoc (json_tokens json) (flat_map json_tokens jsons) (end_array ∷ []))

-- what the program writes of links by reference
pub links_written : (contents : Contents) (links : List Link) (all : List (Broken × Place)) → map link_of links ≡ all
    → flat_map (λ (l : Link). json_tokens (link_result contents (link_of l))) links ≡ flat_map json_tokens (map (link_result contents) all)
links_written contents links all same =
    sym (flat_map-map (λ (l : Broken × Place). json_tokens (link_result contents l)) link_of links) ∙ ap (flat_map (λ (l : Broken × Place). json_tokens (link_result contents l))) same
    ∙ sym (flat_map-map json_tokens (link_result contents) all)

-- what the program writes of targets by reference
pub bare_written : (bare : List (Bor Broken)) (targets : List Broken) → map (λ (t : Bor Broken). t.now) bare ≡ targets
    → flat_map (λ (t : Bor Broken). json_tokens (bare_result t.now)) bare ≡ flat_map json_tokens (map bare_result targets)
bare_written bare targets same =
    sym (flat_map-map (λ (b : Broken). json_tokens (bare_result b)) (λ (t : Bor Broken). t.now) bare) ∙ ap (flat_map (λ (b : Broken). json_tokens (bare_result b))) same
    ∙ sym (flat_map-map json_tokens bare_result targets)

-- what the program writes is the array
pub results_written : (links bare : List Json) (documents : List (String Global))
    → (begin_array ∷ [] ++ flat_map json_tokens links ++ flat_map json_tokens bare ++ flat_map (λ (t : String Global). json_tokens (unlisted_result (string_bytes t))) documents) ++ end_array ∷ []
    ≡ json_tokens (array (items_of (links ++ bare ++ map (λ (t : String Global). unlisted_result (string_bytes t)) documents)))
results_written links bare documents =
    let of_document = λ (t : String Global). unlisted_result (string_bytes t) in
    ap (λ ts. begin_array ∷ (ts ++ end_array ∷ []))
    ((λ i. flat_map json_tokens links ++ flat_map json_tokens bare ++ sym (flat_map-map json_tokens of_document documents) i)
    ∙ ap (λ ts. ts ++ flat_map json_tokens (map of_document documents)) (sym (flat_map-append json_tokens links bare))
    ∙ sym (flat_map-append json_tokens (links ++ bare) (map of_document documents)))
    ∙ ap (λ ts. begin_array ∷ ts) (sym (items_written (links ++ bare ++ map of_document documents)))
