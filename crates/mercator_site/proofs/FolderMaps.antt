-- Maps and their folders, one by one.
use Rattle.mercator_site.proofs.Prelude.{◌≡◌, ℕ, ◌+◌, ◌∙◌, ap, false, get_or, length, map, string_bytes, subst, sym, take, List, [], ◌∷◌, ◌++◌, Ok, Result, resolve}
use Rattle.std.specs.Prelude.{◌<◌, All, Bool}
use Rattle.std.proofs.lemmas.List.{map-append, take_more}
use Rattle.std.proofs.lemmas.List.Elements.{All-push}
use Rattle.crawl_keys.specs.declared.error.KeyError.{KeyError}
use Rattle.mercator_site.specs.Maps.{AreMapped, AreMapsAt, IsMapped, folder_in, link_in}
use Rattle.mercator_site.specs.declared.mapped.MapNames.{MapNames}
use Rattle.mercator_site.specs.declared.mapped.MappedFolder.{MappedFolder}
use Rattle.mercator_site.specs.declared.maps.FolderMap.{FolderMap}
use Rattle.site_files.specs.declared.rules.Rules.{Rules}
use Rattle.site_files.specs.Below.{is_below}

-- one map more
pub map_more : (top : List ℕ) (rooted : Bool) (texts : List (List ℕ)) (text : List ℕ) (maps more : List FolderMap) (m : FolderMap) → AreMapsAt top rooted texts maps
    → resolve top (link_in rooted text) ≡ Ok m.prefix → string_bytes m.folder ≡ folder_in text → is_below top m.prefix ≡ false → more ≡ maps ++ m ∷ [] → AreMapsAt top rooted (texts ++ text ∷ []) more
map_more top rooted texts text maps more m were resolved named out is =
    let url : List ℕ → Result (List ℕ) KeyError = λ t. resolve top (link_in rooted t) in
    let prefix : FolderMap → Result (List ℕ) KeyError = λ x. Ok x.prefix in
    let folder : FolderMap → List ℕ = λ x. string_bytes x.folder in
    subst (λ ms. AreMapsAt top rooted (texts ++ text ∷ []) ms) (sym is) (record {
      prefixes =
          map-append url texts (text ∷ []) ∙ ap (λ us. us ++ url text ∷ []) were.prefixes ∙ ap (λ u. map prefix maps ++ u ∷ []) resolved
          ∙ sym (map-append prefix maps (m ∷ []));
      folders =
          map-append folder_in texts (text ∷ []) ∙ ap (λ fs. fs ++ folder_in text ∷ []) were.folders ∙ ap (λ f. map folder maps ++ f ∷ []) (sym named)
          ∙ sym (map-append folder maps (m ∷ []));
      outside = All-push (λ x. is_below top x.prefix ≡ false) maps m were.outside out;
    })

-- one folder more
zip_push : (rules : Rules) (maps : List FolderMap) (folders : List MappedFolder) (m : FolderMap) (folder : MappedFolder) → AreMapped rules maps folders → IsMapped rules m folder → AreMapped rules (maps ++ m ∷ []) (folders ++ folder ∷ [])
zip_push rules [] [] m folder were is = (is, tt)
zip_push rules [] (g ∷ folders) m folder were is = absurd were
zip_push rules (n ∷ maps) [] m folder were is = absurd were
zip_push rules (n ∷ maps) (g ∷ folders) m folder were is = (were.0, zip_push rules maps folders m folder were.1 is)

pub mapped_more : (rules : Rules) (names : List MapNames) (i : ℕ) (one : MapNames) (folders more : List MappedFolder) (folder : MappedFolder) → i < length names → one ≡ get_or names i one
    → AreMapped rules (map (λ n. n.map.now) (take i names)) folders → IsMapped rules one.map.now folder → more ≡ folders ++ folder ∷ [] → AreMapped rules (map (λ n. n.map.now) (take (i + 1) names)) more
mapped_more rules names i one folders more folder below at were mapped is =
    let of : MapNames → FolderMap = λ n. n.map.now in
    let steps : map of (take (i + 1) names) ≡ map of (take i names) ++ of one ∷ [] =
    ap (map of) (take_more names i one below) ∙ map-append of (take i names) (get_or names i one ∷ []) ∙ ap (λ n. map of (take i names) ++ of n ∷ []) (sym at) in
    subst (λ ms. AreMapped rules ms more) (sym steps)
    (subst (λ fs. AreMapped rules (map of (take i names) ++ of one ∷ []) fs) (sym is) (zip_push rules (map of (take i names)) folders (of one) folder were mapped))
