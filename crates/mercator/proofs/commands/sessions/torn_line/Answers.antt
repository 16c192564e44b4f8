use Rattle.std.proofs.Common.{◌≡◌, [], ◌∷◌, ◌++◌, codes, string_bytes, sym, ap, ◌∙◌, append_assoc}
use Rattle.mercator.proofs.commands.sessions.torn_line.Goals as goal

pub returns : goal.returns
returns c =
    let name = string_bytes c.in_ok-name.name in
    let rest : name ++ (codes ": incomplete last line removed" ++ 10 ∷ []) ≡ (name ++ codes ": incomplete last line removed") ++ 10 ∷ [] = sym (append_assoc name (codes ": incomplete last line removed") (10 ∷ [])) in
    c.in_ok-writeln.ensures.bytes ∙ ap (λ t. t ++ (codes "mercator: log " ++ (name ++ (codes ": incomplete last line removed" ++ 10 ∷ [])))) c.new-line.ensures.bytes ∙ ap (λ r. codes "mercator: log " ++ r) rest
    ∙ ap (λ n. (codes "mercator: log " ++ n ++ codes ": incomplete last line removed") ++ 10 ∷ []) c.in_ok-name.ensures
