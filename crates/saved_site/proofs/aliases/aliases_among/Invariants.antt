use Rattle.saved_site.specs.Aliases.{AreAliases}
use Rattle.saved_site.proofs.aliases.aliases_among.Given as goal

abbrev pub invariant-aliases : goal.invariant-aliases
invariant-aliases l = AreAliases l.pages l.all.items
