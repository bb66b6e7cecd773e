use Rattle.std.proofs.Common.{◌≡◌, Some, ap, ◌∙◌, List, rules, tests}
use Rattle.std.proofs.lemmas.Iterator.Search.{find_from_yields_List}
use Rattle.std.specs.Prelude.{find, reverse}
use Rattle.std.specs.Option.{option_copied}
use Rattle.kinds.specs.declared.weights.Multiples.{Multiples}
use Rattle.kinds.specs.Disc.{entry, divisor}
use Rattle.kinds.proofs.Table.{fits, last_is, backwards}
use Rattle.kinds.proofs.weights.Disc.closing.Goals as goal
use Rattle.kinds.proofs.weights.Disc.closing.Goals.{After-copied}

last : (c : After-copied) → c.copied.result ≡ Some (entry (divisor c.args.self))
last c =
    let found : option_copied c.rfind.result ≡ find (fits c.args.self) (reverse c.divisors.result) =
    find_from_yields_List (fits c.args.self) _ _ c.rfind.result c.rfind.ensures.ran (backwards c.divisors.result cc) (λ x b q k. search (rules, tests)) in
    c.copied.ensures ∙ found ∙ ap (λ (es : List Multiples). find (fits c.args.self) (reverse es)) c.divisors.ensures ∙ last_is c.args.self

pub unwrap-requires : goal.unwrap-requires
unwrap-requires c = search (rules, last (goal.at.unwrap-requires c).After-copied)

pub returns : goal.returns
returns c = cc (last (goal.at.returns c).After-copied)
