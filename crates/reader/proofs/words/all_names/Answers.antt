use Rattle.std.proofs.Common.{refl, rules, tests}
use Rattle.std.proofs.lemmas.Iterator.Search.{all_from_yields_List}
use Rattle.reader.specs.Format.{is_name}
use Rattle.reader.proofs.Calling.{names_yielded}
use Rattle.reader.proofs.words.all_names.Goals as goal

pub returns : goal.returns
returns c =
    let s = c.split.ensures in
    all_from_yields_List is_name _ _ _ c.all.ensures.ran (names_yielded _ c.args.word.now s.rest s.done s.closure refl (λ b r q k. search (rules, tests))) (λ w r q k. search (rules, tests))
