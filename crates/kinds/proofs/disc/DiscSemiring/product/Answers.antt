use Rattle.std.proofs.Common.{refl, ◌∙◌, ap, fold, rules, tests}
use Rattle.std.specs.List.{range_with_len}
use Rattle.std.proofs.lemmas.Iterator.{YieldsList-from_range}
use Rattle.std.proofs.lemmas.Iterator.Consumers.{fold_from_yields_List}
use Rattle.kinds.proofs.Turns.{step, gathered_all}
use Rattle.kinds.proofs.disc.DiscSemiring.product.Goals as goal

pub returns : goal.returns
returns c =
    fold_from_yields_List _ (step c.args.self c.args.other) c.zero.result c.fold.result c.fold.ensures.ran (YieldsList-from_range 0 24 24 refl refl) (λ a x b q h. search (rules, tests))
    ∙ ap (λ d. fold (step c.args.self c.args.other) d (range_with_len 0 24)) c.zero.ensures
    ∙ gathered_all c.args.self c.args.other
