use Rattle.std.proofs.Common.{ℕ, ◌∙◌, ap, fold, rules}
use Rattle.std.proofs.lemmas.Iterator.{YieldsList-from_slice}
use Rattle.std.proofs.lemmas.Iterator.Consumers.{fold_from_yields_List}
use Rattle.linear.specs.System.{entry_at}
use Rattle.equations.proofs.Slices.{called_folded}
use Rattle.equations.proofs.called.Goals as goal

pub returns : goal.returns
returns g c =
    let k = g.K.Semiring.algebra in
    let v = entry_at k c.args.values.now in
    fold_from_yields_List _ (λ a (call : ℕ). k.times a (v call)) c.one.result c.fold.result c.fold.ensures.ran (YieldsList-from_slice c.args.calls.now (search rules)) (λ a x b q h. search rules)
    ∙ ap (λ a. fold (λ b (call : ℕ). k.times b (v call)) a c.args.calls.now) c.one.ensures
    ∙ called_folded k v c.args.calls.now
