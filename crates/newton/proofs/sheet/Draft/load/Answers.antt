use Rattle.std.proofs.Common.{Ok, sym, ◌∙◌, subst, subst₂, inr}
use Rattle.script.specs.Feed.{Gives}
use Rattle.newton.specs.Loading.{Loads}
use Rattle.newton.proofs.Feeding.{gave}
use Rattle.newton.proofs.sheet.Draft.load.Goals as goal

pub loop-item-preserved : goal.loop-item-preserved
loop-item-preserved g c =
    let before = g.S.Source.feed c.loop-item.source in
    let after = g.S.Source.feed c.next.new.self in
    let told = c.in_ok-item.ensures in
    let item = c.in-Some.item in
    let given = gave before.items before.ending item after (subst (λ o. Gives before (Ok o) after) c.in-Some.is told.gives) in (
      λ d bs ws r rest.
          c.loop-item.invariant.0 d bs ws r
          (subst₂ (λ items ending. Loads g.W.Weighing.weight items ending c.loop-item.self c.loop-item.branches c.loop-item.weights d bs ws r) (sym given.0) (sym given.1)
          (inr (c.take_in.new.self, c.take_in.new.branches, c.take_in.new.weights, c.in_ok-take_in.ensures, rest))),
      told.legend ∙ c.loop-item.invariant.1,
    )
