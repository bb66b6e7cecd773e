use Rattle.std.proofs.Common.{arith, ◌≡◌, length}
use Rattle.std.proofs.lemmas.List.{length_push}
use Rattle.std.proofs.lemmas.Slice.Zip.{zip_turn, zip_end}
use Rattle.equations.specs.Held.{no_branch}
use Rattle.equations.proofs.Slices.{held_taken, held_passed}
use Rattle.equations.proofs.rules.Rules.over.Goals as goal

pub loop-branch-preserved-then-from-r : goal.loop-branch-preserved-then-from-r
loop-branch-preserved-then-from-r g c = λ worth agrees.
    let k = g.K.Semiring.algebra in
    let branches = c.args.self.now.branches.now in
    let weights = c.args.self.now.weights.now in
    let turn = zip_turn branches weights c.loop-branch.yielded c.into_iter-branch-iterator.result c.loop-branch.branch-iterator c.next.new.self _ (cc) (cc) c.loop-branch.yielded_by _ c.in-Some.is c.next.ensures.steps in
    rw length_push (held_taken k worth c.args.r branches weights (length c.loop-branch.yielded) _ _ _ _ _ _ (turn.2 no_branch) (turn.3 k.zero) (c.loop-branch.invariant worth agrees) (rw c.from.ensures at c.if-from-r.true) (agrees _ c.worth.result (record { shown = c.counted_calls.result; shows = c.counted_calls.ensures; says = record { met = c.worth.ensures } })) c.product.ensures c.sum-all.ensures)

pub loop-branch-preserved : goal.loop-branch-preserved
loop-branch-preserved g c = λ worth agrees.
    let k = g.K.Semiring.algebra in
    let branches = c.args.self.now.branches.now in
    let weights = c.args.self.now.weights.now in
    let turn = zip_turn branches weights c.loop-branch.yielded c.into_iter-branch-iterator.result c.loop-branch.branch-iterator c.next.new.self _ (cc) (cc) c.loop-branch.yielded_by _ c.in-Some.is c.next.ensures.steps in
    rw length_push (held_passed k worth c.args.r branches weights (length c.loop-branch.yielded) _ _ (turn.2 no_branch) (c.loop-branch.invariant worth agrees) (rw c.from.ensures at c.if-from-r.false))

pub returns : goal.returns
returns g c = λ worth agrees.
    let k = g.K.Semiring.algebra in
    let branches = c.args.self.now.branches.now in
    let weights = c.args.self.now.weights.now in
    let end = zip_end branches weights c.loop-branch.yielded c.into_iter-branch-iterator.result c.loop-branch.branch-iterator c.next.new.self _ (cc) (cc) c.loop-branch.yielded_by c.in-None.is c.next.ensures.steps in
    let all : length c.loop-branch.yielded ≡ length branches = omega arith in
    rw all at (c.loop-branch.invariant worth agrees)
