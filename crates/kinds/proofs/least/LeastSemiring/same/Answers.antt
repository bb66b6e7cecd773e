use Rattle.std.proofs.Common.{sym, ◌∙◌}
use Rattle.kinds.specs.Laws.Equal.{least_identity}
use Rattle.kinds.proofs.least.LeastSemiring.same.Goals as goal

pub returns-clause-yes : goal.returns-clause-yes
returns-clause-yes c e = least_identity.sound c.args.self c.args.other (sym c.eq.ensures ∙ e)
