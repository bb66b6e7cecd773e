use Rattle.std.proofs.Common.{sym, ◌∙◌}
use Rattle.kinds.specs.Laws.Equal.{light_identity}
use Rattle.kinds.proofs.light.LightSemiring.same.Goals as goal

pub returns-clause-yes : goal.returns-clause-yes
returns-clause-yes c e = light_identity.sound c.args.self c.args.other (sym c.eq.ensures ∙ e)
