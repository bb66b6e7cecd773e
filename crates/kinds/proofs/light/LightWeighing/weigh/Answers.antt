use Rattle.std.proofs.Common.{sym, ap, ◌∙◌}
use Rattle.kinds.specs.Light.{light}
use Rattle.kinds.specs.Laws.Light.{light_laws}
use Rattle.kinds.proofs.light.LightWeighing.weigh.Goals as goal

pub returns-clause-alone : goal.returns-clause-alone
returns-clause-alone c = c.of.ensures ∙ ap light c.from.ensures ∙ sym (light_laws.times_one _)
