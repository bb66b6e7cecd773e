use Rattle.std.proofs.Common.{sym, ◌∙◌}
use Rattle.kinds.specs.Laws.Star.{disc_laws}
use Rattle.kinds.proofs.disc.DiscWeighing.weigh.Goals as goal

pub returns-clause-alone : goal.returns-clause-alone
returns-clause-alone c = c.only.ensures ∙ sym (disc_laws.times_one _)
