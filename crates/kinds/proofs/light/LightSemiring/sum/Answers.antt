use Rattle.std.proofs.Common.{rules}
use Rattle.kinds.proofs.Order.{light_max}
use Rattle.kinds.proofs.light.LightSemiring.sum.Goals as goal

pub returns : goal.returns
returns c = search (rules, light_max)
