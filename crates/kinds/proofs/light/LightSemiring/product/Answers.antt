use Rattle.std.proofs.Common.{rules}
use Rattle.kinds.proofs.Order.{light_min}
use Rattle.kinds.proofs.light.LightSemiring.product.Goals as goal

pub returns : goal.returns
returns c = search (rules, light_min)
