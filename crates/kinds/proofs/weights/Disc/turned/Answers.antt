use Rattle.std.proofs.Common.{refl, arith}
use Rattle.kinds.proofs.Stations.{around_below, turned_is}
use Rattle.kinds.proofs.weights.Disc.turned.Goals as goal

pub overflow_cast-result : goal.overflow_cast-result
overflow_cast-result c = record { fits = omega (arith, around_below c.args.self c.from.result c.args.by c.from.ensures c.requires) }

pub invariant_of-result : goal.invariant_of-result
invariant_of-result c = record { ok = around_below c.args.self c.from.result c.args.by c.from.ensures c.requires }

pub returns : goal.returns
returns c = turned_is c.args.self _ c.from.result c.args.by c.from.ensures c.requires refl
