use Rattle.std.proofs.Common.{arith}
use Rattle.kinds.proofs.Stations.{only_bits, lone_below}
use Rattle.kinds.proofs.weights.Disc.only.Goals as goal

pub invariant_of-result : goal.invariant_of-result
invariant_of-result c = record { ok = omega (arith, c.bit.ensures, lone_below c.args.station) }

pub returns : goal.returns
returns c = only_bits c.args.station _ c.bit.ensures
