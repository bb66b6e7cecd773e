use Rattle.std.proofs.Common.{refl}
use lib.Bits.{or_lt}
use Rattle.kinds.proofs.Stations.{union_is}
use Rattle.kinds.proofs.disc.DiscSemiring.sum.Goals as goal

pub invariant_of-result : goal.invariant_of-result
invariant_of-result c = record { ok = or_lt 24 _ _ c.args.self.ok c.args.other.ok }

pub returns : goal.returns
returns c = union_is c.args.self c.args.other _ refl
