use Rattle.std.proofs.Common.{refl}
use Rattle.kinds.proofs.Stations.{zero_is}
use Rattle.kinds.proofs.disc.DiscSemiring.zero.Goals as goal

pub returns : goal.returns
returns c = zero_is _ refl
