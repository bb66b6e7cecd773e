use Rattle.std.proofs.Common.{div-one}
use Rattle.kinds.proofs.Hex.{hex_back}
use Rattle.kinds.proofs.weights.Disc.digits.Goals as goal

pub returns-clause-back : goal.returns-clause-back
returns-clause-back c = cc (div-one c.args.self.bits, hex_back c.args.self.bits c.args.self.ok)
