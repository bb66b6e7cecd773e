use Rattle.std.proofs.Common.{rules}
use Rattle.kinds.proofs.Hex.{hex_written}
use Rattle.kinds.proofs.disc.DiscDisplay.fmt.Goals as goal

pub returns-clause-writes : goal.returns-clause-writes
returns-clause-writes g c = search (rules, hex_written)
