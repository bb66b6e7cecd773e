use Rattle.std.proofs.Common.{length}
use Rattle.equations.proofs.+others.Given as goal

abbrev pub decreases-others : goal.decreases-others
decreases-others g l = length l.calls.now
