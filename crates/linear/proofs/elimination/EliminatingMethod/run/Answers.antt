use Rattle.std.proofs.Common.{rules}
use Rattle.linear.proofs.Steps.{leaves_back}
use Rattle.linear.proofs.elimination.EliminatingMethod.run.Goals as goal

pub returns : goal.returns
returns g c =
    leaves_back g.K.Semiring.algebra _ c.remove_all.new.self c.put_back.new.self _ _ (search rules) (search rules) c.remove_all.ensures c.put_back.ensures.least c.put_back.ensures.only
