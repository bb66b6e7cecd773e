use Rattle.std.proofs.Common.{refl, ap}
use Rattle.kinds.specs.Bits.{any}
use Rattle.kinds.specs.Disc.{stations, greatest}
use Rattle.kinds.specs.declared.weights.Most.TheVariants.{Seconds}
use Rattle.kinds.specs.Laws.Alike.{alike}
use Rattle.kinds.specs.Laws.Disc.{same_bits}
use Rattle.kinds.proofs.figures.figures_stand.Goals as goal

pub returns : goal.returns
unfolding stations greatest any
returns c = (refl, (refl, (ap Seconds (alike _ _ refl), (refl, (refl, (same_bits _ _ refl, (refl, (refl, tt))))))))
