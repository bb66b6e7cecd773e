use Rattle.std.proofs.Common.{ap, arith}
use Rattle.kinds.specs.declared.weights.Multiples.{Multiples}
use Rattle.kinds.specs.Disc.{star, stations}
use Rattle.kinds.specs.Laws.Disc.{same_bits}
use Rattle.kinds.proofs.disc.DiscSemiring.star.Goals as goal

pub invariant_of-result : goal.invariant_of-result
unfolding stations
invariant_of-result c = record { ok = omega (arith, ap (λ (m : Multiples). m.bits) c.closing.ensures, (star c.args.self).ok) }

pub returns : goal.returns
unfolding stations
returns c = same_bits _ _ (ap (λ (m : Multiples). m.bits) c.closing.ensures)
