use Rattle.std.proofs.Common.{◌<◌, ◌≤◌, sym, subst, arith}
use Rattle.std.specs.List.{AllByRecursion}
use Rattle.newton.proofs.Above.{raised_within}
use Rattle.newton.proofs.sheet.Draft.enter.Goals as goal

pub invariant_of-self : goal.invariant_of-self
invariant_of-self g c =
    let asked = c.in_ok-may_enter.ensures in
    let calls = subst (AllByRecursion (λ m. m < 32)) (sym c.counted_calls.ensures) asked.1.0.1 in
    let first : c.raised.result ≤ 32 = omega (arith, c.raised.ensures, asked.1.0.0, c.args.self.now.size.routines) in
    record {
      routines = raised_within 32 c.raised.result c.raised-2.result c.counted_calls.result.now c.raised-2.ensures first calls;
      branches = omega (arith, asked.1.1.1.0.0);
    }
