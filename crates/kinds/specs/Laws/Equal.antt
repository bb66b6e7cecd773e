-- Weights are equal exactly where the derived `==` says so.
use Rattle.std.specs.Prelude.{◌≡◌, true, refl}
use Rattle.std.proofs.Common.{ap, eqb-true}
use Rattle.semiring.specs.Algebra.{IsIdentity}
use Rattle.kinds.specs.declared.weights.Least.{Least}
use Rattle.kinds.specs.declared.weights.Least.TheVariants as least
use Rattle.kinds.specs.declared.weights.Most.{Most}
use Rattle.kinds.specs.declared.weights.Most.TheVariants as most
use Rattle.kinds.specs.Laws.Alike.{alike}
use Rattle.kinds.specs.Laws.Disc.{same_bits}
use Rattle.kinds.specs.Laws.Light.{same_level}
use Rattle.kinds.specs.contracts.weights.DiscPartialEq.TheImpl as disc_eq
use Rattle.kinds.specs.contracts.weights.DiscEq.TheImpl.Laws as disc_is
use Rattle.kinds.specs.contracts.weights.LeastPartialEq.TheImpl as least_eq
use Rattle.kinds.specs.contracts.weights.LeastEq.TheImpl.Laws as least_is
use Rattle.kinds.specs.contracts.weights.LightPartialEq.TheImpl as light_eq
use Rattle.kinds.specs.contracts.weights.LightEq.TheImpl.Laws as light_is
use Rattle.kinds.specs.contracts.weights.MostPartialEq.TheImpl as most_eq
use Rattle.kinds.specs.contracts.weights.MostEq.TheImpl.Laws as most_is

pub least_identity : IsIdentity (least_eq.ghosts).eq
least_identity = record { sound = same; reflexive = least_is.laws-law.refl }
  where
    same : (a b : Least) → (least_eq.ghosts).eq a b ≡ true → a ≡ b
    same least.Never least.Never e = refl
    same least.Never (least.Seconds b) e = cc
    same (least.Seconds a) least.Never e = cc
    same (least.Seconds a) (least.Seconds b) e = ap least.Seconds (alike a b (eqb-true _ _ e))

pub most_identity : IsIdentity (most_eq.ghosts).eq
most_identity = record { sound = same; reflexive = most_is.laws-law.refl }
  where
    same : (a b : Most) → (most_eq.ghosts).eq a b ≡ true → a ≡ b
    same most.Never most.Never e = refl
    same most.Never (most.Seconds b) e = cc
    same (most.Seconds a) most.Never e = cc
    same (most.Seconds a) (most.Seconds b) e = ap most.Seconds (alike a b (eqb-true _ _ e))

pub light_identity : IsIdentity (light_eq.ghosts).eq
light_identity = record { sound = λ a b e. same_level a b (eqb-true _ _ e); reflexive = light_is.laws-law.refl }

pub disc_identity : IsIdentity (disc_eq.ghosts).eq
disc_identity = record { sound = λ a b e. same_bits a b (eqb-true _ _ e); reflexive = disc_is.laws-law.refl }
