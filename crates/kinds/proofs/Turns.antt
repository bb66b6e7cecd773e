-- The product, one station of the first set after the other.
use Rattle.std.specs.Prelude.{fold}
use Rattle.std.specs.List.{range_with_len}
use Rattle.std.proofs.Common.{zero as none, suc, ◌≤◌, cond, add-zero, ◌≡◌, ℕ, ◌+◌, ◌-◌, ◌%◌, ◌<◌, Bool, true, false, ◌&&◌, ◌||◌, eqb, sym, refl, ap, ◌∙◌, ap₂, add-one, arith}
use mathlib.Core.Path.{fun_ext}
use Rattle.std.proofs.Math.Bool.{or_comm}
use Rattle.std.specs.Cmp.{both_ways}
use Rattle.std.proofs.lemmas.Bool.{false≢true, and_parts, and_from, eqb-true, eq-eqb}
use Rattle.kinds.specs.Bits.{any}
use Rattle.kinds.specs.declared.weights.Disc.{Disc}
use Rattle.kinds.specs.Disc.{has, stations, zero, plus, times, turned}
use Rattle.kinds.specs.Laws.Bits.{any_gives, gives_any}
use Rattle.kinds.specs.Laws.Disc.{same_stations, has_stations, has_plus}

-- t is (s + u) mod 24 of some u of b, where s is a station of a
abbrev from : Disc → Disc → ℕ → ℕ → Bool
from a b t s = any 24 (λ u. has a s && has b u && eqb ((s + u) % 24) t)

-- the product with the stations of a below n
abbrev pub partial : Disc → Disc → ℕ → Disc
partial a b n = stations (λ t. any n (from a b t))

pub partial_none : (a b : Disc) → zero ≡ partial a b 0
unfolding any stations
partial_none a b = refl

from_turned : (a b : Disc) (t s : ℕ) → s < 24 → t < 24 → has a s ≡ true → from a b t s ≡ has b ((t + 24 - s) % 24)
from_turned a b t s hs ht there =
    both_ways _ _
    (λ e.
    let (u, hu, eu) = any_gives 24 (λ u. has a s && has b u && eqb ((s + u) % 24) t) e in
    let (two, last) = and_parts (has a s && has b u) (eqb ((s + u) % 24) t) eu in
    let at : (t + 24 - s) % 24 ≡ u = omega (arith, eqb-true _ _ last) in
    ap (has b) at ∙ (and_parts (has a s) (has b u) two).1)
    (λ e.
    gives_any 24 (λ u. has a s && has b u && eqb ((s + u) % 24) t) ((t + 24 - s) % 24) (omega arith)
    (and_from (has a s && has b ((t + 24 - s) % 24)) (eqb ((s + (t + 24 - s) % 24) % 24) t)
    (and_from (has a s) (has b ((t + 24 - s) % 24)) there e) (eq-eqb _ _ (omega arith))))

from_none : (a b : Disc) (t s : ℕ) → has a s ≡ false → from a b t s ≡ false
from_none a b t s off =
    both_ways _ _
    (λ e.
    let (u, hu, eu) = any_gives 24 (λ u. has a s && has b u && eqb ((s + u) % 24) t) e in
    let (two, last) = and_parts (has a s && has b u) (eqb ((s + u) % 24) t) eu in
    sym off ∙ (and_parts (has a s) (has b u) two).0)
    (λ e. absurd (false≢true e))

any_more : (n : ℕ) (p : ℕ → Bool) → any (n + 1) p ≡ (p n || any n p)
unfolding any
any_more n p = ap (λ (m : ℕ). any m p) (add-one n)

-- the next station stands in a: its turn of b is added
pub partial_turn : (a b : Disc) (s : ℕ) → s < 24 → has a s ≡ true → plus (partial a b s) (turned s b) ≡ partial a b (s + 1)
partial_turn a b s h there =
    same_stations _ _
    (λ t ht. has_plus (partial a b s) (turned s b) t ht
    ∙ ap₂ ◌||◌ (has_stations (λ t. any s (from a b t)) t ht) (has_stations (λ t. has b ((t + 24 - s) % 24)) t ht ∙ sym (from_turned a b t s h ht there))
    ∙ or_comm (any s (from a b t)) (from a b t s) ∙ sym (any_more s (from a b t)) ∙ sym (has_stations (λ t. any (s + 1) (from a b t)) t ht))

-- it does not: nothing is added
pub partial_skip : (a b : Disc) (s : ℕ) → has a s ≡ false → partial a b s ≡ partial a b (s + 1)
partial_skip a b s off =
    ap stations (fun_ext (λ t. sym (any_more s (from a b t) ∙ ap (λ x. x || any s (from a b t)) (from_none a b t s off))))

-- a station of a adds its turn of b
abbrev pub step : Disc → Disc → Disc → ℕ → Disc
step a b all s = cond (has a s) (plus all (turned s b)) all

gathered : (a b : Disc) (n s : ℕ) → s + n ≤ 24 → fold (step a b) (partial a b s) (range_with_len s n) ≡ partial a b (s + n)
gathered a b none s h = ap (partial a b) (sym (add-zero s))
gathered a b (suc n) s h = go (has a s) refl (gathered a b n (s + 1) (omega arith))
  where
    go : (x : Bool) → has a s ≡ x → fold (step a b) (partial a b (s + 1)) (range_with_len (s + 1) n) ≡ partial a b (s + 1 + n)
        → fold (step a b) (cond x (plus (partial a b s) (turned s b)) (partial a b s)) (range_with_len (s + 1) n) ≡ partial a b (s + suc n)
    go true there later = ap (λ d. fold (step a b) d (range_with_len (s + 1) n)) (partial_turn a b s (omega arith) there) ∙ later ∙ ap (partial a b) (omega arith)
    go false off later = ap (λ d. fold (step a b) d (range_with_len (s + 1) n)) (partial_skip a b s off) ∙ later ∙ ap (partial a b) (omega arith)

pub gathered_all : (a b : Disc) → fold (step a b) zero (range_with_len 0 24) ≡ times a b
gathered_all a b = ap (λ d. fold (step a b) d (range_with_len 0 24)) (partial_none a b) ∙ gathered a b 24 0 (omega arith)
