-- Finite sums of weights of runs: zero is one, sums and products of them are, f of them is, and so
-- is a slope times one of them.
use Rattle.std.proofs.Common.{◌≡◌, ℕ, ◌<◌, cond, eqb, List, [], ◌∷◌, ◌++◌, map, sym, refl, ap, ◌∙◌, ap₂}
use mathlib.Core.List.{map-append, Memᴰ}
use Rattle.std.proofs.lemmas.Bool.{eqb-true, cond_both}
use Rattle.semiring.specs.Algebra.{Algebra}
use Rattle.semiring.specs.Sums.{total}
use Rattle.semiring.proofs.Dioid.{dioid}
use Rattle.semiring.proofs.Order
use Rattle.semiring.proofs.Sums
use Rattle.equations.specs.Rule.{Rule, Within}
use Rattle.equations.specs.Equations.{over, called, others, image, slope}
use Rattle.equations.specs.Run.{Runs, none, more, Run, weight}
use Rattle.equations.proofs.Over.{over_times}

-- s is the sum of the weights of a finite list of runs.
abbrev pub Finite : {K : Type 0} → Algebra K → List (Rule K) → List ℕ → K → Type 0
Finite k script qs s = (runs : List (Runs script qs)) × (s ≡ total k (map (weight k) runs))

-- A run in front of further runs.
abbrev pub beside : {K : Type 0} {script : List (Rule K)} {r : ℕ} {qs : List ℕ} → Run script r → Runs script qs → Runs script (r ∷ qs)
beside (more m children none) rest = more m children rest

module _ {K : Type 0} (k : Algebra K) where
  regrouped : (w a b : K) → k.times w (k.times a b) ≡ k.times (k.times w (k.times a k.one)) b
  regrouped w a b = ap (k.times w) (sym (ap (λ x. k.times x b) (k.laws.times_one a))) ∙ sym (k.laws.times_assoc w (k.times a k.one) b)

  pub beside_weight : {script : List (Rule K)} {r : ℕ} {qs : List ℕ} (run : Run script r) (rest : Runs script qs) → weight k (beside run rest) ≡ k.times (weight k run) (weight k rest)
  beside_weight (more {w} m children none) rest = regrouped w (weight k children) (weight k rest)

  pub single_weight : {script : List (Rule K)} {r : ℕ} {calls : List ℕ} {w : K} (m : Memᴰ (record { routine = r; calls = calls; weight = w }) script) (children : Runs script calls) → weight k (more m children none) ≡ k.times w (weight k children)
  single_weight {w} m children = ap (k.times w) (k.laws.times_one (weight k children))

module _ {K : Type 0} (k : Algebra K) (script : List (Rule K)) where
  pub finite_zero : {qs : List ℕ} → Finite k script qs k.zero
  finite_zero = ([], refl)

  pub finite_plus : {qs : List ℕ} {a b : K} → Finite k script qs a → Finite k script qs b → Finite k script qs (k.plus a b)
  finite_plus (xs, p) (ys, q) = (xs ++ ys, ap₂ k.plus p q ∙ sym (Sums.total_append k (map (weight k) xs) (map (weight k) ys)) ∙ ap (total k) (sym (map-append (weight k) xs ys)))

  -- Each run of a sum taken into a greater one, which weighs c times as much.
  pub finite_scale : {ps qs : List ℕ} {a : K} (c : K) (into : Runs script ps → Runs script qs) → ((run : Runs script ps) → weight k (into run) ≡ k.times c (weight k run)) → Finite k script ps a → Finite k script qs (k.times c a)
  finite_scale c into scaled (runs, e) = (map into runs, ap (k.times c) e ∙ each runs)
    where
      each : (us : List (Runs script _)) → k.times c (total k (map (weight k) us)) ≡ total k (map (weight k) (map into us))
      each [] = k.laws.times_zero c
      each (u ∷ us) = k.laws.times_plus c (weight k u) (total k (map (weight k) us)) ∙ ap₂ k.plus (sym (scaled u)) (each us)

  pub finite_times : {r : ℕ} {qs : List ℕ} {a b : K} → Finite k script (r ∷ []) a → Finite k script qs b → Finite k script (r ∷ qs) (k.times a b)
  finite_times {r} {qs} {b} (runs, e) f = rw e (each runs)
    where
      each : (ts : List (Run script r)) → Finite k script (r ∷ qs) (k.times (total k (map (weight k) ts)) b)
      each [] = rw (Order.zero_times (dioid k) b) finite_zero
      each (t ∷ ts) =
          rw (Order.plus_times (dioid k) (weight k t) (total k (map (weight k) ts)) b) (finite_plus (finite_scale (weight k t) (beside t) (beside_weight k t) f) (each ts))

  -- The sum, over the rules of r, of the weight times a finite sum of runs of the calls.
  pub finite_over : (g : List ℕ → K) → ((rule : Rule K) → Memᴰ rule script → Finite k script rule.calls (g rule.calls)) → (r : ℕ) → Finite k script (r ∷ []) (over k script g r)
  finite_over g each r = go script (λ rule m. m)
    where
      go : (rules : List (Rule K)) → ((rule : Rule K) → Memᴰ rule rules → Memᴰ rule script) → Finite k script (r ∷ []) (over k rules g r)
      go [] part = finite_zero
      go (rule ∷ rules) part =
          let m = part rule (Memᴰ.head refl) in
          finite_plus (cond_both (eqb rule.routine r) (k.times rule.weight (g rule.calls)) k.zero (Finite k script (r ∷ [])) (λ e. rw (← eqb-true rule.routine r e) (finite_scale rule.weight (λ children. more m children none) (single_weight k m) (each rule m))) (λ e. finite_zero)) (go rules (λ other m. part other (Memᴰ.tail m)))

  module _ (v : ℕ → K) where
    pub finite_called : (calls : List ℕ) → ((q : ℕ) → Memᴰ q calls → Finite k script (q ∷ []) (v q)) → Finite k script calls (called k v calls)
    finite_called [] each = (none ∷ [], sym (k.laws.plus_zero k.one))
    finite_called (c ∷ calls) each = finite_times (each c (Memᴰ.head refl)) (finite_called calls (λ q m. each q (Memᴰ.tail m)))

    pub finite_others : (q : ℕ) (a : K) → Finite k script (q ∷ []) a → (calls : List ℕ) → ((c : ℕ) → Memᴰ c calls → Finite k script (c ∷ []) (v c)) → Finite k script calls (k.times (others k v q calls) a)
    finite_others q a f [] each = rw (Order.zero_times (dioid k) a) finite_zero
    finite_others q a f (c ∷ calls) each =
        let there = finite_times (each c (Memᴰ.head refl)) (finite_others q a f calls (λ d m. each d (Memᴰ.tail m))) in
        rw (Order.plus_times (dioid k) (cond (eqb c q) (called k v calls) k.zero) (k.times (v c) (others k v q calls)) a, k.laws.times_assoc (v c) (others k v q calls) a) (finite_plus here there)
      where
        here : Finite k script (c ∷ calls) (k.times (cond (eqb c q) (called k v calls) k.zero) a)
        here =
            cond_both (eqb c q) (called k v calls) k.zero (λ x. Finite k script (c ∷ calls) (k.times x a)) (λ e. rw (k.laws.times_comm (called k v calls) a) (finite_times (rw (eqb-true c q e) f) (finite_called calls (λ d m. each d (Memᴰ.tail m))))) (λ e. rw (Order.zero_times (dioid k) a) finite_zero)

    module _ (n : ℕ) (within : Within n script) (each : (q : ℕ) → q < n → Finite k script (q ∷ []) (v q)) where
      pub finite_image : (r : ℕ) → Finite k script (r ∷ []) (image k script v r)
      finite_image = finite_over (called k v) (λ rule m. finite_called rule.calls (λ q l. each q ((within rule m).1 q l)))

      pub finite_slope : (r q : ℕ) (a : K) → Finite k script (q ∷ []) a → Finite k script (r ∷ []) (k.times (slope k script v r q) a)
      finite_slope r q a f =
          rw (over_times k (others k v q) a script r) (finite_over (λ calls. k.times (others k v q calls) a) (λ rule m. finite_others q a f rule.calls (λ c l. each c ((within rule m).1 c l))) r)
