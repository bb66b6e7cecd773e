-- The star of a set: the multiples of g, the greatest common divisor of 24 and all its stations, are
-- what finite sums of its stations reach, modulo 24. With that the disc is a kind.
use Rattle.std.specs.Prelude.{◌≡◌, ℕ, zero as none, suc, ◌+◌, ◌-◌, ◌*◌, ◌%◌, ◌<◌, ◌≤◌, max, Bool, true, false, cond, not, ◌&&◌, ◌⊎◌, ◌==◌, ◌≢◌, nat_eq, refl}
use Rattle.std.proofs.Common.{sym, ap, subst, ◌∙◌, inl, inr, suc-mul, mul-add, arith}
use Rattle.std.proofs.Math.Nat.{zero-mod, mod_self, add-mod, dvd_of_mod-eq-zero, mod-mod_of_dvd, le_of_dvd, mod-zero}
use Rattle.std.proofs.lemmas.Bool.{false≢true, cases_eq, cases_Bool, true_from_ne_false, false_from_ne_true, and_parts, and_from, not-true, not_from_false, eqb-true, eq-eqb}
use Rattle.semiring.specs.Algebra.{Algebra, Laws, power, powers}
use Rattle.kinds.specs.Bits.{any}
use Rattle.kinds.specs.declared.weights.Disc.{Disc}
use Rattle.kinds.specs.Disc.{has, zero, one, plus, times, divides, greatest, divisor, multiples, star}
use Rattle.kinds.specs.Stations.{Common}
use Rattle.kinds.specs.Laws.Bits.{any_gives, gives_any, all, all_gives}
use Rattle.kinds.specs.Laws.Disc.{Within, equal, has_stations, in_left, in_right, in_either, times_gives, in_times, one_gives, in_one, plus_assoc, plus_comm, plus_idem, plus_zero, times_assoc, times_comm, times_one, times_zero, times_plus}

-- the greatest number that passes, where k does
greatest_passes : (p : ℕ → Bool) (n k : ℕ) → p k ≡ true → 0 < k → k ≤ n → (p (greatest p n) ≡ true) × (k ≤ greatest p n)
unfolding greatest
greatest_passes p none k e pos h = absurd (omega arith)
greatest_passes p (suc n) k e pos h = go (p (suc n)) refl (greatest_passes p n k e pos)
  where
    go : (b : Bool) → p (suc n) ≡ b → (k ≤ n → (p (greatest p n) ≡ true) × (k ≤ greatest p n))
        → (p (cond b (suc n) (greatest p n)) ≡ true) × (k ≤ cond b (suc n) (greatest p n))
    go true y below = (y, h)
    go false f below =
        let other : k ≡ suc n → ⊥ = λ at. false≢true (sym f ∙ ap p (sym at) ∙ e) in
        below (omega (arith, other))

-- some station of d is no multiple of g
abbrev pub astray : Disc → ℕ → Bool
astray d g = any 24 (λ s. has d s && not (s % g == 0))

pub each_gives : (d : Disc) (g : ℕ) → ((s : ℕ) → s < 24 → has d s ≡ true → s % g ≡ 0) → not (astray d g) ≡ true
each_gives d g each =
    not_from_false _ (false_from_ne_true _ (λ y.
    let (s, h, e) = any_gives 24 (λ s. has d s && not (s % g == 0)) y in
    let (there, off) = and_parts (has d s) (not (s % g == 0)) e in
    false≢true (sym (not-true (s % g == 0) off) ∙ eq-eqb _ _ (each s h there))))

pub gives_each : (d : Disc) (g : ℕ) → not (astray d g) ≡ true → (s : ℕ) → s < 24 → has d s ≡ true → s % g ≡ 0
gives_each d g e s h there =
    eqb-true _ _ (true_from_ne_false _ (λ f. false≢true (sym (not-true _ e)
    ∙ gives_any 24 (λ s. has d s && not (s % g == 0)) s h (and_from (has d s) (not (s % g == 0)) there (not_from_false _ f)))))

common_gives : (d : Disc) (g : ℕ) → Common d g → divides d g ≡ true
common_gives d g c = and_from (24 % g == 0) (not (astray d g)) (eq-eqb _ _ c.whole) (each_gives d g c.each)

gives_common : (d : Disc) (g : ℕ) → divides d g ≡ true → Common d g
gives_common d g e =
    let (w, straight) = and_parts (24 % g == 0) (not (astray d g)) e in
    record { whole = eqb-true _ _ w; each = gives_each d g straight }

over_zero : (g : ℕ) → 24 % g ≡ 0 → 0 < g
over_zero none e = absurd (omega (arith, mod-zero 24))
over_zero (suc g) e = omega arith

divisor_le : (g : ℕ) → 24 % g ≡ 0 → g ≤ 24
divisor_le g w = le_of_dvd (omega arith) (dvd_of_mod-eq-zero g w)

-- the divisor of a set is a common one, and the greatest
pub divisor_common : (d : Disc) → Common d (divisor d)
divisor_common d =
    let first : divides d 1 ≡ true = common_gives d 1 (record { whole = refl; each = λ s h there. omega arith }) in
    gives_common d (divisor d) (greatest_passes (divides d) 24 1 first (omega arith) (omega arith)).0

pub divisor_greatest : (d : Disc) (g : ℕ) → Common d g → g ≤ divisor d
divisor_greatest d g c =
    (greatest_passes (divides d) 24 g (common_gives d g c) (over_zero g c.whole) (divisor_le g c.whole)).1

-- what divides 24 and two numbers divides their sum modulo 24
mod_sum : (g a b : ℕ) → 24 % g ≡ 0 → a % g ≡ 0 → b % g ≡ 0 → (a + b) % 24 % g ≡ 0
mod_sum g a b w ea eb =
    mod-mod_of_dvd g (a + b) (dvd_of_mod-eq-zero g w) ∙ add-mod a b g ∙ ap (λ (m : ℕ). m % g) (omega arith) ∙ zero-mod g

pub in_multiples : (g t : ℕ) → t < 24 → t % g ≡ 0 → has (multiples g) t ≡ true
in_multiples g t h e = has_stations (λ t. nat_eq (t % g) 0) t h ∙ eq-eqb _ _ e

pub multiples_give : (g t : ℕ) → t < 24 → has (multiples g) t ≡ true → t % g ≡ 0
multiples_give g t h e = eqb-true _ _ (sym (has_stations (λ t. nat_eq (t % g) 0) t h) ∙ e)

-- A station n, and the multiples of a divisor g of 24, reach the multiples of the greatest common
-- divisor of n and g: from t go back i steps of n to a multiple of g. Computed over all n and g.
abbrev both : ℕ → ℕ → ℕ → Bool
both n g c = n % c == 0 && g % c == 0

joint : ℕ → ℕ → ℕ
joint n g = greatest (both n g) 24

back : ℕ → ℕ → ℕ → ℕ → Bool
back n g t i = (t + i * (24 - n)) % g == 0

joins : ℕ → ℕ → Bool
joins n g =
    elim (24 % g == 0) [
      | true ↦ (24 % joint n g == 0) && n % joint n g == 0 && g % joint n g == 0 && all 24 (λ t. elim (t % joint n g == 0) [ true ↦ any 24 (back n g t) | false ↦ true ])
      | false ↦ true
    ]

joins_all : all 24 (λ n. all 25 (joins n)) ≡ true
unfolding all any joins joint back greatest
joins_all = refl

record Joins (n g : ℕ) : Type 0 where
  to : ℕ
  whole : 24 % to ≡ 0
  first : n % to ≡ 0
  second : g % to ≡ 0
  steps : (t : ℕ) → t < 24 → t % to ≡ 0 → (i : ℕ) × (i < 24) × ((t + i * (24 - n)) % g ≡ 0)

joins_give : (n g : ℕ) → n < 24 → 24 % g ≡ 0 → Joins n g
unfolding joins back
joins_give n g h w =
    let passes : joins n g ≡ true = all_gives 25 (joins n) (all_gives 24 (λ n. all 25 (joins n)) joins_all n h) g (omega (arith, divisor_le g w)) in
    let P : Bool → Type 0 = λ b. elim b [
      | true ↦ (24 % joint n g == 0) && n % joint n g == 0 && g % joint n g == 0 && all 24 (λ t. elim (t % joint n g == 0) [ true ↦ any 24 (back n g t) | false ↦ true ])
      | false ↦ true
    ] ≡ true in
    let (three, each) = and_parts (24 % joint n g == 0 && n % joint n g == 0 && g % joint n g == 0) (all 24 (λ t. elim (t % joint n g == 0) [ true ↦ any 24 (back n g t) | false ↦ true ])) (subst P (eq-eqb _ _ w) passes) in
    let (two, c) = and_parts (24 % joint n g == 0 && n % joint n g == 0) (g % joint n g == 0) three in
    let (a, b) = and_parts (24 % joint n g == 0) (n % joint n g == 0) two in
    record {
      to = joint n g;
      whole = eqb-true _ _ a;
      first = eqb-true _ _ b;
      second = eqb-true _ _ c;
      steps = λ t ht e.
          let Q : Bool → Type 0 = λ b. elim b [ true ↦ any 24 (back n g t) | false ↦ true ] ≡ true in
          let found = any_gives 24 (back n g t) (subst Q (eq-eqb _ _ e) (all_gives 24 (λ t. elim (t % joint n g == 0) [ true ↦ any 24 (back n g t) | false ↦ true ]) each t ht)) in
          (found.0, found.1, eqb-true _ _ found.2);
    }

module _ (d : Disc) where
  abbrev sums : ℕ → Disc
  sums k = powers one plus times d k

  within_power : (g : ℕ) → Common d g → (k : ℕ) → Within (power one times d k) (multiples g)
  within_power g c none t h e = in_multiples g t h (ap (λ (m : ℕ). m % g) (one_gives t h e) ∙ zero-mod g)
  within_power g c (suc k) t h e =
      let m = times_gives d (power one times d k) t h e in
      in_multiples g t h (ap (λ (m : ℕ). m % g) (sym m.reaches)
      ∙ mod_sum g m.from m.by c.whole (c.each m.from m.from_below m.left)
      (multiples_give g m.by m.by_below (within_power g c k m.by m.by_below m.right)))

  within_multiples : (g : ℕ) → Common d g → (k : ℕ) → Within (sums k) (multiples g)
  within_multiples g c none t h e = within_power g c none t h e
  within_multiples g c (suc k) t h e = go (within_multiples g c k t h) (in_either (sums k) (power one times d (suc k)) t h e)
    where
      go : (has (sums k) t ≡ true → has (multiples g) t ≡ true) → (has (sums k) t ≡ true) ⊎ (has (power one times d (suc k)) t ≡ true) → has (multiples g) t ≡ true
      go before (inl r) = before r
      go before (inr r) = within_power g c (suc k) t h r

  add_station : (s t k : ℕ) → s < 24 → t < 24 → has d s ≡ true → has (sums k) t ≡ true → has (sums (suc k)) ((s + t) % 24) ≡ true
  add_station s t none hs ht there e =
      in_right one (times d one) ((s + t) % 24) (omega arith) (in_times d one s t ((s + t) % 24) hs ht there e refl)
  add_station s t (suc k) hs ht there e =
      go (add_station s t k hs ht there) (in_either (sums k) (power one times d (suc k)) t ht e)
    where
      go : (has (sums k) t ≡ true → has (sums (suc k)) ((s + t) % 24) ≡ true)
          → (has (sums k) t ≡ true) ⊎ (has (power one times d (suc k)) t ≡ true) → has (sums (suc (suc k))) ((s + t) % 24) ≡ true
      go before (inl r) = in_left (sums (suc k)) (power one times d (suc (suc k))) ((s + t) % 24) (omega arith) (before r)
      go before (inr r) =
          in_right (sums (suc k)) (power one times d (suc (suc k))) ((s + t) % 24) (omega arith)
          (in_times d (power one times d (suc k)) s t ((s + t) % 24) hs ht there r refl)

  -- a finite sum of powers has t
  abbrev Reached : ℕ → Type 0
  Reached t = (k : ℕ) × (has (sums k) t ≡ true)

  add_stations : (s t : ℕ) → s < 24 → t < 24 → has d s ≡ true → (i : ℕ) → Reached t → Reached ((i * s + t) % 24)
  add_stations s t hs ht there none r = subst Reached (omega arith) r
  add_stations s t hs ht there (suc i) r =
      let before = add_stations s t hs ht there i r in
      let p : (s + (i * s + t) % 24) % 24 ≡ (suc i * s + t) % 24 = omega (arith, suc-mul i s) in
      subst Reached p (suc before.0, add_station s ((i * s + t) % 24) before.0 hs (omega arith) there before.1)

  -- the stations below n have a common divisor whose multiples are all reached
  record Gathered (n : ℕ) : Type 0 where
    g : ℕ
    whole : 24 % g ≡ 0
    each : (s : ℕ) → s < n → has d s ≡ true → s % g ≡ 0
    reached : (t : ℕ) → t < 24 → t % g ≡ 0 → Reached t

  gather_more : (n : ℕ) → n < 24 → Gathered n → (has d n ≡ true) ⊎ (has d n ≡ false) → Gathered (suc n)
  gather_more n h b (inr off) = record {
    g = b.g;
    whole = b.whole;
    each = λ s hs there.
        let other : s ≡ n → ⊥ = λ at. false≢true (sym off ∙ ap (has d) (sym at) ∙ there) in
        b.each s (omega (arith, other)) there;
    reached = b.reached;
  }
  gather_more n h b (inl here) =
      let j = joins_give n b.g h b.whole in
      record {
        g = j.to;
        whole = j.whole;
        each = λ s hs there. each j s hs there (cases_eq s n);
        reached = λ t ht e. reached j t ht e;
      }
    where
      each : (j : Joins n b.g) (s : ℕ) → s < suc n → has d s ≡ true → (s ≡ n) ⊎ (s ≢ n) → s % j.to ≡ 0
      each j s hs there (inl at) = ap (λ (m : ℕ). m % j.to) at ∙ j.first
      each j s hs there (inr other) =
          sym (mod-mod_of_dvd j.to s (dvd_of_mod-eq-zero j.to j.second))
          ∙ ap (λ (m : ℕ). m % j.to) (b.each s (omega (arith, other)) there) ∙ zero-mod j.to

      reached : (j : Joins n b.g) (t : ℕ) → t < 24 → t % j.to ≡ 0 → Reached t
      reached j t ht e =
          let (i, hi, ei) = j.steps t ht e in
          let m : ℕ = (t + i * (24 - n)) % 24 in
          let start : Reached m = b.reached m (omega arith) (mod-mod_of_dvd b.g (t + i * (24 - n)) (dvd_of_mod-eq-zero b.g b.whole) ∙ ei) in
          let turns : i * n + i * (24 - n) ≡ i * 24 = sym (mul-add i n (24 - n)) ∙ ap (λ (m : ℕ). i * m) (omega arith) in
          let p : (i * n + m) % 24 ≡ t = omega arith in
          subst Reached p (add_stations n m h (omega arith) here i start)

  gather : (n : ℕ) → n ≤ 24 → Gathered n
  gather none h = record {
    g = 24;
    whole = refl;
    each = λ s hs there. absurd (omega arith);
    reached = λ t ht e. let at : 0 ≡ t = omega arith in subst Reached at (0, in_one);
  }
  gather (suc n) h = gather_more n h (gather n (omega arith)) (cases_Bool (has d n))

  -- one number of powers that does for all t below n
  climb : (k m t : ℕ) → t < 24 → k ≤ m → has (sums k) t ≡ true → has (sums m) t ≡ true
  climb k none t ht h e = let at : k ≡ 0 = omega arith in ap (λ (n : ℕ). has (sums n) t) (sym at) ∙ e
  climb k (suc m) t ht h e = go (cases_eq k (suc m)) (climb k m t ht)
    where
      go : (k ≡ suc m) ⊎ (k ≢ suc m) → (k ≤ m → has (sums k) t ≡ true → has (sums m) t ≡ true) → has (sums (suc m)) t ≡ true
      go (inl at) before = ap (λ (n : ℕ). has (sums n) t) (sym at) ∙ e
      go (inr other) before = in_left (sums m) (power one times d (suc m)) t ht (before (omega (arith, other)) e)

  together : (g : ℕ) → ((t : ℕ) → t < 24 → t % g ≡ 0 → Reached t) → (n : ℕ) → n ≤ 24 → (k : ℕ) × ((t : ℕ) → t < n → t % g ≡ 0 → has (sums k) t ≡ true)
  together g reached none h = (0, λ t ht e. absurd (omega arith))
  together g reached (suc n) h = go (together g reached n (omega arith)) (cases_eq (n % g) 0)
    where
      join : (k m t : ℕ) → t < suc n → ((t : ℕ) → t < n → t % g ≡ 0 → has (sums k) t ≡ true) → (n % g ≡ 0 → has (sums m) n ≡ true)
          → t % g ≡ 0 → (t ≡ n) ⊎ (t ≢ n) → has (sums (max k m)) t ≡ true
      join k m t ht below here e (inl at) =
          climb m (max k m) t (omega arith) (omega arith) (ap (has (sums m)) at ∙ here (ap (λ (x : ℕ). x % g) (sym at) ∙ e))
      join k m t ht below here e (inr other) = climb k (max k m) t (omega arith) (omega arith) (below t (omega (arith, other)) e)

      go : (k : ℕ) × ((t : ℕ) → t < n → t % g ≡ 0 → has (sums k) t ≡ true) → (n % g ≡ 0) ⊎ (n % g ≢ 0)
          → (k : ℕ) × ((t : ℕ) → t < suc n → t % g ≡ 0 → has (sums k) t ≡ true)
      go b (inl e) =
          let r = reached n h e in
          (max b.0 r.0, λ t ht et. join b.0 r.0 t ht b.1 (λ _. r.1) et (cases_eq t n))
      go b (inr off) = (max b.0 0, λ t ht et. join b.0 0 t ht b.1 (λ e. absurd (off e)) et (cases_eq t n))

  star_finite : (k : ℕ) × (star d ≡ sums k) × (sums (suc k) ≡ sums k)
  star_finite =
      let b : Gathered 24 = gather 24 (omega arith) in
      let (k, all_in) = together b.g b.reached 24 (omega arith) in
      let c : Common d (divisor d) = divisor_common d in
      let small : b.g ≤ 24 = divisor_le b.g b.whole in
      let positive : 0 < b.g = over_zero b.g b.whole in
      let up : b.g ≤ divisor d = divisor_greatest d b.g (record { whole = b.whole; each = b.each }) in
      let down : divisor d ≤ b.g = le_of_dvd positive (dvd_of_mod-eq-zero (divisor d) (on_itself b.g k c all_in (cases_eq b.g 24) small)) in
      let same : divisor d ≡ b.g = omega arith in
      let full : Within (multiples (divisor d)) (sums k) =
      λ t h e. all_in t h (ap (λ (g : ℕ). t % g) (sym same) ∙ multiples_give (divisor d) t h e) in (
        k,
        equal _ _ full (within_multiples (divisor d) c k),
        equal _ _ (λ t h e. full t h (within_multiples (divisor d) c (suc k) t h e)) (in_left (sums k) (power one times d (suc k))),
      )
    where
      on_itself : (g k : ℕ) → Common d (divisor d) → ((t : ℕ) → t < 24 → t % g ≡ 0 → has (sums k) t ≡ true) → (g ≡ 24) ⊎ (g ≢ 24) → g ≤ 24 → g % divisor d ≡ 0
      on_itself g k c all_in (inl e) h = ap (λ (x : ℕ). x % divisor d) e ∙ c.whole
      on_itself g k c all_in (inr other) h =
          let below : g < 24 = omega (arith, other) in
          multiples_give (divisor d) g below (within_multiples (divisor d) c k g below (all_in g below (mod_self g)))

pub disc_laws : Laws zero one plus times star
disc_laws = record {
  plus_assoc = plus_assoc;
  plus_comm = plus_comm;
  plus_idem = plus_idem;
  plus_zero = plus_zero;
  times_assoc = times_assoc;
  times_comm = times_comm;
  times_one = times_one;
  times_zero = times_zero;
  times_plus = times_plus;
  star_finite = star_finite;
}

abbrev pub disc_algebra : Algebra Disc
disc_algebra = record { zero = zero; one = one; plus = plus; times = times; star = star; laws = disc_laws }
