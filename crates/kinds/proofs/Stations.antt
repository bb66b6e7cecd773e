-- What the disc's code makes of bits is what the formulas say of stations.
use Rattle.std.proofs.Common.{◌≡◌, ℕ, ◌+◌, ◌-◌, ◌*◌, ◌/◌, ◌%◌, ◌^◌, ◌<◌, ◌≤◌, max, Bool, true, false, cond, ◌||◌, eqb, ltb, ◌⊎◌, sym, refl, ap, ◌∙◌, ap₂, inl, inr, lt_of_lt_of_le, add-zero, div-add-mod', arith, pow_mono, shl_lt, shl_exact, shr-shr}
use native.Mathlib.Nat.{zero-div}
use lib.Bits.{bit_or, or_lt}
use lib.Pow.{pow-lt}
use Rattle.std.proofs.lemmas.Bool.{cases_lt, cases_Bool, cond-true, cond-false, cond_both, eqb-true, ltb-true, ltb-false, ne_eqb}
use Rattle.kinds.specs.Bits.{any}
use Rattle.kinds.specs.declared.weights.Disc.{Disc}
use Rattle.kinds.specs.Disc.{has, stations, zero, only, plus, turned}
use Rattle.kinds.specs.Laws.Bits.{bit, bit-bit_or, bit_low, bit_high, all, all_gives}
use Rattle.kinds.specs.Laws.Disc.{same_bits, same_stations, has_bit, has_stations}

-- a set is known by its bits
has_of : (d : Disc) (t : ℕ) (b : Bool) → bit d.bits t ≡ cond b 1 0 → has d t ≡ b
has_of d t b e = go (has d t) b (sym (has_bit d t) ∙ e)
  where
    go : (x y : Bool) → ◌≡◌ {A = ℕ} (cond x 1 0) (cond y 1 0) → x ≡ y
    go true true e = refl
    go true false e = absurd (omega arith)
    go false true e = absurd (omega arith)
    go false false e = refl

by_bits : (d : Disc) (p : ℕ → Bool) → ((t : ℕ) → t < 24 → bit d.bits t ≡ cond (p t) 1 0) → d ≡ stations p
by_bits d p bits = same_stations _ _ (λ t h. has_of d t (p t) (bits t h) ∙ sym (has_stations p t h))

pub zero_is : (d : Disc) → d.bits ≡ 0 → d ≡ zero
unfolding stations
zero_is d e = same_bits d zero e

pub union_is : (a b d : Disc) → d.bits ≡ bit_or a.bits b.bits → d ≡ plus a b
union_is a b d e =
    by_bits d (λ t. has a t || has b t)
    (λ t h. ap (λ (n : ℕ). bit n t) e ∙ bit-bit_or a.bits b.bits t ∙ ap₂ max (has_bit a t) (has_bit b t) ∙ either (has a t) (has b t))
  where
    either : (x y : Bool) → max (cond x 1 0) (cond y 1 0) ≡ cond (x || y) 1 0
    either true true = refl
    either true false = refl
    either false true = refl
    either false false = refl

-- one station is one bit: computed for all of them
lone : ℕ → Bool
lone s = eqb (2 ^ s) (only s).bits

lone_all : all 24 lone ≡ true
unfolding all any lone stations
lone_all = refl

pub lone_below : (s : ℕ) → cond (ltb s 24) (2 ^ s) 0 < 2 ^ 24
lone_below s = cond_both (ltb s 24) (2 ^ s) 0 (λ n. n < 2 ^ 24) (λ e. pow-lt (ltb-true s 24 e)) (λ e. omega arith)

pub only_bits : (s : ℕ) (d : Disc) → d.bits ≡ cond (ltb s 24) (2 ^ s) 0 → d ≡ only s
unfolding lone
only_bits s d is = go (cases_Bool (ltb s 24))
  where
    go : (ltb s 24 ≡ true) ⊎ (ltb s 24 ≡ false) → d ≡ only s
    go (inl e) =
        same_bits d (only s) (is ∙ cond-true _ _ _ e ∙ eqb-true (2 ^ s) (only s).bits (all_gives 24 lone lone_all s (ltb-true s 24 e)))
    go (inr e) =
        zero_is d (is ∙ cond-false _ _ _ e)
        ∙ same_stations _ _ (λ t h. has_stations (λ t. false) t h ∙ sym (has_stations (λ t. eqb t s) t h ∙ ne_eqb t s (λ at. omega (arith, ltb-false s 24 e))))

high_none : (n j : ℕ) → n < 2 ^ 24 → bit n (24 + j) ≡ 0
high_none n j h = ap (λ (m : ℕ). m % 2) (sym (shr-shr n 24 j) ∙ ap (λ (m : ℕ). m / 2 ^ j) (omega arith) ∙ zero-div (2 ^ j))

module _ (d r : Disc) (s : ℕ) (h : s < 24) (is : r.bits ≡ bit_or (d.bits * 2 ^ s % 2 ^ 24) (d.bits * 2 ^ s / 2 ^ 24)) where
  moved : ℕ
  moved = d.bits * 2 ^ s

  low_bit : (t : ℕ) → t < 24 → bit (moved % 2 ^ 24) t ≡ bit moved t
  low_bit t ht = sym (bit_low (moved / 2 ^ 24) 24 (moved % 2 ^ 24) t ht) ∙ ap (λ (n : ℕ). bit n t) (div-add-mod' moved (2 ^ 24))

  high_bit : (t : ℕ) → bit (moved / 2 ^ 24) t ≡ bit moved (24 + t)
  high_bit t = ap (λ (m : ℕ). m % 2) (shr-shr moved 24 t)

  under : (t : ℕ) → t < s → bit moved t ≡ 0
  unfolding moved
  under t ht =
      ap (λ (n : ℕ). bit n t) (sym (add-zero moved)) ∙ bit_low d.bits s 0 t ht ∙ ap (λ (m : ℕ). m % 2) (zero-div (2 ^ t))

  over : (t : ℕ) → s ≤ t → bit moved t ≡ bit d.bits (t - s)
  unfolding moved
  over t ht = let at : t ≡ s + (t - s) = omega arith in ap (λ (n : ℕ). bit moved n) at ∙ bit_high d.bits s (t - s)

  turned_bit : (t : ℕ) → t < 24 → (t < s) ⊎ (s ≤ t) → max (bit moved t) (bit moved (24 + t)) ≡ bit d.bits ((t + 24 - s) % 24)
  turned_bit t ht (inl below) =
      let at : 24 + t - s ≡ (t + 24 - s) % 24 = omega arith in
      ap₂ max (under t below) (over (24 + t) (omega arith) ∙ ap (λ (n : ℕ). bit d.bits n) at) ∙ omega arith
  turned_bit t ht (inr past) =
      let at : t - s ≡ (t + 24 - s) % 24 = omega arith in
      let out : 24 + t - s ≡ 24 + (t - s) = omega arith in
      ap₂ max (over t past ∙ ap (λ (n : ℕ). bit d.bits n) at)
      (over (24 + t) (omega arith) ∙ ap (λ (n : ℕ). bit d.bits n) out ∙ high_none d.bits (t - s) d.ok) ∙ omega arith

  turned_all : r ≡ turned s d
  unfolding moved
  turned_all =
      by_bits r (λ t. has d ((t + 24 - s) % 24))
      (λ t ht. ap (λ (n : ℕ). bit n t) is ∙ bit-bit_or (moved % 2 ^ 24) (moved / 2 ^ 24) t
      ∙ ap₂ max (low_bit t ht) (high_bit t) ∙ turned_bit t ht (cases_lt t s) ∙ has_bit d ((t + 24 - s) % 24))

-- the bits that `turned` makes: moved up in 64 bits, where none is lost, and what is past 23 comes round
abbrev pub around : ℕ → ℕ → ℕ
around n s = let moved = n * 2 ^ s % 2 ^ 64 in bit_or (moved % 2 ^ 24) (moved / 2 ^ 24)

pub around_below : (d : Disc) (n s : ℕ) → n ≡ d.bits → s < 24 → around n s < 2 ^ 24
around_below d n s e h =
    let fits : n < 2 ^ 24 = omega (arith, d.ok) in
    let moved : ℕ = n * 2 ^ s in
    let small : moved < 2 ^ 48 = lt_of_lt_of_le (shl_lt 24 s fits) (pow_mono {j = 48} (omega arith)) in
    let whole : moved % 2 ^ 64 ≡ moved = shl_exact 24 s 64 fits (omega arith) in
    or_lt 24 (moved % 2 ^ 64 % 2 ^ 24) (moved % 2 ^ 64 / 2 ^ 24) (omega arith) (omega arith)

pub turned_is : (d r : Disc) (n s : ℕ) → n ≡ d.bits → s < 24 → r.bits ≡ around n s → r ≡ turned s d
turned_is d r n s e h is =
    let whole : n * 2 ^ s % 2 ^ 64 ≡ d.bits * 2 ^ s = ap (λ (m : ℕ). m * 2 ^ s % 2 ^ 64) e ∙ shl_exact 24 s 64 d.ok (omega arith) in
    turned_all d r s h (is ∙ ap (λ (m : ℕ). bit_or (m % 2 ^ 24) (m / 2 ^ 24)) whole)
