-- The bits of a number, and what is built from them.
use Rattle.std.specs.Prelude.{◌≡◌, ℕ, zero, suc, ◌+◌, ◌*◌, ◌/◌, ◌%◌, ◌^◌, ◌<◌, ◌≤◌, max, Bool, true, false, cond, not, ◌||◌, ◌⊎◌, ◌≢◌}
use Rattle.std.proofs.Common.{sym, ap, ◌∙◌, inl, inr, pow-suc, arith, shr-shr}
use Rattle.std.proofs.lemmas.Nat.{shl-shr, or_shr}
use Rattle.std.specs.Int.Bits.{bit_or, or_step, block_half, block_odd}
use Rattle.std.proofs.lemmas.Bool.{false≢true, or_cases, or_left, or_right, cases_eq, true_from_ne_false, not-true, not_from_false}
use Rattle.kinds.specs.Bits.{bits_of, any}

-- the bit 2^t of n, 0 or 1
abbrev pub bit : ℕ → ℕ → ℕ
bit n t = n / 2 ^ t % 2

bit_zero : (n : ℕ) → bit n 0 ≡ n % 2
bit_zero n = omega arith

bit_suc : (n t : ℕ) → bit n (suc t) ≡ bit (n / 2) t
bit_suc n t = ap (λ (m : ℕ). m % 2) (ap (λ (k : ℕ). n / 2 ^ k) (omega arith) ∙ sym (shr-shr n 1 t))

-- numbers below 2^n are equal where their bits are
pub bits_same : (n a b : ℕ) → a < 2 ^ n → b < 2 ^ n → ((t : ℕ) → t < n → bit a t ≡ bit b t) → a ≡ b
bits_same zero a b ha hb same = omega arith
bits_same (suc n) a b ha hb same =
    let p = pow-suc 2 n in
    let low : bit a 0 ≡ bit b 0 = same 0 (omega arith) in
    let high : a / 2 ≡ b / 2 =
    bits_same n (a / 2) (b / 2) (omega arith) (omega arith) (λ t h. sym (bit_suc a t) ∙ same (suc t) (omega arith) ∙ bit_suc b t) in
    omega (arith, bit_zero a, bit_zero b)

pub bits_of_below : (p : ℕ → Bool) (n : ℕ) → bits_of p n < 2 ^ n
bits_of_below p zero = omega arith
bits_of_below p (suc n) = omega (arith, bits_of_below (λ s. p (suc s)) n, pow-suc 2 n, small (p 0))
  where
    small : (b : Bool) → cond b 1 0 ≤ 1
    small true = omega arith
    small false = omega arith

pub bit_of : (p : ℕ → Bool) (n t : ℕ) → t < n → bit (bits_of p n) t ≡ cond (p t) 1 0
bit_of p zero t h = absurd (omega arith)
bit_of p (suc n) zero h = bit_zero _ ∙ go (p 0)
  where
    go : (b : Bool) → (cond b 1 0 + 2 * bits_of (λ s. p (suc s)) n) % 2 ≡ cond b 1 0
    go true = omega arith
    go false = omega arith
bit_of p (suc n) (suc t) h =
    bit_suc _ t ∙ ap (λ (m : ℕ). bit m t) (go (p 0)) ∙ bit_of (λ s. p (suc s)) n t (omega arith)
  where
    go : (b : Bool) → (cond b 1 0 + 2 * bits_of (λ s. p (suc s)) n) / 2 ≡ bits_of (λ s. p (suc s)) n
    go true = omega arith
    go false = omega arith

pub bit-bit_or : (a b t : ℕ) → bit (bit_or a b) t ≡ max (bit a t) (bit b t)
bit-bit_or a b t =
    ap (λ (m : ℕ). m % 2) (or_shr a b t ∙ or_step (a / 2 ^ t) (b / 2 ^ t)) ∙ omega arith

-- the bits of a high part that is moved up by k places, and of a low part of k bits
pub bit_low : (hi k lo t : ℕ) → t < k → bit (hi * 2 ^ k + lo) t ≡ bit lo t
bit_low hi zero lo t h = absurd (omega arith)
bit_low hi (suc k) lo zero h = bit_zero _ ∙ block_odd hi k lo ∙ sym (bit_zero lo)
bit_low hi (suc k) lo (suc t) h =
    bit_suc _ t ∙ ap (λ (m : ℕ). bit m t) (block_half hi k lo) ∙ bit_low hi k (lo / 2) t (omega arith) ∙ sym (bit_suc lo t)

pub bit_high : (hi k t : ℕ) → bit (hi * 2 ^ k) (k + t) ≡ bit hi t
bit_high hi k t = ap (λ (m : ℕ). m % 2) (sym (shr-shr (hi * 2 ^ k) k t) ∙ ap (λ (m : ℕ). m / 2 ^ t) (shl-shr hi k))

-- what any finds, and what it finds is there
pub any_gives : (n : ℕ) (p : ℕ → Bool) → any n p ≡ true → (k : ℕ) × (k < n) × (p k ≡ true)
unfolding any
any_gives zero p e = absurd (false≢true e)
any_gives (suc n) p e = go (or_cases (p n) (any n p) e) (any_gives n p)
  where
    go : (p n ≡ true) ⊎ (any n p ≡ true) → (any n p ≡ true → (k : ℕ) × (k < n) × (p k ≡ true)) → (k : ℕ) × (k < suc n) × (p k ≡ true)
    go (inl here) below = (n, omega arith, here)
    go (inr later) below = let r = below later in (r.0, omega (arith, r.1), r.2)

pub gives_any : (n : ℕ) (p : ℕ → Bool) (k : ℕ) → k < n → p k ≡ true → any n p ≡ true
unfolding any
gives_any zero p k h e = absurd (omega arith)
gives_any (suc n) p k h e = go (cases_eq k n) (gives_any n p k)
  where
    go : (k ≡ n) ⊎ (k ≢ n) → (k < n → p k ≡ true → any n p ≡ true) → (p n || any n p) ≡ true
    go (inl here) below = or_left (p n) (any n p) (ap p (sym here) ∙ e)
    go (inr other) below = or_right (p n) (any n p) (below (omega arith) e)

-- p says yes of every number below n
unfoldable pub all : ℕ → (ℕ → Bool) → Bool
all n p = not (any n (λ k. not (p k)))

pub all_gives : (n : ℕ) (p : ℕ → Bool) → all n p ≡ true → (k : ℕ) → k < n → p k ≡ true
unfolding all
all_gives n p e k h =
    true_from_ne_false (p k) (λ f. false≢true (sym (not-true (any n (λ k. not (p k))) e) ∙ gives_any n (λ k. not (p k)) k h (not_from_false (p k) f)))
