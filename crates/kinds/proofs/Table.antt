-- Of the table's entries that have all stations of a set, the last is that of the greatest common
-- divisor.
use Rattle.std.proofs.Common.{subst, ◌≡◌, ℕ, zero as none, suc, ◌%◌, ◌^◌, ◌<◌, max, Bool, true, false, cond, not, ◌&&◌, eqb, List, [], ◌∷◌, ◌++◌, sym, refl, ap, ◌∙◌, ap₂, arith}
use lib.Bits.{bit_or, or_lt}
use Rattle.std.proofs.lemmas.List.{reverse-append, length-reverse}
use Rattle.std.proofs.lemmas.Iterator.{YieldsList}
use Rattle.std.proofs.lemmas.Iterator.Consumers.{YieldsList-from_shown}
use Rattle.std.proofs.Common.{Iter}
use Rattle.std.specs.Slice.Iter.{iter_rest, iter_steps_back}
use Rattle.std.specs.Prelude.{find, reverse, Some, None}
use Rattle.std.proofs.lemmas.Bool.{false≢true, eqb-true, eq-eqb}
use Rattle.kinds.specs.Bits.{bits_of}
use Rattle.kinds.specs.declared.weights.Disc.{Disc}
use Rattle.kinds.specs.declared.weights.Multiples.{Multiples}
use Rattle.kinds.specs.Disc.{has, divides, greatest, divisor, entry, table}
use Rattle.kinds.specs.Laws.Bits.{bit, bits_same, bits_of_below, bit-bit_or, bit_of}
use Rattle.std.specs.Cmp.{both_ways}
use Rattle.kinds.specs.Laws.Disc.{has_bit}
use Rattle.kinds.specs.Laws.Star.{astray, each_gives, gives_each}

-- an entry has all stations of d
abbrev pub fits : Disc → Multiples → Bool
fits d e = eqb (bit_or d.bits e.bits) e.bits

fits_gives : (d : Disc) (g s : ℕ) → s < 24 → has d s ≡ true → fits d (entry g) ≡ true → s % g ≡ 0
fits_gives d g s h there e =
    eqb-true _ _ (go (eqb (s % g) 0) (sym (bit-bit_or d.bits (entry g).bits s ∙ ap₂ max (has_bit d s ∙ ap (λ x. cond x 1 0) there) (bit_of (λ t. eqb (t % g) 0) 24 s h))
    ∙ ap (λ (n : ℕ). bit n s) (eqb-true _ _ e) ∙ bit_of (λ t. eqb (t % g) 0) 24 s h))
  where
    go : (b : Bool) → max 1 (cond b 1 0) ≡ cond b 1 0 → b ≡ true
    go true e = refl
    go false e = absurd (omega arith)

gives_fits : (d : Disc) (g : ℕ) → ((s : ℕ) → s < 24 → has d s ≡ true → s % g ≡ 0) → fits d (entry g) ≡ true
gives_fits d g all =
    eq-eqb _ _ (bits_same 24 _ _ (or_lt 24 _ _ d.ok below) below
    (λ s h. bit-bit_or d.bits (entry g).bits s ∙ ap₂ max (has_bit d s) (bit_of (λ t. eqb (t % g) 0) 24 s h)
    ∙ go (has d s) (eqb (s % g) 0) (λ there. eq-eqb _ _ (all s h there)) ∙ sym (bit_of (λ t. eqb (t % g) 0) 24 s h)))
  where
    below : bits_of (λ t. eqb (t % g) 0) 24 < 2 ^ 24
    below = bits_of_below (λ t. eqb (t % g) 0) 24

    go : (x y : Bool) → (x ≡ true → y ≡ true) → max (cond x 1 0) (cond y 1 0) ≡ cond y 1 0
    go true true f = refl
    go true false f = absurd (false≢true (f refl))
    go false true f = refl
    go false false f = refl

fits_is : (d : Disc) (g : ℕ) → fits d (entry g) ≡ not (astray d g)
fits_is d g =
    both_ways (fits d (entry g)) (not (astray d g)) (λ e. each_gives d g (λ s h there. fits_gives d g s h there e)) (λ e. gives_fits d g (gives_each d g e))

-- the first such entry from the table's end
last_table : (d : Disc) (n : ℕ) → find (fits d) (reverse (table (suc n))) ≡ Some (entry (greatest (divides d) (suc n)))
unfolding greatest
last_table d none =
    let all : not (astray d 1) ≡ true = each_gives d 1 (λ s h there. omega arith) in
    ap (λ b. cond b (Some (entry 1)) None) (fits_is d 1 ∙ all) ∙ ap (λ b. Some (entry (cond b 1 0))) (sym all)
last_table d (suc n) = go (eqb (24 % suc (suc n)) 0) (not (astray d (suc (suc n)))) (fits_is d (suc (suc n))) (last_table d n)
  where
    pick : (x : Bool) → cond x (Some (entry (suc (suc n)))) (Some (entry (greatest (divides d) (suc n)))) ≡ Some (entry (cond x (suc (suc n)) (greatest (divides d) (suc n))))
    pick true = refl
    pick false = refl

    go : (b x : Bool) → fits d (entry (suc (suc n))) ≡ x → find (fits d) (reverse (table (suc n))) ≡ Some (entry (greatest (divides d) (suc n)))
        → find (fits d) (reverse (cond b (table (suc n) ++ (entry (suc (suc n)) ∷ [])) (table (suc n)))) ≡ Some (entry (cond (b && x) (suc (suc n)) (greatest (divides d) (suc n))))
    go true x e before =
        ap (find (fits d)) (reverse-append (table (suc n)) (entry (suc (suc n)) ∷ []))
        ∙ ap₂ (λ b o. cond b (Some (entry (suc (suc n)))) o) e before ∙ pick x
    go false x e before = before

pub last_is : (d : Disc) → find (fits d) (reverse (table 24)) ≡ Some (entry (divisor d))
last_is d = last_table d 23

-- a slice's iterator, from the end
pub backwards : {A : Type 0} {it : Iter A} (xs : List A) → iter_rest it ≡ xs → YieldsList iter_steps_back (λ y. y.now) it (reverse xs)
backwards {A} {it} xs e = subst (λ k. YieldsList iter_steps_back (λ y. y.now) it (reverse k)) e
    (YieldsList-from_shown iter_steps_back (λ y. y.now) (λ u. reverse (iter_rest u)) (λ u t p. length-reverse _ ∙ p.0)
    (λ u x t p. ap reverse p ∙ reverse-append (iter_rest t) (x.now ∷ [])) it)
