-- The disc keeps the laws of a kind: sets are equal where they have the same stations.
use Rattle.std.specs.Prelude.{◌≡◌, ℕ, suc, ◌+◌, ◌%◌, ◌^◌, ◌<◌, Bool, true, false, cond, ◌&&◌, ◌||◌, ◌⊎◌, ◌==◌, ◌≢◌, nat_eq, refl}
use Rattle.std.proofs.Common.{sym, ap, subst, ◌∙◌, inl, inr, arith}
use mathlib.Core.HLevel.{is_prop→PathP}
use Rattle.std.proofs.Math.Bool.{or_assoc, or_comm, or_self}
use Rattle.std.proofs.Math.Bridge.{le_prop}
use Rattle.std.proofs.lemmas.Bool.{false≢true, or_cases, or_left, or_right, cases_eq, and_parts, and_from, eqb-true, eq-eqb, ne_eqb}
use Rattle.std.specs.Cmp.{both_ways}
use Rattle.kinds.specs.Bits.{any}
use Rattle.kinds.specs.declared.weights.Disc.{Disc}
use Rattle.kinds.specs.Disc.{has, stations, zero, one, plus, meets, times}
use Rattle.kinds.specs.Stations.{Met}
use Rattle.kinds.specs.Laws.Bits.{bit, bits_same, bit_of, any_gives, gives_any}

pub same_bits : (a b : Disc) → a.bits ≡ b.bits → a ≡ b
same_bits a b e = λ i. record { bits = e i; ok = is_prop→PathP (λ i. e i < 2 ^ 24) (λ i. le_prop {n = suc (e i)} {m = 2 ^ 24}) a.ok b.ok i }

pub has_bit : (d : Disc) (t : ℕ) → bit d.bits t ≡ cond (has d t) 1 0
has_bit d t = go (cases_eq (bit d.bits t) 1)
  where
    go : (bit d.bits t ≡ 1) ⊎ (bit d.bits t ≢ 1) → bit d.bits t ≡ cond (bit d.bits t == 1) 1 0
    go (inl e) = e ∙ ap (λ b. cond b 1 0) (sym (eq-eqb _ _ e))
    go (inr e) = omega arith ∙ ap (λ b. cond b 1 0) (sym (ne_eqb _ _ e))

pub has_stations : (p : ℕ → Bool) (t : ℕ) → t < 24 → has (stations p) t ≡ p t
unfolding stations
has_stations p t h = ap (λ (n : ℕ). nat_eq n 1) (bit_of p 24 t h) ∙ go (p t)
  where
    go : (b : Bool) → (cond b 1 0 == 1) ≡ b
    go true = refl
    go false = refl

-- sets with the same stations are equal
pub same_stations : (a b : Disc) → ((t : ℕ) → t < 24 → has a t ≡ has b t) → a ≡ b
same_stations a b same =
    same_bits a b (bits_same 24 a.bits b.bits a.ok b.ok (λ t h. has_bit a t ∙ ap (λ x. cond x 1 0) (same t h) ∙ sym (has_bit b t)))

-- each station of a is one of b
abbrev pub Within : Disc → Disc → Type 0
Within a b = (t : ℕ) → t < 24 → has a t ≡ true → has b t ≡ true

pub equal : (a b : Disc) → Within a b → Within b a → a ≡ b
equal a b f g = same_stations a b (λ t h. both_ways (has a t) (has b t) (f t h) (g t h))

-- the sum, by stations
pub has_plus : (a b : Disc) (t : ℕ) → t < 24 → has (plus a b) t ≡ (has a t || has b t)
has_plus a b t h = has_stations (λ t. has a t || has b t) t h

pub plus_assoc : (a b c : Disc) → plus (plus a b) c ≡ plus a (plus b c)
plus_assoc a b c =
    same_stations _ _ (λ t h. has_plus (plus a b) c t h ∙ ap (λ x. x || has c t) (has_plus a b t h) ∙ or_assoc (has a t) (has b t) (has c t)
    ∙ ap (λ x. has a t || x) (sym (has_plus b c t h)) ∙ sym (has_plus a (plus b c) t h))

pub plus_comm : (a b : Disc) → plus a b ≡ plus b a
plus_comm a b = same_stations _ _ (λ t h. has_plus a b t h ∙ or_comm (has a t) (has b t) ∙ sym (has_plus b a t h))

pub plus_idem : (a : Disc) → plus a a ≡ a
plus_idem a = same_stations _ _ (λ t h. has_plus a a t h ∙ or_self (has a t))

pub plus_zero : (a : Disc) → plus a zero ≡ a
plus_zero a =
    same_stations _ _ (λ t h. has_plus a zero t h ∙ ap (λ x. has a t || x) (has_stations (λ t. false) t h) ∙ or_comm (has a t) false)

pub in_left : (a b : Disc) → Within a (plus a b)
in_left a b t h e = has_plus a b t h ∙ or_left (has a t) (has b t) e

pub in_right : (a b : Disc) → Within b (plus a b)
in_right a b t h e = has_plus a b t h ∙ or_right (has a t) (has b t) e

pub in_either : (a b : Disc) (t : ℕ) → t < 24 → has (plus a b) t ≡ true → (has a t ≡ true) ⊎ (has b t ≡ true)
in_either a b t h e = or_cases (has a t) (has b t) (sym (has_plus a b t h) ∙ e)

-- the product, by stations
pub meets_gives : (a b : Disc) (t : ℕ) → meets a b t ≡ true → Met a b t
meets_gives a b t e =
    let (s, hs, es) = any_gives 24 (λ s. any 24 (λ u. has a s && has b u && (s + u) % 24 == t)) e in
    let (u, hu, eu) = any_gives 24 (λ u. has a s && has b u && (s + u) % 24 == t) es in
    let (two, last) = and_parts (has a s && has b u) ((s + u) % 24 == t) eu in
    let (l, r) = and_parts (has a s) (has b u) two in
    record { from = s; by = u; from_below = hs; by_below = hu; left = l; right = r; reaches = eqb-true _ _ last }

pub gives_meets : (a b : Disc) (t : ℕ) → Met a b t → meets a b t ≡ true
gives_meets a b t m =
    gives_any 24 (λ s. any 24 (λ u. has a s && has b u && (s + u) % 24 == t)) m.from m.from_below
    (gives_any 24 (λ u. has a m.from && has b u && (m.from + u) % 24 == t) m.by m.by_below
    (and_from (has a m.from && has b m.by) ((m.from + m.by) % 24 == t) (and_from (has a m.from) (has b m.by) m.left m.right) (eq-eqb _ _ m.reaches)))

pub times_gives : (a b : Disc) (t : ℕ) → t < 24 → has (times a b) t ≡ true → Met a b t
times_gives a b t h e = meets_gives a b t (sym (has_stations (meets a b) t h) ∙ e)

pub in_times : (a b : Disc) (s u t : ℕ) → s < 24 → u < 24 → has a s ≡ true → has b u ≡ true → (s + u) % 24 ≡ t → has (times a b) t ≡ true
in_times a b s u t hs hu l r e =
    has_stations (meets a b) t (omega arith)
    ∙ gives_meets a b t (record { from = s; by = u; from_below = hs; by_below = hu; left = l; right = r; reaches = e })

times_turns : (a b : Disc) → Within (times a b) (times b a)
times_turns a b t h e =
    let m = times_gives a b t h e in
    in_times b a m.by m.from t m.by_below m.from_below m.right m.left (omega (arith, m.reaches))

pub times_comm : (a b : Disc) → times a b ≡ times b a
times_comm a b = equal _ _ (times_turns a b) (times_turns b a)

times_regroups : (a b c : Disc) → Within (times (times a b) c) (times a (times b c))
times_regroups a b c t h e =
    let m = times_gives (times a b) c t h e in
    let n = times_gives a b m.from m.from_below m.left in
    let inner = in_times b c n.by m.by ((n.by + m.by) % 24) n.by_below m.by_below n.right m.right refl in
    in_times a (times b c) n.from ((n.by + m.by) % 24) t n.from_below (omega arith) n.left inner (omega (arith, m.reaches, n.reaches))

pub times_assoc : (a b c : Disc) → times (times a b) c ≡ times a (times b c)
times_assoc a b c =
    equal _ _ (times_regroups a b c)
    (λ t h e. subst (λ (d : Disc). has d t ≡ true) (times_comm c (times b a) ∙ ap (λ d. times d c) (times_comm b a))
    (times_regroups c b a t h (subst (λ (d : Disc). has d t ≡ true) (times_comm a (times b c) ∙ ap (λ d. times d a) (times_comm b c)) e)))

pub one_gives : (u : ℕ) → u < 24 → has one u ≡ true → u ≡ 0
one_gives u h e = eqb-true u 0 (sym (has_stations (λ t. nat_eq t 0) u h) ∙ e)

pub in_one : has one 0 ≡ true
in_one = has_stations (λ t. nat_eq t 0) 0 (omega arith)

pub times_one : (a : Disc) → times a one ≡ a
times_one a =
    equal _ _
    (λ t h e.
    let m = times_gives a one t h e in
    let at : m.from ≡ t = omega (arith, m.reaches, m.from_below, one_gives m.by m.by_below m.right) in
    ap (has a) (sym at) ∙ m.left)
    (λ t h e. in_times a one t 0 t h (omega arith) e in_one (omega arith))

pub times_zero : (a : Disc) → times a zero ≡ zero
times_zero a =
    equal _ _
    (λ t h e.
    let m = times_gives a zero t h e in
    absurd (false≢true (sym (has_stations (λ t. false) m.by m.by_below) ∙ m.right)))
    (λ t h e. absurd (false≢true (sym (has_stations (λ t. false) t h) ∙ e)))

pub times_plus : (a b c : Disc) → times a (plus b c) ≡ plus (times a b) (times a c)
times_plus a b c =
    equal _ _
    (λ t h e. let m = times_gives a (plus b c) t h e in split t h m (in_either b c m.by m.by_below m.right))
    (λ t h e. join t h (in_either (times a b) (times a c) t h e))
  where
    split : (t : ℕ) → t < 24 → (m : Met a (plus b c) t) → (has b m.by ≡ true) ⊎ (has c m.by ≡ true) → has (plus (times a b) (times a c)) t ≡ true
    split t h m (inl r) = in_left (times a b) (times a c) t h (in_times a b m.from m.by t m.from_below m.by_below m.left r m.reaches)
    split t h m (inr r) = in_right (times a b) (times a c) t h (in_times a c m.from m.by t m.from_below m.by_below m.left r m.reaches)

    join : (t : ℕ) → t < 24 → (has (times a b) t ≡ true) ⊎ (has (times a c) t ≡ true) → has (times a (plus b c)) t ≡ true
    join t h (inl e) =
        let m = times_gives a b t h e in
        in_times a (plus b c) m.from m.by t m.from_below m.by_below m.left (in_left b c m.by m.by_below m.right) m.reaches
    join t h (inr e) =
        let m = times_gives a c t h e in
        in_times a (plus b c) m.from m.by t m.from_below m.by_below m.left (in_right b c m.by m.by_below m.right) m.reaches
