-- Removal of an unknown keeps the least solution, and the values put back from the last row up are
-- that solution.
use Rattle.std.proofs.Common.{◌≡◌, ℕ, suc, ◌<◌, ◌≤◌, ◌≢◌, sym, ap, ◌∙◌, subst, ap₂, arith}
use Rattle.semiring.specs.Algebra.{Algebra, Under}
use Rattle.semiring.specs.Sums.{sum_to}
use Rattle.semiring.proofs.Dioid.{dioid}
use Rattle.semiring.proofs.Order
use Rattle.semiring.proofs.Star
use Rattle.semiring.proofs.Sums
use Rattle.linear.specs.System.{right_side, Least}
use Rattle.linear.specs.Removal.{Above, Refines}
use Rattle.linear.proofs.Cells.{by_equal}

module _ {K : Type 0} (k : Algebra K) (n : ℕ) where
  pub refines_trans : {a a' a'' : ℕ → ℕ → K} {b b' b'' : ℕ → K} → Refines k n a b a' b' → Refines k n a' b' a'' b'' → Refines k n a b a'' b''
  refines_trans p q = record { above = λ y h. q.above y (p.above y h); solves = λ x h. p.solves x (q.solves x h) }

  pub refines_least : {a a' : ℕ → ℕ → K} {b b' x : ℕ → K} → Refines k n a b a' b' → Least k n a' b' x → Least k n a b x
  refines_least {x = x} p l = record { solves = p.solves x l.solves; least = λ y h. l.least y (p.above y h) }

  -- A sum, one of its terms apart.
  pub sum_apart : (f z : ℕ → K) (p : ℕ) → p < n → z p ≡ k.zero → ((q : ℕ) → q < n → q ≢ p → z q ≡ f q) → sum_to k f n ≡ k.plus (f p) (sum_to k z n)
  sum_apart f z p l gone rest =
      Order.under_antisym (dioid k)
      (Sums.sum_to_least k f n (λ q m. by_equal q p (λ e. rw e (Order.under_plus_left (dioid k) (f p) (sum_to k z n))) (λ d. Order.under_trans (dioid k) (rw (rest q m d) at (Sums.sum_to_member k z n q m)) (Order.under_plus_right (dioid k) (f p) (sum_to k z n)))))
      (Order.plus_least (dioid k) (Sums.sum_to_member k f n p l) (Sums.sum_to_least k z n (λ q m. by_equal q p (λ e. rw (e, gone) (Order.zero_under (dioid k) _)) (λ d. rw (rest q m d) (Sums.sum_to_member k f n q m)))))

  -- Equal rows have equal right sides.
  pub side_ext : (a a' : ℕ → ℕ → K) (b b' y : ℕ → K) (r : ℕ) → ((q : ℕ) → q < n → a' r q ≡ a r q) → b' r ≡ b r → right_side k n a' b' y r ≡ right_side k n a b y r
  side_ext a a' b b' y r row entry = ap₂ k.plus (Sums.sum_to_ext k _ _ n (λ q l. ap (λ c. k.times c (y q)) (row q l))) entry

  module _ (a : ℕ → ℕ → K) (b z : ℕ → K) (i p : ℕ) (l : p < n) (gone : z p ≡ k.zero) (others : (q : ℕ) → q < n → q ≢ p → z q ≡ a i q) where
    -- The row i without p.
    abbrev without : (ℕ → K) → K
    without y = k.plus (sum_to k (λ q. k.times (z q) (y q)) n) (b i)

    side_apart : (y : ℕ → K) → right_side k n a b y i ≡ k.plus (k.times (a i p) (y p)) (without y)
    side_apart y =
        ap (λ s. k.plus s (b i)) (sum_apart (λ q. k.times (a i q) (y q)) (λ q. k.times (z q) (y q)) p l (ap (λ c. k.times c (y p)) gone ∙ Order.zero_times (dioid k) (y p)) (λ q m d. ap (λ c. k.times c (y q)) (others q m d))) ∙ k.laws.plus_assoc _ _ _

  -- Row p solved for its own unknown: p goes out of it, and the rest is multiplied by the star.
  pub refines_scaled : (a a' : ℕ → ℕ → K) (b b' z : ℕ → K) (p : ℕ) → p < n → z p ≡ k.zero → ((q : ℕ) → q < n → q ≢ p → z q ≡ a p q) → ((q : ℕ) → q < n → a' p q ≡ k.times (k.star (a p p)) (z q)) → b' p ≡ k.times (k.star (a p p)) (b p) → ((i q : ℕ) → i < n → q < n → i ≢ p → a' i q ≡ a i q) → ((i : ℕ) → i ≢ p → b' i ≡ b i) → Refines k n a b a' b'
  refines_scaled a a' b b' z p l gone others row entry rows entries = record {
    above = λ y h r m. by_equal r p (λ e. subst (λ r. Under k (right_side k n a' b' y r) (y r)) (sym e) (rw (scaled y) (Star.star_least k (rw (← old y) (h p l))))) (λ d. rw (side_ext a a' b b' y r (λ q o. rows r q m o d) (entries r d)) (h r m));
    solves = λ x h r m. by_equal r p (λ e. subst (λ r. x r ≡ right_side k n a b x r) (sym e) (solved x (h p l ∙ scaled x))) (λ d. h r m ∙ side_ext a a' b b' x r (λ q o. rows r q m o d) (entries r d));
  }
    where
      old : (y : ℕ → K) → right_side k n a b y p ≡ k.plus (k.times (a p p) (y p)) (without a b z p p l gone others y)
      old = side_apart a b z p p l gone others

      scaled : (y : ℕ → K) → right_side k n a' b' y p ≡ k.times (k.star (a p p)) (without a b z p p l gone others y)
      scaled y =
          ap₂ k.plus (Sums.sum_to_ext k _ (λ q. k.times (k.star (a p p)) (k.times (z q) (y q))) n (λ q m. ap (λ c. k.times c (y q)) (row q m) ∙ k.laws.times_assoc _ _ _) ∙ sym (Sums.sum_to_times k _ _ n)) entry ∙ sym (k.laws.times_plus _ _ _)

      solved : (x : ℕ → K) → x p ≡ k.times (k.star (a p p)) (without a b z p p l gone others x) → x p ≡ right_side k n a b x p
      solved x e = e ∙ Star.star_solves k (a p p) _ ∙ ap (λ v. k.plus (k.times (a p p) v) (without a b z p p l gone others x)) (sym e) ∙ sym (old x)

  -- Row p put into row i for its unknown.
  pub refines_added : (a a' : ℕ → ℕ → K) (b b' z : ℕ → K) (p i : ℕ) → p < n → i < n → p ≢ i → z p ≡ k.zero → ((q : ℕ) → q < n → q ≢ p → z q ≡ a i q) → ((q : ℕ) → q < n → a' i q ≡ k.plus (z q) (k.times (a i p) (a p q))) → b' i ≡ k.plus (b i) (k.times (a i p) (b p)) → ((r q : ℕ) → r < n → q < n → r ≢ i → a' r q ≡ a r q) → ((r : ℕ) → r ≢ i → b' r ≡ b r) → Refines k n a b a' b'
  refines_added a a' b b' z p i l l' apart gone others row entry rows entries = record {
    above = λ y h r m. by_equal r i (λ e. subst (λ r. Under k (right_side k n a' b' y r) (y r)) (sym e) (rw (added y) (Order.under_trans (dioid k) (Order.plus_mono (dioid k) (Order.times_mono_right (dioid k) (a i p) (h p l)) (k.laws.plus_idem _)) (rw (← old y) (h i l'))))) (λ d. rw (same y r m d) (h r m));
    solves = λ x h r m. by_equal r i (λ e. subst (λ r. x r ≡ right_side k n a b x r) (sym e) (h i l' ∙ added x ∙ ap (λ v. k.plus (k.times (a i p) v) (without a b z i p l gone others x)) (sym (h p l ∙ same x p l apart)) ∙ sym (old x))) (λ d. h r m ∙ same x r m d);
  }
    where
      old : (y : ℕ → K) → right_side k n a b y i ≡ k.plus (k.times (a i p) (y p)) (without a b z i p l gone others y)
      old = side_apart a b z i p l gone others

      same : (y : ℕ → K) (r : ℕ) → r < n → r ≢ i → right_side k n a' b' y r ≡ right_side k n a b y r
      same y r m d = side_ext a a' b b' y r (λ q o. rows r q m o d) (entries r d)

      spread : (z c e w : K) → k.times (k.plus z (k.times c e)) w ≡ k.plus (k.times z w) (k.times c (k.times e w))
      spread z c e w = Order.plus_times (dioid k) z (k.times c e) w ∙ ap (k.plus (k.times z w)) (k.laws.times_assoc c e w)

      crossed : (u v b d : K) → k.plus (k.plus u v) (k.plus b d) ≡ k.plus (k.plus v d) (k.plus u b)
      crossed u v b d = simp (Order.sums, dioid k)

      added : (y : ℕ → K) → right_side k n a' b' y i ≡ k.plus (k.times (a i p) (right_side k n a b y p)) (without a b z i p l gone others y)
      added y =
          let u = sum_to k (λ q. k.times (z q) (y q)) n in
          let v = sum_to k (λ q. k.times (a p q) (y q)) n in
          let parted : sum_to k (λ q. k.times (a' i q) (y q)) n ≡ k.plus u (k.times (a i p) v) =
          Sums.sum_to_ext k _ (λ q. k.plus (k.times (z q) (y q)) (k.times (a i p) (k.times (a p q) (y q)))) n (λ q m. ap (λ c. k.times c (y q)) (row q m) ∙ spread (z q) (a i p) (a p q) (y q)) ∙ Sums.sum_to_plus k _ _ n ∙ ap (k.plus u) (sym (Sums.sum_to_times k (a i p) _ n)) in
          ap₂ k.plus parted entry ∙ crossed u (k.times (a i p) v) (b i) (k.times (a i p) (b p)) ∙ ap (λ t. k.plus t (k.plus u (b i))) (sym (k.laws.times_plus (a i p) v (b p)))

  -- How far the values are put back: those from p on solve their rows, the others are as they were.
  pub record Back (p : ℕ) (a : ℕ → ℕ → K) (c v : ℕ → K) : Type 0 where
    pub low : (r : ℕ) → r < p → v r ≡ c r
    pub high : (r : ℕ) → p ≤ r → r < n → v r ≡ right_side k n a c v r
    pub under : (y : ℕ → K) → Above k n a c y → (r : ℕ) → r < n → Under k (v r) (y r)

  pub back_more : (p : ℕ) (a : ℕ → ℕ → K) (c v v' : ℕ → K) → p < n → ((r q : ℕ) → r < n → q < n → q ≤ r → a r q ≡ k.zero) → v' p ≡ right_side k n a v v p → ((r : ℕ) → r ≢ p → v' r ≡ v r) → Back (suc p) a c v → Back p a c v'
  back_more p a c v v' l upper here other h = record {
    low = λ r m. other r (omega arith) ∙ h.low r (omega arith);
    high = λ r m o. by_equal r p (λ e. subst (λ r. v' r ≡ right_side k n a c v' r) (sym e) (here ∙ ap₂ k.plus (same p (omega arith) l) (h.low p (omega arith)))) (λ d. other r d ∙ h.high r (omega arith) o ∙ ap (λ s. k.plus s (c r)) (same r m o));
    under = λ y g r m. by_equal r p (λ e. subst (λ r. Under k (v' r) (y r)) (sym e) (rw here (Order.plus_least (dioid k) (Order.under_trans (dioid k) (Sums.sum_to_mono k _ _ n (λ q o. Order.times_mono_right (dioid k) (a p q) (h.under y g q o))) (Order.plus_parts (dioid k) (g p l)).0) (h.under y g p l)))) (λ d. rw (other r d) (h.under y g r m));
  }
    where
      -- a row from p on does not name p
      same : (r : ℕ) → p ≤ r → r < n → sum_to k (λ q. k.times (a r q) (v q)) n ≡ sum_to k (λ q. k.times (a r q) (v' q)) n
      same r m o = Sums.sum_to_ext k _ _ n (λ q u. by_equal q p (λ e. ap (λ c. k.times c (v q)) (none q e) ∙ Order.zero_times (dioid k) (v q) ∙ sym (ap (λ c. k.times c (v' q)) (none q e) ∙ Order.zero_times (dioid k) (v' q))) (λ d. ap (k.times (a r q)) (sym (other q d))))
        where
          none : (q : ℕ) → q ≡ p → a r q ≡ k.zero
          none q e = upper r q o (omega arith) (omega arith)
