-- Kleene's scheme forms all ways of a grid, and the product of its star with the column is the
-- least solution.
use Rattle.std.proofs.Common.{◌≡◌, ℕ, ◌+◌, ◌<◌, ◌≤◌, ◌≢◌, sym, ap, ◌∙◌, subst, ap₂, arith}
use native.Mathlib.Decide.{dec_lt}
use Rattle.semiring.specs.Algebra.{Algebra, Under}
use Rattle.semiring.specs.Sums.{sum_to}
use Rattle.semiring.proofs.Dioid.{dioid}
use Rattle.semiring.proofs.Order
use Rattle.semiring.proofs.Star
use Rattle.semiring.proofs.Sums
use Rattle.linear.specs.System.{right_side, Least}
use Rattle.linear.specs.Kleene.{Stepped, Closed}
use Rattle.linear.proofs.Cells.{by_equal}
use Rattle.linear.proofs.Existence.{least_same}

module _ {K : Type 0} (k : Algebra K) (n : ℕ) where
  -- A product of two sums lies under c where all four products of their parts do.
  four_under : {a b u v c : K} → Under k (k.times a u) c → Under k (k.times a v) c → Under k (k.times b u) c → Under k (k.times b v) c → Under k (k.times (k.plus a b) (k.plus u v)) c
  four_under {a} {b} {u} {v} {c} p q r t =
      rw (Order.plus_times (dioid k) a b (k.plus u v), k.laws.times_plus a u v, k.laws.times_plus b u v) (Order.plus_least (dioid k) (Order.plus_least (dioid k) p q) (Order.plus_least (dioid k) r t))

  inner : (c s d e : K) → k.times (k.times c (k.times s d)) e ≡ k.times c (k.times s (k.times d e))
  inner c s d e = simp (Order.products, dioid k)

  module _ (p : ℕ) (a g g' : ℕ → ℕ → K) (within : p < n) (step : Stepped k n p g g') (h : Closed k n p a g) where
    -- The ways through p.
    abbrev via : ℕ → ℕ → K
    via i j = k.times (g i p) (k.times (k.star (g p p)) (g p j))

    old_under : (i j : ℕ) → i < n → j < n → Under k (g i j) (g' i j)
    old_under i j l m = rw (step i j l m) (Order.under_plus_left (dioid k) (g i j) (via i j))

    via_under : (i j : ℕ) → i < n → j < n → Under k (via i j) (g' i j)
    via_under i j l m = rw (step i j l m) (Order.under_plus_right (dioid k) (g i j) (via i j))

    -- The new cells in the column and in the row of p.
    column_p : (i : ℕ) → i < n → g' i p ≡ k.times (g i p) (k.star (g p p))
    column_p i l = step i p l within ∙ folded (g i p) (g p p)
      where
        folded : (c d : K) → k.plus c (k.times c (k.times (k.star d) d)) ≡ k.times c (k.star d)
        folded c d =
            sym (ap (k.times c) (sym (Star.star_step k d)) ∙ k.laws.times_plus c k.one (k.times d (k.star d)) ∙ ap₂ k.plus (k.laws.times_one c) (ap (k.times c) (k.laws.times_comm d (k.star d))))

    row_p : (j : ℕ) → j < n → g' p j ≡ k.times (k.star (g p p)) (g p j)
    row_p j l = step p j within l ∙ k.laws.plus_comm _ _ ∙ sym (Star.star_solves k (g p p) (g p j))

    -- Ways that meet in p, and ways that meet in a row below p.
    joined_p : (i j : ℕ) → i < n → j < n → Under k (k.times (g' i p) (g' p j)) (g' i j)
    joined_p i j l m = rw (column_p i l, row_p j m, squared (g i p) (k.star (g p p)) (g p j) (Star.star_square k (g p p))) (via_under i j l m)
      where
        squared : (c s d : K) → k.times s s ≡ s → k.times (k.times c s) (k.times s d) ≡ k.times c (k.times s d)
        squared c s d e = k.laws.times_assoc c s (k.times s d) ∙ ap (k.times c) (sym (k.laws.times_assoc s s d) ∙ ap (λ x. k.times x d) e)

    joined_below : (i m j : ℕ) → i < n → m < p → j < n → Under k (k.times (g' i m) (g' m j)) (g' i j)
    joined_below i m j l o l' =
        rw (step i m l (omega arith), step m j (omega arith) l') (four_under (Order.under_trans (dioid k) (h.joined i m j l o l') (old_under i j l l')) (Order.under_trans (dioid k) out (via_under i j l l')) (Order.under_trans (dioid k) back (via_under i j l l')) (Order.under_trans (dioid k) round (via_under i j l l')))
      where
        out : Under k (k.times (g i m) (via m j)) (via i j)
        out = rw (← k.laws.times_assoc (g i m) (g m p) (k.times (k.star (g p p)) (g p j))) (Order.times_mono_left (dioid k) _ (h.joined i m p l o within))

        back : Under k (k.times (via i m) (g m j)) (via i j)
        back = rw (inner (g i p) (k.star (g p p)) (g p m) (g m j)) (Order.times_mono_right (dioid k) (g i p) (Order.times_mono_right (dioid k) (k.star (g p p)) (h.joined p m j within o l')))

        nested : (c s d e t : K) → k.times (k.times c (k.times s d)) (k.times e t) ≡ k.times c (k.times s (k.times (k.times d e) t))
        nested c s d e t = simp (Order.products, dioid k)

        loop : (c s d e : K) → Under k (k.times d s) s → k.times s s ≡ s → Under k (k.times c (k.times s (k.times d (k.times s e)))) (k.times c (k.times s e))
        loop c s d e kept square =
            Order.under_trans (dioid k) (Order.times_mono_right (dioid k) c (Order.times_mono_right (dioid k) s (rw (← k.laws.times_assoc d s e) (Order.times_mono_left (dioid k) e kept)))) (Order.equal_under (dioid k) (ap (k.times c) (sym (k.laws.times_assoc s s e) ∙ ap (λ x. k.times x e) square)))

        round : Under k (k.times (via i m) (via m j)) (via i j)
        round =
            rw (nested (g i p) (k.star (g p p)) (g p m) (g m p) (k.times (k.star (g p p)) (g p j))) (Order.under_trans (dioid k) (Order.times_mono_right (dioid k) (g i p) (Order.times_mono_right (dioid k) (k.star (g p p)) (Order.times_mono_left (dioid k) _ (h.joined p m p within o within)))) (loop (g i p) (k.star (g p p)) (g p p) (g p j) (Star.star_kept k (g p p)) (Star.star_square k (g p p))))

    kept_still : (y : ℕ → K) → ((i j : ℕ) → i < n → j < n → Under k (k.times (a i j) (y j)) (y i)) → (i j : ℕ) → i < n → j < n → Under k (k.times (g' i j) (y j)) (y i)
    kept_still y c i j l m =
        rw (step i j l m, Order.plus_times (dioid k) (g i j) (via i j) (y j), inner (g i p) (k.star (g p p)) (g p j) (y j)) (Order.plus_least (dioid k) (h.kept y c i j l m) (Order.under_trans (dioid k) (Order.times_mono_right (dioid k) (g i p) (Order.under_trans (dioid k) (Order.times_mono_right (dioid k) (k.star (g p p)) (h.kept y c p j within m)) (Star.star_least k (Order.plus_least (dioid k) (h.kept y c p p within within) (k.laws.plus_idem (y p)))))) (h.kept y c i p l within)))

    pub closed_more : Closed k n (p + 1) a g'
    closed_more = record {
      entries = λ i j l m. Order.under_trans (dioid k) (h.entries i j l m) (old_under i j l m);
      joined = λ i m j l o l'. by_equal m p (λ e. subst (λ m. Under k (k.times (g' i m) (g' m j)) (g' i j)) (sym e) (joined_p i j l l')) (λ d. joined_below i m j l (omega arith) l');
      kept = kept_still;
    }

  -- The star of a times b is b and all its ways: the least solution.
  module _ (a g : ℕ → ℕ → K) (b : ℕ → K) (h : Closed k n n a g) where
    abbrev pub product_of : ℕ → K
    product_of r = right_side k n g b b r

    way_under : (i j : ℕ) → i < n → j < n → Under k (k.times (g i j) (b j)) (product_of i)
    way_under i j l m = Order.under_trans (dioid k) (Sums.sum_to_member k (λ q. k.times (g i q) (b q)) n j m) (Order.under_plus_left (dioid k) _ (b i))

    pub entry_under : (i : ℕ) → Under k (b i) (product_of i)
    entry_under i = Order.under_plus_right (dioid k) _ (b i)

    pub product_kept : (i j : ℕ) → i < n → j < n → Under k (k.times (g i j) (product_of j)) (product_of i)
    product_kept i j l m =
        rw (k.laws.times_plus (g i j) (sum_to k (λ q. k.times (g j q) (b q)) n) (b j), Sums.sum_to_times k (g i j) (λ q. k.times (g j q) (b q)) n) (Order.plus_least (dioid k) (Sums.sum_to_least k _ n (λ q o. rw (← k.laws.times_assoc (g i j) (g j q) (b q)) (Order.under_trans (dioid k) (Order.times_mono_left (dioid k) (b q) (h.joined i j q l m o)) (way_under i q l o)))) (way_under i j l m))

    side_under : (i : ℕ) → i < n → Under k (right_side k n a b product_of i) (product_of i)
    side_under i l = Order.plus_least (dioid k) (Sums.sum_to_least k _ n (λ j m. Order.under_trans (dioid k) (Order.times_mono_left (dioid k) (product_of j) (h.entries i j l m)) (product_kept i j l m))) (entry_under i)

    -- What a keeps under itself, and b lies under, lies above the product.
    product_least : (y : ℕ → K) → ((i j : ℕ) → i < n → j < n → Under k (k.times (a i j) (y j)) (y i)) → ((i : ℕ) → i < n → Under k (b i) (y i)) → (i : ℕ) → i < n → Under k (product_of i) (y i)
    product_least y c d i l = Order.plus_least (dioid k) (Sums.sum_to_least k _ n (λ j m. Order.under_trans (dioid k) (Order.times_mono_right (dioid k) (g i j) (d j m)) (h.kept y c i j l m))) (d i l)

    pub product_solution : Least k n a b product_of
    product_solution = record {
      solves = λ r l. Order.under_antisym (dioid k) (product_least (right_side k n a b product_of) (λ i j m o. Order.under_trans (dioid k) (Order.times_mono_right (dioid k) (a i j) (side_under j o)) (term i j m o)) (λ i m. Order.under_plus_right (dioid k) _ (b i)) r l) (side_under r l);
      least = λ y c. product_least y (λ i j l m. Order.under_trans (dioid k) (Sums.sum_to_member k (λ q. k.times (a i q) (y q)) n j m) (Order.plus_parts (dioid k) (c i l)).0) (λ i l. (Order.plus_parts (dioid k) (c i l)).1);
    }
      where
        term : (i j : ℕ) → i < n → j < n → Under k (k.times (a i j) (product_of j)) (right_side k n a b product_of i)
        term i j l m = Order.under_trans (dioid k) (Sums.sum_to_member k (λ q. k.times (a i q) (product_of q)) n j m) (Order.under_plus_left (dioid k) _ (b i))

  -- How far the column is multiplied, in place: the values before p are the product's, the others
  -- as they were.
  pub record Multiplied (p : ℕ) (g : ℕ → ℕ → K) (b v : ℕ → K) : Type 0 where
    pub low : (r : ℕ) → r < p → v r ≡ right_side k n g b b r
    pub high : (r : ℕ) → p ≤ r → v r ≡ b r

  module _ (p : ℕ) (a g : ℕ → ℕ → K) (b v : ℕ → K) (within : p < n) (h : Closed k n n a g) (so : Multiplied p g b v) where
    between : (q : ℕ) → Under k (b q) (v q) × Under k (v q) (right_side k n g b b q)
    between q = elim (dec_lt q p) [ yes l ↦ (rw (so.low q l) (entry_under a g b h q), Order.equal_under (dioid k) (so.low q l)) | no m ↦ (Order.equal_under (dioid k) (sym (so.high q (omega arith))), rw (so.high q (omega arith)) (entry_under a g b h q)) ]

    -- A value that is multiplied already adds nothing new.
    pub side_mixed : right_side k n g v v p ≡ right_side k n g b b p
    side_mixed =
        Order.under_antisym (dioid k) (Order.plus_least (dioid k) (Sums.sum_to_least k _ n (λ q m. Order.under_trans (dioid k) (Order.times_mono_right (dioid k) (g p q) (between q).1) (product_kept a g b h p q within m))) (between p).1) (Order.plus_mono (dioid k) (Sums.sum_to_mono k _ _ n (λ q m. Order.times_mono_right (dioid k) (g p q) (between q).0)) (between p).0)

    pub multiplied_more : (v' : ℕ → K) → v' p ≡ right_side k n g v v p → ((r : ℕ) → r ≢ p → v' r ≡ v r) → Multiplied (p + 1) g b v'
    multiplied_more v' here other = record {
      low = λ r l. by_equal r p (λ e. subst (λ r. v' r ≡ right_side k n g b b r) (sym e) (here ∙ side_mixed)) (λ d. other r d ∙ so.low r (omega arith));
      high = λ r l. other r (omega arith) ∙ so.high r (omega arith);
    }

  pub multiplied_all : (a g : ℕ → ℕ → K) (b v : ℕ → K) → Closed k n n a g → Multiplied n g b v → Least k n a b v
  multiplied_all a g b v h so = least_same k n a b (right_side k n g b b) v so.low (product_solution a g b h)
