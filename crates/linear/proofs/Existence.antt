-- Every system has a least solution and no other one, and it is a finite sum of products of the
-- system's entries: whatever holds of the column, and is kept by zero, by sums and by the products
-- with the grid's entries, holds of it. By removal of the first unknown.
use Rattle.std.proofs.Common.{◌≡◌, ℕ, zero, suc, ◌<◌, sym, ap, ◌∙◌, subst, ap₂, arith}
use Rattle.semiring.specs.Algebra.{Algebra, Under, powers}
use Rattle.semiring.specs.Sums.{sum_to}
use Rattle.semiring.proofs.Dioid.{dioid}
use Rattle.semiring.proofs.Order
use Rattle.semiring.proofs.Powers
use Rattle.semiring.proofs.Star
use Rattle.semiring.proofs.Sums
use Rattle.linear.specs.System.{right_side, Least, OneSolution}

module _ {K : Type 0} (k : Algebra K) where
  -- Two least solutions of one system are equal place by place.
  pub least_unique : (n : ℕ) (a : ℕ → ℕ → K) (b x y : ℕ → K) → Least k n a b x → Least k n a b y → (r : ℕ) → r < n → x r ≡ y r
  least_unique n a b x y p q r l =
      Order.under_antisym (dioid k) (p.least y (λ i m. Order.equal_under (dioid k) (sym (q.solves i m))) r l) (q.least x (λ i m. Order.equal_under (dioid k) (sym (p.solves i m))) r l)

  -- Only the places below n count.
  pub least_same : (n : ℕ) (a : ℕ → ℕ → K) (b x y : ℕ → K) → ((r : ℕ) → r < n → y r ≡ x r) → Least k n a b x → Least k n a b y
  least_same n a b x y same p = record {
    solves = λ r l. same r l ∙ p.solves r l ∙ ap (λ s. k.plus s (b r)) (Sums.sum_to_ext k _ _ n (λ q m. ap (k.times (a r q)) (sym (same q m))));
    least = λ z h r l. rw (same r l) (p.least z h r l);
  }

  -- The first term of a sum.
  pub sum_to_front : (f : ℕ → K) (n : ℕ) → sum_to k f (suc n) ≡ k.plus (f zero) (sum_to k (λ i. f (suc i)) n)
  sum_to_front f zero = k.laws.plus_comm k.zero (f zero)
  sum_to_front f (suc n) = ap (λ s. k.plus s (f (suc n))) (sum_to_front f n) ∙ k.laws.plus_assoc (f zero) (sum_to k (λ i. f (suc i)) n) (f (suc n))

  -- The system that is left where the first unknown is put into the other rows.
  abbrev pub rest_grid : (ℕ → ℕ → K) → ℕ → ℕ → K
  rest_grid a r q = k.plus (a (suc r) (suc q)) (k.times (a (suc r) zero) (k.times (k.star (a zero zero)) (a zero (suc q))))

  abbrev pub rest_column : (ℕ → ℕ → K) → (ℕ → K) → ℕ → K
  rest_column a b r = k.plus (b (suc r)) (k.times (a (suc r) zero) (k.times (k.star (a zero zero)) (b zero)))

  -- The first unknown, with the others at x.
  abbrev pub first : ℕ → (ℕ → ℕ → K) → (ℕ → K) → (ℕ → K) → K
  first n a b x = k.times (k.star (a zero zero)) (k.plus (sum_to k (λ q. k.times (a zero (suc q)) (x q)) n) (b zero))

  spread : (d c s e w : K) → k.times (k.plus d (k.times c (k.times s e))) w ≡ k.plus (k.times d w) (k.times c (k.times s (k.times e w)))
  spread d c s e w = Order.plus_times (dioid k) d (k.times c (k.times s e)) w ∙ ap (k.plus (k.times d w)) (k.laws.times_assoc c (k.times s e) w ∙ ap (k.times c) (k.laws.times_assoc s e w))

  -- A row of the system that is left, in the entries of the whole one.
  pub rest_side : (n : ℕ) (a : ℕ → ℕ → K) (b x : ℕ → K) (r : ℕ) → right_side k n (rest_grid a) (rest_column a b) x r ≡ k.plus (k.plus (k.times (a (suc r) zero) (first n a b x)) (sum_to k (λ q. k.times (a (suc r) (suc q)) (x q)) n)) (b (suc r))
  rest_side n a b x r =
      let c = a (suc r) zero in
      let s = k.star (a zero zero) in
      let u = sum_to k (λ q. k.times (a (suc r) (suc q)) (x q)) n in
      let v = sum_to k (λ q. k.times (a zero (suc q)) (x q)) n in
      let parted : sum_to k (λ q. k.times (rest_grid a r q) (x q)) n ≡ k.plus u (k.times c (k.times s v)) =
      sum_to_parted n (λ q. a (suc r) (suc q)) (λ q. a zero (suc q)) c s x in
      ap (λ t. k.plus t (rest_column a b r)) parted ∙ gathered u c s v (b (suc r)) (b zero)
    where
      sum_to_parted : (n : ℕ) (d e : ℕ → K) (c s : K) (x : ℕ → K) → sum_to k (λ q. k.times (k.plus (d q) (k.times c (k.times s (e q)))) (x q)) n ≡ k.plus (sum_to k (λ q. k.times (d q) (x q)) n) (k.times c (k.times s (sum_to k (λ q. k.times (e q) (x q)) n)))
      sum_to_parted n d e c s x =
          Sums.sum_to_ext k _ (λ q. k.plus (k.times (d q) (x q)) (k.times c (k.times s (k.times (e q) (x q))))) n (λ q l. spread (d q) c s (e q) (x q)) ∙ Sums.sum_to_plus k (λ q. k.times (d q) (x q)) (λ q. k.times c (k.times s (k.times (e q) (x q)))) n ∙ ap (k.plus (sum_to k (λ q. k.times (d q) (x q)) n)) (sym (ap (k.times c) (Sums.sum_to_times k s (λ q. k.times (e q) (x q)) n) ∙ Sums.sum_to_times k c (λ q. k.times s (k.times (e q) (x q))) n))

      crossed : (u p b q : K) → k.plus (k.plus u p) (k.plus b q) ≡ k.plus (k.plus (k.plus p q) u) b
      crossed u p b q = simp (Order.sums, dioid k)

      gathered : (u c s v b z : K) → k.plus (k.plus u (k.times c (k.times s v))) (k.plus b (k.times c (k.times s z))) ≡ k.plus (k.plus (k.times c (k.times s (k.plus v z))) u) b
      gathered u c s v b z =
          crossed u (k.times c (k.times s v)) b (k.times c (k.times s z)) ∙ ap (λ t. k.plus (k.plus t u) b) (sym (ap (k.times c) (k.laws.times_plus s v z) ∙ k.laws.times_plus c (k.times s v) (k.times s z)))

  -- A row of the whole system, its first term apart.
  pub whole_side : (n : ℕ) (a : ℕ → ℕ → K) (b x : ℕ → K) (r : ℕ) → right_side k (suc n) a b x r ≡ k.plus (k.plus (k.times (a r zero) (x zero)) (sum_to k (λ q. k.times (a r (suc q)) (x (suc q))) n)) (b r)
  whole_side n a b x r = ap (λ t. k.plus t (b r)) (sum_to_front (λ q. k.times (a r q) (x q)) n)

  -- A solution of the system that is left, with the first unknown before it.
  abbrev pub extended : ℕ → (ℕ → ℕ → K) → (ℕ → K) → (ℕ → K) → ℕ → K
  extended n a b x zero = first n a b x
  extended n a b x (suc r) = x r

  module _ (n : ℕ) (a : ℕ → ℕ → K) (b x : ℕ → K) (before : Least k n (rest_grid a) (rest_column a b) x) where
    extended_solves : (r : ℕ) → r < suc n → extended n a b x r ≡ right_side k (suc n) a b (extended n a b x) r
    extended_solves zero l =
        let u = sum_to k (λ q. k.times (a zero (suc q)) (x q)) n in
        Star.star_solves k (a zero zero) (k.plus u (b zero)) ∙ sym (k.laws.plus_assoc (k.times (a zero zero) (first n a b x)) u (b zero)) ∙ sym (whole_side n a b (extended n a b x) zero)
    extended_solves (suc r) l = before.solves r (omega arith) ∙ rest_side n a b x r ∙ sym (whole_side n a b (extended n a b x) (suc r))

    module _ (y : ℕ → K) (above : (r : ℕ) → r < suc n → Under k (right_side k (suc n) a b y r) (y r)) where
      -- What lies above the whole system lies above what is left of it, and its first place above
      -- the first unknown.
      first_under : Under k (first n a b (λ q. y (suc q))) (y zero)
      first_under =
          let u = sum_to k (λ q. k.times (a zero (suc q)) (y (suc q))) n in
          Star.star_least k (rw (← k.laws.plus_assoc (k.times (a zero zero) (y zero)) u (b zero), ← whole_side n a b y zero) (above zero (omega arith)))

      rest_above : (r : ℕ) → r < n → Under k (right_side k n (rest_grid a) (rest_column a b) (λ q. y (suc q)) r) (y (suc r))
      rest_above r l =
          rw (rest_side n a b (λ q. y (suc q)) r) (Order.under_trans (dioid k) (Order.plus_mono (dioid k) (Order.plus_mono (dioid k) (Order.times_mono_right (dioid k) (a (suc r) zero) first_under) (k.laws.plus_idem _)) (k.laws.plus_idem _)) (rw (whole_side n a b y (suc r)) at (above (suc r) (omega arith))))

      extended_under : (r : ℕ) → r < suc n → Under k (extended n a b x r) (y r)
      extended_under zero l =
          Order.under_trans (dioid k) (Order.times_mono_right (dioid k) (k.star (a zero zero)) (Order.plus_mono (dioid k) (Sums.sum_to_mono k _ _ n (λ q m. Order.times_mono_right (dioid k) (a zero (suc q)) (before.least (λ q. y (suc q)) rest_above q m))) (k.laws.plus_idem (b zero)))) first_under
      extended_under (suc r) l = before.least (λ q. y (suc q)) rest_above r (omega arith)

    pub extended_least : Least k (suc n) a b (extended n a b x)
    extended_least = record { solves = extended_solves; least = extended_under }

  -- Every system has a least solution.
  pub solution : ℕ → (ℕ → ℕ → K) → (ℕ → K) → ℕ → K
  solution zero a b = b
  solution (suc n) a b = extended n a b (solution n (rest_grid a) (rest_column a b))

  pub solution_least : (n : ℕ) (a : ℕ → ℕ → K) (b : ℕ → K) → Least k n a b (solution n a b)
  unfolding solution
  solution_least zero a b = record { solves = λ r l. absurd (omega arith); least = λ y h r l. absurd (omega arith) }
  solution_least (suc n) a b = extended_least n a b (solution n (rest_grid a) (rest_column a b)) (solution_least n (rest_grid a) (rest_column a b))

  pub one_solution : OneSolution k
  one_solution = record { some = λ n a b. (solution n a b, solution_least n a b); unique = least_unique }

  -- What zero, sums and the products with a keep, the star of a keeps too.
  pub star_in : (F : K → Type 0) → ((v w : K) → F v → F w → F (k.plus v w)) → (a : K) → ((w : K) → F w → F (k.times a w)) → (w : K) → F w → F (k.times (k.star a) w)
  star_in F sum a step w h = subst (λ s. F (k.times s w)) (sym (k.laws.star_finite a).1) (powers_in (k.laws.star_finite a).0)
    where
      powers_in : (i : ℕ) → F (k.times (powers k.one k.plus k.times a i) w)
      powers_in zero = subst F (sym (Order.one_times (dioid k) w)) h
      powers_in (suc i) =
          let p = powers k.one k.plus k.times a i in
          subst F (sym (ap (λ s. k.times s w) (Powers.powers_step (dioid k) a i) ∙ Order.plus_times (dioid k) k.one (k.times a p) w ∙ ap₂ k.plus (Order.one_times (dioid k) w) (k.laws.times_assoc a p w))) (sum w (k.times a (k.times p w)) h (step (k.times p w) (powers_in i)))

  pub sum_to_in : (F : K → Type 0) → F k.zero → ((v w : K) → F v → F w → F (k.plus v w)) → (f : ℕ → K) (n : ℕ) → ((i : ℕ) → i < n → F (f i)) → F (sum_to k f n)
  sum_to_in F none sum f zero h = none
  sum_to_in F none sum f (suc n) h = sum (sum_to k f n) (f n) (sum_to_in F none sum f n (λ i l. h i (omega arith))) (h n (omega arith))

  -- Whatever holds of zero and of every b i at row i, and is kept by sums and, from row j to row
  -- i, by the product with a i j, is kept so by the system that is left, and holds of the solution.
  module _ (n : ℕ) (a : ℕ → ℕ → K) (b : ℕ → K) (F : ℕ → K → Type 0) (none : (i : ℕ) → F i k.zero) (sum : (i : ℕ) (v w : K) → F i v → F i w → F i (k.plus v w)) (step : (i j : ℕ) → i < suc n → j < suc n → (w : K) → F j w → F i (k.times (a i j) w)) (start : (i : ℕ) → i < suc n → F i (b i)) where
    first_in : (w : K) → F zero w → F zero (k.times (k.star (a zero zero)) w)
    first_in = star_in (F zero) (sum zero) (a zero zero) (step zero zero (omega arith) (omega arith))

    through_first : (i : ℕ) → i < n → (w : K) → F zero w → F (suc i) (k.times (a (suc i) zero) (k.times (k.star (a zero zero)) w))
    through_first i l w h = step (suc i) zero (omega arith) (omega arith) _ (first_in w h)

    rest_step : (i j : ℕ) → i < n → j < n → (w : K) → F (suc j) w → F (suc i) (k.times (rest_grid a i j) w)
    rest_step i j l m w h =
        subst (F (suc i)) (sym (spread (a (suc i) (suc j)) (a (suc i) zero) (k.star (a zero zero)) (a zero (suc j)) w)) (sum (suc i) _ _ (step (suc i) (suc j) (omega arith) (omega arith) w h) (through_first i l _ (step zero (suc j) (omega arith) (omega arith) w h)))

    rest_start : (i : ℕ) → i < n → F (suc i) (rest_column a b i)
    rest_start i l = sum (suc i) _ _ (start (suc i) (omega arith)) (through_first i l (b zero) (start zero (omega arith)))

    extended_in : (x : ℕ → K) → ((i : ℕ) → i < n → F (suc i) (x i)) → (i : ℕ) → i < suc n → F i (extended n a b x i)
    extended_in x h zero l =
        first_in _ (sum zero _ _ (sum_to_in (F zero) (none zero) (sum zero) (λ q. k.times (a zero (suc q)) (x q)) n (λ q m. step zero (suc q) (omega arith) (omega arith) (x q) (h q m))) (start zero (omega arith)))
    extended_in x h (suc i) l = h i (omega arith)

  solution_in : (n : ℕ) (a : ℕ → ℕ → K) (b : ℕ → K) (F : ℕ → K → Type 0) → ((i : ℕ) → F i k.zero) → ((i : ℕ) (v w : K) → F i v → F i w → F i (k.plus v w)) → ((i j : ℕ) → i < n → j < n → (w : K) → F j w → F i (k.times (a i j) w)) → ((i : ℕ) → i < n → F i (b i)) → (i : ℕ) → i < n → F i (solution n a b i)
  unfolding solution
  solution_in zero a b F none sum step start i l = absurd (omega arith)
  solution_in (suc n) a b F none sum step start i l =
      extended_in n a b F none sum step start (solution n (rest_grid a) (rest_column a b)) (solution_in n (rest_grid a) (rest_column a b) (λ i. F (suc i)) (λ i. none (suc i)) (λ i. sum (suc i)) (rest_step n a b F none sum step start) (rest_start n a b F none sum step start)) i l

  -- So it holds of every least solution.
  pub least_in : (n : ℕ) (a : ℕ → ℕ → K) (b : ℕ → K) (F : ℕ → K → Type 0) → ((i : ℕ) → F i k.zero) → ((i : ℕ) (v w : K) → F i v → F i w → F i (k.plus v w)) → ((i j : ℕ) → i < n → j < n → (w : K) → F j w → F i (k.times (a i j) w)) → ((i : ℕ) → i < n → F i (b i)) → (x : ℕ → K) → Least k n a b x → (i : ℕ) → i < n → F i (x i)
  least_in n a b F none sum step start x p i l = subst (F i) (least_unique n a b (solution n a b) x (solution_least n a b) p i l) (solution_in n a b F none sum step start i l)
