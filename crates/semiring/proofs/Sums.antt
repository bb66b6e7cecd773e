-- Finite sums are least upper bounds, and a factor goes in and out of them; products of lists.
use Rattle.std.proofs.Common.{◌≡◌, ℕ, zero, suc, ◌+◌, ◌<◌, ◌⊎◌, List, [], ◌∷◌, ◌++◌, map, length, get_or, take, sym, refl, ap, ◌∙◌, ap₂, inl, inr, le_of_suc-le-suc, eq-or-lt_of_le, arith}
use mathlib.Core.List.{Memᴰ}
use Rattle.std.proofs.lemmas.List.{take_more}
use Rattle.semiring.specs.Algebra.{Algebra, Under}
use Rattle.semiring.specs.Sums.{total, product, sum_to, LeastAbove}
use Rattle.semiring.proofs.Dioid.{dioid}
use Rattle.semiring.proofs.Order

module _ {K : Type 0} (k : Algebra K) where
  -- The sum of a list. Past the end `get_or` reads zero, which lies under everything.
  pub total_member : (xs : List K) (i : ℕ) → Under k (get_or xs i k.zero) (total k xs)
  total_member [] i = Order.zero_under (dioid k) k.zero
  total_member (x ∷ xs) zero = Order.under_plus_left (dioid k) x (total k xs)
  total_member (x ∷ xs) (suc i) = Order.under_trans (dioid k) (total_member xs i) (Order.under_plus_right (dioid k) x (total k xs))

  pub total_least : (xs : List K) {c : K} → ((i : ℕ) → i < length xs → Under k (get_or xs i k.zero) c) → Under k (total k xs) c
  total_least [] {c} h = Order.zero_under (dioid k) c
  total_least (x ∷ xs) h = Order.plus_least (dioid k) (h 0 (omega arith)) (total_least xs (λ i l. h (suc i) (omega arith)))

  pub total_least_above : (xs : List K) → LeastAbove k xs (total k xs)
  total_least_above xs = record { above = λ i l. total_member xs i; least = λ c h. total_least xs h }

  pub total_append : (xs ys : List K) → total k (xs ++ ys) ≡ k.plus (total k xs) (total k ys)
  total_append [] ys = sym (Order.zero_under (dioid k) (total k ys))
  total_append (x ∷ xs) ys = ap (k.plus x) (total_append xs ys) ∙ sym (k.laws.plus_assoc x (total k xs) (total k ys))

  pub total_times : (a : K) (xs : List K) → k.times a (total k xs) ≡ total k (map (k.times a) xs)
  total_times a [] = k.laws.times_zero a
  total_times a (x ∷ xs) = k.laws.times_plus a x (total k xs) ∙ ap (k.plus (k.times a x)) (total_times a xs)

  -- One weight more, read from the list by a loop.
  pub total_more : (xs : List K) (i : ℕ) (x : K) → i < length xs → x ≡ get_or xs i x → k.plus (total k (take i xs)) x ≡ total k (take (i + 1) xs)
  total_more xs i x within read =
      let pushed : take (i + 1) xs ≡ take i xs ++ (x ∷ []) = take_more xs i x within ∙ ap (λ y. take i xs ++ (y ∷ [])) (sym read) in
      sym (ap (total k) pushed ∙ total_append (take i xs) (x ∷ []) ∙ ap (k.plus (total k (take i xs))) (k.laws.plus_zero x))

  -- The sum of g over the members of a list.
  pub total_map_member : {A : Type 0} (g : A → K) {x : A} {xs : List A} → Memᴰ x xs → Under k (g x) (total k (map g xs))
  total_map_member g (Memᴰ.head {x = y} {xs = ys} e) = Order.under_trans (dioid k) (Order.equal_under (dioid k) (ap g e)) (Order.under_plus_left (dioid k) (g y) (total k (map g ys)))
  total_map_member g (Memᴰ.tail {x = y} {xs = ys} m) = Order.under_trans (dioid k) (total_map_member g m) (Order.under_plus_right (dioid k) (g y) (total k (map g ys)))

  pub total_map_least : {A : Type 0} (g : A → K) (xs : List A) {c : K} → ((x : A) → Memᴰ x xs → Under k (g x) c) → Under k (total k (map g xs)) c
  total_map_least g [] {c} h = Order.zero_under (dioid k) c
  total_map_least g (x ∷ xs) h = Order.plus_least (dioid k) (h x (Memᴰ.head refl)) (total_map_least g xs (λ y m. h y (Memᴰ.tail m)))

  pub total_map_mono : {A : Type 0} (g h : A → K) (xs : List A) → ((x : A) → Memᴰ x xs → Under k (g x) (h x)) → Under k (total k (map g xs)) (total k (map h xs))
  total_map_mono g h xs below = total_map_least g xs (λ x m. Order.under_trans (dioid k) (below x m) (total_map_member h m))

  -- The sum over the numbers below n.
  pub sum_to_member : (f : ℕ → K) (n i : ℕ) → i < n → Under k (f i) (sum_to k f n)
  sum_to_member f zero i l = absurd (omega arith)
  sum_to_member f (suc n) i l = here (λ m. sum_to_member f n i m) (eq-or-lt_of_le (le_of_suc-le-suc l))
    where
      here : (i < n → Under k (f i) (sum_to k f n)) → (i ≡ n) ⊎ (i < n) → Under k (f i) (sum_to k f (suc n))
      here before (inl e) = Order.under_trans (dioid k) (Order.equal_under (dioid k) (ap f e)) (Order.under_plus_right (dioid k) (sum_to k f n) (f n))
      here before (inr m) = Order.under_trans (dioid k) (before m) (Order.under_plus_left (dioid k) (sum_to k f n) (f n))

  pub sum_to_least : (f : ℕ → K) (n : ℕ) {c : K} → ((i : ℕ) → i < n → Under k (f i) c) → Under k (sum_to k f n) c
  sum_to_least f zero {c} h = Order.zero_under (dioid k) c
  sum_to_least f (suc n) h = Order.plus_least (dioid k) (sum_to_least f n (λ i l. h i (omega arith))) (h n (omega arith))

  pub sum_to_mono : (f g : ℕ → K) (n : ℕ) → ((i : ℕ) → i < n → Under k (f i) (g i)) → Under k (sum_to k f n) (sum_to k g n)
  sum_to_mono f g n h = sum_to_least f n (λ i l. Order.under_trans (dioid k) (h i l) (sum_to_member g n i l))

  pub sum_to_ext : (f g : ℕ → K) (n : ℕ) → ((i : ℕ) → i < n → f i ≡ g i) → sum_to k f n ≡ sum_to k g n
  sum_to_ext f g zero h = refl
  sum_to_ext f g (suc n) h = ap₂ k.plus (sum_to_ext f g n (λ i l. h i (omega arith))) (h n (omega arith))

  pub sum_to_times : (a : K) (f : ℕ → K) (n : ℕ) → k.times a (sum_to k f n) ≡ sum_to k (λ i. k.times a (f i)) n
  sum_to_times a f zero = k.laws.times_zero a
  sum_to_times a f (suc n) = k.laws.times_plus a (sum_to k f n) (f n) ∙ ap (λ x. k.plus x (k.times a (f n))) (sum_to_times a f n)

  pub sum_to_plus : (f g : ℕ → K) (n : ℕ) → sum_to k (λ i. k.plus (f i) (g i)) n ≡ k.plus (sum_to k f n) (sum_to k g n)
  sum_to_plus f g zero = sym (k.laws.plus_idem k.zero)
  sum_to_plus f g (suc n) = ap (λ x. k.plus x (k.plus (f n) (g n))) (sum_to_plus f g n) ∙ crossed (sum_to k f n) (sum_to k g n) (f n) (g n)
    where
      crossed : (a b c e : K) → k.plus (k.plus a b) (k.plus c e) ≡ k.plus (k.plus a c) (k.plus b e)
      crossed a b c e = simp (Order.sums, dioid k)

  pub sum_to_zero : (n : ℕ) → sum_to k (λ i. k.zero) n ≡ k.zero
  sum_to_zero zero = refl
  sum_to_zero (suc n) = k.laws.plus_zero (sum_to k (λ i. k.zero) n) ∙ sum_to_zero n

  pub sum_to_swap : (f : ℕ → ℕ → K) (m n : ℕ) → sum_to k (λ i. sum_to k (f i) n) m ≡ sum_to k (λ j. sum_to k (λ i. f i j) m) n
  sum_to_swap f zero n = sym (sum_to_zero n)
  sum_to_swap f (suc m) n = ap (λ x. k.plus x (sum_to k (f m) n)) (sum_to_swap f m n) ∙ sym (sum_to_plus (λ j. sum_to k (λ i. f i j) m) (f m) n)

  -- Products of lists.
  pub product_append : (xs ys : List K) → product k (xs ++ ys) ≡ k.times (product k xs) (product k ys)
  product_append [] ys = sym (Order.one_times (dioid k) (product k ys))
  product_append (x ∷ xs) ys = ap (k.times x) (product_append xs ys) ∙ sym (k.laws.times_assoc x (product k xs) (product k ys))

  -- One factor taken out of the middle.
  pub product_middle : (xs : List K) (x : K) (ys : List K) → product k (xs ++ x ∷ ys) ≡ k.times x (product k (xs ++ ys))
  product_middle [] x ys = refl
  product_middle (y ∷ xs) x ys = ap (k.times y) (product_middle xs x ys) ∙ Order.times_left (dioid k) y x (product k (xs ++ ys))

  pub product_map_mono : {A : Type 0} (g h : A → K) (xs : List A) → ((x : A) → Memᴰ x xs → Under k (g x) (h x)) → Under k (product k (map g xs)) (product k (map h xs))
  product_map_mono g h [] below = k.laws.plus_idem k.one
  product_map_mono g h (x ∷ xs) below = Order.times_mono (dioid k) (below x (Memᴰ.head refl)) (product_map_mono g h xs (λ y m. below y (Memᴰ.tail m)))
