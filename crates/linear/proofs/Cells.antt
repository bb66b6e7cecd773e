-- Cells of a grid under writes, and the rows of a system.
use Rattle.std.proofs.Common.{◌≡◌, ℕ, suc, ◌+◌, ◌*◌, ◌/◌, ◌%◌, ◌<◌, ◌≤◌, ◌≢◌, List, [], ◌∷◌, length, get_or, set, map, drop, sym, refl, ap, ◌∙◌, ap₂, arith, rules, get_or-set_other, get_or-set_same}
use Rattle.std.specs.Prelude.{fold, zip, slice_range}
use Rattle.std.proofs.Math.Nat.{suc-mul, mul-le-mul_right}
use Rattle.std.proofs.lemmas.List.{get_or-map, length-map, places}
use Rattle.std.proofs.lemmas.List.Edits.{get_or-between, length-between}
use Rattle.std.proofs.lemmas.Slice.{drop-put_mid}
use borrow.Rule.Slice.PartMut.{put_mid}
use native.Mathlib.Decide.{ℕ_discrete, dec_lt}
use lib.Arith.{digits_lt, digits_div, digits_mod}
use Rattle.semiring.specs.Algebra.{Algebra}
use Rattle.semiring.specs.Sums.{sum_to}
use Rattle.semiring.proofs.Dioid.{dioid}
use Rattle.semiring.proofs.Order
use Rattle.semiring.proofs.Sums
use Rattle.linear.specs.declared.system.System.{System}
use Rattle.linear.specs.System.{cell, entry_at, Free}
use Rattle.linear.specs.Rows.{SameSlices, OnlyGrid, OnlyColumn, Rewritten, cells_of, added}
use Rattle.linear.proofs.Existence.{sum_to_front}

-- Cases by whether two numbers are equal.
pub by_equal : {P : Type 0} (i j : ℕ) → (i ≡ j → P) → (i ≢ j → P) → P
by_equal {P} i j same other = elim (ℕ_discrete i j) [ yes e ↦ same e | no d ↦ other d ]

-- Two places of a grid with one index are the same row and the same place.
same_place : (n i q r j : ℕ) → q < n → j < n → i * n + q ≡ r * n + j → (i ≡ r) × (q ≡ j)
same_place n i q r j l m e =
    (sym (digits_div i l) ∙ ap (λ x. x / n) e ∙ digits_div r m, sym (digits_mod i l) ∙ ap (λ x. x % n) e ∙ digits_mod r m)

-- A row ends before a later one begins, and within the grid.
row_before : (r n : ℕ) {i : ℕ} → r < i → r * n + n ≤ i * n
row_before r n {i} l = let h : suc r * n ≤ i * n = mul-le-mul_right n l in rw suc-mul at h

module _ {K : Type 0} where
  pub same_slices : (s : System K) → SameSlices s s
  same_slices s = record { size = refl; grid = refl; column = refl }

  pub slices_more : {s s' s'' : System K} → SameSlices s s' → SameSlices s' s'' → SameSlices s s''
  slices_more h h' = record { size = h'.size ∙ h.size; grid = h'.grid ∙ h.grid; column = h'.column ∙ h.column }

  pub free_more : {s s' : System K} {cells : List K} → SameSlices s s' → Free s.n s.grid.now s'.grid.now → Free s'.n s'.grid.now cells → Free s.n s.grid.now cells
  free_more {s} {s'} {cells} same h h' =
      let past : Free s.n s'.grid.now cells = rw same.size at h' in
      record { size = past.size ∙ h.size; tail = past.tail ∙ h.tail }

  pub only_grid_more : {s s' s'' : System K} → OnlyGrid s s' → OnlyGrid s' s'' → OnlyGrid s s''
  only_grid_more h h' = record { slices = slices_more h.slices h'.slices; past = free_more h.slices h.past h'.past; column = h'.column ∙ h.column }

  pub only_column_more : {s s' s'' : System K} → OnlyColumn s s' → OnlyColumn s' s'' → OnlyColumn s s''
  only_column_more {s} {s'} {s''} h h' = record {
    slices = slices_more h.slices h'.slices;
    past = let past : drop s.n s''.column.now ≡ drop s.n s'.column.now = rw h.slices.size at h'.past in past ∙ h.past;
    grid = h'.grid ∙ h.grid;
  }

module _ {K : Type 0} (k : Algebra K) where
  -- The products of two lists, place by place.
  abbrev product_at : List K → List K → ℕ → K
  product_at xs ys q = k.times (get_or xs q k.zero) (get_or ys q k.zero)

  abbrev more : K → K × K → K
  more all p = k.plus all (k.times p.0 p.1)

  folded_from : (a : K) (xs ys : List K) → length xs ≤ length ys → fold more a (zip xs ys) ≡ k.plus a (sum_to k (product_at xs ys) (length xs))
  folded_from a [] ys l = sym (k.laws.plus_zero a)
  folded_from a (x ∷ xs) [] l = absurd (omega arith)
  folded_from a (x ∷ xs) (y ∷ ys) l =
      folded_from (k.plus a (k.times x y)) xs ys (omega arith) ∙ k.laws.plus_assoc a (k.times x y) _ ∙ ap (k.plus a) (sym (sum_to_front k (product_at (x ∷ xs) (y ∷ ys)) (length xs)))

  -- What row r makes of a column.
  pub row_sum : (n r : ℕ) (cells column : List K) → r < n → n * n ≤ length cells → n ≤ length column → fold more k.zero (zip (slice_range cells (r * n) (r * n + n)) column) ≡ sum_to k (λ q. k.times (cell k n cells r q) (entry_at k column q)) n
  row_sum n r cells column l room places =
      let long : length (slice_range cells (r * n) (r * n + n)) ≡ n = length-between cells (r * n) (r * n + n) (omega (arith, row_before r n l)) ∙ omega arith in
      folded_from k.zero _ _ (omega arith) ∙ Order.zero_under (dioid k) _ ∙ ap (sum_to k _) long ∙ Sums.sum_to_ext k _ _ n (λ q m. ap (λ x. k.times x (entry_at k column q)) (get_or-between cells (r * n) (r * n + n) q k.zero (omega arith)))

  -- A list of which a part is written, ys over m places from a on.
  part_low : (a m : ℕ) (xs ys : List K) (j : ℕ) (d : K) → j < a → a ≤ length xs → get_or (put_mid a m xs ys) j d ≡ get_or xs j d
  part_low a m xs ys j d l room = search (rules, places)

  part_high : (a m : ℕ) (xs ys : List K) (j : ℕ) (d : K) → a + m ≤ j → a ≤ length xs → length ys ≡ m → get_or (put_mid a m xs ys) j d ≡ get_or xs j d
  part_high a m xs ys j d l room long = search (rules, places)

  part_here : (a m : ℕ) (xs ys : List K) (j : ℕ) (d : K) → j < m → a ≤ length xs → length ys ≡ m → get_or (put_mid a m xs ys) (a + j) d ≡ get_or ys j d
  part_here a m xs ys j d l room long = search (rules, places)

  pub cell_set_same : (n : ℕ) (cells : List K) (r q : ℕ) (w : K) → n * n ≤ length cells → r < n → q < n → cell k n (set cells (r * n + q) w) r q ≡ w
  cell_set_same n cells r q w room l m = get_or-set_same cells (r * n + q) w k.zero (omega (arith, digits_lt {q = r} {m = n} {r = q} {c = n} l m))

  pub cell_set_other : (n : ℕ) (cells : List K) (r j i q : ℕ) (w : K) → q < n → j < n → (i ≡ r → q ≢ j) → cell k n (set cells (r * n + j) w) i q ≡ cell k n cells i q
  cell_set_other n cells r j i q w l m apart = get_or-set_other cells (r * n + j) (i * n + q) w k.zero (λ e. apart (same_place n i q r j l m e).0 (same_place n i q r j l m e).1)

  -- Equal grids of one size have equal cells.
  pub cells_same : {s s' : System K} → SameSlices s s' → s'.grid.now ≡ s.grid.now → (r q : ℕ) → cells_of k s' r q ≡ cells_of k s r q
  cells_same same grid r q = ap₂ (λ n cells. cell k n cells r q) same.size grid

  -- Row r is written as a part of the grid's slice.
  pub rewritten_part : (s s' : System K) (r m : ℕ) (f : K → K) (row : List K) → r < s.n → SameSlices s s' → s'.column.now ≡ s.column.now → s'.grid.now ≡ put_mid (r * s.n) m s.grid.now row → m ≡ s.n → row ≡ map f (slice_range s.grid.now (r * s.n) (r * s.n + s.n)) → Rewritten k r s.n (λ q. f (cells_of k s r q)) s s'
  rewritten_part s s' r m f row l same column is e e' = record {
    done = done;
    rest = rest;
    only = record {
      slices = same;
      past = record { size = ap length cells ∙ whole; tail = ap (drop (s.n * s.n)) cells ∙ drop-put_mid (r * s.n) s.n s.grid.now (map f part) (s.n * s.n) (row_before r s.n l) room long };
      column = column;
    };
  }
    where
      fits : r * s.n + s.n ≤ length s.grid.now
      fits = omega (arith, row_before r s.n l, s.fits.cells)

      room : r * s.n ≤ length s.grid.now
      room = omega (arith, fits)

      part : List K
      part = slice_range s.grid.now (r * s.n) (r * s.n + s.n)

      short : length part ≡ s.n
      short = length-between s.grid.now (r * s.n) (r * s.n + s.n) fits ∙ omega arith

      long : length (map f part) ≡ s.n
      long = length-map part f ∙ short

      cells : s'.grid.now ≡ put_mid (r * s.n) s.n s.grid.now (map f part)
      cells = is ∙ ap₂ (λ m row. put_mid (r * s.n) m s.grid.now row) e e'

      whole : length (put_mid (r * s.n) s.n s.grid.now (map f part)) ≡ length s.grid.now
      whole = search (rules, places, long, fits)

      written : (i q : ℕ) → cells_of k s' i q ≡ get_or (put_mid (r * s.n) s.n s.grid.now (map f part)) (i * s.n + q) k.zero
      written i q = ap₂ (λ n cells. cell k n cells i q) same.size cells

      done : (q : ℕ) → q < s.n → cells_of k s' r q ≡ f (cells_of k s r q)
      done q o = written r q ∙ part_here (r * s.n) s.n s.grid.now (map f part) q k.zero o room long ∙ get_or-map f part q k.zero k.zero (omega (arith, short)) ∙ ap f (get_or-between s.grid.now (r * s.n) (r * s.n + s.n) q k.zero (omega arith))

      rest : (i q : ℕ) → i < s.n → q < s.n → (i ≡ r → s.n ≤ q) → cells_of k s' i q ≡ cells_of k s i q
      rest i q o o' apart =
          written i q ∙ elim (dec_lt i r) [ yes b ↦ part_low (r * s.n) s.n s.grid.now (map f part) (i * s.n + q) k.zero (omega (arith, row_before i s.n b)) room | no d ↦ by_equal i r (λ e. absurd (omega (arith, apart e))) (λ d'. part_high (r * s.n) s.n s.grid.now (map f part) (i * s.n + q) k.zero (let b : r < i = omega arith in omega (arith, row_before r s.n b)) room long) ]

  -- One more place of row r.
  rewritten_more : (s s' s'' : System K) (r j : ℕ) (f : ℕ → K) (w : K) → r < s.n → j < s.n → OnlyGrid s' s'' → s''.grid.now ≡ set s'.grid.now (r * s'.n + j) w → w ≡ f j → Rewritten k r j f s s' → Rewritten k r (j + 1) f s s''
  rewritten_more s s' s'' r j f w l m only is e so = record {
    done = λ q h. by_equal q j (λ t. rw t (written r j ∙ cell_set_same s.n s'.grid.now r j w room l m ∙ e)) (λ d. written r q ∙ cell_set_other s.n s'.grid.now r j r q w (omega arith) m (λ _. d) ∙ sym (here r q) ∙ so.done q (omega arith));
    rest = λ i q h h' apart. written i q ∙ cell_set_other s.n s'.grid.now r j i q w h' m (λ t d. absurd (omega (arith, apart t))) ∙ sym (here i q) ∙ so.rest i q h h' (λ t. omega (arith, apart t));
    only = only_grid_more so.only only;
  }
    where
      size : s'.n ≡ s.n
      size = so.only.slices.size

      room : s.n * s.n ≤ length s'.grid.now
      room = rw size at s'.fits.cells

      here : (i q : ℕ) → cells_of k s' i q ≡ cell k s.n s'.grid.now i q
      here i q = ap (λ n. cell k n s'.grid.now i q) size

      written : (i q : ℕ) → cells_of k s'' i q ≡ cell k s.n (set s'.grid.now (r * s.n + j) w) i q
      written i q = ap₂ (λ n cells. cell k n cells i q) (only.slices.size ∙ size) (is ∙ ap (λ n. set s'.grid.now (r * n + j) w) size)

  -- One more place of a row to which another is added.
  pub added_more : (s s' s'' : System K) (r j p : ℕ) (by u v t w : K) → r < s.n → p < s.n → j < s.n → OnlyGrid s' s'' → s''.grid.now ≡ set s'.grid.now (r * s'.n + j) w → u ≡ cells_of k s' r j → v ≡ cells_of k s' p j → t ≡ k.times by v → w ≡ k.plus u t → Rewritten k r j (added k s r by p) s s' → Rewritten k r (j + 1) (added k s r by p) s s''
  added_more s s' s'' r j p by u v t w l l' m only is read read' product sum so =
      rewritten_more s s' s'' r j (added k s r by p) w l m only is (sum ∙ ap₂ k.plus (read ∙ so.rest r j l m (λ e. omega arith)) (product ∙ ap (k.times by) (read' ∙ so.rest p j l' m (λ e. omega arith)))) so
