-- The steps of the two solvers, from what the row operations leave.
use Rattle.std.proofs.Common.{◌≡◌, ℕ, suc, ◌+◌, ◌-◌, ◌*◌, ◌<◌, ◌≤◌, ◌≢◌, List, get_or, drop, set, sym, ap, ◌∙◌, subst, ap₂, arith, get_or-set_other, get_or-set_same, drop-set-lt}
use Rattle.std.proofs.lemmas.List.{get_or_read}
use native.Mathlib.Decide.{dec_lt}
use Rattle.semiring.specs.Algebra.{Algebra}
use Rattle.semiring.proofs.Star
use Rattle.linear.specs.declared.system.System.{System}
use Rattle.linear.specs.System.{cell, right_side, Least, Free, Leaves}
use Rattle.linear.specs.Rows.{SameSlices, OnlyGrid, OnlyColumn, Rewritten, cells_of, values_of, row_value, scaled, added}
use Rattle.linear.specs.Kleene.{Passed, Stepped, Closed}
use Rattle.linear.specs.Removal.{Refines, Cleared, Removed}
use Rattle.linear.proofs.Cells.{by_equal, cell_set_same, cell_set_other, cells_same, slices_more, free_more, only_grid_more}
use Rattle.linear.proofs.Closedness.{closed_more, Multiplied, multiplied_more}
use Rattle.linear.proofs.Refinement.{refines_trans, refines_least, refines_scaled, refines_added, Back, back_more}

module _ {K : Type 0} (k : Algebra K) where
  zero_row : (s u : K) → u ≡ k.zero → k.times s u ≡ k.zero
  zero_row s u e = ap (k.times s) e ∙ k.laws.times_zero s

  zero_sum : (c u v : K) → u ≡ k.zero → v ≡ k.zero → k.plus u (k.times c v) ≡ k.zero
  zero_sum c u v e e' = ap₂ k.plus e (zero_row c v e') ∙ k.laws.plus_idem k.zero

  -- Row r ends as f, and its value as w. For f there is bare, which is s with the cell (r, p) zero.
  record Replaced (r p : ℕ) (f : ℕ → K) (w : K) (s bare s' : System K) : Type 0 where
    gone : cells_of k bare r p ≡ k.zero
    other : (i q : ℕ) → q < s.n → (i ≡ r → q ≢ p) → cells_of k bare i q ≡ cells_of k s i q
    row : (q : ℕ) → q < s.n → cells_of k s' r q ≡ f q
    rows : (i q : ℕ) → i < s.n → q < s.n → i ≢ r → cells_of k s' i q ≡ cells_of k s i q
    entry : values_of k s' r ≡ w
    entries : (i : ℕ) → i ≢ r → values_of k s' i ≡ values_of k s i
    slices : SameSlices s s'
    cells : Free s.n s.grid.now s'.grid.now
    places : drop s.n s'.column.now ≡ drop s.n s.column.now

  -- A value written.
  module _ (s s' : System K) (r : ℕ) (w : K) (l : r < s.n) (write : s'.column.now ≡ set s.column.now r w) where
    value_here : values_of k s' r ≡ w
    value_here = rw write (get_or-set_same s.column.now r w k.zero (omega (arith, s.fits.places)))

    value_other : (i : ℕ) → i ≢ r → values_of k s' i ≡ values_of k s i
    value_other i d = rw write (get_or-set_other s.column.now r i w k.zero d)

    values_past : drop s.n s'.column.now ≡ drop s.n s.column.now
    values_past = rw write (drop-set-lt s.n s.column.now r w l)

  -- The cell (r, p) is taken, row r is written, and then its value, which s'' ends with.
  replaced : (s bare s' s'' : System K) (r p : ℕ) (f : ℕ → K) (w : K) → r < s.n → p < s.n → bare.grid.now ≡ set s.grid.now (r * s.n + p) k.zero → OnlyGrid s bare → Rewritten k r bare.n f bare s' → SameSlices s' s'' → s''.grid.now ≡ s'.grid.now → s''.column.now ≡ set s'.column.now r w → Replaced r p f w s bare s''
  replaced s bare s' s'' r p f w l l' take only row same grid write = record {
    gone = bare_is r p ∙ cell_set_same k s.n s.grid.now r p k.zero s.fits.cells l l';
    other = other;
    row = λ q o. cells_same k same grid r q ∙ row.done q (omega (arith, size));
    rows = λ i q o o' d. cells_same k same grid i q ∙ row.rest i q (omega (arith, size)) (omega (arith, size)) (λ e. absurd (d e)) ∙ other i q o' (λ e. absurd (d e));
    entry = value_here s s'' r w l column;
    entries = value_other s s'' r w l column;
    slices = slices_more both.slices same;
    cells = rw grid both.past;
    places = values_past s s'' r w l column;
  }
    where
      size : bare.n ≡ s.n
      size = only.slices.size

      both : OnlyGrid s s'
      both = only_grid_more only row.only

      column : s''.column.now ≡ set s.column.now r w
      column = write ∙ ap (λ column. set column r w) both.column

      bare_is : (i q : ℕ) → cells_of k bare i q ≡ cell k s.n (set s.grid.now (r * s.n + p) k.zero) i q
      bare_is i q = ap₂ (λ n cells. cell k n cells i q) size take

      other : (i q : ℕ) → q < s.n → (i ≡ r → q ≢ p) → cells_of k bare i q ≡ cells_of k s i q
      other i q o apart = bare_is i q ∙ cell_set_other k s.n s.grid.now r p i q k.zero o l' apart

  -- A value read from the column, which is as it was.
  value_read : (s bare s' : System K) (f : ℕ → K) (r p : ℕ) (u : K) → p < s.n → OnlyGrid s bare → Rewritten k r bare.n f bare s' → u ≡ get_or s'.column.now p u → get_or s'.column.now p u ≡ values_of k s p
  value_read s bare s' f r p u l only row read =
      let same : s'.column.now ≡ s.column.now = row.only.column ∙ only.column in
      let is : u ≡ get_or s.column.now p u = rw same at read in
      sym read ∙ get_or_read s.column.now p u (omega (arith, s.fits.places)) is k.zero

  pub removed_here : (s bare s' s'' : System K) (p : ℕ) (c b u v : K) → p < s.n → Cleared k s.n p p (cells_of k s) → c ≡ cells_of k s p p → bare.grid.now ≡ set s.grid.now (p * s.n + p) k.zero → OnlyGrid s bare → b ≡ k.star c → Rewritten k p bare.n (scaled k bare p b) bare s' → u ≡ get_or s'.column.now p u → v ≡ k.times b (get_or s'.column.now p u) → SameSlices s' s'' → s''.grid.now ≡ s'.grid.now → s''.column.now ≡ set s'.column.now p v → Removed k p (p + 1) s s''
  removed_here s bare s' s'' p c b u v l clear was take only star row read product same grid write = record {
    refines = refines_scaled k s.n (cells_of k s) (cells_of k s'') (values_of k s) (values_of k s'') (cells_of k bare p) p l so.gone (λ q o d. so.other p q o (λ e. d)) (λ q o. so.row q o ∙ ap (λ t. k.times t (cells_of k bare p q)) pivot) (so.entry ∙ product ∙ ap₂ k.times pivot (value_read s bare s' (scaled k bare p b) p p u l only row read)) so.rows so.entries;
    cleared = record {
      before = λ r q o o' h. by_equal r p (λ e. rw e (so.row q (omega arith) ∙ zero_row b _ (so.other p q (omega arith) (λ _. omega arith) ∙ clear.before p q l o' (omega arith)))) (λ d. so.rows r q o (omega arith) d ∙ clear.before r q o o' h);
      here = λ r o o'. let e : r ≡ p = omega arith in rw e (so.row p l ∙ zero_row b _ so.gone);
    };
    slices = so.slices;
    cells = so.cells;
    places = so.places;
  }
    where
      so : Replaced p p (scaled k bare p b) v s bare s''
      so = replaced s bare s' s'' p p (scaled k bare p b) v l l take only row same grid write

      pivot : b ≡ k.star (cells_of k s p p)
      pivot = star ∙ ap k.star was

  pub removed_below : (s bare s' s'' : System K) (p i : ℕ) (c u u' v t : K) → p < i → i < s.n → Cleared k s.n p i (cells_of k s) → c ≡ cells_of k s i p → bare.grid.now ≡ set s.grid.now (i * s.n + p) k.zero → OnlyGrid s bare → Rewritten k i bare.n (added k bare i c p) bare s' → u ≡ get_or s'.column.now i u → u' ≡ get_or s'.column.now p u' → v ≡ k.times c (get_or s'.column.now p u') → t ≡ k.plus (get_or s'.column.now i u) v → SameSlices s' s'' → s''.grid.now ≡ s'.grid.now → s''.column.now ≡ set s'.column.now i t → Removed k p (i + 1) s s''
  removed_below s bare s' s'' p i c u u' v t b l clear was take only row read read' product sum same grid write = record {
    refines = refines_added k s.n (cells_of k s) (cells_of k s'') (values_of k s) (values_of k s'') (cells_of k bare i) p i p<n l (omega arith) so.gone (λ q o d. so.other i q o (λ e. d)) (λ q o. so.row q o ∙ ap₂ (λ x y. k.plus (cells_of k bare i q) (k.times x y)) was (so.other p q o (λ e. absurd (omega arith)))) (so.entry ∙ sum ∙ ap₂ k.plus (value_read s bare s' (added k bare i c p) i i u l only row read) (product ∙ ap₂ k.times was (value_read s bare s' (added k bare i c p) i p u' p<n only row read'))) so.rows so.entries;
    cleared = record {
      before = λ r q o o' h. by_equal r i (λ e. rw e (so.row q (omega arith) ∙ zero_sum c _ _ (so.other i q (omega arith) (λ _. omega arith) ∙ clear.before i q l o' (omega arith)) (so.other p q (omega arith) (λ e. absurd (omega arith)) ∙ clear.before p q p<n o' (omega arith)))) (λ d. so.rows r q o (omega arith) d ∙ clear.before r q o o' h);
      here = λ r o o'. by_equal r i (λ e. rw e (so.row p p<n ∙ zero_sum c _ _ so.gone (so.other p p p<n (λ e. absurd (omega arith)) ∙ clear.here p (omega arith) b))) (λ d. so.rows r p (omega arith) p<n d ∙ clear.here r o (omega arith));
    };
    slices = so.slices;
    cells = so.cells;
    places = so.places;
  }
    where
      p<n : p < s.n
      p<n = omega arith

      so : Replaced i p (added k bare i c p) t s bare s''
      so = replaced s bare s' s'' i p (added k bare i c p) t l p<n take only row same grid write

  pub removed_more : {p i p' i' : ℕ} {s s' s'' : System K} → Removed k p i s s' → Removed k p' i' s' s'' → Removed k p' i' s s''
  removed_more {p' = p'} {i' = i'} {s = s} {s' = s'} {s'' = s''} h h' = record {
    refines = let next : Refines k s.n (cells_of k s') (values_of k s') (cells_of k s'') (values_of k s'') = subst (λ n. Refines k n (cells_of k s') (values_of k s') (cells_of k s'') (values_of k s'')) h.slices.size h'.refines in refines_trans k s.n h.refines next;
    cleared = subst (λ n. Cleared k n p' i' (cells_of k s'')) h.slices.size h'.cleared;
    slices = slices_more h.slices h'.slices;
    cells = free_more h.slices h.cells h'.cells;
    places = let tail : drop s.n s''.column.now ≡ drop s.n s'.column.now = rw h.slices.size at h'.places in tail ∙ h.places;
  }

  -- With the last unknown removed, the values put back are what a solver leaves.
  pub leaves_back : (s s' s'' : System K) (cells column : List K) → cells ≡ s''.grid.now → column ≡ s''.column.now → Removed k s.n s.n s s' → Least k s'.n (cells_of k s') (values_of k s') (values_of k s'') → OnlyColumn s' s'' → Leaves k s.n s.grid.now s.column.now cells column
  leaves_back s s' s'' cells column same same' so least only =
      let least' : Least k s.n (cells_of k s') (values_of k s') (values_of k s'') = subst (λ n. Least k n (cells_of k s') (values_of k s') (values_of k s'')) so.slices.size least in
      let tail : drop s.n s''.column.now ≡ drop s.n s'.column.now = rw so.slices.size at only.past in
      record { least = rw same' (refines_least k s.n so.refines least'); places = rw same' (tail ∙ so.places); cells = rw (same, only.grid) so.cells }

  -- The cells of a grid that is not written, as a function.
  cells_kept : (s s' : System K) → OnlyColumn s s' → cells_of k s' ≡ cells_of k s
  cells_kept s s' only = ap₂ (λ n cells. cell k n cells) only.slices.size only.grid

  -- What a row makes of the values, at the grid that stays.
  row_value_kept : (s s' : System K) (r : ℕ) → OnlyColumn s s' → row_value k s' r ≡ right_side k s.n (cells_of k s) (values_of k s') (values_of k s') r
  row_value_kept s s' r only = ap₂ (λ n cells. right_side k n cells (values_of k s') (values_of k s') r) only.slices.size (cells_kept s s' only)

  pub back_turn : (s s' s'' : System K) (r : ℕ) → 0 < r → r ≤ s.n → Cleared k s.n s.n s.n (cells_of k s) → Back k s.n r (cells_of k s) (values_of k s) (values_of k s') → OnlyColumn s s' → s''.column.now ≡ set s'.column.now (r - 1) (row_value k s' (r - 1)) → Back k s.n (r - 1) (cells_of k s) (values_of k s) (values_of k s'')
  back_turn s s' s'' r l m clear so only write =
      let within : r - 1 < s'.n = omega (arith, only.slices.size) in
      let e : suc (r - 1) ≡ r = omega arith in
      back_more k s.n (r - 1) (cells_of k s) (values_of k s) (values_of k s') (values_of k s'') (omega arith) (λ r q o o' b. clear.before r q o o' b) (value_here s' s'' (r - 1) _ within write ∙ row_value_kept s s' (r - 1) only) (value_other s' s'' (r - 1) _ within write) (rw e so)

  pub multiply_turn : (s s' s'' : System K) (r : ℕ) → r < s.n → ((a : ℕ → ℕ → K) → Closed k s.n s.n a (cells_of k s) → Multiplied k s.n r (cells_of k s) (values_of k s) (values_of k s')) → OnlyColumn s s' → s''.column.now ≡ set s'.column.now r (row_value k s' r) → (a : ℕ → ℕ → K) → Closed k s.n s.n a (cells_of k s) → Multiplied k s.n (r + 1) (cells_of k s) (values_of k s) (values_of k s'')
  multiply_turn s s' s'' r l so only write a h =
      let within : r < s'.n = omega (arith, only.slices.size) in
      multiplied_more k s.n r a (cells_of k s) (values_of k s) (values_of k s') l h (so a h) (values_of k s'') (value_here s' s'' r _ within write ∙ row_value_kept s s' r only) (value_other s' s'' r _ within write)

  -- A step of Kleene's scheme: row p times its star, and then passed to the rows before and after.
  pub stepped : (s scaled_s low_s s' : System K) (p : ℕ) (w by : K) → p < s.n → w ≡ cells_of k s p p → by ≡ k.star w → Rewritten k p s.n (scaled k s p by) s scaled_s → Passed k p 0 p scaled_s low_s → Passed k p (p + 1) low_s.n low_s s' → Stepped k s.n p (cells_of k s) (cells_of k s')
  stepped s scaled_s low_s s' p w by l read star row low high i q o u = by_equal i p at_p apart
    where
      size : scaled_s.n ≡ s.n
      size = row.only.slices.size

      other : (i q : ℕ) → i < s.n → q < s.n → i ≢ p → cells_of k scaled_s i q ≡ cells_of k s i q
      other i q o u d = row.rest i q o u (λ e. absurd (d e))

      here : (q : ℕ) → q < s.n → cells_of k scaled_s p q ≡ k.times (k.star (cells_of k s p p)) (cells_of k s p q)
      here q u = row.done q u ∙ ap (λ b. k.times b (cells_of k s p q)) (star ∙ ap k.star read)

      through : (i q : ℕ) → i < s.n → q < s.n → i ≢ p → added k scaled_s i (cells_of k scaled_s i p) p q ≡ k.plus (cells_of k s i q) (k.times (cells_of k s i p) (k.times (k.star (cells_of k s p p)) (cells_of k s p q)))
      through i q o u d = ap₂ k.plus (other i q o u d) (ap₂ k.times (other i p o l d) (here q u))

      at_p : i ≡ p → cells_of k s' i q ≡ k.plus (cells_of k s i q) (k.times (cells_of k s i p) (k.times (k.star (cells_of k s p p)) (cells_of k s p q)))
      at_p e =
          rw e (high.outside p q (omega arith) (omega arith) (λ b b'. omega arith) ∙ low.outside p q (omega arith) (omega arith) (λ b b'. omega arith) ∙ here q u ∙ Star.star_solves k (cells_of k s p p) (cells_of k s p q) ∙ k.laws.plus_comm _ _)

      below : i < p → cells_of k s' i q ≡ added k scaled_s i (cells_of k scaled_s i p) p q
      below b = high.outside i q (omega arith) (omega arith) (λ t t'. omega arith) ∙ low.inside i q (omega arith) b (omega arith)

      same : (r j : ℕ) → r < s.n → j < s.n → p ≤ r → cells_of k low_s r j ≡ cells_of k scaled_s r j
      same r j o u b = low.outside r j (omega arith) (omega arith) (λ t t'. omega arith)

      above : p < i → cells_of k s' i q ≡ added k scaled_s i (cells_of k scaled_s i p) p q
      above b = high.inside i q (omega arith) (omega arith) (omega arith) ∙ ap₂ k.plus (same i q o u (omega arith)) (ap₂ k.times (same i p o l (omega arith)) (same p q l u (omega arith)))

      apart : i ≢ p → cells_of k s' i q ≡ k.plus (cells_of k s i q) (k.times (cells_of k s i p) (k.times (k.star (cells_of k s p p)) (cells_of k s p q)))
      apart d = elim (dec_lt i p) [ yes b ↦ below b ∙ through i q o u d | no b ↦ above (omega arith) ∙ through i q o u d ]

  pub form_turn : (s s' s'' : System K) (p : ℕ) → p < s.n → OnlyGrid s s' → Closed k s.n p (cells_of k s) (cells_of k s') → Stepped k s'.n p (cells_of k s') (cells_of k s'') → Closed k s.n (p + 1) (cells_of k s) (cells_of k s'')
  form_turn s s' s'' p l only so step =
      let step' : Stepped k s.n p (cells_of k s') (cells_of k s'') = subst (λ n. Stepped k n p (cells_of k s') (cells_of k s'')) only.slices.size step in
      closed_more k s.n p (cells_of k s) (cells_of k s') (cells_of k s'') l step' so
