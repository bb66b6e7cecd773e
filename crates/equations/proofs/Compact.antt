-- Compactness: every run whose routines are all in a list has the weight of a run of the same
-- routine of dimension at most the length of that list.
use Rattle.std.proofs.Common.{◌≡◌, ℕ, zero, suc, ◌+◌, ◌<◌, ◌≤◌, ◌⊎◌, List, [], ◌∷◌, length, sym, refl, ap, ◌∙◌, ap₂, inl, inr, arith}
use mathlib.Core.List.Memᴰ
use mathlib.Core.List.{Memᴰ}
use Rattle.semiring.specs.Algebra.{Algebra}
use Rattle.semiring.proofs.Dioid.{dioid}
use Rattle.semiring.proofs.Order
use Rattle.equations.specs.Rule.{Rule}
use Rattle.equations.specs.Run.{Runs, none, more, Run, weight}
use Rattle.equations.proofs.FiniteSums.{beside, beside_weight}
use Rattle.equations.proofs.Dimension.{Empty, dimension, Low, Spine, low_spine}
use Rattle.equations.proofs.Pieces.{size, Inside, Absent, Hole, Repeat, without, without_shorter, inside_without, repeat_root, repeat_child, repeat_rest, seek, missed}

module _ {K : Type 0} (k : Algebra K) {script : List (Rule K)} where
  -- Runs with all routines in an empty list are none.
  none_inside : (labels : List ℕ) → length labels ≤ 0 → {qs : List ℕ} (runs : Runs script qs) → Inside labels runs → Empty runs
  none_inside labels short none inside = tt
  none_inside [] short (more m children rest) inside = Memᴰ.not-nil inside.0
  none_inside (x ∷ labels) short (more m children rest) inside = absurd (omega arith)

  -- Without a repeat on a path from a root down, the dimension of every run is below the number of
  -- routines.
  pub low_or_repeat : {qs : List ℕ} (runs : Runs script qs) (i : ℕ) (labels : List ℕ) → length labels ≤ suc i → Inside labels runs → Low runs i ⊎ Repeat k runs
  low_or_repeat none i labels short inside = inl tt
  low_or_repeat (more {r} m children rest) i labels short inside =
      look (without_shorter r labels inside.0) (seek k r children) (λ j short' absent. low_or_repeat children j (without r labels) short' (inside_without r labels children inside.1 absent)) (low_or_repeat rest i labels short inside.2)
    where
      both : (j : ℕ) → dimension (Empty children) (Spine children) j ⊎ Repeat k children → Low rest j ⊎ Repeat k rest → Low (more m children rest) j ⊎ Repeat k (more m children rest)
      both j (inl a) (inl b) = inl (a, b)
      both j (inr p) b = inr (repeat_child k m children rest p)
      both j (inl a) (inr p) = inr (repeat_rest k m children rest p)

      spine : (j : ℕ) → Low children j ⊎ Repeat k children → Spine children j ⊎ Repeat k children
      spine j (inl low) = inl (low_spine children j low)
      spine j (inr p) = inr p

      deeper : (j : ℕ) → length (without r labels) < suc j → Absent r children → ((j' : ℕ) → length (without r labels) ≤ suc j' → Absent r children → Low children j' ⊎ Repeat k children) → dimension (Empty children) (Spine children) j ⊎ Repeat k children
      deeper zero shorter absent below = inl (none_inside (without r labels) (omega arith) children (inside_without r labels children inside.1 absent))
      deeper (suc j) shorter absent below = spine j (below j (omega arith) absent)

      look : length (without r labels) < length labels → Hole k r children ⊎ Absent r children → ((j' : ℕ) → length (without r labels) ≤ suc j' → Absent r children → Low children j' ⊎ Repeat k children) → Low rest i ⊎ Repeat k rest → Low (more m children rest) i ⊎ Repeat k (more m children rest)
      look shorter (inl hole) below behind = inr (repeat_root k m children rest hole)
      look shorter (inr absent) below behind = both i (deeper i (omega arith) absent below) behind

  -- A run of low dimension in front, or a heavy one before runs of low dimension.
  light_first : {r : ℕ} {qs : List ℕ} (run : Run script r) (rest : Runs script qs) (i : ℕ) → Low run i → Spine rest i → Spine (beside run rest) i
  light_first (more m children none) rest i low spine = inl (low.0, spine)

  heavy_first : {r : ℕ} {qs : List ℕ} (run : Run script r) (rest : Runs script qs) (i : ℕ) → Low run (suc i) → Low rest i → Spine (beside run rest) i
  heavy_first (more m children none) rest i low light = inr (low.0, light)

-- A run of routine r of weight a and of dimension at most i.
abbrev pub LowForm : {K : Type 0} → Algebra K → List (Rule K) → ℕ → K → ℕ → Type 0
LowForm k script r a i = (run : Run script r) × (weight k run ≡ a) × Low run i

-- Runs of weight a, all of dimension at most i but for at most one, and that one at most i + 1.
abbrev pub SpineForm : {K : Type 0} → Algebra K → List (Rule K) → List ℕ → K → ℕ → Type 0
SpineForm k script qs a i = (runs : Runs script qs) × (weight k runs ≡ a) × Spine runs i

-- A piece goes from the runs behind into a hole of the run in front.
exchange : {K : Type 0} (k : Algebra K) (o s p b : K) → k.times (k.times o (k.times p s)) b ≡ k.times (k.times o s) (k.times p b)
exchange k o s p b = simp (Order.products, dioid k)

-- One step of the induction on the size: runs smaller than the bound have their low form.
module _ {K : Type 0} (k : Algebra K) (script : List (Rule K)) (bound i : ℕ) (labels : List ℕ) (short : length labels ≤ suc i) (lower : (j : ℕ) (ls : List ℕ) → length ls ≤ j → (r : ℕ) (run : Run script r) → size run < bound → Inside ls run → LowForm k script r (weight k run) j) where
  -- Runs smaller than the bound, the first of them apart, have their spine form where those behind
  -- are smaller than the fuel.
  abbrev Spreads : ℕ → Type 0
  Spreads fuel = (r : ℕ) (qs : List ℕ) (run : Run script r) (rest : Runs script qs) → size rest < fuel → size run + size rest < bound → Inside labels run → Inside labels rest → SpineForm k script (r ∷ qs) (k.times (weight k run) (weight k rest)) i

  opened : (fuel : ℕ) → Spreads fuel → {qs : List ℕ} (runs : Runs script qs) → size runs < suc fuel → size runs < bound → Inside labels runs → SpineForm k script qs (weight k runs) i
  opened fuel spreads none few small inside = (none, refl, tt)
  opened fuel spreads (more {r} {rest = qs} m children rest) few small inside =
      let done = spreads r qs (more m children none) rest (omega arith) (omega arith) (inside.0, inside.1, tt) inside.2 in
      (done.0, done.1 ∙ sym (beside_weight k (more m children none) rest), done.2)

  spread : (fuel : ℕ) → Spreads fuel
  spread zero r qs run rest few small inside behind = absurd (omega arith)
  spread (suc fuel) r qs run rest few small inside behind = look (spread fuel) (missed k labels run)
    where
      -- The run in front misses a routine: it is low with one routine less.
      missing : Spreads fuel → (x : ℕ) → Memᴰ x labels → Absent x run → SpineForm k script (r ∷ qs) (k.times (weight k run) (weight k rest)) i
      missing spreads x m absent =
          let shorter = without_shorter x labels m in
          let front = lower i (without x labels) (omega arith) r run (omega arith) (inside_without x labels run inside absent) in
          let back = opened fuel spreads rest few (omega arith) behind in
          (beside front.0 back.0, beside_weight k front.0 back.0 ∙ ap₂ k.times front.1 back.1, light_first k front.0 back.0 i front.2 back.2)

      -- The runs behind are low: the run in front may be the heavy one.
      lone : Low rest i → SpineForm k script (r ∷ qs) (k.times (weight k run) (weight k rest)) i
      lone low =
          let front = lower (suc i) labels short r run (omega arith) inside in
          (beside front.0 rest, beside_weight k front.0 rest ∙ ap (λ a. k.times a (weight k rest)) front.1, heavy_first k front.0 rest i front.2 low)

      -- A piece from x to x goes from the runs behind into the run in front.
      moved : Spreads fuel → (p : Repeat k rest) → Hole k p.label run → SpineForm k script (r ∷ qs) (k.times (weight k run) (weight k rest)) i
      moved spreads p h =
          let grown = h.fill (p.piece h.sub) in
          let larger : size grown ≡ h.bulk + suc (p.bulk + size h.sub) = h.measures (p.piece h.sub) ∙ ap (λ s. h.bulk + s) (p.measures h.sub) in
          let heavier : weight k grown ≡ k.times h.outer (k.times p.outer (weight k h.sub)) = h.weighs (p.piece h.sub) ∙ ap (k.times h.outer) (p.weighs h.sub) in
          let done = spreads r qs grown p.skip (omega (arith, p.size_is)) (omega (arith, p.size_is, h.size_is, larger)) (h.fill_inside labels inside (p.piece h.sub) (p.piece_inside labels behind h.sub (h.sub_inside labels inside))) (p.skip_inside labels behind) in
          (done.0, done.1 ∙ ap (λ a. k.times a (weight k p.skip)) heavier ∙ exchange k h.outer (weight k h.sub) p.outer (weight k p.skip) ∙ ap₂ k.times (sym h.weight_is) (sym p.weight_is), done.2)

      full : Spreads fuel → ((x : ℕ) → Memᴰ x labels → Hole k x run) → Low rest i ⊎ Repeat k rest → SpineForm k script (r ∷ qs) (k.times (weight k run) (weight k rest)) i
      full spreads each (inl low) = lone low
      full spreads each (inr p) = moved spreads p (each p.label (p.label_inside labels behind))

      look : Spreads fuel → ((x : ℕ) × Memᴰ x labels × Absent x run) ⊎ ((x : ℕ) → Memᴰ x labels → Hole k x run) → SpineForm k script (r ∷ qs) (k.times (weight k run) (weight k rest)) i
      look spreads (inl (x, m, absent)) = missing spreads x m absent
      look spreads (inr each) = full spreads each (low_or_repeat k rest i labels short behind)

  node : {r : ℕ} (run : Run script r) → size run ≤ bound → Inside labels run → LowForm k script r (weight k run) (suc i)
  node (more {w} m children none) small inside =
      let done = opened bound (spread bound) children (omega arith) (omega arith) inside.1 in
      (more m done.0 none, ap (λ a. k.times w (k.times a k.one)) done.1, (done.2, tt))

some_label : (r : ℕ) (labels : List ℕ) → Memᴰ r labels → length labels ≤ 0 → ⊥
some_label r [] m short = Memᴰ.not-nil m
some_label r (x ∷ labels) m short = omega arith

pub compact : {K : Type 0} (k : Algebra K) (script : List (Rule K)) (bound j : ℕ) (labels : List ℕ) → length labels ≤ j → (r : ℕ) (run : Run script r) → size run < bound → Inside labels run → LowForm k script r (weight k run) j
compact k script zero j labels short r run small inside = absurd (omega arith)
compact k script (suc bound) zero labels short r (more m children none) small inside = absurd (some_label r labels inside.0 short)
compact k script (suc bound) (suc i) labels short r run small inside = node k script bound i labels short (compact k script bound) run (omega arith) inside
