-- Runs with a hole, and pieces that can be cut out of runs: a piece leads from a routine down to
-- the same routine, so what stands below it fits in its place.
use Rattle.std.proofs.Common.{◌≡◌, ℕ, suc, ◌+◌, ◌<◌, ◌≤◌, cond, eqb, ◌⊎◌, List, [], ◌∷◌, length, sym, refl, ap, ◌∙◌, subst, inl, inr, arith}
use mathlib.Core.List.Memᴰ
use mathlib.Core.List.{Memᴰ}
use Rattle.std.proofs.lemmas.Bool.{cases_eq, eqb-true, eq-eqb, cond_both, cond-true}
use Rattle.semiring.specs.Algebra.{Algebra}
use Rattle.semiring.proofs.Dioid.{dioid}
use Rattle.semiring.proofs.Order
use Rattle.equations.specs.Rule.{Rule}
use Rattle.equations.specs.Run.{Runs, none, more, Run, weight}
use Rattle.equations.proofs.FiniteSums.{beside, beside_weight, single_weight}

-- How many rules occur in the runs.
abbrev pub size : {K : Type 0} {script : List (Rule K)} {qs : List ℕ} → Runs script qs → ℕ
size none = 0
size (more m children rest) = suc (size children + size rest)

-- All routines of the runs are in the list.
abbrev pub Inside : {K : Type 0} {script : List (Rule K)} {qs : List ℕ} → List ℕ → Runs script qs → Type 0
Inside labels none = Unit {0}
Inside labels (more {r} m children rest) = Memᴰ r labels × Inside labels children × Inside labels rest

-- The routine x does not occur in the runs.
abbrev pub Absent : {K : Type 0} {script : List (Rule K)} {qs : List ℕ} → ℕ → Runs script qs → Type 0
Absent x none = Unit {0}
Absent x (more {r} m children rest) = (r ≡ x → ⊥) × Absent x children × Absent x rest

-- A list without x.
abbrev pub without : ℕ → List ℕ → List ℕ
without x [] = []
without x (y ∷ ys) = cond (eqb y x) (without x ys) (y ∷ without x ys)

pub without_member : (x q : ℕ) → (q ≡ x → ⊥) → (ys : List ℕ) → Memᴰ q ys → Memᴰ q (without x ys)
without_member x q apart [] m = m
without_member x q apart (y ∷ ys) (Memᴰ.head e) = cond_both (eqb y x) (without x ys) (y ∷ without x ys) (Memᴰ q) (λ t. absurd (apart (e ∙ eqb-true y x t))) (λ t. Memᴰ.head e)
without_member x q apart (y ∷ ys) (Memᴰ.tail m) =
    let rec = without_member x q apart ys m in
    cond_both (eqb y x) (without x ys) (y ∷ without x ys) (Memᴰ q) (λ t. rec) (λ t. Memᴰ.tail rec)

without_length : (x : ℕ) (ys : List ℕ) → length (without x ys) ≤ length ys
without_length x [] = omega arith
without_length x (y ∷ ys) =
    let rec = without_length x ys in
    cond_both (eqb y x) (without x ys) (y ∷ without x ys) (λ zs. length zs ≤ suc (length ys)) (λ t. omega arith) (λ t. omega arith)

pub without_shorter : (x : ℕ) (ys : List ℕ) → Memᴰ x ys → length (without x ys) < length ys
without_shorter x [] m = absurd (Memᴰ.not-nil m)
without_shorter x (y ∷ ys) (Memᴰ.head e) =
    let rec = without_length x ys in
    rw (cond-true (eqb y x) (without x ys) (y ∷ without x ys) (eq-eqb y x (sym e))) (omega arith)
without_shorter x (y ∷ ys) (Memᴰ.tail m) =
    let rec = without_shorter x ys m in
    cond_both (eqb y x) (without x ys) (y ∷ without x ys) (λ zs. length zs < suc (length ys)) (λ t. omega arith) (λ t. omega arith)

module _ {K : Type 0} {script : List (Rule K)} where
  pub beside_size : {r : ℕ} {qs : List ℕ} (run : Run script r) (rest : Runs script qs) → size (beside run rest) ≡ size run + size rest
  beside_size (more m children none) rest = omega arith

  pub beside_inside : {r : ℕ} {qs : List ℕ} (labels : List ℕ) (run : Run script r) (rest : Runs script qs) → Inside labels run → Inside labels rest → Inside labels (beside run rest)
  beside_inside labels (more m children none) rest (a, b, c) d = (a, b, d)

  pub inside_without : (x : ℕ) (labels : List ℕ) {qs : List ℕ} (runs : Runs script qs) → Inside labels runs → Absent x runs → Inside (without x labels) runs
  inside_without x labels none inside absent = tt
  inside_without x labels (more {r} m children rest) (a, b, c) (p, q, s) = (without_member x r p labels a, inside_without x labels children b q, inside_without x labels rest c s)

-- Runs as a run of x with what stands around it: any other run of x fits in its place.
pub record Hole {K : Type 0} (k : Algebra K) {script : List (Rule K)} (x : ℕ) {qs : List ℕ} (runs : Runs script qs) : Type 0 where
  pub sub : Run script x
  pub fill : Run script x → Runs script qs
  pub outer : K
  pub bulk : ℕ
  pub weighs : (run : Run script x) → weight k (fill run) ≡ k.times outer (weight k run)
  pub measures : (run : Run script x) → size (fill run) ≡ bulk + size run
  pub weight_is : weight k runs ≡ k.times outer (weight k sub)
  pub size_is : size runs ≡ bulk + size sub
  pub sub_inside : (labels : List ℕ) → Inside labels runs → Inside labels sub
  pub fill_inside : (labels : List ℕ) → Inside labels runs → (run : Run script x) → Inside labels run → Inside labels (fill run)

-- Runs with a piece in them that leads from a routine to itself, and the runs without it.
pub record Repeat {K : Type 0} (k : Algebra K) {script : List (Rule K)} {qs : List ℕ} (runs : Runs script qs) : Type 0 where
  pub label : ℕ
  pub skip : Runs script qs
  pub piece : Run script label → Run script label
  pub outer : K
  pub bulk : ℕ
  pub weighs : (run : Run script label) → weight k (piece run) ≡ k.times outer (weight k run)
  pub measures : (run : Run script label) → size (piece run) ≡ suc (bulk + size run)
  pub weight_is : weight k runs ≡ k.times outer (weight k skip)
  pub size_is : size runs ≡ suc (bulk + size skip)
  pub label_inside : (labels : List ℕ) → Inside labels runs → Memᴰ label labels
  pub skip_inside : (labels : List ℕ) → Inside labels runs → Inside labels skip
  pub piece_inside : (labels : List ℕ) → Inside labels runs → (run : Run script label) → Inside labels run → Inside labels (piece run)

module _ {K : Type 0} (k : Algebra K) where
  -- A factor of the children, or of the runs behind, is a factor of the whole.
  pub from_child : (w o a b : K) → k.times w (k.times (k.times o a) b) ≡ k.times (k.times w (k.times o b)) a
  from_child w o a b = simp (Order.products, dioid k)

  pub from_rest : (w c o a : K) → k.times w (k.times c (k.times o a)) ≡ k.times (k.times w (k.times c o)) a
  from_rest w c o a = simp (Order.products, dioid k)

  pub out_of_child : (w o a b : K) → k.times w (k.times (k.times o a) b) ≡ k.times o (k.times w (k.times a b))
  out_of_child w o a b = simp (Order.products, dioid k)

  pub out_of_rest : (w c o a : K) → k.times w (k.times c (k.times o a)) ≡ k.times o (k.times w (k.times c a))
  out_of_rest w c o a = simp (Order.products, dioid k)

  pub at_root : (w o a b : K) → k.times w (k.times (k.times o a) b) ≡ k.times (k.times w o) (k.times a b)
  at_root w o a b = simp (Order.products, dioid k)

module _ {K : Type 0} (k : Algebra K) {script : List (Rule K)} {r : ℕ} {calls : List ℕ} {w : K} (m : Memᴰ (record { routine = r; calls = calls; weight = w }) script) (children : Runs script calls) where
  hole_root : {qs : List ℕ} (rest : Runs script qs) → Hole k r (more m children rest)
  hole_root rest = record {
    sub = more m children none;
    fill = λ run. beside run rest;
    outer = weight k rest;
    bulk = size rest;
    weighs = λ run. beside_weight k run rest ∙ k.laws.times_comm (weight k run) (weight k rest);
    measures = λ run. omega (arith, beside_size run rest);
    weight_is = beside_weight k (more m children none) rest ∙ k.laws.times_comm (weight k (more m children none)) (weight k rest);
    size_is = omega arith;
    sub_inside = λ labels i. (i.0, i.1, tt);
    fill_inside = λ labels i run j. beside_inside labels run rest j i.2;
  }

  hole_child : {qs : List ℕ} (rest : Runs script qs) (x : ℕ) → Hole k x children → Hole k x (more m children rest)
  hole_child rest x h = record {
    sub = h.sub;
    fill = λ run. more m (h.fill run) rest;
    outer = k.times w (k.times h.outer (weight k rest));
    bulk = suc (h.bulk + size rest);
    weighs = λ run. ap (λ c. k.times w (k.times c (weight k rest))) (h.weighs run) ∙ from_child k w h.outer (weight k run) (weight k rest);
    measures = λ run. omega (arith, h.measures run);
    weight_is = ap (λ c. k.times w (k.times c (weight k rest))) h.weight_is ∙ from_child k w h.outer (weight k h.sub) (weight k rest);
    size_is = omega (arith, h.size_is);
    sub_inside = λ labels i. h.sub_inside labels i.1;
    fill_inside = λ labels i run j. (i.0, h.fill_inside labels i.1 run j, i.2);
  }

  hole_rest : {qs : List ℕ} (rest : Runs script qs) (x : ℕ) → Hole k x rest → Hole k x (more m children rest)
  hole_rest rest x h = record {
    sub = h.sub;
    fill = λ run. more m children (h.fill run);
    outer = k.times w (k.times (weight k children) h.outer);
    bulk = suc (size children + h.bulk);
    weighs = λ run. ap (λ c. k.times w (k.times (weight k children) c)) (h.weighs run) ∙ from_rest k w (weight k children) h.outer (weight k run);
    measures = λ run. omega (arith, h.measures run);
    weight_is = ap (λ c. k.times w (k.times (weight k children) c)) h.weight_is ∙ from_rest k w (weight k children) h.outer (weight k h.sub);
    size_is = omega (arith, h.size_is);
    sub_inside = λ labels i. h.sub_inside labels i.2;
    fill_inside = λ labels i run j. (i.0, i.1, h.fill_inside labels i.2 run j);
  }

  pub repeat_root : {qs : List ℕ} (rest : Runs script qs) → Hole k r children → Repeat k (more m children rest)
  repeat_root rest h = record {
    label = r;
    skip = beside h.sub rest;
    piece = λ run. more m (h.fill run) none;
    outer = k.times w h.outer;
    bulk = h.bulk;
    weighs = λ run. single_weight k m (h.fill run) ∙ ap (k.times w) (h.weighs run) ∙ sym (k.laws.times_assoc w h.outer (weight k run));
    measures = λ run. omega (arith, h.measures run);
    weight_is = ap (λ c. k.times w (k.times c (weight k rest))) h.weight_is ∙ at_root k w h.outer (weight k h.sub) (weight k rest) ∙ ap (k.times (k.times w h.outer)) (sym (beside_weight k h.sub rest));
    size_is = omega (arith, h.size_is, beside_size h.sub rest);
    label_inside = λ labels i. i.0;
    skip_inside = λ labels i. beside_inside labels h.sub rest (h.sub_inside labels i.1) i.2;
    piece_inside = λ labels i run j. (i.0, h.fill_inside labels i.1 run j, tt);
  }

  pub repeat_child : {qs : List ℕ} (rest : Runs script qs) → Repeat k children → Repeat k (more m children rest)
  repeat_child rest p = record {
    label = p.label;
    skip = more m p.skip rest;
    piece = p.piece;
    outer = p.outer;
    bulk = p.bulk;
    weighs = p.weighs;
    measures = p.measures;
    weight_is = ap (λ c. k.times w (k.times c (weight k rest))) p.weight_is ∙ out_of_child k w p.outer (weight k p.skip) (weight k rest);
    size_is = omega (arith, p.size_is);
    label_inside = λ labels i. p.label_inside labels i.1;
    skip_inside = λ labels i. (i.0, p.skip_inside labels i.1, i.2);
    piece_inside = λ labels i. p.piece_inside labels i.1;
  }

  pub repeat_rest : {qs : List ℕ} (rest : Runs script qs) → Repeat k rest → Repeat k (more m children rest)
  repeat_rest rest p = record {
    label = p.label;
    skip = more m children p.skip;
    piece = p.piece;
    outer = p.outer;
    bulk = p.bulk;
    weighs = p.weighs;
    measures = p.measures;
    weight_is = ap (λ c. k.times w (k.times (weight k children) c)) p.weight_is ∙ out_of_rest k w (weight k children) p.outer (weight k p.skip);
    size_is = omega (arith, p.size_is);
    label_inside = λ labels i. p.label_inside labels i.2;
    skip_inside = λ labels i. (i.0, i.1, p.skip_inside labels i.2);
    piece_inside = λ labels i. p.piece_inside labels i.2;
  }

module _ {K : Type 0} (k : Algebra K) {script : List (Rule K)} where
  -- Where x stands in the runs, or that it does not.
  pub seek : (x : ℕ) {qs : List ℕ} (runs : Runs script qs) → Hole k x runs ⊎ Absent x runs
  seek x none = inr tt
  seek x (more {r} m children rest) = look (cases_eq r x) (seek x children) (seek x rest)
    where
      look : (r ≡ x) ⊎ (r ≡ x → ⊥) → Hole k x children ⊎ Absent x children → Hole k x rest ⊎ Absent x rest → Hole k x (more m children rest) ⊎ Absent x (more m children rest)
      look (inl e) a b = inl (subst (λ y. Hole k y (more m children rest)) e (hole_root k m children rest))
      look (inr apart) (inl h) b = inl (hole_child k m children rest x h)
      look (inr apart) (inr a) (inl h) = inl (hole_rest k m children rest x h)
      look (inr apart) (inr a) (inr b) = inr (apart, a, b)

  -- A routine of the list that the runs miss, or where each stands.
  pub missed : (labels : List ℕ) {qs : List ℕ} (runs : Runs script qs) → ((x : ℕ) × Memᴰ x labels × Absent x runs) ⊎ ((x : ℕ) → Memᴰ x labels → Hole k x runs)
  missed [] runs = inr (λ x m. absurd (Memᴰ.not-nil m))
  missed (y ∷ ys) runs = look (seek y runs) (missed ys runs)
    where
      found : Hole k y runs → ((x : ℕ) → Memᴰ x ys → Hole k x runs) → (x : ℕ) → Memᴰ x (y ∷ ys) → Hole k x runs
      found h each x (Memᴰ.head e) = subst (λ z. Hole k z runs) (sym e) h
      found h each x (Memᴰ.tail m) = each x m

      look : Hole k y runs ⊎ Absent y runs → ((x : ℕ) × Memᴰ x ys × Absent x runs) ⊎ ((x : ℕ) → Memᴰ x ys → Hole k x runs) → ((x : ℕ) × Memᴰ x (y ∷ ys) × Absent x runs) ⊎ ((x : ℕ) → Memᴰ x (y ∷ ys) → Hole k x runs)
      look (inr absent) b = inl (y, Memᴰ.head refl, absent)
      look (inl h) (inl (x, m, absent)) = inl (x, Memᴰ.tail m, absent)
      look (inl h) (inr each) = inr (found h each)
