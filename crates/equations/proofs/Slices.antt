-- What the code reads off the slices, step by step: the calls of a branch one after the other, the
-- held rules one after the other, and a slice that is written from the front.
use Rattle.std.proofs.Common.{◌≡◌, ℕ, zero, suc, ◌+◌, ◌-◌, ◌*◌, ◌<◌, ◌≤◌, cond, eqb, ◌⊎◌, List, [], ◌∷◌, ◌++◌, length, get_or, take, drop, set, fold, sym, refl, ap, ◌∙◌, ap₂, inl, inr, append_assoc, le_of_suc-le-suc, eq-or-lt_of_le, add-one, arith, length-append}
use lib.Arith.{digits_lt, digits_div, digits_mod}
use Rattle.std.proofs.lemmas.Bool.{eq-eqb, ne_eqb, cond-true, cond-false}
use Rattle.std.proofs.lemmas.Slice.{first_rest}
use Rattle.std.proofs.lemmas.List.{drop_more, set_at, get_or_at, get_or_append_left, get_or-take, length-take-le}
use Rattle.semiring.specs.Algebra.{Algebra}
use Rattle.semiring.proofs.Dioid.{dioid}
use Rattle.semiring.proofs.Order
use Rattle.linear.specs.System.{cell, entry_at}
use Rattle.script.specs.declared.branch.Branch.{Branch}
use Rattle.equations.specs.Rule.{Rule}
use Rattle.equations.specs.Held.{table, written, rows, rule_of, no_branch, rules_of}
use Rattle.equations.specs.Equations.{over, called, others}

module _ {K : Type 0} (k : Algebra K) (v : ℕ → K) where
  -- A product from the front is one from the back.
  folded : (a : K) (calls : List ℕ) → fold (λ b c. k.times b (v c)) a calls ≡ k.times a (called k v calls)
  folded a [] = sym (k.laws.times_one a)
  folded a (c ∷ calls) = folded (k.times a (v c)) calls ∙ k.laws.times_assoc a (v c) (called k v calls)

  pub called_folded : (calls : List ℕ) → fold (λ b c. k.times b (v c)) k.one calls ≡ called k v calls
  called_folded calls = folded k.one calls ∙ k.laws.times_comm k.one (called k v calls) ∙ k.laws.times_one (called k v calls)

  -- The first call names q, or not.
  pub others_here : (q : ℕ) (calls : List ℕ) (a b c t w : K) → 0 < length calls → get_or calls 0 0 ≡ q → a ≡ v (get_or calls 0 0) → b ≡ others k v q (take (length calls - 1) (drop 1 calls)) → c ≡ called k v (take (length calls - 1) (drop 1 calls)) → t ≡ k.times a b → w ≡ k.plus c t → w ≡ others k v q calls
  others_here q calls a b c t w some names first rest others' product is =
      is ∙ ap₂ k.plus (others' ∙ sym (cond-true (eqb (get_or calls 0 0) q) _ k.zero (eq-eqb (get_or calls 0 0) q names))) (product ∙ ap₂ k.times first rest) ∙ sym (ap (others k v q) (first_rest calls 0 some))

  pub others_past : (q : ℕ) (calls : List ℕ) (a b t : K) → 0 < length calls → (get_or calls 0 0 ≡ q → ⊥) → a ≡ v (get_or calls 0 0) → b ≡ others k v q (take (length calls - 1) (drop 1 calls)) → t ≡ k.times a b → t ≡ others k v q calls
  others_past q calls a b t some apart first rest product =
      sym (Order.zero_under (dioid k) t) ∙ ap₂ k.plus (sym (cond-false (eqb (get_or calls 0 0) q) _ k.zero (ne_eqb (get_or calls 0 0) q apart))) (product ∙ ap₂ k.times first rest) ∙ sym (ap (others k v q) (first_rest calls 0 some))

module _ {K : Type 0} (k : Algebra K) (g : List ℕ → K) (r : ℕ) where
  over_push : (rules : List (Rule K)) (rule : Rule K) → over k (rules ++ rule ∷ []) g r ≡ k.plus (over k rules g r) (cond (eqb rule.routine r) (k.times rule.weight (g rule.calls)) k.zero)
  over_push [] rule = k.laws.plus_comm _ k.zero
  over_push (first ∷ rules) rule = ap (k.plus _) (over_push rules rule) ∙ sym (k.laws.plus_assoc _ (over k rules g r) _)

  -- One held branch more, which is one of r, or not.
  pub held_taken : (branches : List Branch) (weights : List K) (i : ℕ) (b : Branch) (w all p t all' : K) → b ≡ get_or branches i no_branch → w ≡ get_or weights i k.zero → all ≡ over k (rules_of k i branches weights) g r → b.routine ≡ r → p ≡ g (take b.count b.calls) → t ≡ k.times w p → all' ≡ k.plus all t → all' ≡ over k (rules_of k (i + 1) branches weights) g r
  held_taken branches weights i b w all p t all' branch weight before names part product is =
      let rule = rule_of (get_or branches i no_branch) (get_or weights i k.zero) in
      rw (add-one i) (is ∙ ap₂ k.plus before (product ∙ ap₂ k.times weight (part ∙ ap (λ (b : Branch). g (take b.count b.calls)) branch) ∙ sym (cond-true (eqb rule.routine r) _ k.zero (eq-eqb rule.routine r (ap (λ (b : Branch). b.routine) (sym branch) ∙ names)))) ∙ sym (over_push (rules_of k i branches weights) rule))

  pub held_passed : (branches : List Branch) (weights : List K) (i : ℕ) (b : Branch) (all : K) → b ≡ get_or branches i no_branch → all ≡ over k (rules_of k i branches weights) g r → (b.routine ≡ r → ⊥) → all ≡ over k (rules_of k (i + 1) branches weights) g r
  held_passed branches weights i b all branch before apart =
      let rule = rule_of (get_or branches i no_branch) (get_or weights i k.zero) in
      rw (add-one i) (before ∙ sym (k.laws.plus_zero (over k (rules_of k i branches weights) g r)) ∙ ap (k.plus _) (sym (cond-false (eqb rule.routine r) _ k.zero (ne_eqb rule.routine r (λ e. apart (ap (λ (b : Branch). b.routine) branch ∙ e))))) ∙ sym (over_push (rules_of k i branches weights) rule))

pub table_ext : {A : Type 0} (f g : ℕ → A) (n : ℕ) → ((i : ℕ) → i < n → f i ≡ g i) → table f n ≡ table g n
table_ext f g zero same = refl
table_ext f g (suc n) same =
    ap₂ (λ xs x. xs ++ x ∷ []) (table_ext f g n (λ i l. same i (omega arith))) (same n (omega arith))

-- The rules of the first `held` places are those of the two slices cut there.
pub held_cut : {K : Type 0} (k : Algebra K) (held : ℕ) (branches : List Branch) (weights : List K) → held ≤ length branches → rules_of k (length (take held branches)) (take held branches) (take held weights) ≡ rules_of k held branches weights
held_cut k held branches weights within =
    ap (λ n. rules_of k n (take held branches) (take held weights)) (length-take-le held branches within) ∙ table_ext _ _ held (λ i l. ap₂ rule_of (get_or-take held branches i no_branch l) (get_or-take held weights i k.zero l))

-- A slice that is written from the front.
module _ {A : Type 0} (f : ℕ → A) where
  pub length-table : (n : ℕ) → length (table f n) ≡ n
  length-table zero = refl
  length-table (suc n) = omega (arith, length-append (table f n) (f n ∷ []), length-table n)

  -- One more place.
  pub written_more : (n : ℕ) (xs ys : List A) (x : A) → n < length xs → ys ≡ written f n xs → x ≡ f n → set ys n x ≡ written f (n + 1) xs
  written_more n xs ys x l before e =
      let opened : written f n xs ≡ table f n ++ get_or xs n x ∷ drop (n + 1) xs = ap (λ ys. table f n ++ ys) (drop_more xs n x l) in
      let put = set_at (table f n) (get_or xs n x) (drop (n + 1) xs) x n (length-table n) in
      let grown : table f (n + 1) ≡ table f n ++ f n ∷ [] = ap (table f) (add-one n) in
      ap (λ zs. set zs n x) (before ∙ opened) ∙ put ∙ ap (λ y. table f n ++ y ∷ drop (n + 1) xs) e ∙ sym (append_assoc (table f n) (f n ∷ []) (drop (n + 1) xs)) ∙ ap (λ ys. ys ++ drop (n + 1) xs) (sym grown)

  get_or-table : (n i : ℕ) (d : A) → i < n → get_or (table f n) i d ≡ f i
  get_or-table zero i d l = absurd (omega arith)
  get_or-table (suc n) i d l = look (λ m. get_or-table n i d m) (eq-or-lt_of_le (le_of_suc-le-suc l))
    where
      look : (i < n → get_or (table f n) i d ≡ f i) → (i ≡ n) ⊎ (i < n) → get_or (table f (suc n)) i d ≡ f i
      look before (inl e) = get_or_at (table f n) (f n) [] d i (omega (arith, length-table n)) ∙ ap f (sym e)
      look before (inr m) = get_or_append_left (table f n) (f n ∷ []) d i (omega (arith, length-table n)) ∙ before m

  get_or-written : (n i : ℕ) (xs ys : List A) (d : A) → ys ≡ written f n xs → i < n → get_or ys i d ≡ f i
  get_or-written n i xs ys d e l = ap (λ zs. get_or zs i d) e ∙ get_or_append_left (table f n) (drop n xs) d i (omega (arith, length-table n)) ∙ get_or-table n i d l

-- What is read off a column and a grid that were written.
pub entry_written : {K : Type 0} (k : Algebra K) (f : ℕ → K) (n : ℕ) (xs ys : List K) → ys ≡ written f n xs → (r : ℕ) → r < n → entry_at k ys r ≡ f r
entry_written k f n xs ys e r = get_or-written f n r xs ys k.zero e

pub cell_written : {K : Type 0} (k : Algebra K) (f : ℕ → ℕ → K) (n : ℕ) (xs ys : List K) → ys ≡ written (rows n f) (n * n) xs → (r q : ℕ) → r < n → q < n → cell k n ys r q ≡ f r q
cell_written k f n xs ys e r q l m =
    get_or-written (rows n f) (n * n) (r * n + q) xs ys k.zero e (digits_lt l m) ∙ ap₂ f (digits_div r m) (digits_mod r m)
