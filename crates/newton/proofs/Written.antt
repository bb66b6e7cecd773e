-- A slice written from the front, and one that is copied from it.
use Rattle.std.proofs.Common.{◌≡◌, ℕ, zero, suc, ◌<◌, ◌≤◌, List, [], ◌∷◌, ◌++◌, length, take, drop, sym, refl, ap, ◌∙◌, add-one, arith, length-append, length-drop}
use Rattle.std.proofs.lemmas.List.{drop_at, take_more}
use Rattle.semiring.specs.Algebra.{Algebra}
use Rattle.linear.specs.System.{entry_at}
use Rattle.equations.specs.Held.{table, written}
use Rattle.equations.proofs.Slices.{entry_written, length-table, table_ext}

-- what is read from the front is the table of the places there
pub table_read : {K : Type 0} (k : Algebra K) (n : ℕ) (xs : List K) → n ≤ length xs → take n xs ≡ table (entry_at k xs) n
table_read k zero xs room = refl
table_read k (suc n) xs room =
    ap (λ m. take m xs) (sym (add-one n)) ∙ take_more xs n k.zero (omega arith) ∙ ap (λ l. l ++ entry_at k xs n ∷ []) (table_read k n xs (omega arith))

-- the front of a slice, put over that of another
pub written_read : {K : Type 0} (k : Algebra K) (n : ℕ) (xs ys front : List K) → n ≤ length xs → front ≡ take n xs → front ++ drop n ys ≡ written (entry_at k xs) n ys
written_read k n xs ys front room is = ap (λ l. l ++ drop n ys) (is ∙ table_read k n xs room)

written_same : {X : Type 0} (f g : ℕ → X) (n : ℕ) (xs : List X) → ((i : ℕ) → i < n → f i ≡ g i) → written f n xs ≡ written g n xs
written_same f g n xs same = ap (λ l. l ++ drop n xs) (table_ext f g n same)

-- what is written twice was written last
pub written_over : {X : Type 0} (f g : ℕ → X) (n : ℕ) (xs ys : List X) → ys ≡ written g n xs → written f n ys ≡ written f n xs
written_over f g n xs ys is = ap (written f n) is ∙ ap (λ l. table f n ++ l) (drop_at (table g n) (drop n xs) n (length-table g n))

-- what is copied from a column that was written
pub copied : {K : Type 0} (k : Algebra K) (f : ℕ → K) (n : ℕ) (xs ys vs : List K) → ys ≡ written f n xs → written (entry_at k ys) n vs ≡ written f n vs
copied k f n xs ys vs is = written_same (entry_at k ys) f n vs (entry_written k f n xs ys is)

-- what stands behind the places that were written
pub written_tail : {X : Type 0} (f : ℕ → X) (n : ℕ) (xs ys : List X) → ys ≡ written f n xs → drop n ys ≡ drop n xs
written_tail f n xs ys is = ap (drop n) is ∙ drop_at (table f n) (drop n xs) n (length-table f n)

pub written_size : {X : Type 0} (f : ℕ → X) (n : ℕ) (xs ys : List X) → n ≤ length xs → ys ≡ written f n xs → length ys ≡ length xs
written_size f n xs ys room is = ap length is ∙ length-append (table f n) (drop n xs) ∙ omega (arith, length-table f n, length-drop n xs)
