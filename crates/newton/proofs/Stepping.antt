-- One Newton round, from what its parts leave.
use Rattle.std.proofs.Common.{◌≡◌, ℕ, ◌*◌, ◌≤◌, List, ◌++◌, length, refl, ap, ◌∙◌}
use Rattle.semiring.specs.Algebra.{Algebra}
use Rattle.linear.specs.System.{cell, entry_at}
use Rattle.linear.specs.Solved.{Accepted}
use Rattle.linear.proofs.Existence
use Rattle.equations.specs.Equations.{image, slope}
use Rattle.equations.specs.Held.{table, written, rows}
use Rattle.equations.proofs.Slices.{entry_written, cell_written}
use Rattle.equations.proofs.Systems
use Rattle.newton.specs.declared.sheet.Size.{Size}
use Rattle.newton.specs.Slices.{SlicesOf}
use Rattle.newton.specs.Working.{held_rules, values_of, NewtonStep}
use Rattle.newton.proofs.Written.{written_tail, written_size}

module _ {K : Type 0} (k : Algebra K) (size : Size) (s : SlicesOf K) (room : size.n ≤ length s.values) where
  abbrev n : ℕ
  n = size.n

  abbrev f : ℕ → K
  f = image k (held_rules k size s) (values_of k s)

  abbrev a : ℕ → ℕ → K
  a = slope k (held_rules k size s) (values_of k s)

  pub stepped :
      (column grid column' grid' values cleared_column cleared_grid : List K) (calls calls' : ℕ) →
      column ≡ written f n s.column →
      grid ≡ written (rows n a) (n * n) s.grid →
      Accepted k n calls grid column calls' grid' column' →
      values ≡ written (entry_at k column') n s.values →
      cleared_column ≡ written (λ r. k.zero) n column' →
      cleared_grid ≡ written (λ r. k.zero) (n * n) grid' →
      NewtonStep k size s (record { branches = s.branches; weights = s.weights; values = values; column = cleared_column; grid = cleared_grid })
  stepped column grid column' grid' values cleared_column cleared_grid calls calls' filled sloped solved taken none none' = record {
    least = Existence.least_same k n a f (entry_at k column') (entry_at k values) (entry_written k (entry_at k column') n s.values values taken)
        (Systems.least_same k n (cell k n grid) a (entry_at k column) f (cell_written k a n s.grid grid sloped) (entry_written k f n s.column column filled) (entry_at k column') solved.leaves.least);
    places = written_size (entry_at k column') n s.values values room taken;
    tail = written_tail (entry_at k column') n s.values values taken;
    cleared = record {
      branches = refl;
      weights = refl;
      column = none ∙ ap (λ l. table (λ r. k.zero) n ++ l) (solved.leaves.places ∙ written_tail f n s.column column filled);
      grid = none' ∙ ap (λ l. table (λ r. k.zero) (n * n) ++ l) (solved.leaves.cells.tail ∙ written_tail (rows n a) (n * n) s.grid grid sloped);
    };
  }
