use Rattle.std.proofs.Common.{◌≡◌, ◌++◌, string_bytes}
use Rattle.report.specs.Sheet.{legend_of, columns_of}
use Rattle.report.specs.Written.{heading, lines}
use Rattle.report.proofs.sheet.Sheet.written.Given as goal

abbrev pub invariant-loop-routine : goal.invariant-loop-routine
invariant-loop-routine l = string_bytes l.printed ≡ heading ++ lines (legend_of l.self) (columns_of l.self) l.routine
