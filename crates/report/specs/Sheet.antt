-- What a sheet has of a text: the names of its routines, and their figures in all four kinds.
use Rattle.std.specs.Prelude.{◌≡◌, ℕ, List, Some, None, Ok, Err, Result}
use Rattle.script.specs.declared.fault.Fault.{Fault}
use Rattle.script.specs.Legend.{Legend}
use Rattle.reader.specs.Known.{known}
use Rattle.reader.specs.Text.{text_feed, text_legend}
use Rattle.report.specs.Script.{fault_of}
use Rattle.report.specs.Filled.{AllFill}
use Rattle.report.specs.Figures.{column_of, least_kind, most_kind, light_kind, disc_kind}
use Rattle.report.specs.Written.{Columns}
use Rattle.report.specs.declared.sheet.Sheet.{Sheet}

abbrev pub legend_of : Sheet → Legend
legend_of s = known s.text.names

abbrev pub columns_of : Sheet → Columns
columns_of s = record { least = column_of least_kind s.least; most = column_of most_kind s.most; light = column_of light_kind s.light; disc = column_of disc_kind s.disc }

-- What is answered for a text.
abbrev pub SheetOf : List ℕ → Result Sheet Fault → Type 0
SheetOf text (Ok s) = (fault_of (text_feed text) ≡ None) × (legend_of s ≡ text_legend text) × AllFill text (columns_of s)
SheetOf text (Err fault) = fault_of (text_feed text) ≡ Some fault
