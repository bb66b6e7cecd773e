-- What is printed for the bytes of a script file: its sheet, or one line that says where the file is
-- refused.
use Rattle.std.specs.Prelude.{◌≡◌, ℕ, List, [], ◌∷◌, ◌++◌, Some, None, Ok, Err, String, string_bytes, Result}
use Rattle.std.specs.Global.{Global}
use Rattle.script.specs.declared.fault.Fault.{Fault}
use Rattle.script.specs.Shown.{fault_text}
use Rattle.reader.specs.Text.{text_feed, text_legend}
use Rattle.report.specs.Script.{fault_of}
use Rattle.report.specs.Filled.{AllFill}
use Rattle.report.specs.Written.{Columns, sheet_text}
use Rattle.report.specs.declared.Unprinted.{Unprinted}
use Rattle.report.specs.declared.Unprinted.TheVariants.{Refused, Memory}

abbrev pub fault_line : Fault → List ℕ
fault_line fault = fault_text fault ++ 10 ∷ []

-- The answer for a text. With no fault, it is a sheet with the names of the text, in which each
-- column is what its kind makes of the text. Want of memory says nothing.
abbrev pub Reported : List ℕ → Result (String Global) Unprinted → Type 0
Reported text (Ok sheet) =
    (fault_of (text_feed text) ≡ None) × (columns : Columns) × AllFill text columns × (string_bytes sheet ≡ sheet_text (text_legend text) columns)
Reported text (Err (Refused line)) = (fault : Fault) × (fault_of (text_feed text) ≡ Some fault) × (string_bytes line ≡ fault_line fault)
Reported text (Err (Memory error)) = Unit {0}
