-- How a fault is printed: `refused 24 reader line 2 byte 45`.
use Rattle.std.specs.Prelude.{ℕ, List, ◌++◌, codes, decimal}
use Rattle.script.specs.declared.place.Place.{Place}
use Rattle.script.specs.declared.fault.Cause.{Cause}
use Rattle.script.specs.declared.fault.Cause.TheVariants.{Reader, Sheet, Other}
use Rattle.script.specs.declared.fault.Fault.{Fault}
use Rattle.script.specs.declared.fault.Layer.{Layer}
use Rattle.script.specs.declared.fault.Layer.TheVariants.{Reader as ByReader, Sheet as BySheet}
use Rattle.script.specs.Refusal.{reader_number, sheet_number}

abbrev pub layer_text : Layer → List ℕ
layer_text ByReader = codes "reader"
layer_text BySheet = codes "sheet"

abbrev pub cause_text : Cause → List ℕ
cause_text (Reader why) = decimal (reader_number why) ++ codes " reader"
cause_text (Sheet why) = decimal (sheet_number why) ++ codes " sheet"
cause_text (Other number layer) = decimal number ++ (codes " " ++ layer_text layer)

abbrev pub place_text : Place → List ℕ
place_text p = codes "line " ++ (decimal p.line ++ (codes " byte " ++ decimal p.byte))

abbrev pub fault_text : Fault → List ℕ
fault_text f = codes "refused " ++ (cause_text f.cause ++ (codes " " ++ place_text f.place))
