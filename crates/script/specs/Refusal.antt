-- The number of each refusal: those of a sheet from 1, those of the reader from 20.
use Rattle.std.specs.Prelude.{ℕ}
use Rattle.script.specs.declared.refusal.reader.ReaderRefusal.{ReaderRefusal}
use Rattle.script.specs.declared.refusal.reader.ReaderRefusal.TheVariants.{Size, FirstLine, Words, Name, Number, Calls, Names}
use Rattle.script.specs.declared.refusal.sheet.SheetRefusal.{SheetRefusal}
use Rattle.script.specs.declared.refusal.sheet.SheetRefusal.TheVariants.{Calls as TooManyCalls, Routines, Range, Room, Slices, Place, Held, Solved, Rounds, Unsolved, Routine}

abbrev pub sheet_number : SheetRefusal → ℕ
sheet_number TooManyCalls = 1
sheet_number Routines = 2
sheet_number Range = 3
sheet_number Room = 4
sheet_number Slices = 5
sheet_number Place = 6
sheet_number Held = 7
sheet_number Solved = 8
sheet_number Rounds = 9
sheet_number Unsolved = 10
sheet_number Routine = 11

abbrev pub reader_number : ReaderRefusal → ℕ
reader_number Size = 20
reader_number FirstLine = 21
reader_number Words = 22
reader_number Name = 23
reader_number Number = 24
reader_number Calls = 25
reader_number Names = 26
