-- What a table of records stands for: its records in order, the line of each being its place
-- plus 1 and its byte 0, and then the plain end.
use Rattle.std.specs.Prelude.{ℕ, ◌+◌, List, [], ◌∷◌, None}
use Rattle.script.specs.declared.branch.Branch.{Branch}
use Rattle.script.specs.declared.branch.Placed.{Placed}
use Rattle.script.specs.declared.table.TableSource.{TableSource}
use Rattle.script.specs.Feed.{Feed}

-- the record at a place
abbrev pub placed_at : ℕ → Branch → Placed
placed_at place b = record { branch = b; place = record { line = place + 1; byte = 0 } }

-- the records of a table that begins at a place
abbrev pub placed_from : ℕ → List Branch → List Placed
placed_from place [] = []
placed_from place (b ∷ bs) = placed_at place b ∷ placed_from (place + 1) bs

abbrev pub table_feed : List Branch → Feed
table_feed records = record { items = placed_from 0 records; ending = None }

-- what a table source has yet to give
abbrev pub table_left : TableSource → Feed
table_left s = record { items = placed_from s.given s.rest.now; ending = None }
