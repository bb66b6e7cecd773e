-- What a table of names holds.
use Rattle.std.specs.Prelude.{◌≡◌, ℕ, ◌<◌, ◌≤◌, List, ◌++◌, map, length, Some, None, Option}
use Rattle.script.specs.Legend.{Legend, number_of, met}
use Rattle.reader.specs.declared.names.Names.{Names}

-- the names met so far, by number
abbrev pub known : Names → Legend
known t = map (λ name. name.now) t.met.items

-- names met later come behind those met before
abbrev pub Grows : Legend → Legend → Type 0
Grows before after = (more : Legend) × (after ≡ before ++ more)

-- The number of a word, which is met now; none where it would be the thirty-third name, and the
-- legend then stays.
abbrev pub Numbered : Legend → List ℕ → Option ℕ → Legend → Type 0
Numbered before word None after = (32 < length (met before word)) × (after ≡ before)
Numbered before word (Some n) after = (length (met before word) ≤ 32) × (n ≡ number_of before word) × (after ≡ met before word)
