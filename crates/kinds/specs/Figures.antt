-- Worked figures: a list of statements about the rules, each of which holds.
use Rattle.std.specs.Prelude.{◌≡◌, List, [], ◌∷◌, codes}
use Rattle.kinds.specs.Disc as Disc
use Rattle.kinds.specs.Least as Least
use Rattle.kinds.specs.Most as Most

abbrev pub Hold : List (Type 0) → Type 0
Hold [] = Unit {0}
Hold (figure ∷ figures) = figure × Hold figures

abbrev pub figures : List (Type 0)
figures =
    -- least: 65,534 is the last number, and one second more is never
    (Least.times (Least.seconds 65000) (Least.seconds 534) ≡ Least.seconds 65534)
    ∷ (Least.times (Least.seconds 65000) (Least.seconds 535) ≡ Least.zero)
    -- most: a sum is held at 65,535, and so is every star but that of 0
    ∷ (Most.times (Most.seconds 65000) (Most.seconds 600) ≡ Most.seconds 65535)
    ∷ (Most.star (Most.seconds 0) ≡ Most.seconds 0)
    ∷ (Most.star (Most.seconds 1) ≡ Most.seconds 65535)
    -- disc: 23 and 1 make 24, which is 0 again; stars print as entries of the table
    ∷ (Disc.times (Disc.only 23) (Disc.only 1) ≡ Disc.only 0)
    ∷ (Disc.text (Disc.star Disc.zero) ≡ codes "000001")
    ∷ (Disc.text (Disc.star (Disc.only 9)) ≡ codes "249249")
    ∷ []
