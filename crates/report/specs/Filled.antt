-- What the columns of a sheet have to do with a text.
use Rattle.std.specs.Prelude.{ℕ, List, length}
use Rattle.reader.specs.Text.{text_feed, text_legend}
use Rattle.report.specs.Figures.{Fills, least_kind, most_kind, light_kind, disc_kind}
use Rattle.report.specs.Written.{Columns}

-- Each column is what its kind makes of the text.
pub record AllFill (text : List ℕ) (c : Columns) : Type 0 where
  pub least : Fills least_kind (length (text_legend text)) (text_feed text).items c.least
  pub most : Fills most_kind (length (text_legend text)) (text_feed text).items c.most
  pub light : Fills light_kind (length (text_legend text)) (text_feed text).items c.light
  pub disc : Fills disc_kind (length (text_legend text)) (text_feed text).items c.disc
