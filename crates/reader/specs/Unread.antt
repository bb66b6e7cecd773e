-- What a text source has yet to give, and the legend once it has been used up.
use Rattle.std.specs.Prelude.{◌≡◌, Some, None, Option}
use Rattle.script.specs.declared.fault.Fault.{Fault}
use Rattle.reader.specs.declared.text.TextSource.{TextSource}
use Rattle.script.specs.Feed.{Feed}
use Rattle.reader.specs.Format.{pieces, line_end}
use Rattle.reader.specs.Known.{known}
use Rattle.script.specs.Legend.{Legend}
use Rattle.reader.specs.Text.{failed, ended, lines_feed, lines_legend}

-- a fault of the file as a whole comes before everything
abbrev pub feed_behind : Option Fault → Feed → Feed
feed_behind None feed = feed
feed_behind (Some fault) feed = failed fault

abbrev pub text_left : TextSource → Feed
text_left s = feed_behind s.fault (lines_feed (known s.names) s.place.line s.place.byte (pieces line_end s.rest.now))

abbrev pub legend_left : TextSource → Legend
legend_left s = lines_legend (known s.names) (pieces line_end s.rest.now)

-- with the plain end come, the names met so far are all of the text's
abbrev pub AtEnd : TextSource → Type 0
AtEnd s = text_left s ≡ ended → known s.names ≡ legend_left s
