use Rattle.std.proofs.Common.{◌≡◌, rules}
use Rattle.reader.specs.Text.{text_feed, lines_feed}
use Rattle.reader.specs.Unread.{text_left}
use Rattle.reader.specs.Format.{pieces, line_end}
use Rattle.reader.specs.Known.{known}
use Rattle.reader.proofs.Lines.{at_end}
use Rattle.reader.proofs.ReadBack.{read_back_as}
use Rattle.reader.proofs.text.TextSource.new.Goals as goal

pub returns-then-text-gt-MOST_BYTES-clause-at_end : goal.returns-then-text-gt-MOST_BYTES-clause-at_end
returns-then-text-gt-MOST_BYTES-clause-at_end c = at_end

pub returns-in_default-clause-at_end : goal.returns-in_default-clause-at_end
returns-in_default-clause-at_end c = at_end

pub returns-in_default-clause-read_back : goal.returns-in_default-clause-read_back
returns-in_default-clause-read_back c =
    let feed : text_left c.refused-in_default.result ≡ text_feed c.args.text.now = search rules in
    read_back_as c.args.text.now _ feed

pub returns-clause-at_end : goal.returns-clause-at_end
returns-clause-at_end c = at_end

pub returns-clause-read_back : goal.returns-clause-read_back
returns-clause-read_back c =
    let feed : lines_feed (known c.none.result) 2 33 (pieces line_end c.in-Some.rest.now) ≡ text_feed c.args.text.now = search rules in
    read_back_as c.args.text.now _ feed
