use Rattle.std.proofs.Common.{rules, refl, ap}
use Rattle.reader.specs.Format.{pieces, line_end}
use Rattle.reader.specs.Known.{known}
use Rattle.reader.specs.Text.{lines_legend}
use Rattle.reader.proofs.Lines.{next_at_end, next_refused, next_read, next_legend}
use Rattle.reader.proofs.text.read.TextSourceSource.next.Goals as goal

pub returns-then-is_empty : goal.returns-then-is_empty
returns-then-is_empty c = record { gives = next_at_end c.args.self.now c.in_default.is (search rules); legend = refl }

pub returns-in_err-branch : goal.returns-in_err-branch
returns-in_err-branch c =
    let s = c.args.self.now in
    let cut = c.in-Some-cut in
    let h = c.in_err-branch.ensures in
    record {
      gives = next_refused s c.in_default.is cut.text.now cut.rest.now cut.ensures.0 (known c.read_line.new.names) c.from_residual.result _ h.kept h.read c.from_residual.ensures.1;
      legend = ap (λ m. lines_legend m (pieces line_end s.rest.now)) h.kept;
    }

pub returns : goal.returns
returns c =
    let s = c.args.self.now in
    let cut = c.in-Some-cut in
    let after = known c.read_line.new.names in
    let h = c.in_ok-branch.ensures.read in
    record {
      gives = next_read s c.in_default.is cut.text.now cut.rest.now cut.ensures.0 after c.in_ok-branch.branch h;
      legend = next_legend s c.in_default.is cut.text.now cut.rest.now cut.ensures.0 after c.in_ok-branch.branch h;
    }
