use Rattle.report.proofs.Reading.{left_in_range}
use Rattle.report.proofs.columns.settle_text.Goals as goal

pub settle-requires-clause-in_range : goal.settle-requires-clause-in_range
settle-requires-clause-in_range g c = left_in_range c.args.source.now
