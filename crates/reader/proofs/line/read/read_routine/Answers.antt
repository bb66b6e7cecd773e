use Rattle.reader.specs.Known.{known}
use Rattle.reader.proofs.Calling.{numbered_grows}
use Rattle.reader.proofs.line.read.read_routine.Goals as goal

pub returns-clause-grows : goal.returns-clause-grows
returns-clause-grows c = numbered_grows (known c.args.names.now) c.args.word.now c.number.result (known c.number.new.self) c.number.ensures
