use Rattle.reader.proofs.Opening.{behind_cut}
use Rattle.reader.proofs.text.read.behind_first_line.Goals as goal

pub returns : goal.returns
returns c =
    let cut = c.in_ok-first.ensures in
    rw (c.then_some.ensures, c.eq.ensures) (behind_cut c.args.text.now c.in_ok-first.first.now c.in_ok-first.rest cut.0 cut.1)
