use Rattle.std.proofs.Common.{ap, ◌∙◌}
use Rattle.report.specs.Sheet.{columns_of}
use Rattle.report.specs.Written.{sheet_text}
use Rattle.report.proofs.printed.Goals as goal

pub returns-in_ok-written-in-Ok : goal.returns-in_ok-written-in-Ok
returns-in_ok-written-in-Ok c =
    let of = c.in-Ok.ensures in
    let columns = columns_of c.in-Ok.sheet in (
      of.0,
      columns,
      of.2,
      c.in_ok-written-in-Ok.ensures ∙ ap (λ legend. sheet_text legend columns) of.1,
    )
