use Rattle.std.proofs.Common.{length, ap, arith}
use Rattle.std.proofs.lemmas.Bool.{ne_eqb}
use Rattle.reader.proofs.Pieces.{pieces_some}
use Rattle.reader.proofs.line.Row.of.Goals as goal

pub returns-in_default : goal.returns-in_default
returns-in_default c =
    ne_eqb _ 5 (λ e. omega (
      arith,
      ap length c.in_ok-name.ensures.0,
      ap length c.in_ok-seconds.ensures.0,
      ap length c.in_ok-light.ensures.0,
      ap length c.in_ok-turn.ensures.0,
      ap length c.in_default.ensures.0,
      pieces_some 32 c.in_default.field-0.1.now,
    ))
