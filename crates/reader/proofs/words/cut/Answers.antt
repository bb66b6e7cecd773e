use Rattle.std.proofs.Common.{sym, ◌∙◌}
use Rattle.reader.proofs.Pieces.{one_piece, cut_pieces, cut_length}
use Rattle.reader.proofs.words.cut.Goals as goal

pub returns-in_err-end : goal.returns-in_err-end
returns-in_err-end c = rw c.from_residual.ensures (one_piece c.args.sep c.args.text.now (sym c.find.ensures ∙ c.in_err-end.was))

pub returns : goal.returns
returns c =
    let found = sym c.find.ensures ∙ c.in_ok-end.was in (
      cut_pieces c.args.sep c.args.text.now c.in_ok-end.end found,
      cut_length c.args.sep c.args.text.now c.in_ok-end.end found,
    )
