use Rattle.std.proofs.Common.{[], ◌∷◌, ◌++◌, drop, length, ap, ◌∙◌}
use Rattle.reader.proofs.Rows.{four_filled}
use Rattle.reader.proofs.line.read.four_places.Goals as goal

pub returns : goal.returns
returns c =
    let calls = c.args.calls.now in
    ap (λ ns. ns ++ drop (length calls) (0 ∷ 0 ∷ 0 ∷ 0 ∷ [])) c.copy_from_slice.ensures.after ∙ four_filled calls c.requires
