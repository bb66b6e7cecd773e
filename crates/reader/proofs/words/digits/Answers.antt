use Rattle.std.proofs.Common.{◌+◌, ◌-◌, ◌*◌, get_or, drop, sym, ◌∙◌, arith}
use Rattle.reader.proofs.Digits.{fits_more, fits_past}
use Rattle.reader.proofs.words.digits.Goals as goal

pub returns-then-value-from : goal.returns-then-value-from
returns-then-value-from c =
    let w = c.args.word.now in
    let i = c.loop-b.b-index in
    sym c.loop-b.invariant.1 ∙ sym (fits_more c.args.most c.loop-b.value w i c.loop-b-test.true (sym c.if-not-is_ascii_digit.ensures.value))
    ∙ fits_past c.args.most (c.loop-b.value * 10 + (get_or w i 0 - 48)) (drop (i + 1) w) (omega arith)
