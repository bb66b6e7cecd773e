use Rattle.std.proofs.Common.{◌≡◌, ℕ, [], length, get_or, None, sym, ap, ◌∙◌, subst, arith}
use Rattle.std.specs.Str.{IsAscii}
use Rattle.script.specs.Legend.{Legend}
use Rattle.reader.specs.Unread.{text_left}
use Rattle.report.specs.Script.{fault_of}
use Rattle.report.specs.Figures.{least_kind, most_kind, light_kind, disc_kind}
use Rattle.report.proofs.Reading.{text_few, text_ascii, plain_end, filled}
use Rattle.report.proofs.sheet.Sheet.of.Goals as goal

pub invariant_of-result : goal.invariant_of-result
invariant_of-result c =
    let text = c.args.text.now in
    let none = plain_end text (text_left c.new-source.result) c.new-source.ensures.feed c.in_ok-least.ensures.figures.0 in
    let is = c.new-source.ensures.at_end c.least.new.source c.in_ok-least.ensures.at_end ∙ c.in_ok-least.ensures.legend ∙ c.new-source.ensures.legend in
    record {
      few = omega (arith, ap length is, text_few text none);
      ascii = subst (λ (legend : Legend). (r : ℕ) → IsAscii (get_or legend r [])) (sym is) (text_ascii text none);
    }

pub returns : goal.returns
returns c =
    let text = c.args.text.now in
    let first = c.in_ok-least.ensures.figures in
    let none = plain_end text (text_left c.new-source.result) c.new-source.ensures.feed first.0 in
    let is = c.new-source.ensures.at_end c.least.new.source c.in_ok-least.ensures.at_end ∙ c.in_ok-least.ensures.legend ∙ c.new-source.ensures.legend in (
      subst (λ f. fault_of f ≡ None) c.new-source.ensures.feed first.0,
      is,
      record {
        least = filled least_kind text (text_left c.new-source.result) _ c.new-source.ensures.feed none first.1;
        most = filled most_kind text (text_left c.new.result) _ c.new.ensures.feed none c.in_ok-most.ensures.figures.1;
        light = filled light_kind text (text_left c.new-2.result) _ c.new-2.ensures.feed none c.in_ok-light.ensures.figures.1;
        disc = filled disc_kind text (text_left c.new-3.result) _ c.new-3.ensures.feed none c.in_ok-disc.ensures.figures.1;
      },
    )
