use Rattle.std.proofs.Common.{◌<◌, [], ◌∷◌, ◌++◌, length, take, sym, ap, ◌∙◌, arith, rules, tests}
use lib.ListN.{length-map}
use Rattle.std.proofs.lemmas.Bool.{and_parts, leb-true}
use Rattle.std.proofs.lemmas.List.{length-take-le, take_all, length_push}
use Rattle.std.proofs.lemmas.Iterator.Consumers.{YieldsList-turn, YieldsList-end}
use Rattle.script.specs.Legend.{number_of, met, all_met, numbers_of}
use Rattle.reader.specs.Format.{pieces}
use Rattle.reader.specs.Known.{known, Grows}
use Rattle.reader.proofs.Calling.{grows_on, numbered_grows, all_met_grows, length-numbers, met_more, names_yielded, numbers_more, too_many}
use Rattle.reader.proofs.line.read.number_names.Goals as goal

pub push-requires : goal.push-requires
push-requires c =
    let s = c.split-name-items.ensures in
    let t = YieldsList-turn (names_yielded _ c.args.word.now s.rest s.done s.closure c.into_iter-name-iterator.ensures.into_iter_gives (λ b r q k. search (rules, tests))) c.loop-name.yielded _ c.loop-name.yielded_by _ _ c.in-Some.name c.in-Some.is c.next.ensures.steps in
    let n = length c.loop-name.yielded in
    let ws = pieces 43 c.args.word.now in
    omega (
      arith,
      ap length c.loop-name.invariant.3,
      length-numbers (known c.args.names.now) (take n ws),
      length-take-le n ws (omega (arith, t.0)),
      t.0,
      leb-true (length ws) 4 (and_parts _ _ c.requires).0,
    )

pub returns-in_err-number-clause-numbered : goal.returns-in_err-number-clause-numbered
returns-in_err-number-clause-numbered c =
    let s = c.split-name-items.ensures in
    let t = YieldsList-turn (names_yielded _ c.args.word.now s.rest s.done s.closure c.into_iter-name-iterator.ensures.into_iter_gives (λ b r q k. search (rules, tests))) c.loop-name.yielded _ c.loop-name.yielded_by _ _ c.in-Some.name c.in-Some.is c.next.ensures.steps in
    let before = known c.args.names.now in
    let over : 32 < length (met (all_met before (take (length c.loop-name.yielded) (pieces 43 c.args.word.now))) c.in-Some.name.now) = rw c.loop-name.invariant.2 at c.in_err-number.ensures.0 in
    rw c.from_residual.ensures (too_many before (pieces 43 c.args.word.now) (length c.loop-name.yielded) c.in-Some.name.now t.0 t.1 over)

pub returns-in_err-number-clause-grows : goal.returns-in_err-number-clause-grows
returns-in_err-number-clause-grows c =
    let before = known c.args.names.now in
    let mid = known c.loop-name.names in
    let met : Grows before mid = rw c.loop-name.invariant.2 (all_met_grows before (take (length c.loop-name.yielded) (pieces 43 c.args.word.now))) in
    grows_on before mid (known c.number.new.self) met (numbered_grows mid c.in-Some.name.now _ _ c.number.ensures)

pub loop-name-preserved : goal.loop-name-preserved
loop-name-preserved c =
    let s = c.split-name-items.ensures in
    let t = YieldsList-turn (names_yielded _ c.args.word.now s.rest s.done s.closure c.into_iter-name-iterator.ensures.into_iter_gives (λ b r q k. search (rules, tests))) c.loop-name.yielded _ c.loop-name.yielded_by _ _ c.in-Some.name c.in-Some.is c.next.ensures.steps in
    let before = known c.args.names.now in
    let ws = pieces 43 c.args.word.now in
    let n = length c.loop-name.yielded in
    let w = c.in-Some.name.now in
    let next = length_push c.loop-name.yielded c.in-Some.name in
    let number = c.in_ok-number.ensures in (
      search rules,
      search rules,
      number.2 ∙ ap (λ l. met l w) c.loop-name.invariant.2 ∙ sym (met_more before ws n w t.0 t.1) ∙ ap (λ k. all_met before (take k ws)) (sym next),
      c.push.ensures.items ∙ (λ i. c.loop-name.invariant.3 i ++ (number.1 ∙ ap (λ l. number_of l w) c.loop-name.invariant.2) i ∷ [])
          ∙ sym (numbers_more before ws n w t.0 t.1) ∙ ap (λ k. numbers_of before (take k ws)) (sym next),
    )

pub returns : goal.returns
returns c =
    let s = c.split-name-items.ensures in
    let t = YieldsList-end (names_yielded _ c.args.word.now s.rest s.done s.closure c.into_iter-name-iterator.ensures.into_iter_gives (λ b r q k. search (rules, tests))) c.loop-name.yielded _ c.loop-name.yielded_by _ _ c.in-None.is c.next.ensures.steps in
    let before = known c.args.names.now in
    let ws = pieces 43 c.args.word.now in
    let all = take_all (length c.loop-name.yielded) ws (omega (arith, t.1)) in
    let met = c.loop-name.invariant.2 ∙ ap (all_met before) all in
    let few = c.loop-name.names.few in
    record {
      numbered = (omega (arith, ap length met, few, length-map c.loop-name.names.met.items (λ name. name.now)), c.loop-name.invariant.3 ∙ ap (numbers_of before) all, met);
      grows = rw met (all_met_grows before ws);
    }
