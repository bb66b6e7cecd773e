use Rattle.std.proofs.Common.{Ok, Err, sym, refl, ap, ◌∙◌, subst, arith}
use Rattle.reader.specs.Format.{pieces}
use Rattle.reader.specs.Known.{known}
use Rattle.reader.specs.Text.{four, line_refusal, line_branch, line_met}
use Rattle.reader.specs.Row.{row_words, Called}
use Rattle.reader.proofs.Rows.{not_five, bad_routine, bad_seconds, bad_light, bad_turn, bad_calls, good_line, branch_is, handed_on}
use Rattle.reader.proofs.line.read.read_branch.Goals as goal

pub returns-in_err-row-clause-read : goal.returns-in_err-row-clause-read
returns-in_err-row-clause-read c =
    let before = known c.args.names.now in
    let ws = pieces 32 c.args.line.now in
    let h = c.in_err-row.ensures in
    handed_on before ws ws c.args.place _ _ before refl c.from_residual.ensures.1 (not_five before ws c.args.place _ h.0 h.1)

pub returns-in_err-routine-clause-read : goal.returns-in_err-routine-clause-read
returns-in_err-routine-clause-read c =
    let w = c.in_ok-row.row in
    let before = known c.args.names.now in
    let after = known c.read_routine.new.names in
    handed_on before _ (row_words w) c.args.place _ _ after c.in_ok-row.ensures.0 c.from_residual-in_err-routine.ensures.1
    (bad_routine before w c.args.place _ after c.in_err-routine.ensures.routine)

pub returns-in_err-seconds-clause-read : goal.returns-in_err-seconds-clause-read
returns-in_err-seconds-clause-read c =
    let w = c.in_ok-row.row in
    let k = c.in_ok-routine.ensures.routine in
    let before = known c.args.names.now in
    handed_on before _ (row_words w) c.args.place _ _ (known c.read_routine.new.names) c.in_ok-row.ensures.0 c.from_residual-in_err-seconds.ensures.1
    (bad_seconds before w c.args.place k.0 k.1 _ _ (record { line = cc; byte = omega arith }) c.in_err-seconds.ensures)

pub returns-in_err-light-clause-read : goal.returns-in_err-light-clause-read
returns-in_err-light-clause-read c =
    let w = c.in_ok-row.row in
    let k = c.in_ok-routine.ensures.routine in
    let s = c.in_ok-seconds.ensures in
    let before = known c.args.names.now in
    handed_on before _ (row_words w) c.args.place _ _ (known c.read_routine.new.names) c.in_ok-row.ensures.0 c.from_residual-in_err-light.ensures.1
    (bad_light before w c.args.place k.0 k.1 s.0 _ _ (record { line = cc; byte = omega arith }) c.in_err-light.ensures)

pub returns-in_err-turn-clause-read : goal.returns-in_err-turn-clause-read
returns-in_err-turn-clause-read c =
    let w = c.in_ok-row.row in
    let k = c.in_ok-routine.ensures.routine in
    let s = c.in_ok-seconds.ensures in
    let l = c.in_ok-light.ensures in
    let before = known c.args.names.now in
    handed_on before _ (row_words w) c.args.place _ _ (known c.read_routine.new.names) c.in_ok-row.ensures.0 c.from_residual-in_err-turn.ensures.1
    (bad_turn before w c.args.place k.0 k.1 s.0 l.0 _ _ (record { line = cc; byte = omega arith }) c.in_err-turn.ensures)

pub returns-in_err-calls-clause-read : goal.returns-in_err-calls-clause-read
returns-in_err-calls-clause-read c =
    let w = c.in_ok-row.row in
    let k = c.in_ok-routine.ensures.routine in
    let s = c.in_ok-seconds.ensures in
    let l = c.in_ok-light.ensures in
    let t = c.in_ok-turn.ensures in
    let before = known c.args.names.now in
    let after = known c.read_calls.new.names in
    let at = c.next_place-calls_at.result in
    handed_on before _ (row_words w) c.args.place _ _ after c.in_ok-row.ensures.0 c.from_residual-in_err-calls.ensures.1
    (bad_calls before w c.args.place k.0 k.1 s.0 l.0 t.0 c.in_err-calls.field-0.0 at after (record { line = cc; byte = omega arith })
    (subst (λ m. Called m w.calls.now at (Err c.in_err-calls.field-0.0) after) k.3 c.in_err-calls.ensures.called))

pub returns-clause-read : goal.returns-clause-read
returns-clause-read c =
    let before = known c.args.names.now in
    let w = c.in_ok-row.row in
    let k = c.in_ok-routine.ensures.routine in
    let s = c.in_ok-seconds.ensures in
    let l = c.in_ok-light.ensures in
    let t = c.in_ok-turn.ensures in
    let after = known c.read_calls.new.names in
    let calls = c.in_ok-calls.calls in
    let at = c.next_place-calls_at.result in
    let h = subst (λ m. Called m w.calls.now at (Ok calls) after) k.3 c.in_ok-calls.ensures.called in
    let good = good_line before w.name.now w.seconds.now w.light.now w.turn.now w.calls.now k.0 k.1 s.0 l.0 t.0 h.0 h.1 in
    let same = c.in_ok-row.ensures.0 in (
      ap (line_refusal before) same ∙ good,
      branch_is before w.name.now w.seconds.now w.light.now w.turn.now w.calls.now calls.items h.2 _ _ _ _ _ _ k.2 c.len.ensures.value (c.four_places.ensures ∙ ap four c.deref.ensures.0) s.1 l.1 t.1
          ∙ ap (line_branch before) (sym same),
      h.3 ∙ ap (line_met before) (sym same),
    )
