use Rattle.std.proofs.Common.{◌≡◌, length, take}
use Rattle.script.specs.Legend.{all_met, numbers_of}
use Rattle.reader.specs.Format.{pieces}
use Rattle.reader.specs.Known.{known}
use Rattle.reader.proofs.line.read.number_names.Given as goal

abbrev pub invariant-loop-name : goal.invariant-loop-name
invariant-loop-name l =
    let done = take (length l.yielded) (pieces 43 l.word) in
    (goal.iterator-loop-name).can_next l.name-iterator
    × (goal.iterator-loop-name).is_finite l.name-iterator
    × (known l.names ≡ all_met (known l.initial.names) done)
    × (l.calls.items ≡ numbers_of (known l.initial.names) done)
