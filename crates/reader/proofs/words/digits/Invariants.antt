use Rattle.std.proofs.Common.{◌≡◌, ◌≤◌, drop}
use Rattle.reader.specs.Format.{read_on, value}
use Rattle.reader.proofs.Digits.{fits}
use Rattle.reader.proofs.words.digits.Given as goal

abbrev pub invariant-loop-b : goal.invariant-loop-b
invariant-loop-b l =
    (l.value ≤ l.most) × (fits l.most l.value (drop l.b-index l.word) ≡ fits l.most 0 l.word)
    × (read_on l.value (drop l.b-index l.word) ≡ value l.word)
