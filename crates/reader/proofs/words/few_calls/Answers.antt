use Rattle.std.proofs.Common.{◌≡◌, ◌<◌, ◌≤◌, ◌⊎◌, ℕ, leb, min, inl, inr, refl, sym, ◌∙◌, length-take, arith, rules, tests}
use Rattle.std.proofs.lemmas.Bool.{cases_lt, le-leb, lt-leb}
use Rattle.std.proofs.lemmas.Iterator.{YieldsList-from_take}
use Rattle.std.proofs.lemmas.Iterator.Consumers.{YieldsList-at, count_from_yields_List}
use Rattle.reader.specs.Format.{pieces}
use Rattle.reader.proofs.Calling.{names_yielded}
use Rattle.reader.proofs.words.few_calls.Goals as goal

-- of the first five there are at most four where there are at most four in all
first_five : (m n : ℕ) → m ≡ min 5 n → leb m 4 ≡ leb n 4
first_five m n e = by (cases_lt 4 n)
  where
    by : (4 < n) ⊎ (n ≤ 4) → leb m 4 ≡ leb n 4
    by (inl more) = lt-leb m 4 (omega arith) ∙ sym (lt-leb n 4 more)
    by (inr few) = le-leb m 4 (omega arith) ∙ sym (le-leb n 4 few)

pub returns : goal.returns
returns c =
    let s = c.split.ensures in
    let count = count_from_yields_List _ _ c.count.ensures.ran (YieldsList-from_take 5 (YieldsList-at c.take.ensures.source (names_yielded _ c.args.word.now s.rest s.done s.closure refl (λ b r q k. search (rules, tests)))) c.take.ensures.count) in
    first_five _ _ (count ∙ length-take 5 (pieces 43 c.args.word.now))
