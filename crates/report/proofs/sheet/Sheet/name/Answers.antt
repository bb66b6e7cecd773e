use Rattle.std.proofs.Common.{List, ℕ, Ok, Err, Result, refl, sym, subst}
use Rattle.std.specs.Prelude.{IsOk, MatchResult}
use Rattle.std.specs.Str.{IsAscii, IsUtf8}
use Rattle.std.proofs.lemmas.Str.{IsUtf8-from_ascii}
use Rattle.report.proofs.sheet.Sheet.name.Goals as goal

-- what is text is taken for text
taken : {S E : Type 0} (P : S → Type 0) (Q : E → Type 0) (bs : List ℕ) (r : Result S E) → MatchResult r P (λ e. (IsUtf8 bs → ⊥) × Q e) → IsUtf8 bs → IsOk r
taken P Q bs (Ok s) cases is = refl
taken P Q bs (Err e) cases is = absurd (cases.0 is)

pub unwrap-requires-2 : goal.unwrap-requires-2
unwrap-requires-2 c =
    let found = rw c.unwrap.ensures at c.name.ensures in
    taken _ _ c.unwrap.result.now c.from_utf8.result c.from_utf8.ensures.cases
    (IsUtf8-from_ascii c.unwrap.result.now (subst IsAscii (sym found.1) (c.args.self.now.ascii c.args.routine)))
