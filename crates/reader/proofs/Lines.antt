-- The lines of a text, one at a time: what the next call gives at each state of the reading.
use Rattle.std.proofs.Common.{◌≡◌, ℕ, ◌+◌, ◌<◌, List, [], ◌∷◌, length, Some, None, Ok, Err, Option, Result, sym, refl, ap, ◌∙◌, subst, subst₂, not-suc-le-zero, arith}
use mathlib.Core.Path.{transport}
use Rattle.std.proofs.lemmas.List.{nil_from_length}
use Rattle.std.specs.Result.{IsErrAnd}
use Rattle.std.proofs.lemmas.Result.{err_from_is_err_and}
use Rattle.script.specs.declared.branch.Branch.{Branch}
use Rattle.script.specs.declared.branch.Placed.{Placed}
use Rattle.script.specs.declared.fault.Fault.{Fault}
use Rattle.script.specs.Feed.{Feed, Gives}
use Rattle.reader.specs.Format.{pieces, line_end, space}
use Rattle.script.specs.Legend.{Legend}
use Rattle.reader.specs.declared.text.TextSource.{TextSource}
use Rattle.reader.specs.Known.{known}
use Rattle.reader.specs.Row.{Refuses, Reads}
use Rattle.reader.specs.Unread.{feed_behind, text_left, legend_left, AtEnd}
use Rattle.reader.proofs.Pieces.{pieces_some}
use Rattle.reader.specs.Text.{Misread, line_refusal, line_branch, line_met, failed, ended, reader_fault, line_feed, line_legend, lines_feed, lines_legend}

-- a line with others behind it
module _ (legend : Legend) (line byte : ℕ) (l : List ℕ) where
  abbrev item : Placed
  item = record { branch = line_branch legend (pieces space l); place = record { line = line; byte = byte } }

  abbrev others : List (List ℕ) → Feed
  others ls = lines_feed (line_met legend (pieces space l)) (line + 1) (byte + length l + 1) ls

  pub feed_at : (ls : List (List ℕ)) → 0 < length ls → lines_feed legend line byte (l ∷ ls) ≡ line_feed (line_refusal legend (pieces space l)) item (others ls)
  feed_at [] some = absurd (not-suc-le-zero some)
  feed_at (m ∷ ls) some = refl

  legend_at : (ls : List (List ℕ)) → 0 < length ls → lines_legend legend (l ∷ ls) ≡ line_legend (line_refusal legend (pieces space l)) legend (lines_legend (line_met legend (pieces space l)) ls)
  legend_at [] some = absurd (not-suc-le-zero some)
  legend_at (m ∷ ls) some = refl

  module _ (ls : List (List ℕ)) (some : 0 < length ls) where
    -- refused: the fault is given, and nothing changes
    gives_fault : (misread : Misread) → line_refusal legend (pieces space l) ≡ Some misread → Gives (lines_feed legend line byte (l ∷ ls)) (Err (reader_fault misread.0 line (byte + misread.1))) (lines_feed legend line byte (l ∷ ls))
    gives_fault misread e =
        subst (λ f. Gives f (Err (reader_fault misread.0 line (byte + misread.1))) f) (sym (feed_at ls some ∙ ap (λ o. line_feed o item (others ls)) e)) (refl, refl)

    -- read: the branch is given, and the other lines are left
    gives_branch : line_refusal legend (pieces space l) ≡ None → Gives (lines_feed legend line byte (l ∷ ls)) (Ok (Some item)) (others ls)
    gives_branch e = subst (λ f. Gives f (Ok (Some item)) (others ls)) (sym (feed_at ls some ∙ ap (λ o. line_feed o item (others ls)) e)) (refl, refl)

    legend_kept : line_refusal legend (pieces space l) ≡ None → lines_legend (line_met legend (pieces space l)) ls ≡ lines_legend legend (l ∷ ls)
    legend_kept e = sym (legend_at ls some ∙ ap (λ o. line_legend o legend (lines_legend (line_met legend (pieces space l)) ls)) e)

-- with nothing to come but the plain end, no line is left that could meet a name
no_fault : (fault : Fault) → failed fault ≡ ended → ⊥
no_fault fault e = let ends = ap (λ f. f.ending) e in let z : ◌≡◌ {A = ℕ} 0 1 = cc in omega arith

refused_or_given : (o : Option Misread) (item : Placed) (others : Feed) (before after : Legend) → line_feed o item others ≡ ended → before ≡ line_legend o before after
refused_or_given (Some misread) item others before after e = refl
refused_or_given None item others before after e = let given = ap (λ f. f.items) e in let z : ◌≡◌ {A = ℕ} 0 1 = cc in absurd (omega arith)

legend_met : (legend : Legend) (line byte : ℕ) (ls : List (List ℕ)) → lines_feed legend line byte ls ≡ ended → legend ≡ lines_legend legend ls
legend_met legend line byte [] e = refl
legend_met legend line byte (l ∷ []) e = refl
legend_met legend line byte (l ∷ m ∷ ls) e = refused_or_given (line_refusal legend (pieces space l)) _ _ legend _ e

met_at_end : (fault : Option Fault) (legend : Legend) (line byte : ℕ) (ls : List (List ℕ)) → feed_behind fault (lines_feed legend line byte ls) ≡ ended → legend ≡ lines_legend legend ls
met_at_end None legend line byte ls e = legend_met legend line byte ls e
met_at_end (Some fault) legend line byte ls e = absurd (no_fault fault e)

pub at_end : (s : TextSource) → AtEnd s
at_end s = met_at_end s.fault (known s.names) s.place.line s.place.byte (pieces line_end s.rest.now)

-- a text source whose file has no fault as a whole
module _ (s : TextSource) (sound : s.fault ≡ None) where
  abbrev legend : Legend
  legend = known s.names

  abbrev line : ℕ
  line = s.place.line

  abbrev byte : ℕ
  byte = s.place.byte

  abbrev lines : List (List ℕ)
  lines = pieces line_end s.rest.now

  -- nothing is left to read
  pub next_at_end : length s.rest.now ≡ 0 → Gives (text_left s) (Ok None) (text_left s)
  next_at_end none =
      let read : text_left s ≡ ended = λ i. feed_behind (sound i) (lines_feed legend line byte (pieces line_end (nil_from_length s.rest.now none i))) in
      subst (λ f. Gives f (Ok None) f) (sym read) (refl, refl)

  module _ (l rest : List ℕ) (cut : lines ≡ l ∷ pieces line_end rest) (after : Legend) where
    at_line : text_left s ≡ lines_feed legend line byte (l ∷ pieces line_end rest)
    at_line i = feed_behind (sound i) (lines_feed legend line byte (cut i))

    -- the line is refused, and the names are as they were
    pub next_refused :
        (r : Result (Option Placed) Fault) (fault : Fault) →
        after ≡ legend →
        Refuses legend (pieces space l) s.place fault →
        IsErrAnd r (λ x. x ≡ fault) →
        Gives (text_left s) r (feed_behind s.fault (lines_feed after line byte lines))
    next_refused r fault kept h handed =
        let p = err_from_is_err_and r handed in
        subst (λ m. Gives (text_left s) r (feed_behind s.fault (lines_feed m line byte lines))) (sym kept)
        (subst₂ (λ f q. Gives f q f) (sym at_line) (sym (p.1 ∙ ap Err (p.2 ∙ h.2)))
        (gives_fault legend line byte l (pieces line_end rest) (pieces_some line_end rest) h.0 h.1))

    -- the line is read
    module _ (branch : Branch) (h : Reads legend (pieces space l) s.place (Ok branch) after) where
      pub next_read :
          Gives (text_left s) (Ok (Some (record { branch = branch; place = s.place })))
          (feed_behind s.fault (lines_feed after (line + 1) (byte + length l + 1) (pieces line_end rest)))
      next_read =
          transport
          (λ i. Gives (sym at_line i) (Ok (Some (record { branch = sym h.1 i; place = s.place })))
          (feed_behind (sym sound i) (lines_feed (sym h.2 i) (line + 1) (byte + length l + 1) (pieces line_end rest))))
          (gives_branch legend line byte l (pieces line_end rest) (pieces_some line_end rest) h.0)

      pub next_legend : lines_legend after (pieces line_end rest) ≡ legend_left s
      next_legend =
          ap (λ m. lines_legend m (pieces line_end rest)) h.2
          ∙ legend_kept legend line byte l (pieces line_end rest) (pieces_some line_end rest) h.0
          ∙ ap (lines_legend legend) (sym cut)
