-- A line of five words, question by question: at the first no its refusal is the line's, and with
-- every answer yes the line is refused for nothing.
use Rattle.std.proofs.Common.{◌≡◌, ℕ, ◌+◌, ◌≤◌, Bool, true, false, eqb, List, [], ◌∷◌, ◌++◌, drop, length, Some, None, Err, Option, Result, sym, refl, ap, ◌∙◌, subst₂, inl, inr, arith, length-append, length-take}
use Rattle.std.specs.Result.{IsErrAnd}
use Rattle.std.proofs.lemmas.Result.{err_from_is_err_and}
use Rattle.script.specs.declared.branch.Branch.{Branch}
use Rattle.script.specs.declared.fault.Fault.{Fault}
use Rattle.script.specs.declared.place.Place.{Place}
use Rattle.reader.specs.declared.line.Row.{Row}
use Rattle.script.specs.declared.refusal.reader.ReaderRefusal.{ReaderRefusal as Refusal}
use Rattle.script.specs.declared.refusal.reader.ReaderRefusal.TheVariants.{Words, Name, Number, Names, Calls as BadCalls}
use Rattle.reader.specs.Format.{is_name, in_range, is_calls, called, value}
use Rattle.script.specs.Legend.{Legend, number_of, met, numbers_of}
use Rattle.reader.proofs.Calling.{length-numbers}
use Rattle.reader.specs.Row.{row_words, fault_at, Column, Routine, Called, Refuses, Reads}
use Rattle.reader.specs.Text.{reader_fault, Misread, asked, offset, few, routine_met, line_met, line_refusal, line_branch, four}

-- a place that is so far behind another one, on its line
pub record At (place at : Place) (n : ℕ) : Type 0 where
  pub line : at.line ≡ place.line
  pub byte : at.byte ≡ place.byte + n

start : (place : Place) → At place place 0
start place = record { line = refl; byte = omega arith }

moved : (place at : Place) (why : Refusal) (n : ℕ) → At place at n → fault_at at why ≡ reader_fault why place.line (place.byte + n)
moved place at why n is i = reader_fault why (is.line i) (is.byte i)

asked_no : (b : Bool) (why : Refusal) (at : ℕ) (later : Option Misread) → b ≡ false → asked b why at later ≡ Some (why, at)
asked_no b why at later e = ap (λ t. asked t why at later) e

-- a line of other than five words
pub not_five : (legend : Legend) (ws : List (List ℕ)) (place : Place) (fault : Fault) → eqb (length ws) 5 ≡ false → fault ≡ fault_at place Words → Refuses legend ws place fault
not_five legend ws place fault e is = ((Words, 0), asked_no (eqb (length ws) 5) Words 0 _ e, is ∙ moved place place Words 0 (start place))

module _ (legend : Legend) (n s l t c : List ℕ) where
  abbrev ws : List (List ℕ)
  ws = n ∷ s ∷ l ∷ t ∷ c ∷ []

  -- the refusal, by the answers to the questions behind that on the number of words
  abbrev answered : (name names seconds light turn calls all : Bool) → Option Misread
  answered name names seconds light turn calls all =
      asked name Name 0 (asked names Names 0 (asked seconds Number (offset ws 1) (asked light Number (offset ws 2)
      (asked turn Number (offset ws 3) (asked calls BadCalls (offset ws 4) (asked all Names (offset ws 4) None))))))

  pub good_line :
      is_name n ≡ true →
      few (routine_met legend ws) ≡ true →
      in_range 3600 s ≡ true →
      in_range 65535 l ≡ true →
      in_range 23 t ≡ true →
      is_calls c ≡ true →
      few (line_met legend ws) ≡ true →
      line_refusal legend ws ≡ None
  good_line name room seconds light turn calls all i = answered (name i) (room i) (seconds i) (light i) (turn i) (calls i) (all i)

-- the words of a row, up to the first that is refused
module _ (legend : Legend) (w : Row) (place : Place) where
  abbrev words : List (List ℕ)
  words = row_words w

  abbrev questions : (name names seconds light turn calls all : Bool) → Option Misread
  questions = answered legend w.name.now w.seconds.now w.light.now w.turn.now w.calls.now

  abbrev room_left : Bool
  room_left = few (routine_met legend words)

  abbrev seconds_in : Bool
  seconds_in = in_range 3600 w.seconds.now

  abbrev light_in : Bool
  light_in = in_range 65535 w.light.now

  abbrev turn_in : Bool
  turn_in = in_range 23 w.turn.now

  abbrev calls_in : Bool
  calls_in = is_calls w.calls.now

  abbrev all_in : Bool
  all_in = few (line_met legend words)

  pub bad_routine : (fault : Fault) (after : Legend) → Routine legend w.name.now place (Err fault) after → Refuses legend words place fault
  bad_routine fault after (inl h) = ((Name, 0), (λ i. questions (h.0 i) room_left seconds_in light_in turn_in calls_in all_in), h.1 ∙ moved place place Name 0 (start place))
  bad_routine fault after (inr h) = ((Names, 0), (λ i. questions (h.0 i) (h.1 i) seconds_in light_in turn_in calls_in all_in), h.2 ∙ moved place place Names 0 (start place))

  module _ (name : is_name w.name.now ≡ true) (met : room_left ≡ true) where
    pub bad_seconds : (fault : Fault) (at : Place) → At place at (offset words 1) → Column 3600 w.seconds.now at (Err fault) → Refuses legend words place fault
    bad_seconds fault at is h =
        ((Number, offset words 1), (λ i. questions (name i) (met i) (h.0 i) light_in turn_in calls_in all_in), h.1 ∙ moved place at Number _ is)

    module _ (seconds : seconds_in ≡ true) where
      pub bad_light : (fault : Fault) (at : Place) → At place at (offset words 2) → Column 65535 w.light.now at (Err fault) → Refuses legend words place fault
      bad_light fault at is h =
          ((Number, offset words 2), (λ i. questions (name i) (met i) (seconds i) (h.0 i) turn_in calls_in all_in), h.1 ∙ moved place at Number _ is)

      module _ (light : light_in ≡ true) where
        pub bad_turn : (fault : Fault) (at : Place) → At place at (offset words 3) → Column 23 w.turn.now at (Err fault) → Refuses legend words place fault
        bad_turn fault at is h =
            ((Number, offset words 3), (λ i. questions (name i) (met i) (seconds i) (light i) (h.0 i) calls_in all_in), h.1 ∙ moved place at Number _ is)

        module _ (turn : turn_in ≡ true) where
          pub bad_calls :
              (fault : Fault) (at : Place) (after : Legend) →
              At place at (offset words 4) →
              Called (routine_met legend words) w.calls.now at (Err fault) after →
              Refuses legend words place fault
          bad_calls fault at after is (inl h) =
              ((BadCalls, offset words 4), (λ i. questions (name i) (met i) (seconds i) (light i) (turn i) (h.0 i) all_in), h.1 ∙ moved place at BadCalls _ is)
          bad_calls fault at after is (inr h) =
              ((Names, offset words 4), (λ i. questions (name i) (met i) (seconds i) (light i) (turn i) (h.0 i) (h.1 i)), h.2 ∙ moved place at Names _ is)

pub length-four : (ns : List ℕ) → length (four ns) ≡ 4
length-four ns = simp (length-take, length-append) (omega arith)

pub four_filled : (ns : List ℕ) → length ns ≤ 4 → ns ++ drop (length ns) (0 ∷ 0 ∷ 0 ∷ 0 ∷ []) ≡ four ns
four_filled [] few = refl
four_filled (a ∷ []) few = refl
four_filled (a ∷ b ∷ []) few = refl
four_filled (a ∷ b ∷ c ∷ []) few = refl
four_filled (a ∷ b ∷ c ∷ d ∷ []) few = refl
four_filled (a ∷ b ∷ c ∷ d ∷ e ∷ ns) few = absurd (omega arith)

-- a fault that is handed on
pub handed_on :
    (legend : Legend) (ws ws' : List (List ℕ)) (place : Place) (r : Result Branch Fault) (fault : Fault) (after : Legend) →
    ws ≡ ws' →
    IsErrAnd r (λ x. x ≡ fault) →
    Refuses legend ws' place fault →
    Reads legend ws place r after
handed_on legend vs vs' place r fault after same handed h =
    let p = err_from_is_err_and r handed in
    subst₂ (λ v q. Reads legend v place q after) (sym same) (sym (p.1 ∙ ap Err p.2)) h

-- the branch of a line, from what its words are read as
module _ (legend : Legend) (n s l t c : List ℕ) (calls : List ℕ) (numbered : calls ≡ numbers_of (met legend n) (called c)) where
  pub branch_is :
      (routine count : ℕ) (places : List ℕ) (seconds light turn : ℕ) →
      routine ≡ number_of legend n →
      count ≡ length calls →
      places ≡ four calls →
      seconds ≡ value s →
      light ≡ value l →
      turn ≡ value t →
      ◌≡◌ {A = Branch} (record { routine = routine; count = count; calls = places; seconds = seconds; light = light; turn = turn }) (line_branch legend (n ∷ s ∷ l ∷ t ∷ c ∷ []))
  branch_is _ _ _ _ _ _ er ec ep es el et =
      let few = ec ∙ ap length numbered ∙ length-numbers (met legend n) (called c) in
      let four_calls = ep ∙ ap four numbered in
      λ i. record { routine = er i; count = few i; calls = four_calls i; seconds = es i; light = el i; turn = et i }
