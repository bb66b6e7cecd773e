-- The branches of a text are in range, and name exactly the routines of its legend.
use Rattle.std.proofs.Common.{◌≡◌, ℕ, zero, suc, ◌+◌, ◌<◌, ◌≤◌, max, ◌||◌, Bool, true, false, cond, leb, eqb, List, [], ◌∷◌, ◌++◌, length, take, drop, get_or, Some, None, Option, ◌⊎◌, inl, inr, refl, sym, ap, ◌∙◌, subst, arith, length-append}
use Rattle.std.proofs.lemmas.Bool.{leb-true, and_parts}
use Rattle.std.specs.Str.{IsAscii}
use Rattle.std.specs.List.{AllByRecursion, list_all}
use Rattle.script.specs.declared.branch.Branch.{Branch}
use Rattle.script.specs.declared.branch.Placed.{Placed}
use Rattle.script.specs.declared.fault.Fault.{Fault}
use Rattle.script.specs.declared.place.Place.{Place}
use Rattle.script.specs.declared.refusal.reader.ReaderRefusal.TheVariants.{Size, Words, Name, Number, Calls, Names}
use Rattle.script.specs.Feed.{Ending, Feed}
use Rattle.script.specs.Legend.{Legend, number_of, met, all_met, numbers_of}
use Rattle.reader.specs.Format.{pieces, line_end, space, letter, digit, name_byte, is_tail, is_name, is_number, in_range, value, called, is_calls}
use Rattle.reader.specs.Text.{Misread, asked, first_line, name_word, seconds_word, light_word, offset, turn_word, calls_word, routine_met, line_met, few, line_refusal, four, line_branch, line_feed, lines_feed, line_legend, lines_legend, behind_first, opened, opened_legend, text_feed, text_legend, failed, reader_fault}
use Rattle.reader.specs.Known.{known}
use Rattle.reader.specs.Unread.{feed_behind, text_left}
use Rattle.reader.specs.declared.text.TextSource.{TextSource}
use Rattle.reader.proofs.Calling.{length-numbers}
use Rattle.reader.proofs.Numbering.{Old, New, old_or_new}
use Rattle.newton.specs.Drafting.{named, above}
use Rattle.report.specs.Script.{routines, routines_from, InRange, AllInRange, refused_or, fault_of}
use Rattle.report.specs.Figures.{Kind, Column, Fills}
use Rattle.newton.proofs.Above.{raised_within}
use Rattle.report.proofs.Loading.{all_below, below_raised}

-- the legend is as long as one more than the largest number that was met
met_counts : (legend : Legend) (w : List ℕ) → max (length legend) (number_of legend w + 1) ≡ length (met legend w)
met_counts legend w = go (old_or_new legend w)
  where
    go : Old legend w ⊎ New legend w → max (length legend) (number_of legend w + 1) ≡ length (met legend w)
    go (inl old) = omega (arith, old.0, ap length old.1)
    go (inr new) = omega (arith, new.0, ap length new.1, length-append legend (w ∷ []))

all_counts : (legend : Legend) (ws : List (List ℕ)) → above (length legend) (numbers_of legend ws) ≡ length (all_met legend ws)
all_counts legend [] = refl
all_counts legend (w ∷ ws) = ap (λ n. above n (numbers_of (met legend w) ws)) (met_counts legend w) ∙ all_counts (met legend w) ws

take_four : (ns : List ℕ) → length ns ≤ 4 → take (length ns) (four ns) ≡ ns
take_four [] short = refl
take_four (a ∷ []) short = refl
take_four (a ∷ b ∷ []) short = refl
take_four (a ∷ b ∷ c ∷ []) short = refl
take_four (a ∷ b ∷ c ∷ d ∷ []) short = refl
take_four (a ∷ b ∷ c ∷ d ∷ e ∷ ns) short = absurd (omega arith)

-- A line that is refused for nothing has every question answered yes.
record AllYes (name seconds turn calls all : Bool) : Type 0 where
  name_yes : name ≡ true
  seconds_yes : seconds ≡ true
  turn_yes : turn ≡ true
  calls_yes : calls ≡ true
  all_yes : all ≡ true

absurd_answer : {X : Type 0} (m : Misread) → Some m ≡ None → X
absurd_answer m e = absurd cc

answers :
    (words name names seconds light turn calls all : Bool) (at₁ at₂ at₃ at₄ : ℕ) →
    asked words Words 0 (asked name Name 0 (asked names Names 0 (asked seconds Number at₁ (asked light Number at₂ (asked turn Number at₃ (asked calls Calls at₄ (asked all Names at₄ None))))))) ≡ None →
    AllYes name seconds turn calls all
answers true true true true true true true true at₁ at₂ at₃ at₄ e = record { name_yes = refl; seconds_yes = refl; turn_yes = refl; calls_yes = refl; all_yes = refl }
answers false name names seconds light turn calls all at₁ at₂ at₃ at₄ e = absurd_answer _ e
answers true false names seconds light turn calls all at₁ at₂ at₃ at₄ e = absurd_answer _ e
answers true true false seconds light turn calls all at₁ at₂ at₃ at₄ e = absurd_answer _ e
answers true true true false light turn calls all at₁ at₂ at₃ at₄ e = absurd_answer _ e
answers true true true true false turn calls all at₁ at₂ at₃ at₄ e = absurd_answer _ e
answers true true true true true false calls all at₁ at₂ at₃ at₄ e = absurd_answer _ e
answers true true true true true true false all at₁ at₂ at₃ at₄ e = absurd_answer _ e
answers true true true true true true true false at₁ at₂ at₃ at₄ e = absurd_answer _ e

at_most : (most : ℕ) (w : List ℕ) → in_range most w ≡ true → value w ≤ most
at_most most w e = leb-true _ _ (and_parts (is_number w) (leb (value w) most) e).1

-- Names are letters and digits.
abbrev AllNames : Legend → Type 0
AllNames legend = AllByRecursion (λ w. is_name w ≡ true) legend

letter_ascii : (b : ℕ) → letter b ≡ true → b < 128
letter_ascii b e = omega (arith, leb-true _ _ (and_parts (leb 65 b) (leb b 90) e).1)

digit_ascii : (b : ℕ) → digit b ≡ true → b < 128
digit_ascii b e = omega (arith, leb-true _ _ (and_parts (leb 48 b) (leb b 57) e).1)

either_ascii : (a c : Bool) (b : ℕ) → (a ≡ true → b < 128) → (c ≡ true → b < 128) → (a || c) ≡ true → b < 128
either_ascii true c b left right e = left refl
either_ascii false c b left right e = right e

bytes_ascii : (bs : List ℕ) → list_all name_byte bs ≡ true → IsAscii bs
bytes_ascii [] e i = omega arith
bytes_ascii (b ∷ bs) e zero = either_ascii (letter b) (digit b) b (letter_ascii b) (digit_ascii b) (and_parts (name_byte b) (list_all name_byte bs) e).0
bytes_ascii (b ∷ bs) e (suc i) = bytes_ascii bs (and_parts (name_byte b) (list_all name_byte bs) e).1 i

name_ascii : (w : List ℕ) → is_name w ≡ true → IsAscii w
name_ascii [] e i = omega arith
name_ascii (b ∷ bs) e zero = letter_ascii b (and_parts (letter b) (is_tail bs) e).0
name_ascii (b ∷ bs) e (suc i) = bytes_ascii bs (and_parts (leb (length bs) 11) (list_all name_byte bs) (and_parts (letter b) (is_tail bs) e).1).1 i

names_ascii : (legend : Legend) → AllNames legend → (r : ℕ) → IsAscii (get_or legend r [])
names_ascii [] all r = λ i. omega arith
names_ascii (w ∷ ws) all zero = name_ascii w all.0
names_ascii (w ∷ ws) all (suc r) = names_ascii ws all.1 r

one_name_more : (legend : Legend) (w : List ℕ) → AllNames legend → is_name w ≡ true → AllNames (legend ++ w ∷ [])
one_name_more [] w all e = (e, tt)
one_name_more (x ∷ xs) w all e = (all.0, one_name_more xs w all.1 e)

met_names : (legend : Legend) (w : List ℕ) → AllNames legend → is_name w ≡ true → AllNames (met legend w)
met_names legend w all e = go (old_or_new legend w)
  where
    go : Old legend w ⊎ New legend w → AllNames (met legend w)
    go (inl old) = subst AllNames (sym old.1) all
    go (inr new) = subst AllNames (sym new.1) (one_name_more legend w all e)

all_met_names : (legend : Legend) (ws : List (List ℕ)) → AllNames legend → list_all is_name ws ≡ true → AllNames (all_met legend ws)
all_met_names legend [] all e = all
all_met_names legend (w ∷ ws) all e =
    let parts = and_parts (is_name w) (list_all is_name ws) e in
    all_met_names (met legend w) ws (met_names legend w all parts.0) parts.1

few_calls : (w : List ℕ) → is_calls w ≡ true → length (called w) ≤ 4
few_calls w e = leb-true _ _ (and_parts (leb (length (called w)) 4) (list_all is_name (called w)) e).0

module _ (legend : Legend) (ws : List (List ℕ)) (read : line_refusal legend ws ≡ None) where
  abbrev b : Branch
  b = line_branch legend ws

  abbrev numbers : List ℕ
  numbers = numbers_of (routine_met legend ws) (called (calls_word ws))

  yes : AllYes (is_name (name_word ws)) (in_range 3600 (seconds_word ws)) (in_range 23 (turn_word ws)) (is_calls (calls_word ws)) (few (line_met legend ws))
  yes = answers (eqb (length ws) 5) (is_name (name_word ws)) (few (routine_met legend ws)) (in_range 3600 (seconds_word ws)) (in_range 65535 (light_word ws)) (in_range 23 (turn_word ws)) (is_calls (calls_word ws)) (few (line_met legend ws)) (offset ws 1) (offset ws 2) (offset ws 3) (offset ws 4) read

  few_named : b.count ≤ 4
  few_named = few_calls (calls_word ws) yes.calls_yes

  named_is : named b ≡ number_of legend (name_word ws) ∷ numbers
  named_is =
      let long = length-numbers (routine_met legend ws) (called (calls_word ws)) in
      ap (λ ns. number_of legend (name_word ws) ∷ ns) (ap (λ m. take m (four numbers)) (sym long) ∙ take_four numbers (omega (arith, few_named)))

  line_counts : above (length legend) (named b) ≡ length (line_met legend ws)
  line_counts =
      ap (above (length legend)) named_is
      ∙ ap (λ n. above n numbers) (met_counts legend (name_word ws))
      ∙ all_counts (routine_met legend ws) (called (calls_word ws))

  line_in_range : InRange b
  line_in_range = record {
    calls = few_named;
    routines = below_raised (above (length legend) (named b)) 32 (named b) (omega (arith, line_counts, leb-true _ _ yes.all_yes)) (all_below (length legend) (named b));
    seconds = at_most 3600 (seconds_word ws) yes.seconds_yes;
    turn = at_most 23 (turn_word ws) yes.turn_yes;
  }

  line_names : AllNames legend → AllNames (line_met legend ws)
  line_names all =
      all_met_names (routine_met legend ws) (called (calls_word ws)) (met_names legend (name_word ws) all yes.name_yes)
      (and_parts (leb (length (called (calls_word ws))) 4) (list_all is_name (called (calls_word ws))) yes.calls_yes).1

-- What is known of a feed and its legend, behind a legend.
record Numbers (before : Legend) (feed : Feed) (after : Legend) : Type 0 where
  pub range : AllInRange feed.items
  pub counts : feed.ending ≡ None → routines_from (length before) feed.items ≡ length after
  pub names : feed.ending ≡ None → AllNames before → AllNames after

nothing_read : (before : Legend) (fault : Fault) (after : Legend) → Numbers before (failed fault) after
nothing_read before fault after = record {
  range = tt;
  counts = λ e. absurd cc;
  names = λ e all. absurd cc;
}

line_numbers :
    (legend : Legend) (ws : List (List ℕ)) (o : Option Misread) →
    line_refusal legend ws ≡ o →
    (place : Place) (others : Feed) (after : Legend) →
    Numbers (line_met legend ws) others after →
    Numbers legend (line_feed o (record { branch = line_branch legend ws; place = place }) others) (line_legend o legend after)
line_numbers legend ws (Some misread) e place others after more = nothing_read _ _ _
line_numbers legend ws None e place others after more = record {
  range = (line_in_range legend ws e, more.range);
  counts = λ ended. ap (λ n. routines_from n others.items) (line_counts legend ws e) ∙ more.counts ended;
  names = λ ended all. more.names ended (line_names legend ws e all);
}

lines_numbers : (legend : Legend) (line byte : ℕ) (ls : List (List ℕ)) → Numbers legend (lines_feed legend line byte ls) (lines_legend legend ls)
lines_numbers legend line byte [] = record { range = tt; counts = λ e. refl; names = λ e all. all }
lines_numbers legend line byte ([] ∷ []) = record { range = tt; counts = λ e. refl; names = λ e all. all }
lines_numbers legend line byte ((b ∷ bs) ∷ []) = nothing_read _ _ _
lines_numbers legend line byte (l ∷ m ∷ ls) =
    line_numbers legend (pieces space l) (line_refusal legend (pieces space l)) refl (record { line = line; byte = byte })
    (lines_feed (line_met legend (pieces space l)) (line + 1) (byte + length l + 1) (m ∷ ls)) (lines_legend (line_met legend (pieces space l)) (m ∷ ls))
    (lines_numbers (line_met legend (pieces space l)) (line + 1) (byte + length l + 1) (m ∷ ls))

opened_numbers : (o : Option (List (List ℕ))) → Numbers [] (opened o) (opened_legend o)
opened_numbers None = nothing_read _ _ _
opened_numbers (Some ls) = lines_numbers [] 2 (length first_line + 1) ls

sized_numbers : (b : Bool) (o : Option (List (List ℕ))) (fault : Fault) → Numbers [] (cond b (opened o) (failed fault)) (cond b (opened_legend o) [])
sized_numbers true o fault = opened_numbers o
sized_numbers false o fault = nothing_read _ _ _

text_numbers : (text : List ℕ) → Numbers [] (text_feed text) (text_legend text)
text_numbers text = sized_numbers (leb (length text) 16384) (behind_first (pieces line_end text)) (reader_fault Size 0 0)

behind_in_range : (o : Option Fault) (feed : Feed) → AllInRange feed.items → AllInRange (feed_behind o feed).items
behind_in_range None feed all = all
behind_in_range (Some fault) feed all = tt

-- the branches that a text source has yet to give are in range, however far it has been read
pub left_in_range : (s : TextSource) → AllInRange (text_left s).items
left_in_range s =
    behind_in_range s.fault (lines_feed (known s.names) s.place.line s.place.byte (pieces line_end s.rest.now)) (lines_numbers (known s.names) s.place.line s.place.byte (pieces line_end s.rest.now)).range

text_in_range : (text : List ℕ) → AllInRange (text_feed text).items
text_in_range text = (text_numbers text).range

pub text_routines : (text : List ℕ) → (text_feed text).ending ≡ None → routines (text_feed text).items ≡ length (text_legend text)
text_routines text = (text_numbers text).counts

few_routines : (n : ℕ) (items : List Placed) → n ≤ 32 → AllInRange items → routines_from n items ≤ 32
few_routines n [] small range = small
few_routines n (item ∷ items) small range =
    few_routines (above n (named item.branch)) items (raised_within 32 n _ (named item.branch) refl small range.0.routines) range.1

pub text_few : (text : List ℕ) → (text_feed text).ending ≡ None → length (text_legend text) ≤ 32
text_few text ended = omega (arith, few_routines 0 (text_feed text).items (omega arith) (text_in_range text), text_routines text ended)

pub text_ascii : (text : List ℕ) → (text_feed text).ending ≡ None → (r : ℕ) → IsAscii (get_or (text_legend text) r [])
text_ascii text ended = names_ascii (text_legend text) ((text_numbers text).names ended tt)

-- a text with no fault ends plainly
no_fault : (items : List Placed) (ending : Ending) → refused_or items ending ≡ None → ending ≡ None
no_fault [] ending e = e
no_fault (item ∷ items) ending e = absurd cc

pub plain_end : (text : List ℕ) (feed : Feed) → feed ≡ text_feed text → fault_of feed ≡ None → (text_feed text).ending ≡ None
plain_end text feed is none = no_fault (drop 200 (text_feed text).items) (text_feed text).ending (subst (λ f. fault_of f ≡ None) is none)

-- a column of what a source gives, said of the text that it was made from
pub filled :
    {K : Type 0} (kind : Kind K) (text : List ℕ) (feed : Feed) (column : Column K) →
    feed ≡ text_feed text →
    (text_feed text).ending ≡ None →
    Fills kind (routines feed.items) feed.items column →
    Fills kind (length (text_legend text)) (text_feed text).items column
filled kind text feed column is ended fills =
    subst (λ n. Fills kind n (text_feed text).items column) (text_routines text ended)
    (subst (λ f. Fills kind (routines f.items) f.items column) is fills)
