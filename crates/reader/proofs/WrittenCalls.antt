-- A calls word that is written from numbers: its names are those of the numbers, in order.
use Rattle.std.proofs.Common.{◌≡◌, ℕ, ◌<◌, ◌≤◌, Bool, true, false, leb, List, [], ◌∷◌, map, length, get_or, refl, ap, ◌∙◌, subst, append-nil, arith}
use lib.ListN.{length-map}
use Rattle.std.specs.List.{AllByRecursion, list_all}
use Rattle.std.specs.Str.{bytes_eq}
use Rattle.std.proofs.lemmas.List.Elements.{All-nil, All-cons}
use Rattle.std.proofs.lemmas.Slice.Eq.{bytes_eq-Decides}
use Rattle.std.proofs.lemmas.Bool.{and_from, le-leb, cond-false}
use Rattle.reader.specs.Format.{pieces, is_name, called, is_calls, space, plus_sign, minus_sign}
use Rattle.script.specs.Legend.{Legend}
use Rattle.reader.specs.Writing.{name_of, joined_names, written_calls, GoodNames}
use Rattle.reader.proofs.Cutting.{Above, above_less, above_between, whole_piece, piece_before}
use Rattle.reader.proofs.WrittenWords.{name_above, name_first}

-- numbers that have names
abbrev pub HaveNames : Legend → List ℕ → Type 0
HaveNames names ms = AllByRecursion (λ m. m < length names) ms

-- a word that begins with a letter is no lone minus sign
no_minus : (w : List ℕ) → 64 < get_or w 0 0 → called w ≡ pieces plus_sign w
no_minus w first = cond-false (bytes_eq w (minus_sign ∷ [])) _ _ (go (bytes_eq w (minus_sign ∷ [])) refl)
  where
    go : (t : Bool) → bytes_eq w (minus_sign ∷ []) ≡ t → bytes_eq w (minus_sign ∷ []) ≡ false
    go true e = absurd (omega (arith, ap (λ l. get_or l 0 0) ((bytes_eq-Decides w (minus_sign ∷ [])).0 e)))
    go false e = e

module _ (names : Legend) (good : GoodNames names) where
  pub name_of_above : (low m : ℕ) → low ≤ 47 → m < length names → Above low (name_of names m)
  name_of_above low m less known = above_less low 47 (name_of names m) less (name_above (name_of names m) (good.formed m known))

  joined_pieces : (m : ℕ) (ms : List ℕ) → HaveNames names (m ∷ ms) → pieces plus_sign (joined_names names (m ∷ ms)) ≡ map (name_of names) (m ∷ ms)
  joined_pieces m [] known = whole_piece plus_sign (name_of names m) (name_of_above plus_sign m (omega arith) known.0)
  joined_pieces m (n ∷ ns) known =
      piece_before plus_sign (name_of names m) _ (name_of_above plus_sign m (omega arith) known.0) ∙ ap (λ ps. name_of names m ∷ ps) (joined_pieces n ns known.1)

  -- which is no minus sign
  joined_first : (m : ℕ) (ms : List ℕ) → m < length names → 64 < get_or (joined_names names (m ∷ ms)) 0 0
  joined_first m [] known = subst (λ w. 64 < get_or w 0 0) (append-nil (name_of names m)) (name_first (name_of names m) [] (good.formed m known))
  joined_first m (n ∷ ns) known = name_first (name_of names m) _ (good.formed m known)

  pub written_called : (ms : List ℕ) → HaveNames names ms → called (written_calls names ms) ≡ map (name_of names) ms
  written_called [] known = refl
  written_called (m ∷ ms) known =
      no_minus (joined_names names (m ∷ ms)) (joined_first m ms known.0) ∙ joined_pieces m ms known

  joined_above : (m : ℕ) (ms : List ℕ) → HaveNames names (m ∷ ms) → Above space (joined_names names (m ∷ ms))
  joined_above m [] known = name_of_above space m (omega arith) known.0
  joined_above m (n ∷ ns) known =
      above_between space plus_sign (name_of names m) _ (omega arith) (name_of_above space m (omega arith) known.0) (joined_above n ns known.1)

  pub written_calls_above : (ms : List ℕ) → HaveNames names ms → Above space (written_calls names ms)
  written_calls_above [] known = All-cons (λ b. space < b) minus_sign [] (omega arith) (All-nil (λ b. space < b))
  written_calls_above (m ∷ ms) known = joined_above m ms known

  names_all : (ms : List ℕ) → HaveNames names ms → list_all is_name (map (name_of names) ms) ≡ true
  names_all [] known = refl
  names_all (m ∷ ms) known = and_from (is_name (name_of names m)) _ (good.formed m known.0) (names_all ms known.1)

  pub written_is_calls : (ms : List ℕ) → HaveNames names ms → length ms ≤ 4 → is_calls (written_calls names ms) ≡ true
  written_is_calls ms known few =
      let are = written_called ms known in
      and_from (leb (length (called (written_calls names ms))) 4) _ (le-leb _ _ (omega (arith, ap length are, length-map ms (name_of names)))) (ap (list_all is_name) are ∙ names_all ms known)
