-- A word among the names met so far: at its place, or new and met last.
use Rattle.std.proofs.Common.{◌≡◌, ℕ, ◌+◌, ◌<◌, ◌≤◌, Bool, ◌⊎◌, List, [], ◌∷◌, ◌++◌, map, length, Some, None, Bor, sym, refl, ap, ◌∙◌, inl, inr, arith}
use lib.ListN.{length-map}
use Rattle.std.specs.List.{position, position_or_len}
use Rattle.std.specs.Str.{bytes_eq}
use Rattle.std.proofs.lemmas.List.{length_push, map_push}
use Rattle.std.proofs.lemmas.List.Recursion.{is_position_or_len}
use Rattle.script.specs.Legend.{Legend, number_of, met}
use Rattle.reader.specs.Known.{Numbered}
use Rattle.reader.proofs.Numbering.{Old, New, old_or_new}
use Rattle.reader.proofs.Places.{placed, nowhere}

module _ (names : List (Bor (List ℕ))) (name : Bor (List ℕ)) where
  abbrev word : List ℕ
  word = name.now

  abbrev legend : Legend
  legend = map (λ name. name.now) names

  abbrev is_word : Bor (List ℕ) → Bool
  is_word other = bytes_eq other.now word

  numbered : number_of legend word ≡ position_or_len is_word names
  numbered = is_position_or_len (λ ns. number_of (map (λ name. name.now) ns) word) is_word refl (λ n ns. search arith) names

  long : length legend ≡ length names
  long = length-map names (λ name. name.now)

  pub met_before : (n : ℕ) → length names ≤ 32 → position is_word names ≡ Some n → Numbered legend word (Some n) legend
  met_before n few found = go (old_or_new legend word)
    where
      at : (position_or_len is_word names ≡ n) × (n < length names)
      at = placed is_word names n found

      go : Old legend word ⊎ New legend word → Numbered legend word (Some n) legend
      go (inl old) = (omega (arith, ap length old.1, long), sym at.0 ∙ sym numbered, sym old.1)
      go (inr new) = absurd (omega (arith, new.0, numbered, long, at))

  module _ (none : position is_word names ≡ None) where
    new : New legend word
    new = go (old_or_new legend word)
      where
        go : Old legend word ⊎ New legend word → New legend word
        go (inl old) = absurd (omega (arith, old.0, numbered, long, nowhere is_word names none))
        go (inr h) = h

    length-met : length (met legend word) ≡ length names + 1
    length-met = omega (arith, ap length new.1, length_push legend word, long)

    pub no_room : length names ≡ 32 → Numbered legend word None legend
    no_room full = (omega (arith, length-met), refl)

    pub met_last : length names < 32 → Numbered legend word (Some (length names)) (map (λ name. name.now) (names ++ name ∷ []))
    met_last room = (omega (arith, length-met), omega (arith, new.0, long), map_push (λ name. name.now) names name ∙ sym new.1)
