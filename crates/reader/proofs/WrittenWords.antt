-- The words that are written: a name and a decimal have no separator, and a decimal is a number
-- that stands for what it was written from.
use Rattle.std.proofs.Common.{◌≡◌, ℕ, ◌^◌, ◌<◌, ◌≤◌, Bool, true, eqb, leb, ◌⊎◌, List, [], ◌∷◌, ◌++◌, length, get_or, decimal, refl, ap, inl, inr, arith, rules}
use Rattle.std.specs.List.{list_all}
use Rattle.std.proofs.lemmas.List.Elements.{All-weaker, All-cons}
use Rattle.std.proofs.lemmas.List.Sums.{AllPass-from_list_all}
use Rattle.std.proofs.lemmas.Fmt.{decimal_digit, first_decimal, digits_decimal, digits_value-decimal}
use Rattle.std.proofs.lemmas.Str.Parse.{IsNumeralModel, numerals_by_fold}
use Rattle.std.proofs.lemmas.Bool.{and_parts, and_from, or_cases, leb-true, le-leb, ne_eqb, not_from_false, cases_lt, false≢true}
use Rattle.reader.specs.Format.{letter, digit, name_byte, is_name, is_tail, read_on, value, well_led, is_number, in_range}
use Rattle.reader.proofs.Cutting.{Above}

letter_above : (b : ℕ) → letter b ≡ true → 64 < b
letter_above b l = leb-true 65 b (and_parts (leb 65 b) (leb b 90) l).0

digit_above : (b : ℕ) → digit b ≡ true → 47 < b
digit_above b d = leb-true 48 b (and_parts (leb 48 b) (leb b 57) d).0

name_byte_above : (b : ℕ) → name_byte b ≡ true → 47 < b
name_byte_above b n = go (or_cases (letter b) (digit b) n)
  where
    go : (letter b ≡ true) ⊎ (digit b ≡ true) → 47 < b
    go (inl l) = omega (arith, letter_above b l)
    go (inr d) = digit_above b d

all_above : (low : ℕ) (test : ℕ → Bool) → ((b : ℕ) → test b ≡ true → low < b) → (w : List ℕ) → list_all test w ≡ true → Above low w
all_above low test above w h = All-weaker (λ b. test b ≡ true) (λ b. low < b) above w (AllPass-from_list_all test w h)

pub name_above : (w : List ℕ) → is_name w ≡ true → Above 47 w
name_above [] h = absurd (false≢true h)
name_above (b ∷ bs) h =
    let p = and_parts (letter b) (is_tail bs) h in
    let tail = and_parts (leb (length bs) 11) (list_all name_byte bs) p.1 in
    All-cons (λ c. 47 < c) b bs (omega (arith, letter_above b p.0)) (all_above 47 name_byte name_byte_above bs tail.1)

-- what begins with a name begins with a letter
pub name_first : (w rest : List ℕ) → is_name w ≡ true → 64 < get_or (w ++ rest) 0 0
name_first [] rest h = absurd (false≢true h)
name_first (b ∷ bs) rest h = letter_above b (and_parts (letter b) (is_tail bs) h).0

-- digits and their value, as the format reads them
own : IsNumeralModel (λ w. list_all digit w ≡ true) value
own = numerals_by_fold _ (search rules) read_on (search rules)

led : (w : List ℕ) → 48 < get_or w 0 0 → well_led w ≡ true
led [] first = absurd (omega arith)
led (b ∷ []) first = refl
led (b ∷ c ∷ bs) first = not_from_false (eqb b 48) (ne_eqb b 48 (λ e. omega arith))

module _ (n : ℕ) (small : n < 2 ^ 64) where
  decimal_digits : list_all digit (decimal n) ≡ true
  decimal_digits = digits_decimal own n small

  decimal_led : well_led (decimal n) ≡ true
  decimal_led = go (cases_lt n 10)
    where
      go : (n < 10) ⊎ (10 ≤ n) → well_led (decimal n) ≡ true
      go (inl below) = ap well_led (decimal_digit n below)
      go (inr above) = led (decimal n) (first_decimal n (omega arith) small)

  pub decimal_above : Above 47 (decimal n)
  decimal_above = all_above 47 digit digit_above (decimal n) decimal_digits

  pub decimal_value : value (decimal n) ≡ n
  decimal_value = digits_value-decimal own n small

  pub decimal_in_range : (most : ℕ) → n ≤ most → in_range most (decimal n) ≡ true
  decimal_in_range most within =
      and_from (is_number (decimal n)) _ (and_from (well_led (decimal n)) _ decimal_led decimal_digits) (le-leb _ _ (omega (arith, decimal_value)))
