-- The words of the file format: pieces between separators, names and numbers. A text is the list
-- of its bytes.
use Rattle.std.specs.Prelude.{ℕ, ◌+◌, ◌-◌, ◌*◌, Bool, true, false, cond, not, ◌&&◌, ◌||◌, List, [], ◌∷◌, length, ◌==◌, nat_le}
use Rattle.std.specs.List.{list_all, slice_split}
use Rattle.std.specs.Str.{bytes_eq}

-- The pieces of a text between one separator and the next: one more than there are separators,
-- and any may be empty. Lines are the pieces between bytes 10, words between spaces, the names of
-- calls between plus signs.
abbrev pub pieces : ℕ → List ℕ → List (List ℕ)
pieces sep text = slice_split (λ b. b == sep) text

-- 10 ends a line; a space, a plus sign, a minus sign
abbrev pub line_end : ℕ
line_end = 10

abbrev pub space : ℕ
space = 32

abbrev pub plus_sign : ℕ
plus_sign = 43

abbrev pub minus_sign : ℕ
minus_sign = 45

-- A to Z
abbrev pub letter : ℕ → Bool
letter b = nat_le 65 b && nat_le b 90

-- 0 to 9
abbrev pub digit : ℕ → Bool
digit b = nat_le 48 b && nat_le b 57

-- a letter or a digit
abbrev pub name_byte : ℕ → Bool
name_byte b = letter b || digit b

-- A name of a routine is a letter and up to 11 more bytes, each a letter or a digit.
abbrev pub is_tail : List ℕ → Bool
is_tail bs = nat_le (length bs) 11 && list_all name_byte bs

abbrev pub is_name : List ℕ → Bool
is_name [] = false
is_name (b ∷ bs) = letter b && is_tail bs

-- the number that digits write, behind the n that has been read already
abbrev pub read_on : ℕ → List ℕ → ℕ
read_on n [] = n
read_on n (b ∷ bs) = read_on (n * 10 + (b - 48)) bs

abbrev pub value : List ℕ → ℕ
value w = read_on 0 w

-- one byte, or several of which the first is not a 0
abbrev pub well_led : List ℕ → Bool
well_led [] = false
well_led (b ∷ []) = true
well_led (b ∷ c ∷ bs) = not (b == 48)

-- A number is decimal, without leading zeros, 0 itself apart.
abbrev pub is_number : List ℕ → Bool
is_number w = well_led w && list_all digit w

-- a number that is at most `most`
abbrev pub in_range : ℕ → List ℕ → Bool
in_range most w = is_number w && nat_le (value w) most

-- at most so many names, joined by plus signs
abbrev pub are_names : ℕ → List (List ℕ) → Bool
are_names most ws = nat_le (length ws) most && list_all is_name ws

-- the names of a calls word: none for a lone minus sign, else its pieces between plus signs
abbrev pub called : List ℕ → List (List ℕ)
called w = cond (bytes_eq w (minus_sign ∷ [])) [] (pieces plus_sign w)

-- A calls word is a lone minus sign, or one to four names joined by plus signs.
abbrev pub is_calls : List ℕ → Bool
is_calls w = are_names 4 (called w)
