-- Six hexadecimal digits: read as a number they give the number again, and `{:06x}` writes them.
use Rattle.std.proofs.Common.{◌≡◌, ℕ, zero as none, suc, ◌+◌, ◌-◌, ◌*◌, ◌/◌, ◌%◌, ◌^◌, ◌<◌, Bool, true, false, eqb, List, [], ◌∷◌, ◌++◌, length, refl, sym, ap, ◌∙◌, ap₂, ◌≢◌, ⊎_elim, append_assoc, div-one, arith}
use Rattle.std.specs.Prelude.{replicate}
use Rattle.std.proofs.lemmas.Bool.{eqb-true, cond-true, cond-false, cases_eq, eq-eqb, ne_eqb}
use Rattle.std.proofs.Math.Nat.{sub-zero, zero-div, pow-suc, pow-succ', div-div-eq-div-mul}
use Rattle.std.proofs.lemmas.List.{append-nil}
use Rattle.std.specs.Str.Parse.{digits_value}
use Rattle.std.specs.Char.{digit_value}
use Rattle.std.specs.Fmt.{digit_glyph, digits, digits_onto, padded_integral, format_spec, char_count}
use Rattle.kinds.specs.Bits.{any}
use Rattle.kinds.specs.Disc.{hex}
use Rattle.kinds.specs.Laws.Bits.{all, all_gives}

-- computed for all sixteen digits
reads : ℕ → Bool
reads d = eqb (digit_value (digit_glyph false d)) d

reads_all : all 16 reads ≡ true
unfolding all any reads
reads_all = refl

digit_back : (n : ℕ) → digit_value (digit_glyph false (n % 16)) ≡ n % 16
unfolding reads
digit_back n = eqb-true _ _ (all_gives 16 reads reads_all (n % 16) (omega arith))

six : (n a b c d e f : ℕ) → n < 2 ^ 24 → a ≡ n / 1048576 % 16 → b ≡ n / 65536 % 16 → c ≡ n / 4096 % 16 → d ≡ n / 256 % 16 → e ≡ n / 16 % 16 → f ≡ n / 1 % 16
    → (((((0 + a) * 16 + b) * 16 + c) * 16 + d) * 16 + e) * 16 + f ≡ n
six n a b c d e f h ea eb ec ed ee ef = omega arith

pub hex_back : (n : ℕ) → n < 2 ^ 24 → digits_value 16 (hex 6 n) ≡ n
hex_back n h =
    six n _ _ _ _ _ _ h (digit_back (n / 1048576)) (digit_back (n / 65536)) (digit_back (n / 4096)) (digit_back (n / 256)) (digit_back (n / 16)) (digit_back (n / 1))

-- what `{:06x}` writes: the digits with zeros in front of them
hex_zero : (k : ℕ) → hex k 0 ≡ replicate k 48
hex_zero none = refl
hex_zero (suc k) = ap₂ (λ d ds. digit_glyph false (d % 16) ∷ ds) (zero-div (16 ^ k)) (hex_zero k)

hex_last : (k n : ℕ) → hex (suc k) n ≡ hex k (n / 16) ++ (digit_glyph false (n % 16) ∷ [])
hex_last none n = ap (λ d. digit_glyph false (d % 16) ∷ []) (div-one n)
hex_last (suc k) n =
    ap₂ (λ d ds. digit_glyph false (d % 16) ∷ ds) (ap (λ m. n / m) (pow-succ' 16 k) ∙ sym (div-div-eq-div-mul n 16 (16 ^ k))) (hex_last k n)

-- ds in front of acc, with zeros before it that make it k digits
abbrev filled : ℕ → List ℕ → List ℕ → List ℕ
filled k acc ds = replicate (k + length acc - length ds) 48 ++ ds

onto : ℕ → ℕ → List ℕ → List ℕ
onto j n acc = digits_onto j 16 false n acc

first_digit : (k j n : ℕ) (acc : List ℕ) → n / 16 ≡ 0 → filled (suc k) acc (onto (suc j) n acc) ≡ hex (suc k) n ++ acc
unfolding onto
first_digit k j n acc e =
    let one : List ℕ = digit_glyph false (n % 16) ∷ [] in
    ap (filled (suc k) acc) (cond-true _ _ _ (eq-eqb _ _ e))
    ∙ ap (λ (m : ℕ). replicate m 48 ++ (one ++ acc)) (omega arith)
    ∙ sym (ap (λ ds. ds ++ acc) (hex_last k n ∙ ap (λ m. hex k m ++ one) e ∙ ap (λ ds. ds ++ one) (hex_zero k)) ∙ append_assoc (replicate k 48) one acc)

next_digit : (k j n : ℕ) (acc : List ℕ) → n / 16 ≢ 0
    → filled k (digit_glyph false (n % 16) ∷ acc) (onto j (n / 16) (digit_glyph false (n % 16) ∷ acc)) ≡ hex k (n / 16) ++ (digit_glyph false (n % 16) ∷ acc)
    → filled (suc k) acc (onto (suc j) n acc) ≡ hex (suc k) n ++ acc
unfolding onto
next_digit k j n acc other before =
    let one : List ℕ = digit_glyph false (n % 16) ∷ [] in
    ap (filled (suc k) acc) (cond-false _ _ _ (ne_eqb _ _ other))
    ∙ ap (λ (m : ℕ). replicate m 48 ++ onto j (n / 16) (one ++ acc)) (omega arith) ∙ before
    ∙ sym (ap (λ ds. ds ++ acc) (hex_last k n) ∙ append_assoc (hex k (n / 16)) one acc)

filled_is : (k j n : ℕ) (acc : List ℕ) → n < 16 ^ suc k → k < j → filled (suc k) acc (onto j n acc) ≡ hex (suc k) n ++ acc
filled_is k none n acc h l = absurd (omega arith)
filled_is none (suc j) n acc h l = first_digit none j n acc (omega arith)
filled_is (suc k) (suc j) n acc h l =
    ⊎_elim (first_digit (suc k) j n acc)
    (λ other. next_digit (suc k) j n acc other (filled_is k j (n / 16) (digit_glyph false (n % 16) ∷ acc) (omega (arith, pow-suc 16 (suc k))) (omega arith)))
    (cases_eq (n / 16) 0)

padded_is : (ds : List ℕ) → padded_integral (format_spec 32 0 4 6 (2 ^ 64 - 1)) false [] ds ≡ filled 6 [] ds
unfolding padded_integral char_count
padded_is ds = simp (append-nil, sub-zero)

digits_is : (n : ℕ) → digits 16 false n ≡ onto 64 n []
unfolding digits onto
digits_is n = refl

pub hex_written : (n : ℕ) → n < 2 ^ 24 → padded_integral (format_spec 32 0 4 6 (2 ^ 64 - 1)) false [] (digits 16 false n) ≡ hex 6 n
hex_written n h = padded_is (digits 16 false n) ∙ ap (filled 6 []) (digits_is n) ∙ filled_is 5 64 n [] h (omega arith)
