-- Scripts within a number of routines, rule by rule.
use Rattle.std.proofs.Common.{ℕ, zero, suc, ◌<◌, ◌⊎◌, List, [], ◌∷◌, sym, subst, inl, inr, arith}
use mathlib.Core.List.Memᴰ
use mathlib.Core.List.{Memᴰ}
use Rattle.equations.specs.Rule.{Rule, Within}
use Rattle.equations.specs.Held.{table}

module _ (n : ℕ) where
  abbrev pub CallsWithin : List ℕ → Type 0
  CallsWithin calls = (q : ℕ) → Memᴰ q calls → q < n

  pub no_calls : CallsWithin []
  no_calls q m = absurd (Memᴰ.not-nil m)

  pub more_calls : (c : ℕ) (calls : List ℕ) → c < n → CallsWithin calls → CallsWithin (c ∷ calls)
  more_calls c calls l within q (Memᴰ.head e) = subst (λ d. d < n) (sym e) l
  more_calls c calls l within q (Memᴰ.tail m) = within q m

  pub no_rules : {K : Type 0} → Within {K = K} n []
  no_rules rule m = absurd (Memᴰ.not-nil m)

  pub more_rules : {K : Type 0} (first : Rule K) (rules : List (Rule K)) → first.routine < n → CallsWithin first.calls → Within n rules → Within n (first ∷ rules)
  more_rules first rules l calls within rule (Memᴰ.head e) = subst (λ u. (u.routine < n) × CallsWithin u.calls) (sym e) (l, calls)
  more_rules first rules l calls within rule (Memᴰ.tail m) = within rule m

  -- The script of a table, place by place.
  pub table_within : {K : Type 0} (f : ℕ → Rule K) (held : ℕ) → ((i : ℕ) → i < held → ((f i).routine < n) × CallsWithin (f i).calls) → Within n (table f held)
  table_within f zero each rule m = no_rules rule m
  table_within {K} f (suc held) each rule m = look (table_within f held (λ i l. each i (omega arith))) (Memᴰ.append_cases (table f held) m)
    where
      look : Within n (table f held) → Memᴰ rule (table f held) ⊎ Memᴰ rule (f held ∷ []) → (rule.routine < n) × CallsWithin rule.calls
      look before (inl l) = before rule l
      look before (inr l) = subst (λ (u : Rule K). (u.routine < n) × CallsWithin u.calls) (sym (Memᴰ.eq_of_singleton l)) (each held (omega arith))
