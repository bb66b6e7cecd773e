-- What loading a script leaves: its rules, its routines and its fault.
use Rattle.std.proofs.Common.{◌≡◌, ◌≢◌, ℕ, suc, ◌+◌, ◌-◌, ◌<◌, ◌≤◌, max, List, [], ◌∷◌, ◌++◌, length, drop, get_or, Some, None, Ok, Err, Result, refl, sym, ap, ◌∙◌, subst, subst₂, inl, inr, add-one, append-nil, append_assoc, get_or-set_other, get_or-set_same, below_more, arith}
use Rattle.std.proofs.Math.Seq.{drop-nil}
use Rattle.std.proofs.lemmas.List.{length-set}
use Rattle.std.proofs.lemmas.Nat.{mul-le}
use Rattle.std.proofs.lemmas.Result.{err_from_is_err_and}
use Rattle.std.specs.Result.{IsErrAnd}
use Rattle.std.specs.List.{AllByRecursion}
use Rattle.semiring.specs.Algebra.{Algebra}
use Rattle.script.specs.declared.branch.Branch.{Branch}
use Rattle.script.specs.declared.branch.Placed.{Placed}
use Rattle.script.specs.declared.fault.Fault.{Fault}
use Rattle.script.specs.declared.refusal.sheet.SheetRefusal.{SheetRefusal as Refusal}
use Rattle.script.specs.declared.refusal.sheet.SheetRefusal.TheVariants.{Room}
use Rattle.script.specs.Feed.{Ending, Feed}
use Rattle.equations.specs.Held.{no_branch, rule_of, rules_of}
use Rattle.equations.proofs.Slices.{table_ext}
use Rattle.newton.specs.declared.sheet.Draft.{Draft}
use Rattle.newton.specs.Questions.{Refused}
use Rattle.newton.specs.Drafting.{named, above, enter_questions, Enters}
use Rattle.newton.specs.Loading.{sheet_fault, ended_by, Loads}
use Rattle.newton.specs.Slices.{SlicesOf}
use Rattle.newton.specs.Working.{Sound, AllSound, HasRoom}
use Rattle.report.specs.Script.{routines_from, rules, InRange, AllInRange, refused_or, fault_of}
use Rattle.report.specs.Settled.{Settled, Settles}

-- one more than the largest number lies above every number
pub above_grows : (n : ℕ) (ms : List ℕ) → n ≤ above n ms
above_grows n [] = omega arith
above_grows n (m ∷ ms) = omega (arith, above_grows (max n (m + 1)) ms)

pub all_below : (n : ℕ) (ms : List ℕ) → AllByRecursion (λ m. m < above n ms) ms
all_below n [] = tt
all_below n (m ∷ ms) = (omega (arith, above_grows (max n (m + 1)) ms), all_below (max n (m + 1)) ms)

pub below_raised : (n top : ℕ) (ms : List ℕ) → n ≤ top → AllByRecursion (λ m. m < n) ms → AllByRecursion (λ m. m < top) ms
below_raised n top [] small all = tt
below_raised n top (m ∷ ms) small all = (omega (arith, all.0), below_raised n top ms small all.1)

sound_more : (n top : ℕ) (b : Branch) → n ≤ top → Sound n b → Sound top b
sound_more n top b small sound = (sound.0, below_raised n top (named b) small sound.1)

module _ {K : Type 0} (k : Algebra K) (weight : Branch → K) where
  -- Items put behind what was held.
  pub record Holds (items : List Placed) (d : Draft) (bs : List Branch) (ws : List K) (d' : Draft) (bs' : List Branch) (ws' : List K) : Type 0 where
    pub branches : length bs' ≡ length bs
    pub weights : length ws' ≡ length ws
    pub held : rules_of k d'.size.held bs' ws' ≡ rules_of k d.size.held bs ws ++ rules weight items
    pub n : d'.size.n ≡ routines_from d.size.n items
    pub sound : AllSound d.size bs → AllSound d'.size bs'

  module _ (b : Branch) (d : Draft) (bs : List Branch) (ws : List K) (d' : Draft) (bs' : List Branch) (ws' : List K) (enters : Enters weight d b bs ws d' bs' ws') where
    abbrev held : ℕ
    held = d.size.held

    room : (held < 200) × (held < length bs) × (held < length ws)
    room = enters.asked.1.1.1.0

    branch_there : get_or bs' held no_branch ≡ b
    branch_there = let within = room.1 in ap (λ l. get_or l held no_branch) enters.branches ∙ get_or-set_same bs held b no_branch within

    weight_there : get_or ws' held k.zero ≡ weight b
    weight_there = let within = room.2 in ap (λ l. get_or l held k.zero) enters.weights ∙ get_or-set_same ws held (weight b) k.zero within

    branch_before : (i : ℕ) → i < held → get_or bs' i no_branch ≡ get_or bs i no_branch
    branch_before i l = let other : i ≢ held = omega arith in ap (λ xs. get_or xs i no_branch) enters.branches ∙ get_or-set_other bs held i b no_branch other

    weight_before : (i : ℕ) → i < held → get_or ws' i k.zero ≡ get_or ws i k.zero
    weight_before i l = let other : i ≢ held = omega arith in ap (λ xs. get_or xs i k.zero) enters.weights ∙ get_or-set_other ws held i (weight b) k.zero other

    one_rule : rules_of k d'.size.held bs' ws' ≡ rules_of k held bs ws ++ rule_of b (weight b) ∷ []
    one_rule =
        ap (λ h. rules_of k h bs' ws') (enters.held ∙ add-one held)
        ∙ (λ i. table_ext (λ j. rule_of (get_or bs' j no_branch) (get_or ws' j k.zero)) (λ j. rule_of (get_or bs j no_branch) (get_or ws j k.zero)) held (λ j l. (λ z. rule_of (branch_before j l z) (weight_before j l z))) i ++ rule_of (branch_there i) (weight_there i) ∷ [])

    one_sound : AllSound d.size bs → AllSound d'.size bs'
    one_sound sound i l =
        let grows : d.size.n ≤ d'.size.n = omega (arith, enters.n, above_grows d.size.n (named b)) in
        below_more (λ j. Sound d'.size.n (get_or bs' j no_branch)) held
        (λ j m. subst (Sound d'.size.n) (sym (branch_before j m)) (sound_more d.size.n d'.size.n (get_or bs j no_branch) grows (sound j m)))
        (subst (Sound d'.size.n) (sym branch_there) (enters.asked.0, subst (λ z. AllByRecursion (λ m. m < z) (named b)) (sym enters.n) (all_below d.size.n (named b))))
        i (omega (arith, enters.held))

  pub loads_held :
      (items : List Placed) (ending : Ending) (d : Draft) (bs : List Branch) (ws : List K) (d' : Draft) (bs' : List Branch) (ws' : List K) (r : Result (Unit {0}) Fault) →
      Loads weight items ending d bs ws d' bs' ws' r →
      r ≡ Ok tt →
      Holds items d bs ws d' bs' ws'
  loads_held [] ending d bs ws d' bs' ws' r loads e = record {
    branches = ap length loads.2;
    weights = ap length loads.3;
    held = (λ i. rules_of k (loads.1 i).size.held (loads.2 i) (loads.3 i)) ∙ sym (append-nil (rules_of k d.size.held bs ws));
    n = ap (λ (x : Draft). x.size.n) loads.1;
    sound = subst₂ (λ (x : Draft) y. AllSound x.size y) (sym loads.1) (sym loads.2);
  }
  loads_held (item ∷ items) ending d bs ws d' bs' ws' r (inl away) e = let refused = away.1 in absurd cc
  loads_held (item ∷ items) ending d bs ws d' bs' ws' r (inr on) e =
      let b = item.branch in
      let enters = on.3 in
      let more = loads_held items ending on.0 on.1 on.2 d' bs' ws' r on.4 e in
      record {
        branches = more.branches ∙ (ap length enters.branches ∙ length-set bs d.size.held b);
        weights = more.weights ∙ (ap length enters.weights ∙ length-set ws d.size.held (weight b));
        held =
            more.held
            ∙ ap (λ l. l ++ rules weight items) (one_rule b d bs ws on.0 on.1 on.2 enters)
            ∙ append_assoc (rules_of k d.size.held bs ws) (rule_of b (weight b) ∷ []) (rules weight items);
        n = more.n ∙ ap (λ z. routines_from z items) enters.n;
        sound = λ sound. more.sound (one_sound b d bs ws on.0 on.1 on.2 enters sound);
      }

-- A branch in range is refused for nothing but want of room.
abbrev Full : {K : Type 0} → Draft → List Branch → List K → Type 0
Full d bs ws = (d.size.held < 200) × (d.size.held < length bs) × (d.size.held < length ws) → ⊥

room_only : {K : Type 0} (d : Draft) (b : Branch) (bs : List Branch) (ws : List K) (why : Refusal) → InRange b → Refused (enter_questions d b bs ws) why → (why ≡ Room) × Full d bs ws
room_only d b bs ws why range (inl h) = absurd (h.0 range.calls)
room_only d b bs ws why range (inr (_, inl h)) = absurd (h.0 range.routines)
room_only d b bs ws why range (inr (_, inr (_, inl h))) = absurd (h.0 (range.seconds, range.turn))
room_only d b bs ws why range (inr (_, inr (_, inr (_, inl h)))) = (h.1, h.0)
room_only d b bs ws why range (inr (_, inr (_, inr (_, inr h)))) = absurd h.1

full_at : (held a b : ℕ) → 200 ≤ a → 200 ≤ b → ((held < 200) × (held < a) × (held < b) → ⊥) → 200 ≤ held
full_at held a b room room' full = let no_room : held < 200 → ⊥ = λ l. full (l, omega arith, omega arith) in omega (arith, no_room)

module _ {K : Type 0} (weight : Branch → K) where
  loads_fault :
      (items : List Placed) (ending : Ending) (d : Draft) (bs : List Branch) (ws : List K) (d' : Draft) (bs' : List Branch) (ws' : List K) (r : Result (Unit {0}) Fault) →
      200 ≤ length bs →
      200 ≤ length ws →
      AllInRange items →
      Loads weight items ending d bs ws d' bs' ws' r →
      r ≡ ended_by (refused_or (drop (200 - d.size.held) items) ending)
  loads_fault [] ending d bs ws d' bs' ws' r room room' range loads = loads.0 ∙ ap (λ l. ended_by (refused_or l ending)) (sym (drop-nil (200 - d.size.held)))
  loads_fault (item ∷ items) ending d bs ws d' bs' ws' r room room' range (inl (fault, is, away)) =
      let only = room_only d item.branch bs ws away.why range.0 away.refused in
      let full = full_at d.size.held (length bs) (length ws) room room' only.1 in
      let none : 200 - d.size.held ≡ 0 = omega arith in
      is ∙ ap Err (away.fault_is ∙ ap (λ why. sheet_fault why item) only.0)
      ∙ ap (λ m. ended_by (refused_or (drop m (item ∷ items)) ending)) (sym none)
  loads_fault (item ∷ items) ending d bs ws d' bs' ws' r room room' range (inr (d₁, bs₁, ws₁, enters, rest)) =
      let left : 200 - d.size.held ≡ suc (200 - d₁.size.held) = omega (arith, enters.asked.1.1.1.0.0, enters.held) in
      loads_fault items ending d₁ bs₁ ws₁ d' bs' ws' r
      (omega (arith, ap length enters.branches, length-set bs d.size.held item.branch))
      (omega (arith, ap length enters.weights, length-set ws d.size.held (weight item.branch)))
      range.1 rest
      ∙ ap (λ m. ended_by (refused_or (drop m (item ∷ items)) ending)) (sym left)

-- an answer says which ending it was
no_ending : (ending : Ending) → Ok tt ≡ ended_by ending → ending ≡ None
no_ending None e = refl
no_ending (Some fault) e = absurd cc

that_ending : (ending : Ending) (fault : Fault) → Err fault ≡ ended_by ending → ending ≡ Some fault
that_ending None fault e = absurd cc
that_ending (Some other) fault e = cc

-- a script that is loaded into a new draft
module _ {K : Type 0} (k : Algebra K) (weight : Branch → K) (feed : Feed) (d : Draft) (bs : List Branch) (ws : List K) (d' : Draft) (bs' : List Branch) (ws' : List K) (r : Result (Unit {0}) Fault)
    (loads : Loads weight feed.items feed.ending d bs ws d' bs' ws' r) (empty : d.size.held ≡ 0) (first : d.size.n ≡ 0)
    (branches : 200 ≤ length bs) (weights : 200 ≤ length ws) (range : AllInRange feed.items)
  where
    fault_is : r ≡ ended_by (fault_of feed)
    fault_is =
        loads_fault weight feed.items feed.ending d bs ws d' bs' ws' r branches weights range loads
        ∙ ap (λ h. ended_by (refused_or (drop (200 - h) feed.items) feed.ending)) empty

    pub settles_not : (v : ℕ → K) (fault : Fault) (answer : Result ℕ Fault) → r ≡ Err fault → IsErrAnd answer (λ x. x ≡ fault) → Settles k weight feed v answer
    settles_not v fault answer was handed =
        let p = err_from_is_err_and answer handed in
        subst (Settles k weight feed v) (sym (p.1 ∙ ap Err p.2)) (that_ending (fault_of feed) fault (sym was ∙ fault_is))

    module _ (was : r ≡ Ok tt) where
      holds : Holds k weight feed.items d bs ws d' bs' ws'
      holds = loads_held k weight feed.items feed.ending d bs ws d' bs' ws' r loads was

      pub ready : (s : SlicesOf K) → s.branches ≡ bs' → s.weights ≡ ws' → 32 ≤ length s.values → 32 ≤ length s.column → 1024 ≤ length s.grid → HasRoom d'.size s × AllSound d'.size bs'
      ready s same same' values column grid =
          let size = d'.size in
          let few = size.routines in
          let held = size.branches in
          let squares = mul-le size.n size.n 32 32 few few in (
            record {
              branches = omega (arith, holds.branches, ap length same);
              weights = omega (arith, holds.weights, ap length same');
              values = omega arith;
              column = omega arith;
              grid = omega (arith, squares);
            },
            holds.sound (λ i l. absurd (omega arith)),
          )

      pub settles : (v : ℕ → K) (rounds : ℕ) → Settled k d'.size.n (rules_of k d'.size.held bs' ws') v rounds → Settles k weight feed v (Ok rounds)
      settles v rounds settled = (
        no_ending (fault_of feed) (sym was ∙ fault_is),
        subst₂ (λ n script. Settled k n script v rounds) (holds.n ∙ ap (λ n. routines_from n feed.items) first)
            (holds.held ∙ ap (λ h. rules_of k h bs ws ++ rules weight feed.items) empty) settled,
      )
