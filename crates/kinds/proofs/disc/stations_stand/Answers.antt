use Rattle.std.proofs.Common.{false, eqb, sym, ◌∙◌, ⊎_elim}
use Rattle.std.proofs.lemmas.Bool.{false≢true, eqb-true, eq-eqb}
use Rattle.kinds.specs.Disc.{divisor}
use Rattle.kinds.specs.Laws.Disc.{same_stations, has_stations, in_either, in_left, in_right, times_gives, in_times}
use Rattle.kinds.specs.Laws.Star.{in_multiples, multiples_give, divisor_common, divisor_greatest}
use Rattle.kinds.proofs.disc.stations_stand.Goals as goal

pub returns : goal.returns
returns c = record {
  same = same_stations;
  none = λ t h e. false≢true (sym (has_stations (λ t. false) t h) ∙ e);
  lone = λ s t h. (λ e. eqb-true t s (sym (has_stations (λ t. eqb t s) t h) ∙ e), λ e. has_stations (λ t. eqb t s) t h ∙ eq-eqb t s e);
  union = λ a b t h. (in_either a b t h, ⊎_elim (in_left a b t h) (in_right a b t h));
  product = λ a b t h. (times_gives a b t h, λ m. in_times a b m.from m.by t m.from_below m.by_below m.left m.right m.reaches);
  multiples = λ d t h. (multiples_give (divisor d) t h, in_multiples (divisor d) t h);
  divides = divisor_common;
  greatest = divisor_greatest;
}
