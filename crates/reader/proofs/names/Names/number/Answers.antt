use Rattle.std.proofs.Common.{Some, map, sym, subst₂, ap, rules}
use Rattle.reader.specs.Known.{known, Numbered}
use Rattle.reader.proofs.Known.{met_before, no_room, met_last}
use Rattle.reader.proofs.names.Names.number.Goals as goal

pub returns-in-Some : goal.returns-in-Some
returns-in-Some c =
    let t = c.args.self.now in
    met_before t.met.items c.args.word c.in-Some.place t.few (sym c.in-Some.ensures)

pub returns-then-is_full : goal.returns-then-is_full
returns-then-is_full c = no_room c.args.self.now.met.items c.args.word (sym c.in_default.ensures) (search rules)

pub returns : goal.returns
returns c =
    let t = c.args.self.now in
    subst₂ (λ n after. Numbered (known t) c.args.word.now (Some n) after) (sym c.len-place.ensures.value) (ap (map (λ name. name.now)) (sym c.push.ensures.items))
    (met_last t.met.items c.args.word (sym c.in_default.ensures) (search rules))
