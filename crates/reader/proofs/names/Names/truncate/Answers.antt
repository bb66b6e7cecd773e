use Rattle.std.proofs.Common.{map, sym, ap, ◌∙◌}
use Rattle.std.proofs.lemmas.List.{take-map}
use Rattle.reader.proofs.names.Names.truncate.Goals as goal

pub returns : goal.returns
returns c = ap (map (λ name. name.now)) c.truncate.ensures.items ∙ sym (take-map (λ name. name.now) c.args.count c.args.self.now.met.items)
