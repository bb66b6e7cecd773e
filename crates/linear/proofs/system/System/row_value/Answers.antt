use Rattle.std.proofs.Common.{sym, ◌∙◌, ap₂, arith}
use Rattle.std.proofs.lemmas.List.{get_or_read}
use Rattle.linear.proofs.Cells.{row_sum}
use Rattle.linear.proofs.system.System.row_value.Goals as goal

pub returns : goal.returns
returns g c =
    let k = g.K.Semiring.algebra in
    let s = c.args.self.now in
    c.sum.ensures ∙ ap₂ k.plus (c.sum_of_products.ensures ∙ row_sum k s.n c.args.r s.grid.now s.column.now c.requires s.fits.cells s.fits.places) (sym c.index-self-r.is ∙ get_or_read s.column.now c.args.r _ (omega (arith, s.fits.places)) c.index-self-r.is k.zero)
