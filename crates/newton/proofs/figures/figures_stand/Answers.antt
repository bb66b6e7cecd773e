use Rattle.kinds.specs.Figures.{figures as kinds_figures}
use Rattle.newton.specs.Figures.{sheet_figures}
use Rattle.newton.proofs.Scripts.{hold_all, sheet_figures_hold}
use Rattle.newton.proofs.figures.figures_stand.Goals as goal

pub returns : goal.returns
returns c = hold_all kinds_figures sheet_figures c.figures_stand.ensures sheet_figures_hold
