use Rattle.std.proofs.Common.{refl, sym, false}
use Rattle.isp_base.specs.Maps.{lane_of}
use Rattle.isp_base.specs.Sets.{flag_of}
use Rattle.isp_lanes.proofs.Failing.{all_fine}
use Rattle.isp_cells.proofs.elements.ElementsSource.first_outside.Goals as goal

pub returns : goal.returns
returns g c = sym (all_fine (λ x. false) (flag_of c.args._mask.now) (lane_of c.args._places.now) g.row.N (λ p h. refl))
