-- How it is shown that a run does not begin.
use Rattle.std.specs.Prelude.{ℕ, List, codes}
use Rattle.isp_machine.specs.declared.stop.StartFault.{StartFault}
use Rattle.isp_machine.specs.declared.stop.StartFault.TheVariants.{Memory, NoEntry}

abbrev pub start_text : StartFault → List ℕ
start_text Memory = codes "memory"
start_text NoEntry = codes "50 NoEntry"
