-- Why arrays do not go to files.
--     IsUnplanned q    a word is no output, or its array cannot be written so
--     IsUnwritten      a file cannot be written
use Rattle.isp_run_stops.specs.Stopping.{IsSlip}
use Rattle.isp_run_stops.specs.declared.stop.RunStop.{RunStop}
use Rattle.isp_run_stops.specs.declared.stop.RunStop.TheVariants.{BadWord, NotPlanned, CannotWrite, Memory}
use Rattle.isp_run_words.specs.declared.request.RunWords.{RunWords}

abbrev pub IsUnplanned : RunWords → RunStop → Type 0
IsUnplanned q (BadWord w s) = IsSlip q w.now s
IsUnplanned q (NotPlanned w e) = Unit {0}
IsUnplanned q Memory = Unit {0}
IsUnplanned q stop = ⊥

abbrev pub IsUnwritten : RunStop → Type 0
IsUnwritten (CannotWrite name) = Unit {0}
IsUnwritten Memory = Unit {0}
IsUnwritten stop = ⊥
