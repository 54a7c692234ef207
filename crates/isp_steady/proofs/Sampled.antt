-- The samples are as their definitions compute.
use Rattle.std.proofs.Common.{refl}
use Rattle.std.specs.Fmt.{digits}
use Rattle.isp_base.specs.Values.{number_to, wrap_to}
use Rattle.isp_steady.specs.Samples.{WhichTheyAre, IndicesThatWrap, Conversions, ProgramsThatTell, SamplesTell}

which : WhichTheyAre
which =
    record {
      pixels = refl;
      its_scalar = refl;
      rows = refl;
      read_from = refl;
      least = refl;
      columns = refl;
      gathered = refl;
      own = refl;
      behind_it = refl;
      down = refl;
      twice = refl;
      doubled = refl;
      called = refl;
      sum_with_call = refl;
      summed = refl;
      loaded = refl;
    }

wrapping : IndicesThatWrap
unfolding number_to wrap_to
wrapping = record { wraps = refl; no_room = refl; just_room = refl; one_more = refl; signed = refl; signed_room = refl; below_zero = refl }

conversions : Conversions
unfolding number_to wrap_to
conversions = record { cut = refl; cut_values = refl; cut_ends = refl; cut_room = refl; widened = refl; widened_values = refl; widened_counts = refl; truth = refl }

programs : ProgramsThatTell
unfolding digits number_to wrap_to
programs = record { never_assigned = refl; assigned_again = refl; differ = refl; assigned_unmasked = refl; unmasked = refl; calls_differ = refl }

pub samples_tell : SamplesTell
samples_tell = record { which = which; wrapping = wrapping; conversions = conversions; programs = programs }
