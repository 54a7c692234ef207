-- What instances do alone on the sample, computed from the definition.
use Rattle.std.proofs.Common.{refl}
use Rattle.isp_base.specs.Values.{number_to, wrap_to}
use Rattle.isp_solo_meaning.specs.Samples.{InstancesOfSamples}

pub instances_of_samples : InstancesOfSamples
unfolding number_to wrap_to
instances_of_samples = record { wrote = refl; wrote_no_other = refl; read = refl; read_no_other = refl; upward = refl; downward = refl }
