-- Which values are ids.
use Rattle.std.proofs.Common.{◌≡◌, refl}
use Rattle.std.specs.Prelude.{◌||◌, is_some}
use Rattle.serde_json.specs.Data.{Data, null, boolean, number, string, array, object}
use Rattle.serde_json.specs.Find.{as_null, as_number, as_str}
use Rattle.isp_server.specs.Deeds.{is_id}

pub id_tests : (d : Data) → is_id d ≡ (is_some (as_number d) || (is_some (as_str d) || is_some (as_null d)))
id_tests null = refl
id_tests (boolean b) = refl
id_tests (number n) = refl
id_tests (string s) = refl
id_tests (array ds) = refl
id_tests (object ms) = refl
