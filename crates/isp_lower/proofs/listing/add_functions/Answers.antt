use Rattle.std.proofs.Common.{◌≡◌, ◌∷◌, map, true, sym, ap, ◌∙◌}
use Rattle.std.specs.List.{list_all}
use Rattle.std.proofs.lemmas.Bool.{and_parts}
use Rattle.isp_code.specs.Writable.{parts_fit}
use Rattle.isp_lower_code.specs.Lines.{has_small_numbers}
use Rattle.isp_lower.specs.Drafts.{routine_in}
use Rattle.isp_lower_code.proofs.Lemmas.{differ}
use Rattle.isp_lower.proofs.listing.add_functions.Goals as goal
