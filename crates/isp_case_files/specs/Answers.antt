-- When an answer is as it is wanted: each array that is wanted is there, with the same elements, and the result is the same.
-- Elements and results are whole numbers and truths. No result is `null`.
use Rattle.std.specs.Prelude.{◌&&◌, ◌||◌, ℕ, ℤ, List, Bool, true, false, codes, Option, Some, None, option_and_then, is_some}
use Rattle.std.specs.Ordering.{int_eq}
use Rattle.serde_json.specs.Data.{Data, Items, no_items, item, Members, no_members, member}
use Rattle.serde_json.specs.Find.{as_array, as_bool, as_integer, as_null, as_number, get}
use Rattle.serde_json.specs.Read.{read}
use Rattle.isp_case_files.specs.declared.case.Verdict.{Verdict}
use Rattle.isp_case_files.specs.declared.case.Verdict.TheVariants.{Holds, Differs}

-- ---- one value

abbrev pub whole : Data → Option ℤ
whole d = option_and_then as_integer (as_number d)

abbrev pub same_wholes : Option ℤ → Option ℤ → Bool
same_wholes (Some w) (Some f) = int_eq w f
same_wholes w f = false

abbrev pub same_bits : Bool → Bool → Bool
same_bits true f = f
same_bits false true = false
same_bits false false = true

abbrev pub same_truths : Option Bool → Option Bool → Bool
same_truths (Some w) (Some f) = same_bits w f
same_truths w f = false

abbrev pub same : Data → Data → Bool
same w f = same_wholes (whole w) (whole f) || same_truths (as_bool w) (as_bool f) || (is_some (as_null w) && is_some (as_null f))

-- ---- arrays

abbrev pub same_items : Items → Items → Bool
same_items no_items no_items = true
same_items no_items (item f fs) = false
same_items (item w ws) no_items = false
same_items (item w ws) (item f fs) = same w f && same_items ws fs

abbrev pub same_arrays : Option Items → Option Items → Bool
same_arrays (Some ws) (Some fs) = same_items ws fs
same_arrays ws fs = false

-- an array, and what was found under its name
abbrev pub same_found : Data → Option Data → Bool
same_found w None = false
same_found w (Some f) = same_arrays (as_array w) (as_array f)

-- the array of this name in an answer
abbrev pub array_in : List ℕ → Data → Option Data
array_in k d = option_and_then (get k) (get (codes "arrays") d)

abbrev pub agree_arrays : Members → Data → Bool
agree_arrays no_members d = true
agree_arrays (member k w ms) d = same_found w (array_in k d) && agree_arrays ms d

-- ---- answers

abbrev pub agree_result : Option Data → Option Data → Bool
agree_result None None = true
agree_result None (Some f) = is_some (as_null f)
agree_result (Some w) None = is_some (as_null w)
agree_result (Some w) (Some f) = same w f

abbrev pub agrees : Members → Option Data → Data → Bool
agrees arrays result d = agree_arrays arrays d && agree_result result (get (codes "result") d)

abbrev pub agrees_read : Members → Option Data → Option Data → Bool
agrees_read arrays result None = false
agrees_read arrays result (Some d) = agrees arrays result d

-- the text of an answer is as it is wanted
abbrev pub answers : Members → Option Data → List ℕ → Bool
answers arrays result text = agrees_read arrays result (read text)

abbrev pub is_held : Verdict → Bool
is_held Holds = true
is_held (Differs what) = false
