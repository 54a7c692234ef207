-- Texts that are written piece by piece.
use Rattle.std.proofs.Common.{◌≡◌, ℕ, List, [], ◌++◌, length, map}
use Rattle.std.specs.Prelude.{codes}
use Rattle.std.specs.Fmt.{decimal}
use Rattle.isp_base.specs.Prints.{comma}
use Rattle.isp_base.specs.Types.{gang_width}
use Rattle.isp_code.specs.Listing.{Listing}
use Rattle.isp_traces.specs.Tallies.{lanes_of}
use Rattle.isp_traces.specs.Texts.{counts_text, kind_names, member_text, members_text, routine_name, tally_text}
use Rattle.isp_traces.specs.declared.tallies.Counts.{Counts}
use Rattle.isp_traces.specs.declared.tallies.Tally.{Tally}
use Rattle.isp_traces.proofs.Words.{one_more}

pub tally_pushed : (n : ℕ) (t : Tally) (old t1 t2 t3 t4 t5 t6 t7 t8 : List ℕ)
    → t1 ≡ old ++ codes "\"instructions\":" → t2 ≡ t1 ++ decimal t.instructions → t3 ≡ t2 ++ codes ",\"masked\":" → t4 ≡ t3 ++ decimal t.masked
    → t5 ≡ t4 ++ codes ",\"lanes_on\":" → t6 ≡ t5 ++ decimal t.lanes_on → t7 ≡ t6 ++ codes ",\"lanes\":" → t8 ≡ t7 ++ decimal (lanes_of n t) → t8 ≡ old ++ tally_text n t
tally_pushed n t old t1 t2 t3 t4 t5 t6 t7 t8 h1 h2 h3 h4 h5 h6 h7 h8 =
    let s1 : List ℕ = codes "\"instructions\":" in
    let s2 : List ℕ = s1 ++ decimal t.instructions in
    let s3 : List ℕ = s2 ++ codes ",\"masked\":" in
    let s4 : List ℕ = s3 ++ decimal t.masked in
    let s5 : List ℕ = s4 ++ codes ",\"lanes_on\":" in
    let s6 : List ℕ = s5 ++ decimal t.lanes_on in
    let s7 : List ℕ = s6 ++ codes ",\"lanes\":" in
    let e2 = one_more old s1 t1 t2 (decimal t.instructions) h1 h2 in
    let e3 = one_more old s2 t2 t3 (codes ",\"masked\":") e2 h3 in
    let e4 = one_more old s3 t3 t4 (decimal t.masked) e3 h4 in
    let e5 = one_more old s4 t4 t5 (codes ",\"lanes_on\":") e4 h5 in
    let e6 = one_more old s5 t5 t6 (decimal t.lanes_on) e5 h6 in
    let e7 = one_more old s6 t6 t7 (codes ",\"lanes\":") e6 h7 in
    one_more old s7 t7 t8 (decimal (lanes_of n t)) e7 h8

pub member_pushed : (n k : ℕ) (name : List ℕ) (t : Tally) (old t1 t2 t3 t4 t5 t6 : List ℕ)
    → t1 ≡ old ++ comma k → t2 ≡ t1 ++ codes "\"" → t3 ≡ t2 ++ name → t4 ≡ t3 ++ codes "\":{" → t5 ≡ t4 ++ tally_text n t → t6 ≡ t5 ++ codes "}"
    → t6 ≡ old ++ member_text n k name t
member_pushed n k name t old t1 t2 t3 t4 t5 t6 h1 h2 h3 h4 h5 h6 =
    let s1 : List ℕ = comma k in
    let s2 : List ℕ = s1 ++ codes "\"" in
    let s3 : List ℕ = s2 ++ name in
    let s4 : List ℕ = s3 ++ codes "\":{" in
    let s5 : List ℕ = s4 ++ tally_text n t in
    let e2 = one_more old s1 t1 t2 (codes "\"") h1 h2 in
    let e3 = one_more old s2 t2 t3 name e2 h3 in
    let e4 = one_more old s3 t3 t4 (codes "\":{") e3 h4 in
    let e5 = one_more old s4 t4 t5 (tally_text n t) e4 h5 in
    one_more old s5 t5 t6 (codes "}") e5 h6

pub counts_pushed : (code : Listing) (counts : Counts) (t1 t2 t3 t4 t5 t6 t7 : List ℕ)
    → t1 ≡ codes "{" → t2 ≡ t1 ++ tally_text (gang_width code.gang) counts.total → t3 ≡ t2 ++ codes ",\"functions\":{"
    → t4 ≡ t3 ++ members_text (gang_width code.gang) (map routine_name code.routines) counts.functions.items (length code.routines) → t5 ≡ t4 ++ codes "},\"kinds\":{"
    → t6 ≡ t5 ++ members_text (gang_width code.gang) kind_names counts.kinds.items 8 → t7 ≡ t6 ++ codes "}}\n" → t7 ≡ counts_text code counts
counts_pushed code counts t1 t2 t3 t4 t5 t6 t7 h1 h2 h3 h4 h5 h6 h7 =
    let w : ℕ = gang_width code.gang in
    let p2 : List ℕ = tally_text w counts.total in
    let p4 : List ℕ = members_text w (map routine_name code.routines) counts.functions.items (length code.routines) in
    let p6 : List ℕ = members_text w kind_names counts.kinds.items 8 in
    let s1 : List ℕ = codes "{" in
    let s2 : List ℕ = s1 ++ p2 in
    let s3 : List ℕ = s2 ++ codes ",\"functions\":{" in
    let s4 : List ℕ = s3 ++ p4 in
    let s5 : List ℕ = s4 ++ codes "},\"kinds\":{" in
    let s6 : List ℕ = s5 ++ p6 in
    let e2 = one_more [] s1 t1 t2 p2 h1 h2 in
    let e3 = one_more [] s2 t2 t3 (codes ",\"functions\":{") e2 h3 in
    let e4 = one_more [] s3 t3 t4 p4 e3 h4 in
    let e5 = one_more [] s4 t4 t5 (codes "},\"kinds\":{") e4 h5 in
    let e6 = one_more [] s5 t5 t6 p6 e5 h6 in
    one_more [] s6 t6 t7 (codes "}}\n") e6 h7
