-- What was seen of statements, one more at a time.
use Rattle.std.proofs.Common.{◌≡◌, ℕ, ◌+◌, ◌<◌, List, [], ◌∷◌, ◌++◌, length, sym, ap, ◌∙◌, append_assoc, take, drop, get_or}
use Rattle.std.specs.Prelude.{slice_set}
use Rattle.std.proofs.Math.Seq.{take-append_seam, drop-append_seam, set-append_seam}
use Rattle.std.proofs.lemmas.List.{drop_more, take-append-drop}
use Rattle.isp_typed.specs.Typed.{t_stmts}
use Rattle.isp_typed.specs.Views.{stmt_of, stmts_of}
use Rattle.isp_typed.specs.declared.stmt.TypedStmt.{TypedStmt}
use Rattle.isp_masks.specs.declared.seen.Seen.{Seen}
use Rattle.isp_masks.specs.reader.Seen.{all_seen, seen_of}

-- a place that was kept in front of others is filled
pub filled : (old parts : List Seen) (room x : Seen) → slice_set ((old ++ room ∷ []) ++ parts) (length old) x ≡ old ++ x ∷ parts
filled old parts room x =
    ap (λ z. slice_set z (length old) x) (append_assoc old (room ∷ []) parts) ∙ set-append_seam old room parts x

-- a list that begins with another
pub begun : (xs seen : List Seen) → take (length xs) seen ≡ xs → seen ≡ xs ++ drop (length xs) seen
begun xs seen is = sym (take-append-drop (length xs) seen) ∙ ap (λ z. z ++ drop (length xs) seen) is

pub begins : (xs ys seen : List Seen) → seen ≡ xs ++ ys → take (length xs) seen ≡ xs
begins xs ys seen is = ap (take (length xs)) is ∙ take-append_seam xs ys

pub rests : (xs ys seen : List Seen) → seen ≡ xs ++ ys → drop (length xs) seen ≡ ys
rests xs ys seen is = ap (drop (length xs)) is ∙ drop-append_seam xs ys

-- of a list of statements
pub seen_more : (items : List TypedStmt) (i : ℕ) (x : TypedStmt) → i < length items → x ≡ get_or items i x
    → all_seen (t_stmts (stmts_of (drop i items))) ≡ seen_of (stmt_of x) ++ all_seen (t_stmts (stmts_of (drop (i + 1) items)))
seen_more items i x lt is =
    ap (λ z. all_seen (t_stmts (stmts_of z))) (drop_more items i x lt)
    ∙ ap (λ z. seen_of (stmt_of z) ++ all_seen (t_stmts (stmts_of (drop (i + 1) items)))) (sym is)

pub seen_begins : (items : List TypedStmt) (i : ℕ) (x : TypedStmt) (seen : List Seen) → i < length items → x ≡ get_or items i x
    → seen ≡ all_seen (t_stmts (stmts_of (drop i items))) → take (length (seen_of (stmt_of x))) seen ≡ seen_of (stmt_of x)
seen_begins items i x seen lt is all =
    begins (seen_of (stmt_of x)) (all_seen (t_stmts (stmts_of (drop (i + 1) items)))) seen (all ∙ seen_more items i x lt is)

pub seen_rest : (items : List TypedStmt) (i : ℕ) (x : TypedStmt) (seen rest : List Seen) → i < length items → x ≡ get_or items i x
    → seen ≡ all_seen (t_stmts (stmts_of (drop i items))) → rest ≡ drop (length (seen_of (stmt_of x))) seen
    → rest ≡ all_seen (t_stmts (stmts_of (drop (i + 1) items)))
seen_rest items i x seen rest lt is all split =
    split ∙ rests (seen_of (stmt_of x)) (all_seen (t_stmts (stmts_of (drop (i + 1) items)))) seen (all ∙ seen_more items i x lt is)
