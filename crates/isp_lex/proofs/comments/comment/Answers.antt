use Rattle.std.proofs.Common.{◌≡◌, true, length, drop, ap, arith, rules}
use Rattle.isp_lex.specs.Bytes.{is_line_byte, next_is}
use Rattle.isp_lex.specs.reader.Runs.{run}
use Rattle.isp_lex.proofs.CommentLaws.{closed_front, line_front, open_cut, open_fault, two_split}
use Rattle.isp_lex.proofs.Runs.{run_le}
use Rattle.isp_lex.proofs.comments.comment.Goals as goal

pub overflow_add-result : goal.overflow_add-result
overflow_add-result c =
    let text = c.args.text.now in
    let f : next_is 47 (drop 1 text) ≡ true = search rules in
    let n : c.line_len.result ≡ run is_line_byte (drop 2 text) = search rules in
    omega (arith, run_le is_line_byte (drop 2 text), ap length (two_split 47 47 text c.requires.slash f))

pub returns-then-has-clause-ok : goal.returns-then-has-clause-ok
returns-then-has-clause-ok c =
    let text = c.args.text.now in
    let f : next_is 47 (drop 1 text) ≡ true = search rules in
    let n : c.line_len.result ≡ run is_line_byte (drop 2 text) = search rules in
    rw n (line_front text c.requires.slash f)

pub range_from-requires : goal.range_from-requires
range_from-requires c = λ l.
    let text = c.args.text.now in
    let f : next_is 42 (drop 1 text) ≡ true = search rules in
    open_cut text c.utf8.text c.requires.slash f

pub returns-in-Some-clause-ok : goal.returns-in-Some-clause-ok
returns-in-Some-clause-ok c =
    let text = c.args.text.now in
    let f : next_is 42 (drop 1 text) ≡ true = search rules in
    let s = two_split 47 42 text c.requires.slash f in
    let h = rw c.range_from.ensures.value at c.in-Some.ensures.cases in
    closed_front text (drop 2 text) c.in-Some.at h.0 s h.1 h.4

pub returns-in-None-clause-err : goal.returns-in-None-clause-err
returns-in-None-clause-err c =
    let text = c.args.text.now in
    let f : next_is 42 (drop 1 text) ≡ true = search rules in
    let s = two_split 47 42 text c.requires.slash f in
    let h = rw c.range_from.ensures.value at c.in-None.ensures.cases in
    rw c.refused.ensures (open_fault c.args.place text (drop 2 text) s h)
