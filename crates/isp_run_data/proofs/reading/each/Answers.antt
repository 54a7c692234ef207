use Rattle.std.proofs.Common.{ℕ, ◌+◌, ◌<◌, List, [], length, take, get_or, sym, subst}
use Rattle.std.proofs.lemmas.Result.{err_from_is_err_and}
use Rattle.isp_run_data.specs.Loading.{EachGiven, IsGiven}
use Rattle.isp_run_data.proofs.Turns.{given_next}
use Rattle.isp_run_data.proofs.reading.each.Goals as goal
use Rattle.isp_run_words.specs.declared.given.Given.{Given}
use denote.Ref.{Bor}

pub returns-in_err-one-clause-err : goal.returns-in_err-one-clause-err
returns-in_err-one-clause-err g c =
    let p = err_from_is_err_and c.from_residual.result c.from_residual.ensures.1 in
    rw (p.1, p.2) (c.in_err-one.ensures.err c.args.request.now)

pub loop-word-preserved : goal.loop-word-preserved
loop-word-preserved g c =
    let has = g.F.DataFiles.has_bytes c.args.files.now in
    let ws = c.args.request.now.values.items in
    let i = c.loop-word.word-index in
    let nothing : Bor (List ℕ) = record { ref_ptr = (0, 0); now = [] } in
    let same = c.deref-word-items.ensures.value in
    let less = subst (λ (l : List (Bor (List ℕ))). i < length l) same c.loop-word-test.true in
    let one = subst (λ (l : List (Bor (List ℕ))). IsGiven has (get_or l i nothing).now c.in_ok-one.one) same c.in_ok-one.ensures.ok in
    subst (λ (l : List Given). EachGiven has (take (i + 1) ws) l) (sym c.in_ok-push.ensures.items)
    (given_next has ws c.loop-word.given.items i nothing c.in_ok-one.one less c.loop-word.invariant one)
