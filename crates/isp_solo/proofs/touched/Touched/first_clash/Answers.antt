use Rattle.std.proofs.Common.{◌≡◌, sym, subst, ◌∙◌, ℕ, Some, None, length, arith}
use Rattle.std.specs.Prelude.{List}
use Rattle.isp_solo_run.specs.Touches.{FirstClash}
use Rattle.isp_solo_run.specs.declared.touches.Touch.{Touch}
use Rattle.isp_solo.specs.Touched.{FirstAt, touched_at}
use Rattle.isp_solo.proofs.Joining.{found_there, found_past, found_nowhere}
use Rattle.isp_solo.proofs.touched.Touched.first_clash.Goals as goal

pub returns-in-Some : goal.returns-in-Some
returns-in-Some c = found_there c.args.self.now c.in-Some.place (subst (λ (xs : List Touch). FirstClash xs (Some c.in-Some.place)) c.as_slice.ensures.value c.in-Some.ensures)

pub returns-then-is_clash : goal.returns-then-is_clash
returns-then-is_clash c =
    let n : length c.args.self.now.first.items ≡ c.len.result = omega (arith, c.len.ensures) in
    subst (λ (k : ℕ). FirstAt (touched_at c.args.self.now) (Some k)) n
    (found_past c.args.self.now (subst (λ (xs : List Touch). FirstClash xs None) c.as_slice.ensures.value c.in-None.ensures) (sym c.is_clash.ensures ∙ c.if-is_clash.true))

pub returns-else-is_clash : goal.returns-else-is_clash
returns-else-is_clash c =
    found_nowhere c.args.self.now (subst (λ (xs : List Touch). FirstClash xs None) c.as_slice.ensures.value c.in-None.ensures) (sym c.is_clash.ensures ∙ c.if-is_clash.false)
