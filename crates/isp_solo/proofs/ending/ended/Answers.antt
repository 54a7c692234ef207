use Rattle.std.proofs.Common.{ap, subst, ◌∙◌, Some, None, ℕ, List}
use Rattle.isp_meaning.specs.Payloads.{One}
use Rattle.isp_meaning.specs.Runs.{answer_as}
use Rattle.isp_solo.specs.Touched.{FirstOfAll, touched_seen}
use Rattle.isp_solo.specs.declared.touched.Touched.{Touched}
use Rattle.isp_solo.proofs.Clashing.{apart_all, clash_first}
use Rattle.isp_solo.proofs.ending.ended.Goals as goal

pub returns-in-Some : goal.returns-in-Some
returns-in-Some c = λ gang run rs some t. (
  t.end,
  (
    c.in-Some.store,
    clash_first run gang (touched_seen c.args.together.touched.items) t.touched c.in-Some.store c.in-Some.element
        (subst (λ (xs : List Touched). FirstOfAll (touched_seen xs) (Some (c.in-Some.store, c.in-Some.element))) c.as_slice.ensures.value c.in-Some.ensures),
    c.place_of.ensures,
  ),
)

pub returns-in-None : goal.returns-in-None
returns-in-None c = λ gang run rs some t. (
  t.end,
  apart_all run gang (touched_seen c.args.together.touched.items) t.touched (subst (λ (xs : List Touched). FirstOfAll (touched_seen xs) None) c.as_slice.ensures.value c.in-None.ensures),
  t.arrays,
  c.answer.ensures ∙ ap (λ (v : ℕ). answer_as c.args.gives (One v)) (t.given some),
)
