-- What takes part of all instances does the same, whoever came.
use Rattle.std.proofs.Common.{refl, ◌+◌, List, [], ◌∷◌}
use Rattle.isp_base.specs.Sets.{Mask, everyone}
use Rattle.isp_meaning.specs.Outcomes.{Val, Gives, Fails, Stops, Res, Went, Trapped, Cut, with_value, go_on, went_all}
use Rattle.isp_meaning.specs.Rounds.{Range, Round, rounds, foreach_rounds, counted}
use Rattle.isp_meaning.specs.State.{State, tick}
use Rattle.isp_meaning.specs.Statements.{ranges, run, block}
use Rattle.isp_meaning_laws.specs.Everybody.{AllGoOn, WhoeverComes}

all_rounds : (body : Mask → State → Res) (a b : Mask) (xs : List Round) (s : State) → AllGoOn a (rounds body a xs s) (rounds body b xs s)
all_rounds body a b [] s = refl
all_rounds body a b (x ∷ xs) s = go (body x.members (x.begins s)) (λ t. all_rounds body a b xs t) where
  go : (v : Res) → ((t : State) → AllGoOn a (rounds body a xs t) (rounds body b xs t))
      → AllGoOn a (go_on v (λ s1 g b1 c r. rounds body a xs s1)) (go_on v (λ s1 g b1 c r. rounds body b xs s1))
  go (Went s1 g b1 c r) h = h s1
  go (Trapped e s1) h = (refl, refl)
  go (Cut s1) h = refl

both_after : (a : Mask) (v : Val (List Range)) (go to : List Range → State → Res) → ((xs : List Range) (s : State) → AllGoOn a (go xs s) (to xs s)) → AllGoOn a (with_value v go) (with_value v to)
both_after a (Gives xs s) go to h = h xs s
both_after a (Fails e s) go to h = (refl, refl)
both_after a (Stops s) go to h = refl

all_of_block : (a b : Mask) (v : Res) → AllGoOn a (go_on v (λ s1 g b1 c r. went_all a s1)) (go_on v (λ s1 g b1 c r. went_all b s1))
all_of_block a b (Went s1 g b1 c r) = refl
all_of_block a b (Trapped e s1) = (refl, refl)
all_of_block a b (Cut s1) = refl

as_it : (a : Mask) (v : Res) → AllGoOn a (go_on v (λ s1 g b1 c r. went_all a s1)) v
as_it a (Went s1 g b1 c r) = refl
as_it a (Trapped e s1) = (refl, refl)
as_it a (Cut s1) = refl

pub whoever_comes : WhoeverComes
whoever_comes = record {
  foreach = λ gang frame calls most w k rs x sp a b s h.
      rw h (both_after a (ranges gang frame calls rs b (tick s)) _ _
      (λ xs s1. all_rounds (run gang frame calls most x) a b (foreach_rounds gang xs) (record s1 { work = s1.work + counted gang 1 xs })));
  unmasked = λ gang frame calls most w x sp a b s. all_of_block a b (block gang frame calls most x (everyone gang) (tick s));
  as_block = λ gang frame calls most w x sp a s. as_it a (block gang frame calls most x (everyone gang) (tick s));
}
