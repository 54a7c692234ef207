-- Statements after which the instance goes on: values, calls, assignments and declarations.
use Rattle.std.specs.Prelude.{ℕ, List, [], ◌∷◌, Option, Some, None}
use Rattle.isp_base.specs.Access.{is_zero}
use Rattle.isp_base.specs.Values.{op_bits}
use Rattle.isp_base.specs.declared.operators.BinOp.{BinOp}
use Rattle.isp_base.specs.declared.types.Elem.{Elem}
use Rattle.isp_base.specs.declared.types.Span.{Span}
use Rattle.isp_base.specs.declared.trap.TrapKind.TheVariants.{Divide, Index}
use Rattle.isp_typed.specs.Typed.{TPlace, place_type, place_span, TItem, t_plain, t_with_value, t_with_size, TSimple, t_value, t_run, t_assign, t_update, t_step, TFirst, t_first_declare, t_first_simple}
use Rattle.isp_meaning.specs.State.{Frame}
use Rattle.isp_meaning.specs.Payloads.{converted}
use Rattle.isp_solo_meaning.specs.Alone.{Alone, written}
use Rattle.isp_solo_meaning.specs.Answers.{Answer, Has, Done, and_then, unless}
use Rattle.isp_solo_meaning.specs.Places.{Spot, outside, kept, cleared}
use Rattle.isp_solo_meaning.specs.Values.{OwnCalls, held, answer, spot, answer_call}

module _ (m : ℕ → ℕ → ℕ) (p : ℕ) (frame : Frame) (calls : OwnCalls) where
  -- an operator on what a place holds and an operand j: the place is read, and written in its own type
  abbrev pub update : BinOp → Elem → TPlace → Spot → ℕ → Span → Alone → Answer Done
  update op t q r j sp s =
      and_then (held m p frame (place_span q) r s)
      (λ i s1. and_then (unless (is_zero op t j) Divide sp p s1 (op_bits op t (converted (place_type q).elem t i) j))
      (λ k s2. Has tt (kept frame r (converted t (place_type q).elem k) s2)))

  -- the index of the target goes first, then the right side, then the access
  abbrev pub simple : TSimple → Alone → Answer Done
  simple (t_value x) s = and_then (answer m p frame calls x s) (λ i s1. Has tt s1)
  simple (t_run c) s = and_then (answer_call m p frame calls c s) (λ i s1. Has tt s1)
  simple (t_assign q x sp) s =
      and_then (spot m p frame calls q s) (λ r s1. and_then (answer m p frame calls x s1) (λ i s2. and_then (unless (outside frame r) Index (place_span q) p s2 i) (λ j s3. Has tt (kept frame r j s3))))
  simple (t_update op t q x sp) s =
      and_then (spot m p frame calls q s) (λ r s1. and_then (answer m p frame calls x s1) (λ j s2. update op t q r j sp s2))
  simple (t_step op t q sp) s = and_then (spot m p frame calls q s) (λ r s1. update op t q r 1 sp s1)

  -- without a value it is set to 0
  abbrev pub item : TItem → Alone → Answer Done
  item (t_plain v t sp) s = Has tt (written t.rate v 0 s)
  item (t_with_value v t x sp) s = and_then (answer m p frame calls x s) (λ i s1. Has tt (written t.rate v i s1))
  item (t_with_size b sp) s = Has tt (cleared frame b.ty.rate b.number s)

  abbrev pub items : List TItem → Alone → Answer Done
  items [] s = Has tt s
  items (x ∷ xs) s = and_then (item x s) (λ _ s1. items xs s1)

  -- the first part of a `for`, and its step, where there is one
  abbrev pub first_part : Option TFirst → Alone → Answer Done
  first_part None s = Has tt s
  first_part (Some (t_first_declare xs sp)) s = items xs s
  first_part (Some (t_first_simple x)) s = simple x s

  abbrev pub step_part : Option TSimple → Alone → Answer Done
  step_part None s = Has tt s
  step_part (Some x) s = simple x s
