-- Statements after which all of the set go on: values, calls, assignments and declarations.
use Rattle.std.specs.Prelude.{ℕ, List, [], ◌∷◌, Option, Some, None, if◌then◌else◌}
use Rattle.isp_base.specs.Access.{is_zero}
use Rattle.isp_base.specs.Sets.{Mask}
use Rattle.isp_base.specs.Maps.{put}
use Rattle.isp_base.specs.Values.{op_bits}
use Rattle.isp_base.specs.declared.operators.BinOp.{BinOp}
use Rattle.isp_base.specs.declared.types.Elem.{Elem}
use Rattle.isp_base.specs.declared.types.Rate.{Rate}
use Rattle.isp_base.specs.declared.types.Rate.TheVariants.{Uniform, Varying}
use Rattle.isp_base.specs.declared.types.Span.{Span}
use Rattle.isp_base.specs.declared.trap.TrapKind.TheVariants.{Divide, Index}
use Rattle.isp_typed.specs.Typed.{TPlace, place_type, place_span, TItem, t_plain, t_with_value, t_with_size, TSimple, t_value, t_run, t_assign, t_update, t_step, TFirst, t_first_declare, t_first_simple}
use Rattle.isp_meaning.specs.State.{State, Frame, tick}
use Rattle.isp_meaning.specs.Payloads.{Payload, One, mapped, joined, converted, offender}
use Rattle.isp_meaning.specs.Outcomes.{Val, Gives, Done, bind, checked}
use Rattle.isp_meaning.specs.Places.{Place, written, outside, held, kept}
use Rattle.isp_meaning.specs.Expressions.{Calls, value, place, call}

-- where a loop has no step
abbrev pub no_step : Mask → State → Val Done
no_step a s = Gives tt s

-- a declared array begins with zeros: a shared one whole, of the others that of each member
abbrev pub cleared : Frame → Rate → ℕ → Mask → State → State
cleared frame Uniform v a s = record s { arrays = put s.arrays (frame.named v) (λ e. 0) }
cleared frame Varying v a s = record s { own = put s.own v (λ e p. if a p then 0 else s.own v e p) }

module _ (gang : ℕ) (frame : Frame) (calls : Calls) where
  -- An operator on what a place holds, converted to the type it works in, and an operand: the place is read, the result
  -- is stored in the place's own type. The index was checked when the place was read.
  abbrev pub update : BinOp → Elem → TPlace → Place → Payload → Span → Mask → State → Val Done
  update op t p q y span a s =
      bind (checked (outside gang frame q a) Index (place_span p) s (held gang frame q a s)) (λ x s1.
      bind (checked (offender gang (is_zero op t) a y) Divide span s1 (joined (op_bits op t) a (mapped (converted (place_type p).elem t) x) y)) (λ z s2.
      Gives tt (kept gang frame q a (mapped (converted t (place_type p).elem) z) s2)))

  -- the statement counts, then the target: its index goes first, then the right side, then the access
  abbrev pub simple : TSimple → Mask → State → Val Done
  simple (t_value x) a s = bind (value gang frame calls x a (tick s)) (λ m s1. Gives tt s1)
  simple (t_run c) a s = bind (call gang frame calls c a (tick s)) (λ m s1. Gives tt s1)
  simple (t_assign p x span) a s =
      bind (place gang frame calls p a (tick s)) (λ q s1.
      bind (value gang frame calls x a s1) (λ m s2.
      bind (checked (outside gang frame q a) Index (place_span p) s2 m) (λ n s3.
      Gives tt (kept gang frame q a n s3))))
  simple (t_update op t p x span) a s =
      bind (place gang frame calls p a (tick s)) (λ q s1.
      bind (value gang frame calls x a s1) (λ y s2.
      update op t p q y span a s2))
  simple (t_step op t p span) a s =
      bind (place gang frame calls p a (tick s)) (λ q s1. update op t p q (One 1) span a s1)

  -- an item counts when it is reached; without a value it is set to 0
  abbrev pub item : TItem → Mask → State → Val Done
  item (t_plain v t span) a s = Gives tt (written t.rate v a (One 0) (tick s))
  item (t_with_value v t x span) a s = bind (value gang frame calls x a (tick s)) (λ m s1. Gives tt (written t.rate v a m s1))
  item (t_with_size b span) a s = Gives tt (cleared frame b.ty.rate b.number a (tick s))

  abbrev pub items : List TItem → Mask → State → Val Done
  items [] a s = Gives tt s
  items (x ∷ xs) a s = bind (item x a s) (λ _ s1. items xs a s1)

  -- the first part of a `for`, and its step, where there is one
  abbrev pub first_part : Option TFirst → Mask → State → Val Done
  first_part None a s = Gives tt s
  first_part (Some (t_first_declare xs span)) a s = items xs a (tick s)
  first_part (Some (t_first_simple x)) a s = simple x a s

  abbrev pub step_part : Option TSimple → Mask → State → Val Done
  step_part None a s = no_step a s
  step_part (Some x) a s = simple x a s
