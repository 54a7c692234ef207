-- Assignments and declarations by the set of one instance, and by that instance alone.
use Rattle.std.proofs.Common.{ℕ, ◌<◌, inl, refl}
use Rattle.std.specs.Prelude.{List, [], ◌∷◌, Option, Some, None}
use Rattle.isp_base.specs.Access.{is_zero}
use Rattle.isp_base.specs.Sets.{lone}
use Rattle.isp_base.specs.Values.{op_bits}
use Rattle.isp_base.specs.declared.operators.BinOp.{BinOp}
use Rattle.isp_base.specs.declared.types.Elem.{Elem}
use Rattle.isp_base.specs.declared.types.Rate.{Rate}
use Rattle.isp_base.specs.declared.types.Rate.TheVariants.{Varying}
use Rattle.isp_base.specs.declared.types.Span.{Span}
use Rattle.isp_base.specs.declared.trap.TrapKind.TheVariants.{Divide, Index}
use Rattle.isp_tree.specs.Sound.{IfAny}
use Rattle.isp_typed.specs.Typed.{TExpr, TPlace, place_type, place_span, rate_of, TItem, t_plain, t_with_value, t_with_size, TSimple, t_value, t_run, t_assign, t_update, t_step, TFirst, t_first_declare, t_first_simple, TFunction}
use Rattle.isp_meaning.specs.State.{State, tick}
use Rattle.isp_meaning.specs.Payloads.{Payload, One, converted}
use Rattle.isp_meaning.specs.Outcomes.{Done}
use Rattle.isp_meaning.specs.Places.{Place}
use Rattle.isp_meaning.specs.Simple.{update, simple, item, items, first_part, step_part}
use Rattle.isp_meaning.specs.Statements.{test_part}
use Rattle.isp_meaning.specs.Expressions.{Calls, value}
use Rattle.isp_solo_meaning.specs.Alone.{Alone}
use Rattle.isp_solo_meaning.specs.Does.{test_part as own_test_part}
use Rattle.isp_solo_meaning.specs.Places.{Spot}
use Rattle.isp_solo_meaning.specs.Steps.{update as own_update, simple as own_simple, item as own_item, items as own_items, first_part as own_first_part, step_part as own_step_part}
use Rattle.isp_solo_meaning.specs.Values.{OwnCalls, answer}
use Rattle.isp_meaning_laws.specs.Lone.{World, Stands, IsValue, IsAnswer}
use Rattle.isp_meaning_laws.proofs.LoneSims.{CameTo, Follows, mapped_value, joined_value, offender_value, came_has, came_then, came_as, came_checked, as_rate, not_uniform}
use Rattle.isp_meaning_laws.proofs.LoneFair.{Fair, FairPlace, FairSimple, FairItem, FairItems, FairFirst}
use Rattle.isp_meaning_laws.proofs.LoneHeld.{PlaceIs, held_came, outside_is, kept_stands, written_stands, cleared_stands}
use Rattle.isp_meaning_laws.proofs.LoneValues.{CallsAgree, value_came, place_came, call_came}

-- what is done for its effect alone
abbrev pub Anything : Done → Done → Type 0
Anything x y = Unit {0}

-- a test has a value, uniform or varying
abbrev pub Tests : ℕ → Payload → ℕ → Type 0
Tests p m y = IsValue p Varying m y

module _ (w : World) (gang : ℕ) (lt : w.instance < gang) (fs : List TFunction) (IsCallable : ℕ → Type 0) (calls : Calls) (own : OwnCalls) (agree : CallsAgree w fs IsCallable calls own) where
  update_came : (op : BinOp) (e : Elem) (q : TPlace) (x : Place) (z : Spot) (u : Rate) (m : Payload) (j : ℕ) (sp : Span) (s : State) (t : Alone)
      → FairPlace w.frame fs IsCallable q → PlaceIs w.instance q x z → Follows (place_type q).rate u → IsValue w.instance u m j → Stands w s t
      → CameTo w Anything (update gang w.frame calls op e q x m sp (lone (Some w.instance)) s) (own_update w.begin w.instance w.frame own op e q z j sp t)
  update_came op e q x z u m j sp s t f r g h st =
      came_then w (IsValue w.instance (place_type q).rate) _ _ _ _ _ (held_came w gang lt q fs IsCallable f x z s t r st)
      (λ n i s1 t1 k st1. came_then w (IsValue w.instance (place_type q).rate) _ _ _ _ _
      (came_checked w (IsValue w.instance (place_type q).rate) _ _ Divide sp _ _ s1 t1 (offender_value w.instance gang lt (is_zero op e) u m j h)
      (joined_value w.instance (op_bits op e) (place_type q).rate u (place_type q).rate _ m _ j (λ c. c) g
      (mapped_value w.instance (converted (place_type q).elem e) (place_type q).rate n i k) h) st1)
      (λ n2 i2 s2 t2 k2 st2. came_has w Anything _ _ _ _ tt (kept_stands w gang lt q (place_type q).rate x z _ _ s2 t2 r (λ c. c) (mapped_value w.instance (converted e (place_type q).elem) (place_type q).rate n2 i2 k2) st2)))

  pub simple_came : (x : TSimple) → FairSimple w.frame fs IsCallable x → (s : State) (t : Alone) → Stands w s t → CameTo w Anything (simple gang w.frame calls x (lone (Some w.instance)) s) (own_simple w.begin w.instance w.frame own x t)
  simple_came (t_value x) f s t st = came_then w (IsValue w.instance (rate_of x)) _ _ _ _ _ (value_came w gang lt fs IsCallable calls own agree x f (tick s) t st) (λ m y s1 t1 r st1. came_has w Anything _ _ _ _ tt st1)
  simple_came (t_run c) f s t st = came_then w (IsAnswer w.instance None) _ _ _ _ _ (call_came w gang lt fs IsCallable calls own agree c None f (tick s) t st) (λ m y s1 t1 r st1. came_has w Anything _ _ _ _ tt st1)
  simple_came (t_assign q x sp) f s t st =
      came_then w (PlaceIs w.instance q) _ _ _ _ _ (place_came w gang lt fs IsCallable calls own agree q f.0 (tick s) t st)
      (λ z y s1 t1 r st1. came_then w (IsValue w.instance (rate_of x)) _ _ _ _ _ (value_came w gang lt fs IsCallable calls own agree x f.1 s1 t1 st1)
      (λ m i s2 t2 h st2. came_then w (IsValue w.instance (rate_of x)) _ _ _ _ _ (came_checked w (IsValue w.instance (rate_of x)) _ _ Index (place_span q) m i s2 t2 (outside_is w gang lt q z y r) h st2)
      (λ n j s3 t3 k st3. came_has w Anything _ _ _ _ tt (kept_stands w gang lt q (rate_of x) z y n j s3 t3 r f.2 k st3))))
  simple_came (t_update op e q x sp) f s t st =
      came_then w (PlaceIs w.instance q) _ _ _ _ _ (place_came w gang lt fs IsCallable calls own agree q f.0 (tick s) t st)
      (λ z y s1 t1 r st1. came_then w (IsValue w.instance (rate_of x)) _ _ _ _ _ (value_came w gang lt fs IsCallable calls own agree x f.1 s1 t1 st1)
      (λ m j s2 t2 h st2. update_came op e q z y (rate_of x) m j sp s2 t2 f.0 r f.2 h st2))
  simple_came (t_step op e q sp) f s t st =
      came_then w (PlaceIs w.instance q) _ _ _ _ _ (place_came w gang lt fs IsCallable calls own agree q f (tick s) t st)
      (λ z y s1 t1 r st1. update_came op e q z y (place_type q).rate (One 1) 1 sp s1 t1 f r (λ c. c) (inl refl) st1)

  item_came : (x : TItem) → FairItem w.frame fs IsCallable x → (s : State) (t : Alone) → Stands w s t → CameTo w Anything (item gang w.frame calls x (lone (Some w.instance)) s) (own_item w.begin w.instance w.frame own x t)
  item_came (t_plain v u sp) f s t st = came_has w Anything _ _ _ _ tt (written_stands w u.rate u.rate v (One 0) 0 (tick s) t (λ c. c) (inl refl) st)
  item_came (t_with_value v u x sp) f s t st =
      came_then w (IsValue w.instance (rate_of x)) _ _ _ _ _ (value_came w gang lt fs IsCallable calls own agree x f.0 (tick s) t st) (λ m y s1 t1 r st1. came_has w Anything _ _ _ _ tt (written_stands w u.rate (rate_of x) v m y s1 t1 f.1 r st1))
  item_came (t_with_size b sp) f s t st = came_has w Anything _ _ _ _ tt (cleared_stands w b.ty.rate b.number (tick s) t f st)

  pub items_came : (xs : List TItem) → FairItems w.frame fs IsCallable xs → (s : State) (t : Alone) → Stands w s t → CameTo w Anything (items gang w.frame calls xs (lone (Some w.instance)) s) (own_items w.begin w.instance w.frame own xs t)
  items_came [] f s t st = came_has w Anything _ _ _ _ tt st
  items_came (x ∷ xs) f s t st = came_then w Anything _ _ _ _ _ (item_came x f.0 s t st) (λ m y s1 t1 r st1. items_came xs f.1 s1 t1 st1)

  pub first_came : (x : Option TFirst) → IfAny (FairFirst w.frame fs IsCallable) x → (s : State) (t : Alone) → Stands w s t
      → CameTo w Anything (first_part gang w.frame calls x (lone (Some w.instance)) s) (own_first_part w.begin w.instance w.frame own x t)
  first_came None f s t st = came_has w Anything _ _ _ _ tt st
  first_came (Some (t_first_declare xs sp)) f s t st = items_came xs f (tick s) t st
  first_came (Some (t_first_simple x)) f s t st = simple_came x f s t st

  pub step_came : (x : Option TSimple) → IfAny (FairSimple w.frame fs IsCallable) x → (s : State) (t : Alone) → Stands w s t
      → CameTo w Anything (step_part gang w.frame calls x (lone (Some w.instance)) s) (own_step_part w.begin w.instance w.frame own x t)
  step_came None f s t st = came_has w Anything _ _ _ _ tt st
  step_came (Some x) f s t st = simple_came x f s t st

  pub test_came : (x : TExpr) → Fair w.frame fs IsCallable x → (s : State) (t : Alone) → Stands w s t → CameTo w (Tests w.instance) (value gang w.frame calls x (lone (Some w.instance)) s) (answer w.begin w.instance w.frame own x t)
  test_came x f s t st = came_as w (IsValue w.instance (rate_of x)) (Tests w.instance) _ _ (λ m y r. as_rate w.instance Varying (rate_of x) m y (λ c. absurd (not_uniform c)) r) (value_came w gang lt fs IsCallable calls own agree x f s t st)

  pub test_part_came : (x : Option TExpr) → IfAny (Fair w.frame fs IsCallable) x → (s : State) (t : Alone) → Stands w s t
      → CameTo w (Tests w.instance) (test_part gang w.frame calls x (lone (Some w.instance)) s) (own_test_part w.begin w.instance w.frame own x t)
  test_part_came None f s t st = came_has w (Tests w.instance) _ _ _ _ (inl refl) st
  test_part_came (Some x) f s t st = test_came x f s t st
