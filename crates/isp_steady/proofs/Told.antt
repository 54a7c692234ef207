-- What a steady or a linear expression comes to, given without a set: its value for programIndex 0, each known variable being its
-- scalar.
use Rattle.std.specs.Prelude.{◌≡◌, ℕ, ◌%◌, ◌^◌, List, [], ◌∷◌, Bool, true, false, if◌then◌else◌, slice_get}
use Rattle.std.proofs.Common.{refl, sym, ap, subst}
use Rattle.isp_base.specs.Access.{is_zero, is_outside, element}
use Rattle.isp_base.specs.Cross.{or_zero}
use Rattle.isp_base.specs.Maps.{Lanes}
use Rattle.isp_base.specs.Sets.{Mask, nobody, any, lowest}
use Rattle.isp_base.specs.Traps.{trap}
use Rattle.isp_base.specs.Unary.{unary_bits}
use Rattle.isp_base.specs.Values.{width, op_bits, compare_bits}
use Rattle.isp_base.specs.declared.operators.BinOp.TheVariants as op
use Rattle.isp_base.specs.declared.operators.UnaryOp.TheVariants as unary
use Rattle.isp_base.specs.declared.trap.TrapKind.{TrapKind}
use Rattle.isp_base.specs.declared.trap.TrapKind.TheVariants.{Divide, Index}
use Rattle.isp_base.specs.declared.types.Elem.{Elem}
use Rattle.isp_base.specs.declared.types.Rate.{Rate}
use Rattle.isp_base.specs.declared.types.Rate.TheVariants.{Uniform, Varying}
use Rattle.isp_base.specs.declared.types.Span.{Span}
use Rattle.isp_typed.specs.Typed.{TExpr, t_constant, t_program_index, t_place, t_convert, t_cast, t_unary, t_binary, t_compare, t_logic, t_choose, t_call, t_library}
use Rattle.isp_typed.specs.Typed.{t_packed_store, t_packed_load, TPlace, t_variable, t_element, TExprs, t_no_exprs, t_expr_then, type_of}
use Rattle.isp_typed.specs.declared.library.Library.{Library}
use Rattle.isp_typed.specs.declared.library.Library.TheVariants as library
use Rattle.isp_meaning.specs.State.{State, Frame, tick, extent}
use Rattle.isp_meaning.specs.Payloads.{Payload, is_true, converted, nothing, if_fails}
use Rattle.isp_meaning.specs.Outcomes.{Val, Gives, Fails, Stops, bind, checked, if_so, value_unless_empty}
use Rattle.isp_meaning.specs.Expressions.{needs}
use Rattle.isp_meaning.proofs.Members.{none_all}
use Rattle.isp_steady.specs.Values.{Sole, Comes, Traps}
use Rattle.isp_steady.proofs.Ones.{has_lowest}

abbrev pub then_one : Sole → (ℕ → State → Sole) → Sole
then_one (Comes u s) go = go u s
then_one (Traps kind sp s) go = Traps kind sp s

abbrev pub checked_one : Bool → TrapKind → Span → State → ℕ → Sole
checked_one true kind sp s u = Traps kind sp s
checked_one false kind sp s u = Comes u s

abbrev pub nth : List ℕ → ℕ → ℕ
nth us k = or_zero (slice_get us k)

abbrev pub library_one : Library → Elem → List ℕ → ℕ
library_one library.Min t us = op_bits op.Min t (nth us 0) (nth us 1)
library_one library.Max t us = op_bits op.Max t (nth us 0) (nth us 1)
library_one library.Clamp t us = op_bits op.Min t (op_bits op.Max t (nth us 0) (nth us 1)) (nth us 2)
library_one library.Abs t us = unary_bits unary.Absolute t (nth us 0)
library_one library.Select t us = if is_true (nth us 0) then nth us 1 else nth us 2
library_one f t us = 0

module _ (frame : Frame) (scalars : ℕ → ℕ) where
  abbrev pub read_one : Rate → ℕ → State → ℕ
  read_one Uniform v s = s.uniforms v
  read_one Varying v s = scalars v

  abbrev mutual
    pub sole : TExpr → State → Sole
    sole (t_constant v sp) s = Comes (v.bits % 2 ^ width v.elem) (tick s)
    sole (t_program_index sp) s = Comes 0 (tick s)
    sole (t_place q) s = sole_place q s
    sole (t_convert e x) s = then_one (sole x s) (λ u s1. Comes (converted (type_of x).elem e u) s1)
    sole (t_cast x t sp) s = sole x (tick s)
    sole (t_unary op x t sp) s = then_one (sole x (tick s)) (λ u s1. Comes (unary_bits op t.elem u) s1)
    sole (t_binary op x y t sp) s =
        then_one (sole x (tick s)) (λ u s1. then_one (sole y s1) (λ w s2. checked_one (is_zero op t.elem w) Divide sp s2 (op_bits op t.elem u w)))
    sole (t_compare c x y r sp) s =
        then_one (sole x (tick s)) (λ u s1. then_one (sole y s1) (λ w s2. Comes (compare_bits c (type_of x).elem u w) s2))
    sole (t_logic l x y r sp) s = then_one (sole x (tick s)) (λ u s1. if needs l u then sole y s1 else Comes u s1)
    sole (t_choose c x y t sp) s = then_one (sole c (tick s)) (λ k s1. if is_true k then sole x s1 else sole y s1)
    sole (t_call c t) s = Comes 0 s
    sole (t_library f e xs t sp) s = soles xs (tick s) (λ us s1. Comes (library_one f e us) s1)
    sole (t_packed_store b x sp) s = Comes 0 s
    sole (t_packed_load b v sp) s = Comes 0 s

    pub sole_place : TPlace → State → Sole
    sole_place (t_variable v t sp) s = Comes (read_one t.rate v s) (tick s)
    sole_place (t_element b i t sp) s =
        then_one (sole i (tick s)) (λ u s1. checked_one (is_outside (type_of i).elem (extent frame b) u) Index sp s1 (s1.arrays (frame.named b.number) (element (type_of i).elem u)))

    -- the values from left to right, and what goes on from them
    pub soles : TExprs → State → (List ℕ → State → Sole) → Sole
    soles t_no_exprs s go = go [] s
    soles (t_expr_then x xs) s go = then_one (sole x s) (λ u s1. soles xs s1 (λ us s2. go (u ∷ us) s2))

-- one after another
pub bind_bind : {A B C : Type 0} (v : Val A) (f : A → State → Val B) (g : B → State → Val C) → bind (bind v f) g ≡ bind v (λ x s. bind (f x s) g)
bind_bind (Gives x s) f g = refl
bind_bind (Fails t s) f g = refl
bind_bind (Stops s) f g = refl

-- a check that fails for all or for nobody
module _ {A : Type 0} (gang : ℕ) (f : ℕ → Bool) (a : Mask) (kind : TrapKind) (sp : Span) (s : State) (x : A) (some : any gang a ≡ true) where
  pub checked_fails : checked (if_fails gang f a true) kind sp s x ≡ Fails (trap kind sp (or_zero (lowest gang a))) s
  checked_fails = ap (λ o. checked o kind sp s x) (has_lowest gang a some)

-- ---- the same by another way

pub bind_same : {A B : Type 0} (v : Val A) (f g : A → State → Val B) → ((x : A) (s : State) → f x s ≡ g x s) → bind v f ≡ bind v g
bind_same (Gives x s) f g h = h x s
bind_same (Fails t s) f g h = refl
bind_same (Stops s) f g h = refl

pub bind_gives : (v : Val Payload) → bind v (λ n s. Gives n s) ≡ v
bind_gives (Gives m s1) = refl
bind_gives (Fails t s1) = refl
bind_gives (Stops s1) = refl

-- ---- a later operand, for all or for nobody

module _ (gang : ℕ) (a : Mask) (some : any gang a ≡ true) where
  nobody_there : any gang nobody ≡ false
  nobody_there = none_all gang nobody (λ q lt. refl)

  pub later_all : (b : Bool) (f : Mask → State → Val Payload) (s : State) → b ≡ true → value_unless_empty gang (if b then a else nobody) s f ≡ f a s
  later_all true f s e = ap (λ b. if_so b (f a) (Gives nothing) s) some
  later_all false f s e = absurd (cc)

  pub later_none : (b : Bool) (f : Mask → State → Val Payload) (s : State) → b ≡ false → value_unless_empty gang (if b then a else nobody) s f ≡ Gives nothing s
  later_none true f s e = absurd (cc)
  later_none false f s e = ap (λ b. if_so b (f nobody) (Gives nothing) s) nobody_there

-- ---- what is told comes over a set

-- a value that is so by the scalar, and the variables as they were; or the trap, of the lowest member
module _ (gang : ℕ) (a : Mask) (there : ℕ → Lanes) where
  abbrev pub IsBy : (ℕ → Payload → Type 0) → Sole → Val Payload → Type 0
  IsBy Q (Comes u s) (Gives m s1) = Q u m × (s1 ≡ s) × (s.varying ≡ there)
  IsBy Q (Comes u s) (Fails t s1) = ⊥
  IsBy Q (Comes u s) (Stops s1) = ⊥
  IsBy Q (Traps kind sp s) v = v ≡ Fails (trap kind sp (or_zero (lowest gang a))) s

  pub bind_by : (Q R : ℕ → Payload → Type 0) (o : Sole) (v : Val Payload) (go : ℕ → State → Sole) (does : Payload → State → Val Payload) → IsBy Q o v
      → ((u : ℕ) (m : Payload) (s : State) → Q u m → s.varying ≡ there → IsBy R (go u s) (does m s)) → IsBy R (then_one o go) (bind v does)
  bind_by Q R (Comes u s) (Gives m s1) go does h k = subst (λ z. IsBy R (go u s) (does m z)) (sym h.1) (k u m s h.0 h.2)
  bind_by Q R (Comes u s) (Fails t s1) go does h k = absurd h
  bind_by Q R (Comes u s) (Stops s1) go does h k = absurd h
  bind_by Q R (Traps kind sp s) v go does h k = ap (λ z. bind z does) h
