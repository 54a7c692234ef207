-- What each writer appends, given what it is given: where registers lie, the tree, the register that gets the value, the mask
-- and the first free slot.
use Rattle.std.specs.Prelude.{ℕ, ◌+◌, ◌∷◌, [], ◌++◌, List, length, map, Bool, false, Option}
use Rattle.isp_base.specs.Ranks.{same_elem}
use Rattle.isp_base.specs.declared.operators.BinOp.{BinOp}
use Rattle.isp_base.specs.declared.types.Elem.{Elem}
use Rattle.isp_base.specs.declared.types.Rate.{Rate}
use Rattle.isp_base.specs.declared.types.Rate.TheVariants.{Uniform}
use Rattle.isp_base.specs.declared.types.Span.{Span}
use Rattle.isp_base.specs.declared.types.Ty.{Ty}
use Rattle.isp_base.specs.declared.types.Value.{Value}
use Rattle.isp_code.specs.declared.instr.Division.{Division}
use Rattle.isp_code.specs.declared.instr.Instr.{Instr}
use Rattle.isp_code.specs.declared.instr.Instr.TheVariants as instr
use Rattle.isp_code.specs.declared.instr.JumpTest.TheVariants as jump
use Rattle.isp_code.specs.declared.register.Register.{Register}
use Rattle.isp_typed.specs.Typed.{TArgument, TArguments, TBase, TCall, TExpr, TExprs, TPlace, type_of}
use Rattle.isp_lower_code.specs.Code.{argument_code, arguments_code, base_code, call_code, choose_code, expr_code, expr_to, value_registers, values_code, variable_code, variable_from, variable_read}
use Rattle.isp_lower_code.specs.Elements.{index_by_of, is_run}
use Rattle.isp_lower_code.specs.Found.{convert_to, found, index_of, is_copied, is_whole, lift_code, operand, operand_of, whole_of}
use Rattle.isp_lower_code.specs.Instructions.{constant, jump_off, jump_on, operate, operate_places, packed_load, packed_store, read_by, select, write_by}
use Rattle.isp_lower_code.specs.Known.{constant_of, unless_kept}
use Rattle.isp_lower_code.specs.Pieces.{choice, choose_rest, guard, move_code}
use Rattle.isp_lower_code.specs.Spans.{argument_places, arguments_places, base_places, call_places, expr_places, index_places, values_places}
use Rattle.isp_typed.specs.declared.library.Library.{Library}
use Rattle.isp_typed.specs.declared.variable.ArrayVariable.{ArrayVariable}
use Rattle.isp_lower.specs.Emitted.{Appends, layout}
use Rattle.isp_lower_code.specs.Layout.{mask_register, register}
use Rattle.isp_lower_code.specs.Library.{library_code, library_rates, on_values}
use Rattle.isp_lower_code.specs.Simple.{assign_code, assign_places, change_by_code, change_places, one_code, one_in, step_code, update_to}
use Rattle.isp_lower.specs.declared.library.Operands.{Operands}
use Rattle.isp_registers.specs.declared.numbered.MaskNumber.{MaskNumber}
use Rattle.isp_registers.specs.declared.numbered.RegisterNumber.{RegisterNumber}
use Rattle.isp_lower.specs.declared.sites.Element.{Element}
use Rattle.isp_lower.specs.declared.sites.Held.{Held}
use Rattle.isp_lower.specs.declared.sites.Home.{Home}
use Rattle.isp_lower.specs.declared.sites.Operation.{Operation}
use Rattle.isp_lower.specs.declared.sites.Site.{Site}
use Rattle.isp_lower.specs.declared.sites.Skip.{Skip}
use Rattle.isp_lower.specs.declared.sites.Target.{Target}
use Rattle.isp_lower.specs.declared.types.Body.{Body}
use Rattle.isp_lower.specs.declared.types.Scope.{Scope}

-- Code that is given the numbers of its first instruction and of its first place in the source, and the places that it names.
pub record Piece : Type 0 where
  pub code : ℕ → ℕ → List Instr
  pub places : List Span

abbrev pub Writes : Body → Body → Piece → Type 0
Writes old new x = Appends old new x.code x.places

-- one slot on
abbrev pub behind : Site → Site
behind at = record { mask = at.mask; slot = record { number = at.slot.number + 1 } }

-- ---- values

-- a value of a register where a rate is wanted
abbrev pub lift_at : Scope → Rate → Held → Site → Piece
lift_at on r h at = record { code = λ pc p. lift_code (layout on) r h.ty.rate h.ty.elem h.from.number at.mask.number at.slot.number; places = [] }

-- a constant in register d, but where it is kept
abbrev pub constant_at : Scope → Value → RegisterNumber → Piece
constant_at on v d =
    record { code = λ pc p. unless_kept ((layout on).kept Uniform v.elem v.bits) (constant d.number v.elem v.bits ∷ []); places = [] }

-- the same in a slot
abbrev pub moved_at : Scope → Held → Site → Piece
moved_at on h at =
    record { code = λ pc p. move_code h.ty.rate ((layout on).spare h.ty.rate h.ty.elem at.slot.number) h.from.number at.mask.number; places = [] }

abbrev pub operand_at : Scope → Rate → TExpr → Site → Piece
operand_at on r x at =
    let k = at.mask.number in
    let n = at.slot.number in
    record { code = λ pc p. operand_of (layout on) r x k n (expr_code (layout on) x pc p k n); places = expr_places (layout on) x }

-- an index as int64, and the same at a rate
abbrev pub whole_at : Scope → TExpr → Site → Piece
whole_at on x at =
    let k = at.mask.number in
    let n = at.slot.number in
    record { code = λ pc p. whole_of (layout on) (is_whole (type_of x).elem) x k n (expr_code (layout on) x pc p k n); places = expr_places (layout on) x }

abbrev pub index_at : Scope → Rate → TExpr → Site → Piece
index_at on r x at =
    let k = at.mask.number in
    let n = at.slot.number in
    record { code = λ pc p. index_of (layout on) r x k n (expr_code (layout on) x pc p k n); places = expr_places (layout on) x }

-- the index of an element: that of its lane, or of the first element of a run
abbrev pub element_index_at : Scope → ArrayVariable → Rate → TExpr → Site → Piece
element_index_at on b r x at =
    let k = at.mask.number in
    let n = at.slot.number in
    record { code = λ pc p. index_by_of (layout on) (is_run (layout on) b.ty.rate x) r x k n (expr_code (layout on) x pc p k n); places = expr_places (layout on) x }

-- a variable is copied to register d where a packed load writes it
abbrev pub variable_read_at : Scope → Home → RegisterNumber → MaskNumber → Piece
variable_read_at on v d k =
    record { code = λ pc p. variable_read (layout on) (is_copied (layout on) v.ty.rate v.number) d.number v.ty.rate v.number k.number; places = [] }

-- the number of the first element of a packed call
abbrev pub base_at : Scope → TBase → Site → Piece
base_at on x at = record { code = λ pc p. base_code (layout on) x pc p at.mask.number at.slot.number; places = base_places (layout on) x }

-- a value whose last instruction writes register d
abbrev pub to_at : Scope → TExpr → RegisterNumber → Site → Piece
to_at on x d at = record { code = λ pc p. expr_to (layout on) d.number x pc p at.mask.number at.slot.number; places = expr_places (layout on) x }

-- a value at the rate of a target, which its last instruction writes, or a copy
abbrev pub value_at : Scope → Bool → TExpr → Target → Piece
value_at on last x t =
    record { code = λ pc p. variable_from (layout on) last t.ty.rate t.to.number x pc p t.site.mask.number t.site.slot.number; places = expr_places (layout on) x }

-- a value as one of another type in register d
abbrev pub convert_at : Scope → Elem → TExpr → RegisterNumber → Site → Piece
convert_at on e x d at =
    let l = layout on in
    let k = at.mask.number in
    let n = at.slot.number in
    record { code = λ pc p. convert_to l (constant_of x) e (type_of x).rate d.number (found l x n) k (expr_code l x pc p k n); places = expr_places l x }

-- a node of a tree for a target
abbrev pub node_at : Scope → TExpr → Target → Piece
node_at on x t = to_at on x t.to t.site

-- jumped over where a register passes a test, and a copy
abbrev pub skipped_at : Scope → Skip → TExpr → Target → Piece
skipped_at on skip x t =
    record { code = λ pc p. guard (λ at. instr.JumpIf skip.test skip.register at) pc (λ pc1. variable_from (layout on) false t.ty.rate t.to.number x pc1 p t.site.mask.number t.site.slot.number); places = expr_places (layout on) x }

-- ---- choices: a side that is moved to its slot, one under a mask, both after a test in register c, and with the test

abbrev pub side_at : Scope → Ty → TExpr → Site → Piece
side_at on t x at =
    record {
      code = λ pc p. operand_of (layout on) t.rate x at.mask.number at.slot.number (expr_code (layout on) x pc p at.mask.number at.slot.number)
          ++ move_code t.rate ((layout on).spare t.rate t.elem at.slot.number) (operand (layout on) t.rate x at.slot.number) at.mask.number;
      places =
          expr_places (layout on) x;
    }

abbrev pub guarded_at : Scope → Rate → TExpr → Site → Piece
guarded_at on r x at =
    let k = at.mask.number in
    let n = at.slot.number in
    record { code = λ pc p. guard (jump_off k) pc (λ pc1. operand_of (layout on) r x k n (expr_code (layout on) x pc1 p k n)); places = expr_places (layout on) x }

-- a side given its place, its mask and its slot
abbrev pub side_code : Scope → Rate → TExpr → ℕ → ℕ → ℕ → ℕ → List Instr
side_code on r x p pc m i = operand_of (layout on) r x m i (expr_code (layout on) x pc p m i)

abbrev pub by_jump_at : Scope → RegisterNumber → TExpr → TExpr → Target → Piece
by_jump_at on c x y t =
    let l = layout on in
    record { code = λ pc p. choice (jump_on jump.False c.number) pc (λ pc1. (side_at on t.ty x t.site).code pc1 p) (λ pc1. (side_at on t.ty y t.site).code pc1 (p + length (expr_places l x))); places = expr_places l x ++ expr_places l y }

abbrev pub by_masks_at : Scope → RegisterNumber → TExpr → TExpr → Target → Piece
by_masks_at on c x y t =
    let l = layout on in
    let r = t.ty.rate in
    let n = t.site.slot.number in
    record {
      code = λ pc p. choose_rest (l.spare r t.ty.elem n) c.number (operand l r x (n + 1)) (operand l r y (n + 2)) pc t.site.mask.number n
          (side_code on r x p) (side_code on r y (p + length (expr_places l x)));
      places = expr_places l x ++ expr_places l y;
    }

abbrev pub chosen_at : Scope → Rate → TExpr → TExpr → TExpr → Target → Piece
chosen_at on r z x y t =
    let l = layout on in
    let k = t.site.mask.number in
    let n = t.site.slot.number in
    let p1 = λ (p : ℕ). p + length (expr_places l z) in
    record {
      code = λ pc p. choose_code l r t.ty.rate t.ty.elem x y (found l z n) pc k n (expr_code l z pc p k n) (side_code on t.ty.rate x (p1 p))
          (side_code on t.ty.rate y (p1 p + length (expr_places l x)));
      places = expr_places l z ++ (expr_places l x ++ expr_places l y);
    }

-- one instruction after the test
abbrev pub short_at : Scope → TExpr → TExpr → TExpr → Target → Piece
short_at on z x y t =
    let l = layout on in
    let k = t.site.mask.number in
    let n = t.site.slot.number in
    record { code = λ pc p. expr_code l z pc p k n ++ select t.ty.rate t.to.number (found l z n) (found l x n) (found l y n) k ∷ []; places = expr_places l z }

-- ---- the library: values in a row, each at the next of some rates; the instructions on their registers; and a call

abbrev pub numbers : List RegisterNumber → List ℕ
numbers ds = map (λ d. d.number) ds

abbrev pub values_at : Scope → List Rate → TExprs → Site → Piece
values_at on rs xs at =
    record { code = λ pc p. values_code (layout on) rs xs pc p at.mask.number at.slot.number; places = values_places (layout on) xs }

abbrev pub made_at : Library → Operands → RegisterNumber → Target → Piece
made_at f o s t =
    record { code = λ pc p. on_values f t.ty.rate t.to.number s.number o.first.number o.second.number o.third.number t.site.mask.number; places = [] }

abbrev pub library_at : Scope → Library → TExprs → Target → Piece
library_at on f xs t =
    let l = layout on in
    let rs = library_rates f t.ty.rate in
    let k = t.site.mask.number in
    let n = t.site.slot.number in
    record { code = λ pc p. values_code l rs xs pc p k n ++ library_code f t.ty.rate t.to.number (l.spare t.ty.rate t.ty.elem n) (value_registers l rs xs n) k; places = values_places l xs }

-- ---- calls: an argument at the rate of its parameter, the arguments of a function, the instruction after them, and the call

abbrev pub argument_at : Scope → Rate → TArgument → Site → Piece
argument_at on r x at =
    record { code = λ pc p. argument_code (layout on) r x pc p at.mask.number at.slot.number; places = argument_places (layout on) x }

abbrev pub arguments_at : Scope → ℕ → TArguments → Site → Piece
arguments_at on f xs at =
    let l = layout on in
    record { code = λ pc p. arguments_code l (l.rates f) xs pc p at.mask.number at.slot.number; places = arguments_places l xs }

abbrev pub call_at : Scope → Option Register → TCall → Site → Piece
call_at on d x at =
    record { code = λ pc p. call_code (layout on) d x pc p at.mask.number at.slot.number; places = call_places (layout on) x }

-- ---- operators and elements

abbrev pub division_at : Division → RegisterNumber → RegisterNumber → Target → ℕ → Instr
division_at o x y t p =
    let r = t.ty.rate in
    instr.Divide o (register r t.to.number) (register r x.number) (register r y.number) (mask_register t.site.mask.number) p

abbrev pub operate_at : BinOp → RegisterNumber → RegisterNumber → Target → Piece
operate_at o x y t =
    record { code = λ pc p. operate t.ty.rate o t.to.number x.number y.number t.site.mask.number p ∷ []; places = operate_places o t.span }

abbrev pub read_at : Scope → Element → RegisterNumber → MaskNumber → Piece
read_at on e d k = record { code = λ pc p. read_by e.is_run e.ty.rate d.number ((layout on).array e.array.number) e.index.number k.number p ∷ []; places = e.span ∷ [] }

abbrev pub packed_store_at : Scope → ArrayVariable → RegisterNumber → RegisterNumber → Target → Piece
packed_store_at on y i x t =
    record { code = λ pc p. packed_store t.to.number ((layout on).array y.number) i.number x.number t.site.mask.number p ∷ []; places = t.span ∷ [] }

abbrev pub packed_load_at : Scope → ArrayVariable → RegisterNumber → RegisterNumber → Target → Piece
packed_load_at on y i x t =
    record { code = λ pc p. packed_load t.to.number ((layout on).array y.number) i.number x.number t.site.mask.number p ∷ []; places = t.span ∷ [] }

abbrev pub write_at : Scope → Element → RegisterNumber → MaskNumber → Piece
write_at on e x k = record { code = λ pc p. write_by e.is_run e.ty.rate ((layout on).array e.array.number) e.index.number x.number k.number p ∷ []; places = e.span ∷ [] }

-- a target gets an operator on registers h and y, by way of slot n where the operator works in another type
abbrev pub update_code : Scope → Operation → Ty → ℕ → ℕ → ℕ → Site → ℕ → List Instr
update_code on o u d h y at p = update_to (layout on) (same_elem u.elem o.elem) o.operator o.elem u.rate d h y at.mask.number at.slot.number p

abbrev pub update_at : Scope → Operation → RegisterNumber → RegisterNumber → Target → Piece
update_at on o h y t =
    record { code = λ pc p. update_code on o t.ty t.to.number h.number y.number t.site p; places = operate_places o.operator t.span }

-- an element is read into a slot, changed by register y and written
abbrev pub changed_at : Scope → Operation → Element → RegisterNumber → Site → Piece
changed_at on o e y at =
    let l = layout on in
    let d = l.spare e.ty.rate e.ty.elem at.slot.number in
    let b = l.array e.array.number in
    record {
      code = λ pc p. read_by e.is_run e.ty.rate d b e.index.number at.mask.number p ∷
          (update_code on o e.ty d d y.number at (p + 1) ++ write_by e.is_run e.ty.rate b e.index.number d at.mask.number p ∷ []);
      places = e.span ∷
          operate_places o.operator o.span;
    }

-- the same with the value of an expression, and with the number 1, after the index
abbrev pub element_by_at : Scope → Operation → Element → TExpr → Site → Piece
element_by_at on o e x at =
    let l = layout on in
    let r = e.ty.rate in
    let n = at.slot.number in
    record {
      code = λ pc p. operand_of l r x at.mask.number n (expr_code l x pc p at.mask.number n)
          ++ (changed_at on o e (record { number = operand l r x n }) (behind at)).code pc (p + length (expr_places l x));
      places = expr_places l x
          ++ e.span ∷ operate_places o.operator o.span;
    }

abbrev pub element_step_at : Scope → Operation → Element → Site → Piece
element_step_at on o e at =
    let l = layout on in
    let r = e.ty.rate in
    let n = at.slot.number in
    record { code = λ pc p. one_code l r o.elem at.mask.number n ++ (changed_at on o e (record { number = one_in l r o.elem n }) (behind at)).code pc p; places = e.span ∷ operate_places o.operator o.span }

-- an element gets the value of an expression, after the index
abbrev pub element_to_at : Scope → Element → TExpr → Site → Piece
element_to_at on e x at =
    let l = layout on in
    let r = e.ty.rate in
    let n = at.slot.number in
    record { code = λ pc p. operand_of l r x at.mask.number n (expr_code l x pc p at.mask.number n) ++ (write_at on e (record { number = operand l r x n }) at.mask).code pc (p + length (expr_places l x)); places = expr_places l x ++ e.span ∷ [] }

-- ---- what stands before a semicolon, and variables that begin with a value

abbrev pub variable_at : Scope → Home → TExpr → Site → Piece
variable_at on v x at =
    record { code = λ pc p. variable_code (layout on) v.ty.rate v.number x pc p at.mask.number at.slot.number; places = expr_places (layout on) x }

abbrev pub assign_at : Scope → TPlace → TExpr → Site → Piece
assign_at on z x at =
    record { code = λ pc p. assign_code (layout on) z x pc p at.mask.number at.slot.number; places = assign_places (layout on) z x }

abbrev pub change_by_at : Scope → Operation → TPlace → TExpr → Site → Piece
change_by_at on o z x at =
    let l = layout on in
    record { code = λ pc p. change_by_code l o.operator o.elem z x pc p at.mask.number at.slot.number; places = index_places l z ++ (expr_places l x ++ change_places l o.operator z o.span) }

abbrev pub step_at : Scope → Operation → TPlace → Site → Piece
step_at on o z at =
    let l = layout on in
    record { code = λ pc p. step_code l o.operator o.elem z pc p at.mask.number at.slot.number; places = index_places l z ++ change_places l o.operator z o.span }
