-- The functions of a module in its sections: their types, what they find, and that their code is valid.
use Rattle.std.proofs.Common.{◌≡◌, ⊎_elim, ℕ, zero, suc, ◌+◌, ◌<◌, List, [], ◌∷◌, ◌++◌, length, map, Some, None, Bool, true, false, refl, sym, ap, ◌∙◌, subst, arith}
use Rattle.std.specs.Prelude.{slice_get, nat_lt, nat_eq}
use Rattle.std.specs.List.{list_all}
use Rattle.std.proofs.lemmas.Bool.{cases_eq, cases_lt}
use Rattle.std.proofs.lemmas.Bool.Decides.{nat_tests}
use Rattle.std.proofs.lemmas.List.{length-map}
use Rattle.std.proofs.lemmas.Option.{get_or_from_slice_get}
use Rattle.isp_wasm_meaning.specs.Syntax.{Printed, SignedText, UnsignedText, TruthText, ByteText}
use Rattle.isp_wasm_meaning.specs.Module.{ValueType, I32, I64, V128, Function, Module}
use Rattle.isp_wasm_meaning.specs.Valid.{global_type, changes, is_valid, may_end, is_valid_function, taken_by}
use Rattle.isp_wasm_binary.specs.Binary.{results, type_of, is_same, one_more, joined, grouped, bodies, stack_of, sections_of}
use Rattle.isp_wasm_binary.specs.Instructions.{hosts, host_print}
use Rattle.isp_wasm_binary.specs.Modules.{FuncType, Group, Body, Global}
use Rattle.isp_wasm_binary.specs.Same.{code_words}
use Rattle.isp_wasm_valid.specs.Typing.{Context, AreTyped, onto}
use Rattle.isp_wasm_valid.specs.Modules.{no_type, type_in, type_numbers, times, each_local, IsValidBody}
use Rattle.isp_wasm_valid.proofs.Folded.{both}
use Rattle.isp_wasm_valid.proofs.Control.{Finds, typed}

-- ---- lists

pub same_some : {A : Type 0} (x y : A) → Some x ≡ Some y → x ≡ y
same_some x y e = cc

mapped : {A B : Type 0} (f : A → B) (xs : List A) (k : ℕ) (x : A) → slice_get xs k ≡ Some x → slice_get (map f xs) k ≡ Some (f x)
mapped f [] k x e = absurd (let no : ⊥ = cc in no)
mapped f (a ∷ xs) zero x e = ap (λ z. Some (f z)) (same_some a x e)
mapped f (a ∷ xs) (suc k) x e = mapped f xs k x e

pub all_at : {A : Type 0} (p : A → Bool) (xs : List A) (k : ℕ) (x : A) → list_all p xs ≡ true → slice_get xs k ≡ Some x → p x ≡ true
all_at p [] k x h e = absurd (let no : ⊥ = cc in no)
all_at p (a ∷ xs) zero x h e = subst (λ z. p z ≡ true) (same_some a x e) (both (p a) (list_all p xs) h).0
all_at p (a ∷ xs) (suc k) x h e = all_at p xs k x (both (p a) (list_all p xs) h).1 e

-- after six others
sixth : (f : ℕ) → hosts + f ≡ suc (suc (suc (suc (suc (suc f)))))
sixth f = omega arith

-- ---- locals, by groups and one by one

same_type : (t u : ValueType) → is_same t u ≡ true → t ≡ u
same_type I32 I32 e = refl
same_type I64 I64 e = refl
same_type V128 V128 e = refl
same_type t u e = absurd (let no : ⊥ = cc in no)

each_one_more : (same : Bool) (t : ValueType) (g : Group) (gs : List Group) → (same ≡ true → t ≡ g.type) → each_local (one_more same t g gs) ≡ t ∷ each_local (g ∷ gs)
each_one_more true t g gs h = ap (λ u. u ∷ times g.count g.type (each_local gs)) (sym (h refl))
each_one_more false t g gs h = refl

each_joined : (t : ValueType) (gs : List Group) → each_local (joined t gs) ≡ t ∷ each_local gs
each_joined t [] = refl
each_joined t (g ∷ gs) = each_one_more (is_same t g.type) t g gs (same_type t g.type)

each_grouped : (ts : List ValueType) → each_local (grouped ts) ≡ ts
each_grouped [] = refl
each_grouped (t ∷ ts) = each_joined t (grouped ts) ∙ ap (λ us. t ∷ us) (each_grouped ts)

-- ---- globals

-- a part of a vector that a function gives back
abbrev part : Global
part = record { type = V128; changes = true; first = 0 }

part_at : (n x : ℕ) (more : List Global) → x < n → slice_get (results n ++ more) x ≡ Some part
part_at zero x more lt = absurd (omega (arith, lt))
part_at (suc n) zero more lt = refl
part_at (suc n) (suc x) more lt = part_at n x more (omega (arith, lt))

behind_parts : (n : ℕ) (g : Global) (more : List Global) → slice_get (results n ++ g ∷ more) n ≡ Some g
behind_parts zero g more = refl
behind_parts (suc n) g more = behind_parts n g more

low : (x : ℕ) → x < 16 → global_type (suc x) ≡ Some V128
low x lt = simp (first, second) refl
  where
    first : nat_eq (suc x) 0 ≡ false
    first = grind (arith, nat_tests)

    second : nat_lt (suc x) 17 ≡ true
    second = grind (arith, nat_tests, lt)

high : (x : ℕ) → 16 < x → global_type (suc x) ≡ None
high x lt = simp (first, second, third) refl
  where
    first : nat_eq (suc x) 0 ≡ false
    first = grind (arith, nat_tests)

    second : nat_lt (suc x) 17 ≡ false
    second = grind (arith, nat_tests, lt)

    third : nat_eq (suc x) 17 ≡ false
    third = grind (arith, nat_tests, lt)

-- a global of this number and type
abbrev Global_of : List Global → ℕ → ValueType → Type 0
Global_of gs x t = (g : Global) × (slice_get gs x ≡ Some g) × (g.type ≡ t) × (changes x ≡ true → g.changes ≡ true)

module _ (m : Module) where
  abbrev all_globals : List Global
  all_globals = (sections_of m).globals

  part_global : (x : ℕ) (t : ValueType) → x < 16 → global_type (suc x) ≡ Some t → Global_of all_globals (suc x) t
  part_global x t lt e = (part, part_at 16 x (stack_of m ∷ []) lt, same_some V128 t (sym (low x lt) ∙ e), λ h. refl)

  stack_global : (t : ValueType) → global_type 17 ≡ Some t → Global_of all_globals 17 t
  stack_global t e = (stack_of m, behind_parts 16 (stack_of m) [], same_some I32 t e, λ h. refl)

  none_global : (x : ℕ) (t : ValueType) → 16 < x → global_type (suc x) ≡ Some t → ⊥
  none_global x t lt e = let clash : None ≡ Some t = sym (high x lt) ∙ e in cc

  find_global : (x : ℕ) (t : ValueType) → global_type x ≡ Some t → Global_of all_globals x t
  find_global zero t e = (record { type = I32; changes = false; first = length m.memory }, refl, same_some I32 t e, λ h. absurd (let no : ⊥ = cc in no))
  find_global (suc x) t e =
      ⊎_elim (λ (is : x ≡ 16). subst (λ z. Global_of all_globals (suc z) t) (sym is) (stack_global t (subst (λ z. global_type (suc z) ≡ Some t) is e)))
      (λ apart. ⊎_elim (λ lt. part_global x t lt e) (λ le. absurd (none_global x t (omega (arith, le, apart)) e)) (cases_lt x 16))
      (cases_eq x 16)

-- ---- types

-- the sections' function of this number
abbrev body_of : ℕ → Function → Body
body_of n g = record { type = hosts + n; locals = grouped g.locals; code = g.code }

body_at : (fs : List Function) (n k : ℕ) (g : Function) → slice_get fs k ≡ Some g → slice_get (bodies n fs) k ≡ Some (body_of (n + k) g)
body_at [] n k g e = absurd (let no : ⊥ = cc in no)
body_at (h ∷ hs) n zero g e = let same : h ≡ g = same_some h g e in let sum : n ≡ n + 0 = omega arith in ap Some (ap (body_of n) same ∙ ap (λ z. body_of z g) sum)
body_at (h ∷ hs) n (suc k) g e = body_at hs (suc n) k g e ∙ (let sum : suc n + k ≡ n + suc k = omega arith in ap (λ z. Some (body_of z g)) sum)

-- and each is one of the module's
abbrev Body_from : List Function → ℕ → ℕ → Body → Type 0
Body_from fs n k b = (g : Function) × (slice_get fs k ≡ Some g) × (body_of (n + k) g ≡ b)

body_from : (fs : List Function) (n k : ℕ) (b : Body) → slice_get (bodies n fs) k ≡ Some b → Body_from fs n k b
body_from [] n k b e = absurd (let no : ⊥ = cc in no)
body_from (h ∷ hs) n zero b e = (h, refl, (let sum : n + 0 ≡ n = omega arith in ap (λ z. body_of z h) sum) ∙ same_some (body_of n h) b e)
body_from (h ∷ hs) n (suc k) b e =
    let it = body_from hs (suc n) k b e in
    (it.0, it.1, (let sum : n + suc k ≡ suc n + k = omega arith in ap (λ z. body_of z it.0) sum) ∙ it.2)

pub slice_low : {A : Type 0} (xs : List A) (k : ℕ) (x : A) → slice_get xs k ≡ Some x → k < length xs
slice_low [] k x e = absurd (let no : ⊥ = cc in no)
slice_low (a ∷ xs) zero x e = omega arith
slice_low (a ∷ xs) (suc k) x e = let less = slice_low xs k x e in omega (arith, less)

module _ (m : Module) where
  abbrev types : ℕ → FuncType
  types = type_in (sections_of m)

  type_of_function : (k : ℕ) (g : Function) → slice_get m.functions k ≡ Some g → types (hosts + k) ≡ type_of g
  type_of_function k g e =
      get_or_from_slice_get (sections_of m).types (hosts + k) (type_of g) no_type
      (subst (λ z. slice_get (sections_of m).types z ≡ Some (type_of g)) (sym (sixth k)) (mapped type_of m.functions k g e))

  -- a call of it finds its type
  call_finds : (k : ℕ) (g : Function) → slice_get m.functions k ≡ Some g → slice_get (map types (type_numbers (sections_of m))) (hosts + k) ≡ Some (type_of g)
  call_finds k g e =
      subst (λ z. slice_get (map types (type_numbers (sections_of m))) z ≡ Some (type_of g)) (sym (sixth k))
      (mapped types (map (λ (b : Body). b.type) (bodies 0 m.functions)) k (hosts + (0 + k)) (mapped (λ (b : Body). b.type) (bodies 0 m.functions) k (body_of (0 + k) g) (body_at m.functions 0 k g e))
      ∙ ap Some ((let sum : hosts + (0 + k) ≡ hosts + k = omega arith in ap types sum) ∙ type_of_function k g e))

  -- what a function of this type and these locals finds
  abbrev context_of : FuncType → List ValueType → Context
  context_of t own = record { functions = map types (type_numbers (sections_of m)); globals = (sections_of m).globals; locals = t.params ++ own; back = t.results }

  print_finds : (o : Printed) → slice_get (map types (type_numbers (sections_of m))) (host_print o) ≡ Some (record { params = taken_by o ∷ []; results = [] })
  print_finds SignedText = refl
  print_finds UnsignedText = refl
  print_finds TruthText = refl
  print_finds ByteText = refl

  finds : (g : Function) (own : List ValueType) → Finds (context_of (type_of g) own) m.functions g.result
  finds g own = record { writes = refl; traps = refl; prints = print_finds; calls = call_finds; globals = find_global m; back = refl }

  abbrev IsTypedBody : FuncType → Function → Type 0
  IsTypedBody t g = AreTyped (context_of t (each_local (grouped g.locals))) (t.results ∷ []) (code_words g.code) [] (onto t.results [])

  function_typed : (g : Function) → is_valid_function m.functions g ≡ true → IsTypedBody (type_of g) g
  function_typed g h =
      let k = both (is_valid (slice_get (g.params ++ g.locals)) m.functions g.result 0 g.code) (may_end g.result g.code) h in
      typed (context_of (type_of g) (each_local (grouped g.locals))) m.functions g.result (finds g (each_local (grouped g.locals))) g.code
      (subst (λ ts. is_valid (slice_get (g.params ++ ts)) m.functions g.result 0 g.code ≡ true) (sym (each_grouped g.locals)) k.0) k.1

  body_valid : (k : ℕ) (b : Body) → Body_from m.functions 0 k b → list_all (is_valid_function m.functions) m.functions ≡ true → IsValidBody (sections_of m) b
  body_valid k b it h =
      subst (IsValidBody (sections_of m)) it.2
      (subst (λ t. IsTypedBody t it.0) (sym ((let sum : hosts + (0 + k) ≡ hosts + k = omega arith in ap types sum) ∙ type_of_function k it.0 it.1))
      (function_typed it.0 (all_at (is_valid_function m.functions) m.functions k it.0 h it.1)))

  pub bodies_valid : list_all (is_valid_function m.functions) m.functions ≡ true → (k : ℕ) (b : Body) → slice_get (bodies 0 m.functions) k ≡ Some b → IsValidBody (sections_of m) b
  bodies_valid h k b e = body_valid k b (body_from m.functions 0 k b e) h

  -- ---- each type is there

  number_from : (fs : List Function) (n k t : ℕ) → slice_get (map (λ (b : Body). b.type) (bodies n fs)) k ≡ Some t → (t ≡ hosts + (n + k)) × (k < length fs)
  number_from [] n k t e = absurd (let no : ⊥ = cc in no)
  number_from (h ∷ hs) n zero t e = let same : hosts + n ≡ t = same_some (hosts + n) t e in (omega (arith, same), omega arith)
  number_from (h ∷ hs) n (suc k) t e = let it = number_from hs (suc n) k t e in let same = it.0 in let less = it.1 in (omega (arith, same), omega (arith, less))

  below_six : (t k n : ℕ) → Some k ≡ Some t → k < 6 → t < 6 + n
  below_six t k n e lt = let same = same_some k t e in omega (arith, same, lt)

  types_length : length (sections_of m).types ≡ 6 + length m.functions
  types_length = let same = length-map m.functions type_of in omega (arith, same)

  type_low : (k t : ℕ) → slice_get (type_numbers (sections_of m)) k ≡ Some t → t < 6 + length m.functions
  type_low zero t e = below_six t 0 (length m.functions) e (omega arith)
  type_low (suc zero) t e = below_six t 1 (length m.functions) e (omega arith)
  type_low (suc (suc zero)) t e = below_six t 2 (length m.functions) e (omega arith)
  type_low (suc (suc (suc zero))) t e = below_six t 3 (length m.functions) e (omega arith)
  type_low (suc (suc (suc (suc zero)))) t e = below_six t 4 (length m.functions) e (omega arith)
  type_low (suc (suc (suc (suc (suc zero))))) t e = below_six t 5 (length m.functions) e (omega arith)
  type_low (suc (suc (suc (suc (suc (suc k)))))) t e = let it = number_from m.functions 0 k t e in let same = it.0 in let less = it.1 in omega (arith, same, less)

  pub types_there : (k t : ℕ) → slice_get (type_numbers (sections_of m)) k ≡ Some t → t < length (sections_of m).types
  types_there k t e = subst (λ n. t < n) (sym types_length) (type_low k t e)

  numbers_length : (fs : List Function) (n : ℕ) → length (map (λ (b : Body). b.type) (bodies n fs)) ≡ length fs
  numbers_length [] n = refl
  numbers_length (h ∷ hs) n = ap suc (numbers_length hs (suc n))

  pub functions_length : length (type_numbers (sections_of m)) ≡ 6 + length m.functions
  functions_length = let same = numbers_length m.functions 0 in omega (arith, same)
