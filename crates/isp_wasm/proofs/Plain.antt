-- What accepted code says of a function whose form is covered, whoever calls it.
use Rattle.std.proofs.Common.{◌≡◌, ℕ, zero, suc, ◌+◌, ◌^◌, ◌<◌, ◌≤◌, ◌⊎◌, inl, inr, List, [], ◌∷◌, length, Option, Some, None, Bool, true, false, not, ◌&&◌, ◌||◌, refl, sym, ap, ◌∙◌, subst, eq-eqb, arith}
use Rattle.std.specs.Prelude.{slice_get, slice_index_or, nat_lt}
use Rattle.std.specs.List.{list_all, list_any}
use Rattle.std.proofs.lemmas.Bool.{cases_lt, ltb-true}
use Rattle.std.proofs.lemmas.Option.{slice_get_past, slice_get-get_or}
use Rattle.std.proofs.lemmas.List.{get_or_past}
use Rattle.std.proofs.Math.ListN.{get_or}
use Rattle.isp_base.specs.declared.types.Elem.{Elem}
use Rattle.isp_code.specs.Conf.{Home, Frame}
use Rattle.isp_code.specs.Fine.{AllFine, CallsFine}
use Rattle.isp_code.specs.Listing.{Listing, Routine}
use Rattle.isp_code.specs.Operands.{operands}
use Rattle.isp_code.specs.declared.instr.Call.{Call}
use Rattle.isp_code.specs.declared.instr.Instr.{Instr}
use Rattle.isp_code.specs.declared.instr.Instr.TheVariants as instr
use Rattle.isp_verify.specs.Accepted.{IsFine}
use Rattle.isp_verify.specs.Faults.{stays, last}
use Rattle.isp_base.specs.Types.{gang_width}
use Rattle.isp_forms.specs.Runs.{Forms}
use Rattle.isp_wasm.specs.Places.{Setting, Place}
use Rattle.isp_wasm.specs.Lines.{HasArrays, HasTemplate}
use Rattle.isp_wasm.specs.Module.{goes_to, is_head, heads_of, joined, text_start, is_plain, all_plain, is_covered, numbered}
use Rattle.isp_wasm.specs.Stack.{is_call, has_call, bytes_in}
use Rattle.isp_wasm.specs.Thin.{IsHead, IsCovered, IsLast, AllThin}
use Rattle.isp_wasm.proofs.Operands.{fine_is_thin}
use Rattle.isp_wasm.proofs.Passing.{both_first, both_second}
use Rattle.isp_wasm.proofs.Heads.{few, up, inside, target_is}
use Rattle.isp_wasm.proofs.TextPlaces.{text_ends}

-- ---- lists

pub all_at : {A : Type 0} (p : A → Bool) (xs : List A) (k : ℕ) (x : A) → list_all p xs ≡ true → slice_get xs k ≡ Some x → p x ≡ true
all_at p [] k x all has = absurd cc
all_at p (y ∷ xs) zero x all has = let same : y ≡ x = cc in ap p (sym same) ∙ both_first (p y) (list_all p xs) all
all_at p (y ∷ xs) (suc k) x all has = all_at p xs k x (both_second (p y) (list_all p xs) all) has

or_left : (a b : Bool) → a ≡ true → (a || b) ≡ true
or_left true b e = refl
or_left false b e = absurd cc

or_right : (a b : Bool) → b ≡ true → (a || b) ≡ true
or_right true b e = refl
or_right false b e = e

pub any_at : {A : Type 0} (p : A → Bool) (xs : List A) (k : ℕ) (x : A) → slice_get xs k ≡ Some x → p x ≡ true → list_any p xs ≡ true
any_at p [] k x has e = absurd cc
any_at p (y ∷ xs) zero x has e = let same : y ≡ x = cc in or_left (p y) (list_any p xs) (ap p same ∙ e)
any_at p (y ∷ xs) (suc k) x has e = or_right (p y) (list_any p xs) (any_at p xs k x has e)

-- a function that calls has a call
pub calls_some : (h : Routine) (pc : ℕ) (k : Call) → slice_get h.code pc ≡ Some (instr.Call k) → has_call h ≡ true
calls_some h pc k has = any_at is_call h.code pc (instr.Call k) has refl

-- what is covered, and where it calls, all functions are so
pub covered_plain : (code : Listing) (h : Routine) → is_covered code h ≡ true → is_plain code h ≡ true
covered_plain code h covers = both_first (is_plain code h) (not (has_call h) || all_plain code) covers

pub covered_calls : (code : Listing) (h : Routine) → is_covered code h ≡ true → (pc : ℕ) (k : Call) → slice_get h.code pc ≡ Some (instr.Call k) → all_plain code ≡ true
covered_calls code h covers pc k has = ap (λ b. not b || all_plain code) (sym (calls_some h pc k has)) ∙ both_second (is_plain code h) (not (has_call h) || all_plain code) covers

-- ---- lines

last_is : (o : Option Instr) → stays o ≡ true → (w : Setting) → IsLast w o
last_is None e w = absurd cc
last_is (Some (instr.Jump to)) e w = tt
last_is (Some (instr.Return x)) e w = tt
last_is (Some (instr.Scalar d i)) e w = absurd cc
last_is (Some (instr.Vector d i)) e w = absurd cc
last_is (Some (instr.Mask d i)) e w = absurd cc
last_is (Some (instr.Divide o d x y k q)) e w = absurd cc
last_is (Some (instr.Store a i y k q)) e w = absurd cc
last_is (Some (instr.Scatter a i y k q)) e w = absurd cc
last_is (Some (instr.StoreRun a i y k q)) e w = absurd cc
last_is (Some (instr.PackedStore d a i y k q)) e w = absurd cc
last_is (Some (instr.PackedLoad d a i y k q)) e w = absurd cc
last_is (Some (instr.Clear a k)) e w = absurd cc
last_is (Some (instr.JumpIf t x to)) e w = absurd cc
last_is (Some (instr.Say t)) e w = absurd cc
last_is (Some (instr.PrintScalar x)) e w = absurd cc
last_is (Some (instr.PrintVector x k)) e w = absurd cc
last_is (Some (instr.Fail x q)) e w = absurd cc
last_is (Some (instr.Call c)) e w = absurd cc

module _ (w : Setting) (heads : (pc to : ℕ) (i : Instr) → slice_get w.routine.code pc ≡ Some i → goes_to to i ≡ true → to < length w.routine.code → IsHead w to) where
  template : (pc : ℕ) (i : Instr) → slice_get w.routine.code pc ≡ Some i → AllFine w.code w.routine (operands i) → CallsFine w.code w.routine i → HasTemplate w i
  template pc (instr.Clear a k) has fine calls = tt
  template pc (instr.PrintScalar x) has fine calls = tt
  template pc (instr.PrintVector x k) has fine calls = tt
  template pc (instr.Jump to) has fine calls = heads pc to (instr.Jump to) has (eq-eqb to to refl) fine.0
  template pc (instr.JumpIf t x to) has fine calls = heads pc to (instr.JumpIf t x to) has (eq-eqb to to refl) (fine.1).0
  template pc (instr.Scalar d i) has fine calls = tt
  template pc (instr.Vector d i) has fine calls = tt
  template pc (instr.Mask d i) has fine calls = tt
  template pc (instr.Divide o d x y k q) has fine calls = tt
  template pc (instr.Store a i y k q) has fine calls = tt
  template pc (instr.Scatter a i y k q) has fine calls = tt
  template pc (instr.StoreRun a i y k q) has fine calls = tt
  template pc (instr.PackedStore d a i y k q) has fine calls = tt
  template pc (instr.PackedLoad d a i y k q) has fine calls = tt
  template pc (instr.Say t) has fine calls = tt
  template pc (instr.Fail x q) has fine calls = tt
  template pc (instr.Call k) has fine calls = calls
  template pc (instr.Return x) has fine calls = tt

-- ---- a function

module _ (code : Listing) (forms : Forms) (h : Routine) where
  -- in a call, with its locals numbered so
  abbrev pub placed : (Place → ℕ) → Home → List Frame → (ℕ → ℕ) → (ℕ → ℕ) → (ℕ → Elem) → (ℕ → ℕ) → ℕ → Option ℕ → Setting
  placed local home waiting begins sizes elems before room stack =
      record (numbered code forms 0 h) { local = local; home = home; waiting = waiting; begins = begins; sizes = sizes; elems = elems; before = before; room = room; stack = stack }

module _ (code : Listing) (h : Routine) (f : ℕ) (accepted : IsFine code) (found : slice_get code.routines f ≡ Some h) (plain : is_plain code h ≡ true) where
  pub bytes_low : suc (bytes_in (gang_width code.gang) h.locals) < 2 ^ 32
  bytes_low = ltb-true (suc (bytes_in (gang_width code.gang) h.locals)) (2 ^ 32) (both_first (nat_lt (suc (bytes_in (gang_width code.gang) h.locals)) (2 ^ 32)) (nat_lt (length h.code) (2 ^ 32) && nat_lt (length (joined code.texts)) (2 ^ 32)) plain)

  sizes_fit : (nat_lt (length h.code) (2 ^ 32) && nat_lt (length (joined code.texts)) (2 ^ 32)) ≡ true
  sizes_fit = both_second (nat_lt (suc (bytes_in (gang_width code.gang) h.locals)) (2 ^ 32)) (nat_lt (length h.code) (2 ^ 32) && nat_lt (length (joined code.texts)) (2 ^ 32)) plain

  pub code_low : length h.code < 2 ^ 32
  code_low = ltb-true (length h.code) (2 ^ 32) (both_first (nat_lt (length h.code) (2 ^ 32)) (nat_lt (length (joined code.texts)) (2 ^ 32)) sizes_fit)

  texts_low : length (joined code.texts) < 2 ^ 32
  texts_low = ltb-true (length (joined code.texts)) (2 ^ 32) (both_second (nat_lt (length h.code) (2 ^ 32)) (nat_lt (length (joined code.texts)) (2 ^ 32)) sizes_fit)

  pub text_low : (t : ℕ) → (text_start code.texts t < 2 ^ 32) × (length (slice_index_or code.texts t []) < 2 ^ 32)
  text_low t = let ends = text_ends code.texts t in (omega (arith, ends, texts_low), omega (arith, ends, texts_low))

  pub few_heads : length (heads_of h.code) < 2 ^ 32
  few_heads = let le = few h.code (length h.code) 0 in omega (arith, le, code_low)

  pub heads_rise : (k : ℕ) → k < length (heads_of h.code) → slice_index_or (heads_of h.code) k (length h.code) < slice_index_or (heads_of h.code) (suc k) (length h.code)
  heads_rise k lt = up h.code (length h.code) 0 (length h.code) (omega arith) k lt

  stays_last : stays (slice_get h.code (last h)) ≡ true
  stays_last = accepted.ends f h found

  pub some_code : 0 < length h.code
  some_code = by (cases_lt 0 (length h.code))
    where
      by : (0 < length h.code) ⊎ (length h.code ≤ 0) → 0 < length h.code
      by (inl lt) = lt
      by (inr le) = absurd (let gone : slice_get h.code (last h) ≡ None = slice_get_past h.code (last h) (omega (arith, le)) in let impossible : false ≡ true = ap stays (sym gone) ∙ stays_last in cc)

  module _ (forms : Forms) (local : Place → ℕ) (home : Home) (waiting : List Frame) (begins sizes : ℕ → ℕ) (elems : ℕ → Elem) (before : ℕ → ℕ) (room : ℕ) (stack : Option ℕ) where
    w : Setting
    w = placed code forms h local home waiting begins sizes elems before room stack

    heads_end : w.heads w.rungs ≡ length h.code
    unfolding w
    heads_end = get_or_past (heads_of h.code) (length (heads_of h.code)) (length h.code) (omega arith)

    head_at : (to : ℕ) → is_head h.code to ≡ true → to < length h.code → IsHead w to
    unfolding w
    head_at to is lt = let found = inside h.code (length h.code) 0 (length h.code) to is (omega arith) (omega arith) in record { low = found.low; here = found.here }

    pub covered : IsCovered (placed code forms h local home waiting begins sizes elems before room stack)
    unfolding w
    covered =
        record {
          there = λ pc lt none. (let le = absurd_past pc (subst (λ n. pc < n) heads_end lt) none in le);
          ends = λ k pc all e. (let at_end : last h ≡ pc = (let n : pc + 1 ≡ length h.code = e ∙ heads_end in omega (arith, n)) in subst (λ p. IsLast w (slice_get h.code p)) at_end (last_is (slice_get h.code (last h)) stays_last w));
        }
      where
        absurd_past : (pc : ℕ) → pc < length h.code → slice_get h.code pc ≡ None → ⊥
        absurd_past pc lt none = let some = slice_get-get_or h.code pc (instr.Jump 0) lt in let impossible : None ≡ Some (get_or h.code pc (instr.Jump 0)) = sym none ∙ some in cc

    pub all_thin : HasArrays (placed code forms h local home waiting begins sizes elems before room stack) → AllThin (placed code forms h local home waiting begins sizes elems before room stack)
    unfolding w
    all_thin arrays pc i has =
        let line = accepted.lines f h found pc i has in
        fine_is_thin w arrays i
        (template w (λ pc to i has goes lt. head_at to (target_is h.code to pc i has goes) lt) pc i has line.0 line.1)
        line.0
