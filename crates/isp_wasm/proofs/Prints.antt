-- The templates of values that are written: what the host makes of them is what the machine writes.
use Rattle.std.proofs.Common.{◌≡◌, ℕ, zero, suc, ◌+◌, ◌-◌, ◌%◌, ◌^◌, ◌<◌, ◌≤◌, ◌⊎◌, inl, inr, List, ◌++◌, Some, None, Bool, true, false, refl, sym, ap, ◌∙◌, subst, append_assoc, append-nil, arith, mod-eq_of_lt}
use Rattle.std.specs.Prelude.{ℤ, pos, ◌-ℤ◌, slice_get, nat_lt, nat_eq, if◌then◌else◌, codes}
use Rattle.std.specs.Fmt.{signed_decimal}
use Rattle.std.proofs.lemmas.Bool.{cases_lt, lt-ltb, le-ltb, cond-true, cond-false, ne_eqb}
use Rattle.std.proofs.lemmas.Int.{ints}
use Rattle.isp_base.specs.Maps.{on}
use Rattle.isp_base.specs.Prints.{value_text, truth_text, item_text, comma, items_text, list_text}
use Rattle.isp_base.specs.Ranges.{IsValue, IsSigned, IsUnsigned}
use Rattle.isp_base.specs.Values.{width, wrap, number, number_to}
use Rattle.isp_base.specs.declared.types.Elem.{Elem}
use Rattle.isp_base.specs.declared.types.Elem.TheVariants.{Bool as Truth, I8, U8, I16, U16, I32, U32, I64, U64}
use Rattle.isp_base.proofs.Laws.{value_is, back_is, bits_are}
use Rattle.isp_base.proofs.Wraps.{wrap_to-lt}
use Rattle.isp_code.specs.Conf.{Conf, Say}
use Rattle.isp_code.specs.Lines.{act, next}
use Rattle.isp_code.specs.declared.instr.Instr.{Instr}
use Rattle.isp_code.specs.declared.instr.Instr.TheVariants as instr
use Rattle.isp_code.specs.declared.register.Register.{Register}
use Rattle.isp_wasm_meaning.specs.Syntax.{Expr, If}
use Rattle.isp_wasm_meaning.specs.Meaning.{State, Result, Fell, run, behind, then_to, value, flags, printed}
use Rattle.isp_wasm_meaning.specs.Syntax.{SignedText, UnsignedText, TruthText}
use Rattle.isp_wasm_meaning.specs.Ladder.{Meets}
use Rattle.isp_wasm.specs.Places.{Setting, Counter, elem, gang}
use Rattle.isp_wasm.specs.Rows.{lane_at}
use Rattle.isp_wasm.specs.Templates.{each, is_member, scalar_local, vector_local, print_value, print_byte, print_comma, print_item, print_list}
use Rattle.isp_wasm.specs.Standing.{Stands, IsSettled, the_machine}
use Rattle.isp_wasm.specs.Thin.{IsScalar, IsVector}
use Rattle.isp_wasm.proofs.Converts.{convert_is}
use Rattle.isp_wasm.proofs.MaskWords.{member_is}
use Rattle.isp_wasm.proofs.Steps.{step_is}
use Rattle.isp_wasm.proofs.Vectors.{scalar_fits, vector_lane, vector_fits}

-- ---- numbers

signed_is : (v : ℕ) → v < 2 ^ 64 → (if nat_lt v (2 ^ 63) then pos v else pos v -ℤ pos (2 ^ 64)) ≡ number I64 v
unfolding number_to
signed_is v fit = by (cases_lt v (2 ^ 63))
  where
    low : v % 2 ^ 64 ≡ v
    low = mod-eq_of_lt fit

    by : (v < 2 ^ 63) ⊎ (2 ^ 63 ≤ v) → (if nat_lt v (2 ^ 63) then pos v else pos v -ℤ pos (2 ^ 64)) ≡ (if nat_lt (2 ^ 63 - 1) (v % 2 ^ 64) then pos (v % 2 ^ 64) -ℤ pos (2 ^ 64) else pos (v % 2 ^ 64))
    by (inl lt) =
        cond-true (nat_lt v (2 ^ 63)) (pos v) (pos v -ℤ pos (2 ^ 64)) (lt-ltb v (2 ^ 63) lt)
        ∙ sym (ap (λ n. if nat_lt (2 ^ 63 - 1) n then pos n -ℤ pos (2 ^ 64) else pos n) low ∙ cond-false (nat_lt (2 ^ 63 - 1) v) (pos v -ℤ pos (2 ^ 64)) (pos v) (le-ltb (2 ^ 63 - 1) v (omega (arith, lt))))
    by (inr le) =
        cond-false (nat_lt v (2 ^ 63)) (pos v) (pos v -ℤ pos (2 ^ 64)) (le-ltb v (2 ^ 63) le)
        ∙ sym (ap (λ n. if nat_lt (2 ^ 63 - 1) n then pos n -ℤ pos (2 ^ 64) else pos n) low ∙ cond-true (nat_lt (2 ^ 63 - 1) v) (pos v -ℤ pos (2 ^ 64)) (pos v) (lt-ltb (2 ^ 63 - 1) v (omega (arith, le))))

unsigned_is : (v : ℕ) → v < 2 ^ 64 → pos v ≡ number U64 v
unfolding number_to
unsigned_is v fit =
    sym (ap (λ n. if nat_lt (2 ^ 64 - 1) n then pos n -ℤ pos (2 ^ 64) else pos n) (mod-eq_of_lt fit) ∙ cond-false (nat_lt (2 ^ 64 - 1) v) (pos v -ℤ pos (2 ^ 64)) (pos v) (le-ltb (2 ^ 64 - 1) v (omega (arith, fit))))

-- bits that fit are a value
bits_value : (t : Elem) (b : ℕ) → b < 2 ^ width t → IsValue t (number t b)
bits_value t b fit = subst (λ n. IsValue t (number t n)) (bits_are t b fit) (value_is t (number t b))

signed_text : (z : ℤ) → IsSigned 63 z → printed SignedText (wrap I64 z) ≡ signed_decimal z
signed_text z is = ap signed_decimal (signed_is (wrap I64 z) (wrap_to-lt 64 z) ∙ back_is I64 z is)

unsigned_text : (z : ℤ) → IsUnsigned 64 z → printed UnsignedText (wrap U64 z) ≡ signed_decimal z
unsigned_text z is = ap signed_decimal (unsigned_is (wrap U64 z) (wrap_to-lt 64 z) ∙ back_is U64 z is)

truth_is : (v : ℕ) → printed TruthText v ≡ truth_text v
truth_is zero = refl
truth_is (suc v) = cond-false (nat_eq (suc v) 0) (codes "false") (codes "true") (ne_eqb (suc v) 0 (λ e. omega (arith, e)))

module _ (w : Setting) (fuel : ℕ) (call : ℕ → List ℕ → State → Result) where
  wrote : List ℕ → State → Result
  wrote text s = Fell (record s { out = s.out ++ text })

  -- a value that an expression has
  value_wrote : (t : Elem) (e : Expr) (x : ℕ) (s : State) → value s.locals e ≡ x → x < 2 ^ width t → run fuel call (print_value w t e) s ≡ Fell (record s { out = s.out ++ value_text t x })
  value_wrote Truth e x s is fit = ap (λ v. Fell (record s { out = s.out ++ printed TruthText v })) is ∙ ap (λ text. Fell (record s { out = s.out ++ text })) (truth_is x)
  value_wrote I8 e x s is fit =
      ap (λ v. Fell (record s { out = s.out ++ printed SignedText v })) (convert_is I8 I64 s.locals e x is fit) ∙ ap (λ text. Fell (record s { out = s.out ++ text })) (signed_text (number I8 x) (let v = bits_value I8 x fit in (omega (arith, ints, v.0), omega (arith, ints, v.1))))
  value_wrote I16 e x s is fit =
      ap (λ v. Fell (record s { out = s.out ++ printed SignedText v })) (convert_is I16 I64 s.locals e x is fit) ∙ ap (λ text. Fell (record s { out = s.out ++ text })) (signed_text (number I16 x) (let v = bits_value I16 x fit in (omega (arith, ints, v.0), omega (arith, ints, v.1))))
  value_wrote I32 e x s is fit =
      ap (λ v. Fell (record s { out = s.out ++ printed SignedText v })) (convert_is I32 I64 s.locals e x is fit) ∙ ap (λ text. Fell (record s { out = s.out ++ text })) (signed_text (number I32 x) (let v = bits_value I32 x fit in (omega (arith, ints, v.0), omega (arith, ints, v.1))))
  value_wrote I64 e x s is fit =
      ap (λ v. Fell (record s { out = s.out ++ printed SignedText v })) (convert_is I64 I64 s.locals e x is fit) ∙ ap (λ text. Fell (record s { out = s.out ++ text })) (signed_text (number I64 x) (bits_value I64 x fit))
  value_wrote U8 e x s is fit =
      ap (λ v. Fell (record s { out = s.out ++ printed UnsignedText v })) (convert_is U8 U64 s.locals e x is fit) ∙ ap (λ text. Fell (record s { out = s.out ++ text })) (unsigned_text (number U8 x) (let v = bits_value U8 x fit in (v.0, omega (arith, ints, v.1))))
  value_wrote U16 e x s is fit =
      ap (λ v. Fell (record s { out = s.out ++ printed UnsignedText v })) (convert_is U16 U64 s.locals e x is fit) ∙ ap (λ text. Fell (record s { out = s.out ++ text })) (unsigned_text (number U16 x) (let v = bits_value U16 x fit in (v.0, omega (arith, ints, v.1))))
  value_wrote U32 e x s is fit =
      ap (λ v. Fell (record s { out = s.out ++ printed UnsignedText v })) (convert_is U32 U64 s.locals e x is fit) ∙ ap (λ text. Fell (record s { out = s.out ++ text })) (unsigned_text (number U32 x) (let v = bits_value U32 x fit in (v.0, omega (arith, ints, v.1))))
  value_wrote U64 e x s is fit =
      ap (λ v. Fell (record s { out = s.out ++ printed UnsignedText v })) (convert_is U64 U64 s.locals e x is fit) ∙ ap (λ text. Fell (record s { out = s.out ++ text })) (unsigned_text (number U64 x) (bits_value U64 x fit))

  comma_wrote : (p : ℕ) (s : State) → run fuel call (print_comma w p) s ≡ Fell (record s { out = s.out ++ comma p })
  comma_wrote zero s = ap (λ o. Fell (record s { out = o })) (sym (append-nil s.out))
  comma_wrote (suc p) s = refl

  -- two texts one after the other
  joined : (s : State) (a b : List ℕ) → Fell (record s { out = (s.out ++ a) ++ b }) ≡ Fell (record s { out = s.out ++ (a ++ b) })
  joined s a b = ap (λ o. Fell (record s { out = o })) (append_assoc s.out a b)

  module _ (x k : Register) (mask : ℕ → Bool) (f : ℕ → ℕ) where
    abbrev pub item : ℕ → Expr
    item p = lane_at (elem w x) (vector_local w x) p

    one_wrote : (p : ℕ) (s : State) (b : Bool) → value s.locals (is_member w k p) ≡ flags 8 b → value s.locals (item p) ≡ f p → f p < 2 ^ width (elem w x)
        → run fuel call (If (is_member w k p) (print_value w (elem w x) (item p)) (print_byte w 95)) s ≡ Fell (record s { out = s.out ++ item_text (elem w x) (if b then Some (f p) else None) })
    one_wrote p s true member is fit =
        ap (λ v. behind (if nat_eq v 0 then run fuel call (print_byte w 95) s else run fuel call (print_value w (elem w x) (item p)) s)) member ∙ ap behind (value_wrote (elem w x) (item p) (f p) s is fit)
    one_wrote p s false member is fit = ap (λ v. behind (if nat_eq v 0 then run fuel call (print_byte w 95) s else run fuel call (print_value w (elem w x) (item p)) s)) member

    item_wrote : (p : ℕ) (s : State) → value s.locals (is_member w k p) ≡ flags 8 (mask p) → value s.locals (item p) ≡ f p → f p < 2 ^ width (elem w x)
        → run fuel call (print_item w x k p) s ≡ Fell (record s { out = s.out ++ (comma p ++ item_text (elem w x) (on mask f p)) })
    item_wrote p s member is fit =
        ap (λ r. then_to r (run fuel call (If (is_member w k p) (print_value w (elem w x) (item p)) (print_byte w 95)))) (comma_wrote p s)
        ∙ one_wrote p (record s { out = s.out ++ comma p }) (mask p) member is fit ∙ joined s (comma p) (item_text (elem w x) (on mask f p))

    items_wrote : (n : ℕ) (s : State) → ((p : ℕ) → p < n → (value s.locals (is_member w k p) ≡ flags 8 (mask p)) × (value s.locals (item p) ≡ f p) × (f p < 2 ^ width (elem w x)))
        → run fuel call (each n (print_item w x k)) s ≡ Fell (record s { out = s.out ++ items_text (elem w x) n (on mask f) })
    items_wrote zero s h = ap (λ o. Fell (record s { out = o })) (sym (append-nil s.out))
    items_wrote (suc n) s h =
        let last = h n (omega arith) in
        ap (λ r. then_to r (run fuel call (print_item w x k n))) (items_wrote n s (λ p l. h p (omega (arith, l))))
        ∙ item_wrote n (record s { out = s.out ++ items_text (elem w x) n (on mask f) }) last.0 last.1 last.2
        ∙ joined s (items_text (elem w x) n (on mask f)) (comma n ++ item_text (elem w x) (on mask f n))

    list_wrote : (s : State) → ((p : ℕ) → p < gang w → (value s.locals (is_member w k p) ≡ flags 8 (mask p)) × (value s.locals (item p) ≡ f p) × (f p < 2 ^ width (elem w x)))
        → run fuel call (print_list w x k) s ≡ Fell (record s { out = s.out ++ list_text (elem w x) (gang w) (on mask f) })
    list_wrote s h =
        ap (λ r. then_to r (run fuel call (print_byte w 93))) (items_wrote (gang w) (record s { out = s.out ++ codes "[" }) h ∙ joined s (codes "[") (items_text (elem w x) (gang w) (on mask f)))
        ∙ joined s (codes "[" ++ items_text (elem w x) (gang w) (on mask f)) (codes "]") ∙ ap (λ text. Fell (record s { out = s.out ++ text })) (append_assoc (codes "[") (items_text (elem w x) (gang w) (on mask f)) (codes "]"))

module _ (w : Setting) (ready : IsSettled w) (fuel n k : ℕ) (call : ℕ → List ℕ → State → Result) (pc : ℕ) (c : Conf) (s : State) (st : Stands w pc c s) where
  abbrev pub Good : ℕ → Conf → Result → Type 0
  Good pc = Meets (the_machine w) (w.local Counter) n fuel (Stands w pc) (suc k)

  -- an instruction that writes a text
  says : (i : Instr) (text : List ℕ) → slice_get w.routine.code pc ≡ Some i → act w.code w.routine c i ≡ Say text (next c) → Good (pc + 1) c (Fell (record s { out = s.out ++ text }))
  says i text has is =
      record {
        conf = record c { pc = c.pc + 1; out = c.out ++ text };
        steps = 1;
        goes = step_is w ready pc c s i (Say text (next c)) st has is;
        stands =
            record {
              home_is = st.home_is;
              waiting_is = st.waiting_is;
              pc_is = ap (λ p. p + 1) st.pc_is;
              out_is = ap (λ xs. xs ++ text) st.out_is;
              holds = st.holds;
              keeps = st.keeps;
            };
      }

  pub prints_scalar : (x : Register) → slice_get w.routine.code pc ≡ Some (instr.PrintScalar x) → IsScalar w x (elem w x) → Good (pc + 1) c (run fuel call (print_value w (elem w x) (scalar_local w x)) s)
  prints_scalar x has is =
      subst (Good (pc + 1) c) (sym (value_wrote w fuel call (elem w x) (scalar_local w x) (c.scalars x.number) s (st.holds.scalars_are x.number) (scalar_fits w c s.locals st.holds x (elem w x) is)))
      (says (instr.PrintScalar x) (value_text (elem w x) (c.scalars x.number)) has refl)

  pub prints_vector : (x m : Register) → slice_get w.routine.code pc ≡ Some (instr.PrintVector x m) → IsVector w x (elem w x) → Good (pc + 1) c (run fuel call (print_list w x m) s)
  prints_vector x m has is =
      subst (Good (pc + 1) c)
      (sym (list_wrote w fuel call x m (c.masks m.number) (c.vectors x.number) s
      (λ p q. (member_is w c.scalars c.vectors c.masks s.locals st.holds m p, vector_lane w c s.locals st.holds x (elem w x) is p q, vector_fits w c s.locals st.holds x (elem w x) is p q))))
      (says (instr.PrintVector x m) (list_text (elem w x) (gang w) (on (c.masks m.number) (c.vectors x.number))) has refl)
