-- The instructions of the library's functions have their operands.
use Rattle.std.proofs.Common.{◌≡◌, ◌≢◌, ℕ, ◌+◌, ◌<◌, ◌≤◌, List, [], ◌∷◌, length, true, refl, sym, ap, ◌∙◌, arith}
use Rattle.isp_base.specs.Ranks.{widened}
use Rattle.isp_base.specs.declared.operators.UnaryOp.TheVariants.{Absolute, Not}
use Rattle.isp_base.specs.declared.types.Elem.{Elem}
use Rattle.isp_base.specs.declared.types.Elem.TheVariants.{Bool as Truth, I8, U8, I16, U16, I32, U32, I64, U64}
use Rattle.isp_base.specs.declared.types.Rate.{Rate}
use Rattle.isp_base.specs.declared.types.Rate.TheVariants.{Uniform, Varying}
use Rattle.isp_code.specs.Fine.{is_sum}
use Rattle.isp_code.specs.Listing.{Listing, Routine}
use Rattle.isp_code.specs.declared.instr.Exchange.{Exchange}
use Rattle.isp_code.specs.declared.instr.Exchange.TheVariants as exchange
use Rattle.isp_code.specs.declared.instr.Plain.TheVariants as plain
use Rattle.isp_code.specs.declared.instr.Reduction.TheVariants as reduction
use Rattle.isp_code.specs.declared.instr.Scan.{Scan}
use Rattle.isp_code.specs.declared.instr.Scan.TheVariants as scan
use Rattle.isp_typed.specs.Fine.{IsWhole, LibraryWorksIn}
use Rattle.isp_typed.specs.Library.{library_type, parts}
use Rattle.isp_typed.specs.Typed.{TExprs, t_no_exprs, t_expr_then, TFunction, type_of}
use Rattle.isp_typed.specs.declared.library.Library.{Library}
use Rattle.isp_typed.specs.declared.library.Library.TheVariants as library
use Rattle.isp_lower_code.specs.Asks.{values_asks}
use Rattle.isp_lower_code.specs.Code.{value_registers}
use Rattle.isp_lower_code.specs.Found.{operand}
use Rattle.isp_lower_code.specs.Layout.{Layout}
use Rattle.isp_lower_code.specs.Library.{exchange_of, library_code, library_rates, reduce, register_at, scan_of}
use Rattle.isp_lower_code.specs.Sound.{HasKept, IsSound, AreSound, IsRegister, Granted}
use Rattle.isp_lower_code.proofs.InRow.{EachFrom, each_past, elem_at}
use Rattle.isp_lower_code.proofs.LibraryTypes.{count_of, elems_of, part_elems}
use Rattle.isp_lower_code.proofs.Parts.{IsNumber}
use Rattle.isp_lower_code.proofs.SoundFound.{operand_there}
use Rattle.isp_lower_code.proofs.SoundLines.{no_truth, compute_sound, select_sound, unary_sound}
use Rattle.isp_lower_code.proofs.Trees.{ValuesTree}

-- ---- registers of values, which are there and of their types

module _ (h : Routine) where
  abbrev pub ThereFrom : List Rate → List Elem → List ℕ → Type 0
  ThereFrom rs es xs = EachFrom (λ j r x. IsRegister h r x (elem_at es j)) rs 0 xs

  module _ (fs : List TFunction) (l : Layout) (constants : HasKept h l) where
    pub there_from : (rs : List Rate) (xs : TExprs) (n : ℕ) → length rs ≤ count_of xs → ValuesTree fs rs xs → Granted h l (values_asks rs xs n) → ThereFrom rs (elems_of xs) (value_registers l rs xs n)
    there_from [] xs n le is f = tt
    there_from (r ∷ rs) t_no_exprs n le is f = absurd (omega (arith, le))
    there_from (r ∷ rs) (t_expr_then x xs) n le is f = (
      operand_there fs h l constants r (type_of x).elem x n is.0 is.1 f.1.0,
      each_past
          (λ j q y. IsRegister h q y (elem_at (elems_of (t_expr_then x xs)) j)) rs 0 (operand l r x n) (value_registers l rs xs (n + 1))
          (there_from rs xs (n + 1) (omega (arith, le)) is.2 f.1.1),
    )

-- ---- types

number_of : (e : Elem) → IsWhole e → IsNumber e
number_of Truth is = absurd (cc)
number_of I8 is = tt
number_of U8 is = tt
number_of I16 is = tt
number_of U16 is = tt
number_of I32 is = tt
number_of U32 is = tt
number_of I64 is = tt
number_of U64 is = tt

sum_is : (e : Elem) → is_sum (widened e) ≡ true
sum_is Truth = refl
sum_is I8 = refl
sum_is U8 = refl
sum_is I16 = refl
sum_is U16 = refl
sum_is I32 = refl
sum_is U32 = refl
sum_is I64 = refl
sum_is U64 = refl

module _ (code : Listing) (h : Routine) (k : ℕ) (lk : k < h.masks) where
  -- ---- each instruction

  sum_sound : (t : Elem) (d x : ℕ) → IsNumber t → IsRegister h Uniform d (widened t) → IsRegister h Varying x t → IsSound code h (reduce reduction.Add d x k)
  sum_sound t d x is hd hx =
      (((hd.0, ap is_sum hd.1 ∙ sum_is t), ((hx.0, (λ e. no_truth t is (sym hx.1 ∙ e), ap widened hx.1 ∙ sym hd.1)), ((refl, lk), tt))), tt)

  number_from : (t u : Elem) → IsNumber t → u ≡ t → u ≢ Truth
  number_from t u is e = λ z. no_truth t is (sym e ∙ z)

  scan_sound : (o : Scan) (t : Elem) (d x : ℕ) → IsNumber t → IsRegister h Varying d t → IsRegister h Varying x t → IsSound code h (scan_of o d x k)
  scan_sound o t d x is hd hx = (((hd.0, number_from t _ is hd.1), ((hx.0, hx.1 ∙ sym hd.1), ((refl, lk), tt))), tt)

  exchange_sound : (o : Exchange) (t : Elem) (d x i : ℕ) → IsNumber t → IsRegister h Varying d t → IsRegister h Varying x t → IsRegister h Uniform i I32 → IsSound code h (exchange_of o d x i k)
  exchange_sound o t d x i is hd hx hi = (((hd.0, number_from t _ is hd.1), ((hx.0, hx.1 ∙ sym hd.1), ((hi.0, hi.1), ((refl, lk), tt)))), tt)

  -- ---- the table

  pub library_sound : (f : Library) (e : Elem) (r : Rate) (d s : ℕ) (xs : List ℕ) → LibraryWorksIn f e
      → IsRegister h (library_type f e r).rate d (library_type f e r).elem → IsRegister h (library_type f e r).rate s (library_type f e r).elem
      → ThereFrom h (library_rates f (library_type f e r).rate) (part_elems e (parts f)) xs
      → AreSound code h (library_code f (library_type f e r).rate d s xs k)
  library_sound library.ReduceAdd e r d s xs is hd hs v = (sum_sound e d (register_at xs 0) (number_of e is) hd v.0, tt)
  library_sound library.ReduceMin e r d s xs is hd hs v = ((((hd.0, number_from e _ (number_of e is) hd.1), ((v.0.0, v.0.1 ∙ sym hd.1), ((refl, lk), tt))), tt), tt)
  library_sound library.ReduceMax e r d s xs is hd hs v = ((((hd.0, number_from e _ (number_of e is) hd.1), ((v.0.0, v.0.1 ∙ sym hd.1), ((refl, lk), tt))), tt), tt)
  library_sound library.ReduceEqual e r d s xs is hd hs v = ((((hd.0, hd.1), ((v.0.0, number_from e _ (number_of e is) v.0.1), ((refl, lk), tt))), tt), tt)
  library_sound library.Any e r d s xs is hd hs v = ((((hd.0, hd.1), ((v.0.0, v.0.1), ((refl, lk), tt))), tt), tt)
  library_sound library.All e r d s xs is hd hs v = ((((hd.0, hd.1), ((v.0.0, v.0.1), ((refl, lk), tt))), tt), tt)
  library_sound library.None e r d s xs is hd hs v =
      ((((hs.0, hs.1), ((v.0.0, v.0.1), ((refl, lk), tt))), tt), (unary_sound code h Uniform Not Truth d s k refl hd hs lk, tt))
  library_sound library.ScanAdd e r d s xs is hd hs v = (scan_sound scan.Add e d (register_at xs 0) (number_of e is) hd v.0, tt)
  library_sound library.ScanAnd e r d s xs is hd hs v = (scan_sound scan.And e d (register_at xs 0) (number_of e is) hd v.0, tt)
  library_sound library.ScanOr e r d s xs is hd hs v = (scan_sound scan.Or e d (register_at xs 0) (number_of e is) hd v.0, tt)
  library_sound library.Broadcast e r d s xs is hd hs v = (exchange_sound exchange.Broadcast e d (register_at xs 0) (register_at xs 1) (number_of e is) hd v.0 v.1.0, tt)
  library_sound library.Rotate e r d s xs is hd hs v = (exchange_sound exchange.Rotate e d (register_at xs 0) (register_at xs 1) (number_of e is) hd v.0 v.1.0, tt)
  library_sound library.Shift e r d s xs is hd hs v = (exchange_sound exchange.Shift e d (register_at xs 0) (register_at xs 1) (number_of e is) hd v.0 v.1.0, tt)
  library_sound library.Shuffle e r d s xs is hd hs v =
      ((((hd.0, number_from e _ (number_of e is) hd.1), ((v.0.0, v.0.1 ∙ sym hd.1), ((v.1.0.0, v.1.0.1), ((refl, lk), tt)))), tt), tt)
  library_sound library.ShuffleTwo e r d s xs is hd hs v =
      ((((hd.0, number_from e _ (number_of e is) hd.1), ((v.0.0, v.0.1 ∙ sym hd.1), ((v.1.0.0, v.1.0.1 ∙ sym hd.1), ((v.1.1.0.0, v.1.1.0.1), ((refl, lk), tt))))), tt), tt)
  library_sound library.Extract e r d s xs is hd hs v =
      ((((hd.0, number_from e _ (number_of e is) hd.1), ((v.0.0, v.0.1 ∙ sym hd.1), ((v.1.0.0, v.1.0.1), ((refl, lk), tt)))), tt), tt)
  library_sound library.Insert e r d s xs is hd hs v =
      ((((hd.0, number_from e _ (number_of e is) hd.1), ((v.0.0, v.0.1 ∙ sym hd.1), ((v.1.0.0, v.1.0.1), ((v.1.1.0.0, v.1.1.0.1 ∙ sym hd.1), ((refl, lk), tt))))), tt), tt)
  library_sound library.Min e r d s xs is hd hs v = (compute_sound code h r plain.Min e d (register_at xs 0) (register_at xs 1) k (number_of e is) hd v.0 v.1.0 lk, tt)
  library_sound library.Max e r d s xs is hd hs v = (compute_sound code h r plain.Max e d (register_at xs 0) (register_at xs 1) k (number_of e is) hd v.0 v.1.0 lk, tt)
  library_sound library.Clamp e r d s xs is hd hs v =
      (compute_sound code h r plain.Max e s (register_at xs 0) (register_at xs 1) k (number_of e is) hs v.0 v.1.0 lk, (compute_sound code h r plain.Min e d s (register_at xs 2) k (number_of e is) hd hs v.1.1.0 lk, tt))
  library_sound library.Abs e r d s xs is hd hs v = (unary_sound code h r Absolute e d (register_at xs 0) k is hd v.0 lk, tt)
  library_sound library.Select e r d s xs is hd hs v = (select_sound code h r e d (register_at xs 0) (register_at xs 1) (register_at xs 2) k hd v.0 v.1.0 v.1.1.0 lk, tt)
