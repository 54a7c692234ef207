-- The library's functions on values: at which rate each takes its values, and the instructions on their registers.
use Rattle.std.specs.Prelude.{ℕ, ◌∷◌, [], List, Bool, true, false, slice_index_or}
use Rattle.isp_base.specs.declared.operators.UnaryOp.TheVariants as unary_op
use Rattle.isp_base.specs.declared.types.Rate.{Rate}
use Rattle.isp_base.specs.declared.types.Rate.TheVariants.{Uniform, Varying}
use Rattle.isp_code.specs.declared.instr.Exchange.{Exchange}
use Rattle.isp_code.specs.declared.instr.Exchange.TheVariants as exchange
use Rattle.isp_code.specs.declared.instr.Instr.{Instr}
use Rattle.isp_code.specs.declared.instr.Instr.TheVariants as instr
use Rattle.isp_code.specs.declared.instr.Plain.TheVariants as plain
use Rattle.isp_code.specs.declared.instr.Reduction.{Reduction}
use Rattle.isp_code.specs.declared.instr.Reduction.TheVariants as reduction
use Rattle.isp_code.specs.declared.instr.ScalarInstr.TheVariants as scalar
use Rattle.isp_code.specs.declared.instr.Scan.{Scan}
use Rattle.isp_code.specs.declared.instr.Scan.TheVariants as scan
use Rattle.isp_code.specs.declared.instr.VectorInstr.TheVariants as vector
use Rattle.isp_typed.specs.Library.{asks_uniform, parts}
use Rattle.isp_typed.specs.declared.library.Library.{Library}
use Rattle.isp_typed.specs.declared.library.Library.TheVariants as library
use Rattle.isp_typed.specs.declared.library.Part.{Part}
use Rattle.isp_lower_code.specs.Instructions.{compute, select, unary}
use Rattle.isp_lower_code.specs.Layout.{mask_register, register}

-- ---- rates: what works in each instance by itself works at the rate of its result, all else on lanes

abbrev pub works_at : Library → Rate → Rate
works_at library.Min r = r
works_at library.Max r = r
works_at library.Clamp r = r
works_at library.Abs r = r
works_at library.Select r = r
works_at library.ReduceAdd r = Varying
works_at library.ReduceMin r = Varying
works_at library.ReduceMax r = Varying
works_at library.ReduceEqual r = Varying
works_at library.Any r = Varying
works_at library.All r = Varying
works_at library.None r = Varying
works_at library.ScanAdd r = Varying
works_at library.ScanAnd r = Varying
works_at library.ScanOr r = Varying
works_at library.Broadcast r = Varying
works_at library.Rotate r = Varying
works_at library.Shift r = Varying
works_at library.Shuffle r = Varying
works_at library.ShuffleTwo r = Varying
works_at library.Extract r = Varying
works_at library.Insert r = Varying

-- a value is taken at that rate, but for one that is asked uniform
abbrev pub rate_taken : Rate → Bool → Rate
rate_taken r true = Uniform
rate_taken r false = r

abbrev pub rates_taken : Rate → List Part → List Rate
rates_taken r [] = []
rates_taken r (p ∷ ps) = rate_taken r (asks_uniform p) ∷ rates_taken r ps

-- of a function that gives a value of this rate
abbrev pub library_rates : Library → Rate → List Rate
library_rates f r = rates_taken (works_at f r) (parts f)

-- ---- instructions on lanes of mask k

abbrev pub reduce : Reduction → ℕ → ℕ → ℕ → Instr
reduce o d x k = instr.Scalar (register Uniform d) (scalar.Reduce o (register Varying x) (mask_register k))

abbrev pub extract : ℕ → ℕ → ℕ → ℕ → Instr
extract d x i k = instr.Scalar (register Uniform d) (scalar.Extract (register Varying x) (register Uniform i) (mask_register k))

abbrev pub scan_of : Scan → ℕ → ℕ → ℕ → Instr
scan_of o d x k = instr.Vector (register Varying d) (vector.Scan o (register Varying x) (mask_register k))

abbrev pub exchange_of : Exchange → ℕ → ℕ → ℕ → ℕ → Instr
exchange_of o d x i k = instr.Vector (register Varying d) (vector.Exchange o (register Varying x) (register Uniform i) (mask_register k))

abbrev pub shuffle : ℕ → ℕ → ℕ → ℕ → Instr
shuffle d x i k = instr.Vector (register Varying d) (vector.Shuffle (register Varying x) (register Varying i) (mask_register k))

abbrev pub shuffle_two : ℕ → ℕ → ℕ → ℕ → ℕ → Instr
shuffle_two d x y i k =
    instr.Vector (register Varying d) (vector.ShuffleTwo (register Varying x) (register Varying y) (register Varying i) (mask_register k))

abbrev pub insert : ℕ → ℕ → ℕ → ℕ → ℕ → Instr
insert d x i y k =
    instr.Vector (register Varying d) (vector.Insert (register Varying x) (register Uniform i) (register Uniform y) (mask_register k))

-- ---- the table: register d gets what a function gives, of rate r, of values in registers x, y and z; s is a spare one

abbrev pub on_values : Library → Rate → ℕ → ℕ → ℕ → ℕ → ℕ → ℕ → List Instr
on_values library.ReduceAdd r d s x y z k = reduce reduction.Add d x k ∷ []
on_values library.ReduceMin r d s x y z k = reduce reduction.Min d x k ∷ []
on_values library.ReduceMax r d s x y z k = reduce reduction.Max d x k ∷ []
on_values library.ReduceEqual r d s x y z k = reduce reduction.Equal d x k ∷ []
on_values library.Any r d s x y z k = reduce reduction.Any d x k ∷ []
on_values library.All r d s x y z k = reduce reduction.All d x k ∷ []
on_values library.None r d s x y z k = reduce reduction.Any s x k ∷ unary Uniform unary_op.Not d s k ∷ []
on_values library.ScanAdd r d s x y z k = scan_of scan.Add d x k ∷ []
on_values library.ScanAnd r d s x y z k = scan_of scan.And d x k ∷ []
on_values library.ScanOr r d s x y z k = scan_of scan.Or d x k ∷ []
on_values library.Broadcast r d s x y z k = exchange_of exchange.Broadcast d x y k ∷ []
on_values library.Rotate r d s x y z k = exchange_of exchange.Rotate d x y k ∷ []
on_values library.Shift r d s x y z k = exchange_of exchange.Shift d x y k ∷ []
on_values library.Shuffle r d s x y z k = shuffle d x y k ∷ []
on_values library.ShuffleTwo r d s x y z k = shuffle_two d x y z k ∷ []
on_values library.Extract r d s x y z k = extract d x y k ∷ []
on_values library.Insert r d s x y z k = insert d x y z k ∷ []
on_values library.Min r d s x y z k = compute r plain.Min d x y k ∷ []
on_values library.Max r d s x y z k = compute r plain.Max d x y k ∷ []
on_values library.Clamp r d s x y z k = compute r plain.Max s x y k ∷ compute r plain.Min d s z k ∷ []
on_values library.Abs r d s x y z k = unary r unary_op.Absolute d x k ∷ []
on_values library.Select r d s x y z k = select r d x y z k ∷ []

-- the register of value j
abbrev pub register_at : List ℕ → ℕ → ℕ
register_at xs j = slice_index_or xs j 0

abbrev pub library_code : Library → Rate → ℕ → ℕ → List ℕ → ℕ → List Instr
library_code f r d s xs k = on_values f r d s (register_at xs 0) (register_at xs 1) (register_at xs 2) k
