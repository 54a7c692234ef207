-- The instructions of a `print` have their operands.
use Rattle.std.proofs.Common.{ℕ, ◌+◌, ◌<◌, ◌≤◌, List, [], ◌∷◌, length, refl, arith, length-append}
use Rattle.isp_base.specs.declared.types.Elem.{Elem}
use Rattle.isp_base.specs.declared.types.Rate.{Rate}
use Rattle.isp_base.specs.declared.types.Rate.TheVariants.{Uniform, Varying}
use Rattle.isp_code.specs.Listing.{Listing, Routine}
use Rattle.isp_typed.specs.Typed.{TExpr, t_exprs, type_of, TFunction}
use Rattle.isp_lower_code.specs.Asks.{values_asks}
use Rattle.isp_lower_code.specs.Code.{value_registers, values_code}
use Rattle.isp_lower_code.specs.Found.{operand}
use Rattle.isp_lower_code.specs.Layout.{Layout}
use Rattle.isp_lower_code.specs.Sound.{AreSound, Granted, IsRegister, IsSound, Links}
use Rattle.isp_lower_code.proofs.Lemmas.{ValuesTree, operand_there, sound_both, values_sound}
use Rattle.isp_masks_code.specs.Prints.{Part, Words, Value, own_rates, parts, parts_code, print_code, print_places, print_texts, show, words_of}

module _ (code : Listing) (h : Routine) where
  show_sound : (r : Rate) (t : Elem) (x k : ℕ) → IsRegister h r x t → k < h.masks → IsSound code h (show r x k)
  show_sound Uniform t x k hx lk = (((hx.0, tt), tt), tt)
  show_sound Varying t x k hx lk = (((hx.0, tt), ((refl, lk), tt)), tt)

  module _ (l : Layout) (fs : List TFunction) (links : Links fs code h l) where
    -- the values in registers of their own, and the texts that are named, are there
    parts_sound : (ps : List Part) (xs : List TExpr) (t k n : ℕ) → ValuesTree fs (own_rates xs) (t_exprs xs)
        → Granted h l (values_asks (own_rates xs) (t_exprs xs) n) → k < h.masks → t + length (words_of ps) ≤ length code.texts
        → AreSound code h (parts_code ps (own_rates xs) (value_registers l (own_rates xs) (t_exprs xs) n) t k)
    parts_sound [] xs t k n is f lk le = tt
    parts_sound (Words u ∷ ps) xs t k n is f lk le = (((omega (arith, le), tt), tt), parts_sound ps xs (t + 1) k n is f lk (omega (arith, le)))
    parts_sound (Value ∷ ps) [] t k n is f lk le = parts_sound ps [] t k n is f lk le
    parts_sound (Value ∷ ps) (x ∷ xs) t k n is f lk le =
        let r = (type_of x).rate in
        (show_sound r (type_of x).elem (operand l r x n) k (operand_there fs h l links.constants r (type_of x).elem x n is.0 is.1 f.1.0) lk, parts_sound ps xs t k (n + 1) is.2 f.1.1 lk le)

    pub print_sound : (text : List ℕ) (xs : List TExpr) (pc p t k n : ℕ) → ValuesTree fs (own_rates xs) (t_exprs xs)
        → Granted h l (values_asks (own_rates xs) (t_exprs xs) n) → k < h.masks → p + length (print_places l xs) ≤ length code.places
        → t + length (print_texts text) ≤ length code.texts → pc + length (print_code l text xs pc p t k n) < length h.code
        → AreSound code h (print_code l text xs pc p t k n)
    print_sound text xs pc p t k n is f lk pl tx lt =
        let ca = values_code l (own_rates xs) (t_exprs xs) pc p k n in
        let cb = parts_code (parts text) (own_rates xs) (value_registers l (own_rates xs) (t_exprs xs) n) t k in
        sound_both code h ca cb (values_sound fs code h l links (own_rates xs) (t_exprs xs) pc p k n is f lk pl (omega (arith, length-append ca cb, lt))) (parts_sound (parts text) xs t k n is f lk tx)
