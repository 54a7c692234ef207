-- The first run that does not end, and the type of what the function gives.
use Rattle.std.proofs.Common.{◌≡◌, ap, ◌∙◌, ℕ, zero, suc, ◌<◌, List, [], ◌∷◌, Some, arith, length, get_or}
use Rattle.std.specs.Prelude.{slice_get}
use Rattle.isp_base.specs.declared.trap.Trap.{Trap}
use Rattle.isp_typed.specs.Typed.{TFunction}
use Rattle.isp_typed.specs.Views.{function_of, functions_of}
use Rattle.isp_typed.specs.declared.function.TypedFunction.{TypedFunction}
use Rattle.isp_solo_meaning.specs.Answers.{Answer, Bad, Long, reached}
use Rattle.isp_solo_run.specs.Ends.{IsRunOf, ended_in}
use Rattle.isp_solo_run.specs.declared.running.Ending.TheVariants.{Trapped, Cut}
use Rattle.isp_solo_run.specs.declared.running.Run.{Run}
use Rattle.isp_solo.specs.Report.{AllEnd, FirstStop}

module _ (gang : ℕ) (run : ℕ → Answer ℕ) (p : ℕ) (r : Run) (below : p < gang) (before : AllEnd run p) (is : IsRunOf (run p) r) where
  pub trapped_first : (t : Trap) → r.ending ≡ Trapped t → FirstStop gang run p (Bad t)
  trapped_first t e = record { below = below; before = before; state = reached (run p); came = is.ending ∙ ap (λ k. ended_in k (reached (run p))) e }

  pub cut_first : r.ending ≡ Cut → FirstStop gang run p Long
  cut_first e = record { below = below; before = before; state = reached (run p); came = is.ending ∙ ap (λ k. ended_in k (reached (run p))) e }

function_there : (fs : List TypedFunction) (f : ℕ) (x : TypedFunction) (h : TFunction) → f < length fs → x ≡ get_or fs f x → slice_get (functions_of fs) f ≡ Some h → function_of x ≡ h
function_there [] f x h lt e found = absurd (omega (arith, lt))
function_there (y ∷ fs) zero x h lt e found = ap function_of e ∙ (let i : function_of y ≡ h = cc in i)
function_there (y ∷ fs) (suc f) x h lt e found = function_there fs f x h (omega (arith, lt)) e found

pub gives_is : (fs : List TypedFunction) (f : ℕ) (x : TypedFunction) (h : TFunction) → f < length fs → x ≡ get_or fs f x → slice_get (functions_of fs) f ≡ Some h → x.signature.result ≡ h.gives
gives_is fs f x h lt e found = ap (λ (k : TFunction). k.gives) (function_there fs f x h lt e found)
