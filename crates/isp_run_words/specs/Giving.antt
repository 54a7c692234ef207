-- The arguments that words and their files give to the parameters of an entry.
--     given_by ps w    one argument for each parameter, or the first fault
use Rattle.std.specs.Prelude.{ℕ, suc, List, [], ◌∷◌, ◌++◌, take, replicate, codes, bytes_eq, string_bytes, Bool, not, Option, Some, None, Result, Ok, Err, if◌then◌else◌}
use Rattle.std.specs.List.{list_any}
use Rattle.isp_base.specs.Binding.{is_for}
use Rattle.isp_base.specs.declared.signature.Parameter.{Parameter}
use Rattle.isp_base.specs.declared.signature.Argument.{Argument}
use Rattle.isp_base.specs.declared.signature.Argument.TheVariants.{Array as AnArray}
use Rattle.isp_bind.specs.Binding.{bound_of, is_parameter}
use Rattle.isp_bind.specs.declared.fault.BindFault.{BindFault}
use Rattle.isp_files.specs.Files.{Sheet}
use Rattle.isp_files.specs.Images.{image_of}
use Rattle.isp_files.specs.Npy.{npy_of}
use Rattle.isp_files.specs.declared.fault.FileFault.{FileFault}
use Rattle.isp_run_words.specs.declared.fault.GivenFault.{GivenFault}
use Rattle.isp_run_words.specs.declared.fault.GivenFault.TheVariants.{Missing, Text, File, WrongKind, Unknown, Twice, Whole as WholeText}
use Rattle.isp_run_words.specs.declared.given.Content.{Content}
use Rattle.isp_run_words.specs.declared.given.Content.TheVariants.{Json, Npy, Image, Zeros}
use Rattle.isp_run_words.specs.declared.given.Given.{Given}
use Rattle.isp_run_words.specs.declared.given.Words.{Words}
use Rattle.isp_run_words.specs.declared.given.Words.TheVariants.{Whole, Each}

infixl 10 ◌>>=◌
abbrev pub ◌>>=◌ : {A B : Type 0} → Result A GivenFault → (A → Result B GivenFault) → Result B GivenFault
Ok a >>= f = f a
Err e >>= f = Err e

-- ---- one parameter

-- a parameter of its type alone, and the text that gives it a value as docs/ARGUMENTS.md has it: `{"a":TEXT}`
abbrev pub alone : Parameter → List Parameter
alone p = record { name = codes "a"; elem = p.elem; is_array = p.is_array } ∷ []

abbrev pub alone_text : List ℕ → List ℕ
alone_text text = 123 ∷ 34 ∷ 97 ∷ 34 ∷ 58 ∷ (text ++ 125 ∷ [])

abbrev pub only_of : ℕ → Result (List Argument) BindFault → Result Argument GivenFault
only_of k (Ok []) = Err (Missing k)
only_of k (Ok (x ∷ xs)) = Ok x
only_of k (Err e) = Err (Text k e)

abbrev pub text_argument : ℕ → Parameter → List ℕ → Result Argument GivenFault
text_argument k p text = only_of k (bound_of (alone p) (alone_text text))

-- an array, where the parameter takes one of its type
abbrev pub fitting : ℕ → Parameter → Argument → Result Argument GivenFault
fitting k p x = if is_for p x then Ok x else Err (WrongKind k)

abbrev pub sheet_argument : ℕ → Parameter → Result Sheet FileFault → Result Argument GivenFault
sheet_argument k p (Ok s) = fitting k p (AnArray s.1)
sheet_argument k p (Err e) = Err (File k e)

-- so many elements of the parameter's type, each 0
abbrev pub zeros_argument : ℕ → Parameter → ℕ → Result Argument GivenFault
zeros_argument k p n = fitting k p (AnArray (record { elem = p.elem; bits = replicate n 0 }))

abbrev pub argument_of : ℕ → Parameter → Content → Result Argument GivenFault
argument_of k p (Json text) = text_argument k p (string_bytes text)
argument_of k p (Npy bytes) = sheet_argument k p (npy_of bytes.items)
argument_of k p (Image bytes) = sheet_argument k p (image_of bytes.items)
argument_of k p (Zeros n) = zeros_argument k p n

-- what the first word of its name gives to parameter k
abbrev pub argument_by : ℕ → Parameter → List Given → Result Argument GivenFault
argument_by k p [] = Err (Missing k)
argument_by k p (g ∷ gs) = if bytes_eq g.name p.name then argument_of k p g.content else argument_by k p gs

-- ---- all

abbrev pub arguments_by : ℕ → List Parameter → List Given → Result (List Argument) GivenFault
arguments_by k [] gs = Ok []
arguments_by k (p ∷ ps) gs = argument_by k p gs >>= (λ x. arguments_by (suc k) ps gs >>= (λ xs. Ok (x ∷ xs)))

abbrev pub is_given : List Given → List ℕ → Bool
is_given gs name = list_any (λ g. bytes_eq g.name name) gs

-- from word k on, the first of no parameter's name, or of the name of a word before
abbrev pub stray_from : List Parameter → List Given → ℕ → List Given → Option GivenFault
stray_from ps all k [] = None
stray_from ps all k (g ∷ gs) =
    if not (is_parameter ps g.name) then Some (Unknown k) else (if is_given (take k all) g.name then Some (Twice k) else stray_from ps all (suc k) gs)

abbrev pub unless : Option GivenFault → List Argument → Result (List Argument) GivenFault
unless None xs = Ok xs
unless (Some e) xs = Err e

abbrev pub each_of : List Parameter → List Given → Result (List Argument) GivenFault
each_of ps gs = arguments_by 0 ps gs >>= (λ xs. unless (stray_from ps gs 0 gs) xs)

abbrev pub whole_of : Result (List Argument) BindFault → Result (List Argument) GivenFault
whole_of (Ok xs) = Ok xs
whole_of (Err e) = Err (WholeText e)

-- a text that holds all arguments, or a word for each parameter
abbrev pub given_by : List Parameter → Words → Result (List Argument) GivenFault
given_by ps (Whole text) = whole_of (bound_of ps (string_bytes text))
given_by ps (Each gs) = each_of ps gs.items
