-- What the writers of a `print` append: the words of its text, the values that are held, and both in their places.
use Rattle.std.specs.Prelude.{ℕ, ◌==◌, List, [], ◌∷◌, map, if◌then◌else◌}
use Rattle.isp_base.specs.Prints.{percent}
use Rattle.isp_base.specs.declared.types.Rate.{Rate}
use Rattle.isp_code.specs.declared.instr.Instr.{Instr}
use Rattle.isp_code.specs.declared.instr.Instr.TheVariants as instr
use Rattle.isp_typed.specs.Typed.{TExpr}
use Rattle.isp_lower.specs.Emitted.{layout}
use Rattle.isp_lower.specs.declared.types.Scope.{Scope}
use Rattle.isp_masks_code.specs.Prints.{Part, parts_code, print_code, print_places, print_texts, show, words_of}
use Rattle.isp_masks.specs.Written.{Piece}
use Rattle.isp_masks.specs.declared.printing.Shown.{Shown}

-- ---- values that are held

abbrev pub rates_of : List Shown → List Rate
rates_of xs = map (λ x. x.rate) xs

abbrev pub registers_of : List Shown → List ℕ
registers_of xs = map (λ x. x.register.number) xs

-- the first, if there is one
abbrev pub first_shown : List Shown → ℕ → List Instr
first_shown [] k = []
first_shown (x ∷ xs) k = show x.rate x.register.number k ∷ []

-- ---- words

-- the bytes before the first `%`
abbrev pub first_word : List ℕ → List ℕ
first_word [] = []
first_word (b ∷ bs) = if b == percent then [] else b ∷ first_word bs

abbrev pub words_at : List ℕ → Piece
words_at [] = record { code = λ pc z. []; places = []; texts = [] }
words_at (b ∷ bs) = record { code = λ pc z. instr.Say z.text ∷ []; places = []; texts = (b ∷ bs) ∷ [] }

-- ---- parts of a text, with values that are held; and all of a `print` under mask k, in the slots from n on

abbrev pub told_at : List Part → List Shown → ℕ → Piece
told_at ps xs k =
    record { code = λ pc z. parts_code ps (rates_of xs) (registers_of xs) z.text k; places = []; texts = words_of ps }

abbrev pub print_at : Scope → List ℕ → List TExpr → ℕ → ℕ → Piece
print_at on text xs k n =
    record { code = λ pc z. print_code (layout on) text xs pc z.place z.text k n; places = print_places (layout on) xs; texts = print_texts text }
