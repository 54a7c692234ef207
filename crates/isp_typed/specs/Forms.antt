-- How a node is put together of its parts, and what its breaches are. P, Q say what parts are found to be, F, G are
-- their breaches. A node's own breach asks for its parts, so that a node whose part is faulty has none of its own.
--
-- For example `a[e]` has two parts, the name and the index, and a rule:
--     IsPlace (element w x s)     = Found (element_at s) (Both (Given (named ns w)) (IsExpr x))
--     PlaceBreach (element w x s) = Wrong (element_at s) (Both (Given (named ns w)) (IsExpr x)) (Either (Refused (named ns w)) (ExprBreach x))
-- It is the typed place q where w means a variable k, x is the typed expression i, and `element_at s (k, i)` is `Ok q`. Its
-- breaches are that of w, those of x, and, where w means k and x is i, the fault f that `element_at s (k, i)` is `Err f` with.
-- So where x is faulty, that w is no array is not asked.
use Rattle.std.specs.Prelude.{◌≡◌, ◌⊎◌, Bool, true, false, Option, Some, None, Result, Ok, Err}
use Rattle.isp_lex.specs.declared.fault.Fault.{Fault}

-- two parts; their breaches are those of either
abbrev pub Both : {A B : Type 0} → (A → Type 0) → (B → Type 0) → A × B → Type 0
Both P Q p = P p.0 × Q p.1

abbrev pub Either : (Fault → Type 0) → (Fault → Type 0) → Fault → Type 0
Either F G f = F f ⊎ G f

-- nothing is wrong in it
abbrev pub No_breach : Fault → Type 0
No_breach f = ⊥

-- exactly this
abbrev pub Just : {A : Type 0} → A → A → Type 0
Just a b = b ≡ a

-- what is made of parts; its breaches are theirs
abbrev pub Made : {A B : Type 0} → (A → B) → (A → Type 0) → B → Type 0
Made {A = A} make P b = (a : A) × P a × (b ≡ make a)

-- what is found of parts by a rule that gives it or says what is wrong
abbrev pub Found : {A B : Type 0} → (A → Result B Fault) → (A → Type 0) → B → Type 0
Found {A = A} rule P b = (a : A) × P a × (rule a ≡ Ok b)

abbrev pub Wrong : {A B : Type 0} → (A → Result B Fault) → (A → Type 0) → (Fault → Type 0) → Fault → Type 0
Wrong {A = A} rule P F f = F f ⊎ ((a : A) × P a × (rule a ≡ Err f))

-- what a rule gives by itself
abbrev pub Given : {A : Type 0} → Result A Fault → A → Type 0
Given r a = r ≡ Ok a

abbrev pub Refused : {A : Type 0} → Result A Fault → Fault → Type 0
Refused r f = r ≡ Err f

-- what asks for a test beside; its fault stands beside those of the parts
abbrev pub Provided : {A : Type 0} → Bool → (A → Type 0) → A → Type 0
Provided test P a = (test ≡ true) × P a

abbrev pub Unless : Bool → Fault → (Fault → Type 0) → Fault → Type 0
Unless test e F f = ((test ≡ false) × (f ≡ e)) ⊎ F f

-- what may be left out
abbrev pub Perhaps : {A B : Type 0} → (A → B → Type 0) → Option A → Option B → Type 0
Perhaps P None b = b ≡ None
Perhaps P (Some a) b = Made (λ c. Some c) (P a) b

abbrev pub OfPerhaps : {A : Type 0} → (A → Fault → Type 0) → Option A → Fault → Type 0
OfPerhaps F None f = ⊥
OfPerhaps F (Some a) f = F a f
