-- The code of a list of statements, one after the other, with the jumps past what follows to a number that is given.
use Rattle.std.proofs.Common.{◌≡◌, ℕ, ◌+◌, List, [], ◌∷◌, ◌++◌, length, refl, sym, ap, ◌∙◌, arith, append_assoc, append-nil, length-append, true, false, Bool, not, Option}
use Rattle.isp_base.specs.declared.types.Ty.{Ty}
use Rattle.isp_code.specs.declared.instr.Instr.{Instr}
use Rattle.isp_lower_code.specs.Instructions.{jump_off}
use Rattle.isp_lower_code.specs.Layout.{Layout}
use Rattle.isp_typed.specs.Typed.{TStmt, t_stmts}
use Rattle.isp_masks.specs.Awaited.{jump_where}
use Rattle.isp_masks_code.specs.Exits.{all_go_on}
use Rattle.isp_masks_code.specs.Spots.{Numbers, Spot}
use Rattle.isp_masks_code.specs.Statements.{behind, rest_code, stmt_code, stmt_places, stmt_texts, stmts_code, stmts_places, stmts_texts}

-- some may have left before what follows
abbrev pub left_after : Bool → List TStmt → Bool
left_after f [] = f
left_after f (x ∷ xs) = left_after (not (all_go_on x)) xs

pub left_last : (f : Bool) (xs : List TStmt) (x : TStmt) → left_after f (xs ++ x ∷ []) ≡ not (all_go_on x)
left_last f [] x = refl
left_last f (y ∷ ys) x = left_last (not (all_go_on y)) ys x

pub places_last : (l : Layout) (xs : List TStmt) (x : TStmt) → stmts_places l (t_stmts (xs ++ x ∷ [])) ≡ stmts_places l (t_stmts xs) ++ stmt_places l x
places_last l [] x = append-nil (stmt_places l x)
places_last l (y ∷ ys) x = ap (λ z. stmt_places l y ++ z) (places_last l ys x) ∙ sym (append_assoc (stmt_places l y) (stmts_places l (t_stmts ys)) (stmt_places l x))

pub texts_last : (xs : List TStmt) (x : TStmt) → stmts_texts (t_stmts (xs ++ x ∷ [])) ≡ stmts_texts (t_stmts xs) ++ stmt_texts x
texts_last [] x = append-nil (stmt_texts x)
texts_last (y ∷ ys) x = ap (λ z. stmt_texts y ++ z) (texts_last ys x) ∙ sym (append_assoc (stmt_texts y) (stmts_texts (t_stmts ys)) (stmt_texts x))

-- the numbers after a list
abbrev pub behind_all : Layout → List TStmt → Numbers → Numbers
behind_all l xs z =
    record { place = z.place + length (stmts_places l (t_stmts xs)); text = z.text + length (stmts_texts (t_stmts xs)) }

pub same_numbers : (z y : Numbers) → z.place ≡ y.place → z.text ≡ y.text → z ≡ y
same_numbers z y e f = ap (λ p. record z { place = p }) e ∙ ap (λ t. record y { text = t }) f

-- lists in other brackets
brackets : (a b f j s : List Instr) → a ++ (b ++ ((f ++ j) ++ s)) ≡ ((a ++ (b ++ f)) ++ j) ++ s
brackets a b f j s =
    ap (λ z. a ++ z) (ap (λ z. b ++ z) (append_assoc f j s) ∙ sym (append_assoc b f (j ++ s)))
    ∙ sym (append_assoc a (b ++ f) (j ++ s))
    ∙ sym (append_assoc (a ++ (b ++ f)) j s)

module _ (answer : Option Ty) (spot : Spot) (t : ℕ) (l : Layout) where
  abbrev pub one_code : TStmt → ℕ → Numbers → List Instr
  one_code x pc z = stmt_code l answer x pc z spot

  -- a jump to t where some may have left
  abbrev leap : Bool → List Instr
  leap f = jump_where f spot.on t

  abbrev pub flat : Bool → List TStmt → ℕ → Numbers → List Instr
  flat f [] pc z = []
  flat f (x ∷ xs) pc z =
      leap f ++ (one_code x (pc + length (leap f)) z ++ flat (not (all_go_on x)) xs (pc + length (leap f) + length (one_code x (pc + length (leap f)) z)) (behind l x z))

  pub flat_last : (f : Bool) (xs : List TStmt) (x : TStmt) (pc : ℕ) (z : Numbers)
      → flat f (xs ++ x ∷ []) pc z
      ≡ (flat f xs pc z ++ leap (left_after f xs)) ++ one_code x (pc + length (flat f xs pc z ++ leap (left_after f xs))) (behind_all l xs z)
  flat_last f [] x pc z =
      let place : z.place ≡ z.place + 0 = omega arith in
      let text : z.text ≡ z.text + 0 = omega arith in
      ap (λ y. leap f ++ y) (append-nil (one_code x (pc + length (leap f)) z))
      ∙ ap (λ m. leap f ++ one_code x (pc + length (leap f)) m) (same_numbers z (behind_all l [] z) place text)
  flat_last f (y ∷ ys) x pc z =
      let jump = leap f in
      let one = one_code y (pc + length jump) z in
      let g = not (all_go_on y) in
      let pc2 = pc + length jump + length one in
      let z2 = behind l y z in
      let rest = flat g ys pc2 z2 in
      let last = leap (left_after g ys) in
      let spans = stmts_places l (t_stmts ys) in
      let texts = stmts_texts (t_stmts ys) in
      let far : pc2 + length (rest ++ last) ≡ pc + length ((jump ++ (one ++ rest)) ++ last) =
      omega (arith, length-append rest last, length-append (jump ++ (one ++ rest)) last, length-append jump (one ++ rest), length-append one rest) in
      let seat : behind_all l ys z2 ≡ behind_all l (y ∷ ys) z =
      same_numbers (behind_all l ys z2) (behind_all l (y ∷ ys) z) (omega (arith, length-append (stmt_places l y) spans)) (omega (arith, length-append (stmt_texts y) texts)) in
      ap (λ c. jump ++ (one ++ c)) (flat_last g ys x pc2 z2)
      ∙ brackets jump one rest last (one_code x (pc2 + length (rest ++ last)) (behind_all l ys z2))
      ∙ ap (λ m. ((jump ++ (one ++ rest)) ++ last) ++ one_code x m (behind_all l ys z2)) far
      ∙ ap (λ m. ((jump ++ (one ++ rest)) ++ last) ++ one_code x (pc + length ((jump ++ (one ++ rest)) ++ last)) m) seat

  -- what follows a statement, by what is said of the list itself
  rest_is : (s : Bool) (xs : List TStmt) (pc : ℕ) (z : Numbers)
      → ((m : ℕ) (y : Numbers) → t ≡ m + length (flat false xs m y) → flat false xs m y ≡ stmts_code l answer (t_stmts xs) m y spot)
      → t ≡ pc + length (flat (not s) xs pc z) → flat (not s) xs pc z ≡ rest_code s (t_stmts xs) spot.on pc (λ pc2. stmts_code l answer (t_stmts xs) pc2 z spot)
  rest_is true xs pc z all e = all pc z e
  rest_is false [] pc z all e = refl
  rest_is false (y ∷ ys) pc z all e =
      let zero : pc + 1 + 0 ≡ pc + 1 = omega arith in
      let z2 = behind l y z in
      let tail : flat false (y ∷ ys) (pc + 1) z ≡ one_code y (pc + 1) z ++ flat (not (all_go_on y)) ys (pc + 1 + length (one_code y (pc + 1) z)) z2 =
      ap (λ m. one_code y m z ++ flat (not (all_go_on y)) ys (m + length (one_code y m z)) z2) zero in
      let same = all (pc + 1) z (omega (arith, e, ap length tail)) in
      let end : t ≡ pc + 1 + length (stmts_code l answer (t_stmts (y ∷ ys)) (pc + 1) z spot) = omega (arith, e, ap length tail, ap length same) in
      ap (λ c. jump_off spot.on t ∷ c) (sym tail ∙ same)
      ∙ ap (λ m. jump_off spot.on m ∷ stmts_code l answer (t_stmts (y ∷ ys)) (pc + 1) z spot) end

  -- where the jumps lead to the end, this is the code of the list
  pub flat_is : (xs : List TStmt) (pc : ℕ) (z : Numbers) → t ≡ pc + length (flat false xs pc z) → flat false xs pc z ≡ stmts_code l answer (t_stmts xs) pc z spot
  flat_is [] pc z e = refl
  flat_is (x ∷ xs) pc z e =
      let zero : pc + 0 ≡ pc = omega arith in
      let one = one_code x pc z in
      let z2 = behind l x z in
      let flatly : flat false (x ∷ xs) pc z ≡ one ++ flat (not (all_go_on x)) xs (pc + length one) z2 =
      ap (λ m. one_code x m z ++ flat (not (all_go_on x)) xs (m + length (one_code x m z)) z2) zero in
      flatly
      ∙ ap (λ c. one ++ c)
      (rest_is (all_go_on x) xs (pc + length one) z2 (flat_is xs) (omega (arith, e, ap length flatly, length-append one (flat (not (all_go_on x)) xs (pc + length one) z2))))
