-- What loops are written in: what follows a test, after what stands before the jump past it; turns, whose jump back leads to
-- where they begin; and a `for`, after its first part.
use Rattle.std.proofs.Common.{◌≡◌, ℕ, ◌+◌, [], ◌++◌, length, Option, Some, None, refl, ap, ◌∙◌, arith}
use Rattle.isp_base.specs.declared.types.Rate.{Rate}
use Rattle.isp_base.specs.declared.types.Rate.TheVariants.{Uniform, Varying}
use Rattle.isp_base.specs.declared.types.Span.{Span}
use Rattle.isp_base.specs.declared.types.Ty.{Ty}
use Rattle.isp_tree.specs.declared.stmt.Form.{Form}
use Rattle.isp_typed.specs.Typed.{TExpr, TSimple, TFirst, TStmt, t_for}
use Rattle.isp_lower_code.specs.Pieces.{guard, two}
use Rattle.isp_lower.specs.Emitted.{Appends, layout}
use Rattle.isp_lower_code.specs.Layout.{Layout}
use Rattle.isp_lower.specs.declared.types.Body.{Body}
use Rattle.isp_lower.specs.declared.types.Scope.{Scope}
use Rattle.isp_masks_code.specs.Exits.{nobody_leaves}
use Rattle.isp_masks_code.specs.Fors.{first_code, first_places, step_places, test_places}
use Rattle.isp_masks_code.specs.Loops.{sift_begin, sift_code, sift_jump}
use Rattle.isp_masks_code.specs.Spots.{Numbers, Spot, past}
use Rattle.isp_masks.specs.AtWork.{next_of}
use Rattle.isp_masks_code.specs.Statements.{stmt_code, stmt_places, stmt_texts, turns_code}
use Rattle.isp_masks.specs.Written.{Piece, Writes, next_at, turn_at, turning_at}
use Rattle.isp_masks.specs.declared.looping.Loop.{Loop}
use Rattle.isp_masks.proofs.Lists.{same_numbers}
use Rattle.isp_masks.proofs.Writing.{writes_past}

-- after a test
abbrev jumped_past : Rate → ℕ → ℕ → Piece → Piece
jumped_past r x n y = record { code = λ pc z. guard (sift_jump r x n) pc (λ pc1. y.code pc1 z); places = y.places; texts = y.texts }

abbrev pub behind_test : Rate → ℕ → ℕ → Piece → Piece
behind_test r x n y = record { code = λ pc z. sift_code r x pc n (λ pc1. y.code pc1 z); places = y.places; texts = y.texts }

pub sifted : (a b c : Body) (r : Rate) (x n : ℕ) (y : Piece) → Appends a b (λ pc m. sift_begin r x n) [] → Writes b c (jumped_past r x n y) → Writes a c (behind_test r x n y)
sifted a b c r x n y f g = go r (writes_past a b c (λ pc m. sift_begin r x n) [] (jumped_past r x n y) f g)
  where
    pc : ℕ
    pc = length a.code.items

    beside : Numbers → Numbers
    beside z = record z { place = z.place + 0 }

    same_pc : pc + 0 ≡ pc
    same_pc = omega arith

    same_z : beside (next_of a) ≡ next_of a
    same_z = same_numbers (beside (next_of a)) (next_of a) (omega arith) refl

    go : (t : Rate) → Writes a c (record { code = λ pc z. sift_begin t x n ++ guard (sift_jump t x n) (pc + length (sift_begin t x n)) (λ pc1. y.code pc1 (beside z)); places = y.places; texts = y.texts }) → Writes a c (behind_test t x n y)
    go Uniform w = record {
      code =
          w.code ∙ ap (λ m. a.code.items ++ guard (sift_jump Uniform x n) m (λ pc1. y.code pc1 (beside (next_of a)))) same_pc
          ∙ ap (λ z. a.code.items ++ guard (sift_jump Uniform x n) pc (λ pc1. y.code pc1 z)) same_z;
      places = w.places;
      texts = w.texts;
    }
    go Varying w = record {
      code = w.code ∙ ap (λ z. a.code.items ++ sift_code Varying x pc n (λ pc1. y.code pc1 z)) same_z;
      places = w.places;
      texts = w.texts;
    }

pub turns_written : (on : Scope) (a b : Body) (e : Option TExpr) (step : Option TSimple) (x : TStmt) (it : Loop) (top : ℕ) → top ≡ length a.code.items
    → Writes a b (record {
      code = λ pc z. two pc ((turn_at on x it).code pc z)
          (λ pc1. (next_at on (nobody_leaves it.exits) e step it.slot.number top).code pc1 (z.place + length (stmt_places (layout on) x)));
      places =
          stmt_places (layout on) x ++ (step_places (layout on) step ++ test_places (layout on) e);
      texts = stmt_texts x;
    })
    → Writes a b (turning_at on e step x it)
turns_written on a b e step x it top is w =
    let pc = length a.code.items in
    let z = next_of a in
    record {
      code = w.code ∙ ap (λ t. a.code.items ++ two pc ((turn_at on x it).code pc z) (λ pc1. (next_at on (nobody_leaves it.exits) e step it.slot.number t).code pc1 (z.place + length (stmt_places (layout on) x)))) is;
      places = w.places;
      texts = w.texts;
    }

pub for_written : (a b : Body) (l : Layout) (answer : Option Ty) (f : Form) (g : ℕ) (first : Option TFirst) (o : Option TExpr) (step : Option TSimple) (i : ℕ) (x : TStmt) (sp : Span) (spot : Spot)
    → Writes a b (record {
      code = λ pc z. first_code l first pc z.place spot.on spot.slot
          ++ turns_code l answer f o step x (pc + length (first_code l first pc z.place spot.on spot.slot)) (past (first_places l first) z) spot;
      places
          = stmt_places l (t_for f g first o step i x sp);
      texts = stmt_texts x;
    })
    → Writes a b (record { code = λ pc z. stmt_code l answer (t_for f g first o step i x sp) pc z spot; places = stmt_places l (t_for f g first o step i x sp); texts = stmt_texts x })
for_written a b l answer f g first None step i x sp spot z = z
for_written a b l answer f g first (Some e) step i x sp spot z = z
