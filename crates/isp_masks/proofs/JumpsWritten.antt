-- An `if` whose part is one jump, as it is written: such a part names nothing.
use Rattle.std.proofs.Common.{◌≡◌, ℕ, List, [], ◌++◌, Option, Some, None, Bool, true, false, refl, sym, ap, ◌∙◌, subst, append-nil}
use Rattle.isp_base.specs.declared.types.Rate.TheVariants.{Varying}
use Rattle.isp_base.specs.declared.types.Span.{Span}
use Rattle.isp_tree.specs.declared.stmt.Form.TheVariants.{Plain}
use Rattle.isp_tree.specs.declared.stmt.Jump.{Jump}
use Rattle.isp_typed.specs.Typed.{TStmt, t_block, t_declare, t_simple, t_if, t_if_else, t_while, t_do, t_for, t_foreach, t_foreach_active, t_foreach_unique, t_unmasked, t_jump, t_return, t_print, t_assert, TBlock, t_braces, t_no_stmts, t_stmt_then}
use Rattle.isp_lower.specs.Emitted.{Appends, texts_of}
use Rattle.isp_lower_code.specs.Layout.{Layout}
use Rattle.isp_lower.specs.declared.types.Body.{Body}
use Rattle.isp_lower.specs.declared.types.Scope.{Scope}
use Rattle.isp_masks_code.specs.Exits.{all_go_on, only_jump, block_jump, leaving, leaving_of}
use Rattle.isp_masks_code.specs.Statements.{left_code, stmt_places, block_places, stmt_texts, block_texts}
use Rattle.isp_masks.specs.Written.{Writes, part_at}
use Rattle.isp_masks_code.specs.declared.exits.Leaving.TheVariants.{Always}
use Rattle.isp_masks.specs.declared.masks.Spot.{Spot}
use Rattle.isp_masks.proofs.Writing.{texts_still}

mutual
  pub jump_places : (l : Layout) (x : TStmt) (j : Jump) → only_jump x ≡ Some j → stmt_places l x ≡ []
  jump_places l (t_block b) j e = block_jump_places l b j e
  jump_places l (t_declare xs sp) j e = absurd (cc)
  jump_places l (t_simple x sp) j e = absurd (cc)
  jump_places l (t_if f g c x sp) j e = absurd (cc)
  jump_places l (t_if_else f g c x y sp) j e = absurd (cc)
  jump_places l (t_while f g c x sp) j e = absurd (cc)
  jump_places l (t_do f g x c sp) j e = absurd (cc)
  jump_places l (t_for f g first c step i x sp) j e = absurd (cc)
  jump_places l (t_foreach w g rs x sp) j e = absurd (cc)
  jump_places l (t_foreach_active w g i x sp) j e = absurd (cc)
  jump_places l (t_foreach_unique w g i t c x sp) j e = absurd (cc)
  jump_places l (t_unmasked w b sp) j e = absurd (cc)
  jump_places l (t_jump i w sp) j e = refl
  jump_places l (t_return w x sp) j e = absurd (cc)
  jump_places l (t_print w text xs sp) j e = absurd (cc)
  jump_places l (t_assert x c sp) j e = absurd (cc)

  block_jump_places : (l : Layout) (b : TBlock) (j : Jump) → block_jump b ≡ Some j → block_places l b ≡ []
  block_jump_places l (t_braces t_no_stmts sp) j e = refl
  block_jump_places l (t_braces (t_stmt_then x t_no_stmts) sp) j e = ap (λ (ps : List Span). ps ++ []) (jump_places l x j e)
  block_jump_places l (t_braces (t_stmt_then x (t_stmt_then y xs)) sp) j e = absurd (cc)

mutual
  pub jump_texts : (x : TStmt) (j : Jump) → only_jump x ≡ Some j → stmt_texts x ≡ []
  jump_texts (t_block b) j e = block_jump_texts b j e
  jump_texts (t_declare xs sp) j e = refl
  jump_texts (t_simple x sp) j e = refl
  jump_texts (t_if f g c x sp) j e = absurd (cc)
  jump_texts (t_if_else f g c x y sp) j e = absurd (cc)
  jump_texts (t_while f g c x sp) j e = absurd (cc)
  jump_texts (t_do f g x c sp) j e = absurd (cc)
  jump_texts (t_for f g first c step i x sp) j e = absurd (cc)
  jump_texts (t_foreach w g rs x sp) j e = absurd (cc)
  jump_texts (t_foreach_active w g i x sp) j e = absurd (cc)
  jump_texts (t_foreach_unique w g i t c x sp) j e = absurd (cc)
  jump_texts (t_unmasked w b sp) j e = absurd (cc)
  jump_texts (t_jump i w sp) j e = refl
  jump_texts (t_return w x sp) j e = refl
  jump_texts (t_print w text xs sp) j e = absurd (cc)
  jump_texts (t_assert x c sp) j e = refl

  block_jump_texts : (b : TBlock) (j : Jump) → block_jump b ≡ Some j → block_texts b ≡ []
  block_jump_texts (t_braces t_no_stmts sp) j e = refl
  block_jump_texts (t_braces (t_stmt_then x t_no_stmts) sp) j e = ap (λ (ts : List (List ℕ)). ts ++ []) (jump_texts x j e)
  block_jump_texts (t_braces (t_stmt_then x (t_stmt_then y xs)) sp) j e = absurd (cc)

-- only such a statement is left by all
left_always : (o : Option Jump) (b : Bool) (j : Jump) → leaving o b ≡ Always j → o ≡ Some j
left_always (Some i) b j e = let same : i ≡ j = cc in ap Some same
left_always None true j e = absurd (cc)
left_always None false j e = absurd (cc)

pub left_written : (on : Scope) (a b : Body) (x : TStmt) (spot : Spot) (c : ℕ) (j : Jump) → leaving_of x ≡ Always j
    → Appends a b (λ pc p. left_code j c spot.masks.on.number spot.masks.continued.number spot.slot.number) []
    → Writes a b (part_at on (leaving_of x) Plain Varying c x spot)
left_written on a b x spot c j e w =
    let only = left_always (only_jump x) (all_go_on x) j e in
    subst (λ v. Writes a b (part_at on v Plain Varying c x spot)) (sym e)
    (record {
      code = w.code;
      places = w.places ∙ ap (λ ps. a.places.items ++ ps) (sym (jump_places _ x j only));
      texts = texts_still a b w.texts ∙ sym (append-nil (texts_of a)) ∙ ap (λ ts. texts_of a ++ ts) (sym (jump_texts x j only));
    })
