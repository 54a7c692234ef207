-- How a part is left: by nobody, or by all at once, since it is one jump.
use Rattle.std.proofs.Common.{◌≡◌, ℕ, ◌+◌, ◌<◌, ◌≤◌, Option, Some, None, Bool, true, false, refl, sym, ap, ◌∙◌, subst, arith}
use Rattle.isp_base.specs.Sets.{Mask, nobody, union, any}
use Rattle.isp_tree.specs.declared.stmt.Jump.{Jump}
use Rattle.isp_tree.specs.declared.stmt.Jump.TheVariants.{Break, Continue}
use Rattle.isp_typed.specs.Typed.{TStmt, t_block, t_declare, t_simple, t_if, t_if_else, t_while, t_do, t_for, t_foreach, t_foreach_active, t_foreach_unique, t_unmasked, t_jump, t_return, t_print, t_assert, TBlock, t_braces, t_no_stmts, t_stmt_then}
use Rattle.isp_meaning.specs.Expressions.{Calls}
use Rattle.isp_meaning.specs.Outcomes.{Res, Went, go_on, went_all, then_run, unless_empty, if_so}
use Rattle.isp_meaning.specs.State.{State, Frame, tick}
use Rattle.isp_meaning.specs.Statements.{jumped, run, block, run_all}
use Rattle.isp_lower_code.specs.Setting.{Setting, IsSettled, gang_of, calls_of}
use Rattle.isp_lower_code.proofs.Lemmas.{any_nobody}
use Rattle.isp_masks_code.specs.Exits.{all_go_on, both_go_on, only_jump, block_jump, leaving, leaving_of}
use Rattle.isp_masks_code.specs.declared.exits.Leaving.{Leaving}
use Rattle.isp_masks_code.specs.declared.exits.Leaving.TheVariants.{Never, Always, Maybe}
use Rattle.isp_masks_code.proofs.Members.{went_whole}
use Rattle.isp_masks_code.proofs.Unions.{both_so, none_in, union_nobody}

-- whoever runs it goes on
abbrev pub Stays : (Mask → State → Res) → Type 0
Stays v = (T : Mask) (s s1 : State) (g b ct rt : Mask) → v T s ≡ Went s1 g b ct rt → g ≡ T

-- all jump, and only work is done
abbrev pub Jumps : Jump → (Mask → State → Res) → Type 0
Jumps j v = (T : Mask) (s : State) → (m : ℕ) × (s.work ≤ m) × (v T s ≡ jumped j T (record s { work = m }))

abbrev pub Left : Leaving → (Mask → State → Res) → Type 0
Left Never v = Stays v
Left (Always j) v = Jumps j v
Left Maybe v = Unit {0}

abbrev pub BothLeft : Bool → (Mask → State → Res) → (Mask → State → Res) → Type 0
BothLeft true v u = Stays v × Stays u
BothLeft false v u = Unit {0}

-- ---- also where it is not run, since its set is empty

pub stays_unless : (gang : ℕ) (v : Mask → State → Res) → Stays v → Stays (λ T s. unless_empty gang T s v)
stays_unless gang v stay T s s1 g b ct rt e = go (any gang T) e
  where
    go : (d : Bool) → if_so d (v T) (went_all T) s ≡ Went s1 g b ct rt → g ≡ T
    go true h = stay T s s1 g b ct rt h
    go false h = let same : T ≡ g = cc in sym same

pub jumps_unless : (gang : ℕ) (j : Jump) (v : Mask → State → Res) → Jumps j v → (T : Mask) (s : State) → ((p : ℕ) → T p ≡ true → p < gang) → (m : ℕ) × (s.work ≤ m) × (unless_empty gang T s v ≡ jumped j T (record s { work = m }))
jumps_unless gang j v f T s inside = go (any gang T) refl
  where
    nobody_jumps : (i : Jump) → went_all nobody s ≡ jumped i nobody s
    nobody_jumps Break = refl
    nobody_jumps Continue = refl

    go : (d : Bool) → any gang T ≡ d → (m : ℕ) × (s.work ≤ m) × (if_so d (v T) (went_all T) s ≡ jumped j T (record s { work = m }))
    go true e = f T s
    go false e = (s.work, omega arith, subst (λ z. went_all z s ≡ jumped j z s) (sym (none_in gang T e inside)) (nobody_jumps j))

-- ---- of statements

module _ (gang : ℕ) (frame : Frame) (calls : Calls) (most : ℕ) where
  -- nothing follows a jump that is alone
  alone : (j : Jump) (T : Mask) (s : State) → then_run (jumped j T s) (λ g s1. unless_empty gang g s1 (run_all gang frame calls most t_no_stmts)) ≡ jumped j T s
  alone Break T s =
      ap (λ d. go_on (if_so d (run_all gang frame calls most t_no_stmts nobody) (went_all nobody) s) (λ s1 g b c r. Went s1 g (union T b) (union nobody c) (union nobody r))) (any_nobody gang) ∙ ap (λ z. Went s nobody z nobody nobody) (union_nobody T)
  alone Continue T s =
      ap (λ d. go_on (if_so d (run_all gang frame calls most t_no_stmts nobody) (went_all nobody) s) (λ s1 g b c r. Went s1 g (union nobody b) (union T c) (union nobody r))) (any_nobody gang) ∙ ap (λ z. Went s nobody nobody z nobody) (union_nobody T)

  mutual
    pub jump_is : (x : TStmt) (j : Jump) → only_jump x ≡ Some j → Jumps j (run gang frame calls most x)
    jump_is (t_block b) j e T s = block_jumps b j e T s
    jump_is (t_declare xs sp) j e T s = absurd (cc)
    jump_is (t_simple x sp) j e T s = absurd (cc)
    jump_is (t_if f g c x sp) j e T s = absurd (cc)
    jump_is (t_if_else f g c x y sp) j e T s = absurd (cc)
    jump_is (t_while f g c x sp) j e T s = absurd (cc)
    jump_is (t_do f g x c sp) j e T s = absurd (cc)
    jump_is (t_for f g first c step i x sp) j e T s = absurd (cc)
    jump_is (t_foreach w g rs x sp) j e T s = absurd (cc)
    jump_is (t_foreach_active w g i x sp) j e T s = absurd (cc)
    jump_is (t_foreach_unique w g i t c x sp) j e T s = absurd (cc)
    jump_is (t_unmasked w b sp) j e T s = absurd (cc)
    jump_is (t_jump i w sp) j e T s = let same : i ≡ j = cc in (s.work + 1, omega arith, ap (λ z. jumped z T (tick s)) same)
    jump_is (t_return w x sp) j e T s = absurd (cc)
    jump_is (t_print w text xs sp) j e T s = absurd (cc)
    jump_is (t_assert x c sp) j e T s = absurd (cc)

    block_jumps : (b : TBlock) (j : Jump) → block_jump b ≡ Some j → Jumps j (block gang frame calls most b)
    block_jumps (t_braces t_no_stmts sp) j e T s = absurd (cc)
    block_jumps (t_braces (t_stmt_then x t_no_stmts) sp) j e T s =
        let r = jump_is x j e T (tick s) in (
          r.0,
          omega (arith, r.1),
          ap (λ v. then_run v (λ g s1. unless_empty gang g s1 (run_all gang frame calls most t_no_stmts))) r.2 ∙ alone j T (record s { work = r.0 }),
        )
    block_jumps (t_braces (t_stmt_then x (t_stmt_then y xs)) sp) j e T s = absurd (cc)

module _ (w : Setting) (ready : IsSettled w) where
  abbrev does : TStmt → Mask → State → Res
  does x = run (gang_of w) w.frame (calls_of w) w.turns x

  stays : (x : TStmt) → all_go_on x ≡ true → Stays (does x)
  stays x h T s s1 g b ct rt went = went_whole w ready x T s s1 g b ct rt went h

  pub left_is : (x : TStmt) → Left (leaving_of x) (run (gang_of w) w.frame (calls_of w) w.turns x)
  left_is x = go (only_jump x) (all_go_on x) refl refl
    where
      go : (o : Option Jump) (b : Bool) → only_jump x ≡ o → all_go_on x ≡ b → Left (leaving o b) (does x)
      go (Some j) b e h = jump_is (gang_of w) w.frame (calls_of w) w.turns x j e
      go None true e h = stays x h
      go None false e h = tt

  pub both_left : (x y : TStmt) → BothLeft (both_go_on x y) (run (gang_of w) w.frame (calls_of w) w.turns x) (run (gang_of w) w.frame (calls_of w) w.turns y)
  both_left x y = go (both_go_on x y) refl
    where
      go : (b : Bool) → both_go_on x y ≡ b → BothLeft b (does x) (does y)
      go true e = let each = both_so (all_go_on x) (all_go_on y) e in (stays x each.0, stays y each.1)
      go false e = tt
