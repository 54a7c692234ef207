-- `foreach_active` does what it means, where the code of its body does: by induction on the members that are left.
use Rattle.std.proofs.Common.{◌≡◌, ◌≢◌, ℕ, ◌+◌, ◌*◌, ◌<◌, ◌≤◌, List, [], ◌∷◌, ◌++◌, length, Option, Some, None, Bool, true, false, refl, sym, ap, ◌∙◌, subst, arith, eq-eqb, length-append, map}
use Rattle.std.specs.Prelude.{◌&&◌}
use Rattle.std.proofs.lemmas.Bool.{eqb-true, ne_eqb}
use Rattle.isp_base.specs.Cross.{or_zero}
use Rattle.isp_base.specs.Sets.{Mask, any, lowest, lone, without}
use Rattle.isp_base.specs.declared.types.Rate.TheVariants.{Uniform}
use Rattle.isp_code.specs.Conf.{Conf}
use Rattle.isp_code.specs.Lines.{jumps}
use Rattle.isp_code.specs.declared.instr.Instr.{Instr}
use Rattle.isp_code.specs.declared.instr.Instr.TheVariants as instr
use Rattle.isp_code.specs.declared.instr.JumpTest.TheVariants as jump
use Rattle.isp_meaning.specs.Outcomes.{Res}
use Rattle.isp_meaning.specs.Payloads.{One}
use Rattle.isp_meaning.specs.Places.{written}
use Rattle.isp_meaning.specs.Rounds.{members, rounds, round_of_one, active_rounds}
use Rattle.isp_meaning.specs.State.{State, tick}
use Rattle.isp_meaning.proofs.Members.{any_at, lowest_below, lowest_first, lowest_in, lowest_is, no_lowest, no_member, none_all, none_listed}
use Rattle.isp_lower_code.specs.Layout.{mask_register}
use Rattle.isp_lower_code.specs.Runs.{Comes}
use Rattle.isp_lower_code.specs.Setting.{IsUniform, Setting, IsSettled, gang_of, AreAt, At, Stands, Allowed}
use Rattle.isp_lower_code.proofs.Lemmas.{are_front, are_back, put_same, put_other, comes_on, comes_none, step_go, at_to, spares_all, spares_less, jumped, jump_comes, jump_at}
use Rattle.isp_lower_code.proofs.Lemmas.{masked, masked_at, others_comes, set_at, set_comes, set_goes, variable_spares, written_stands}
use Rattle.isp_masks_code.specs.LoopRuns.{BodyRuns}
use Rattle.isp_masks_code.specs.Loops.{copy_mask}
use Rattle.isp_masks_code.specs.Rounds.{lowest_mask, lane_number, take_code, one_code, active_code}
use Rattle.isp_masks_code.specs.Spots.{Spot, body_spot}
use Rattle.isp_masks_code.specs.StmtRuns.{AreThree, EntersAt, StmtOk, StmtRuns}
use Rattle.isp_masks_code.proofs.Combine.{stmt_after, go_runs, plain_ok}
use Rattle.isp_masks_code.proofs.Unmasked.{masks_stay}

-- ---- the lowest of a set

-- a set with members has one
pub some_lowest : (n : ℕ) (a : Mask) → any n a ≡ true → (p : ℕ) × (lowest n a ≡ Some p)
some_lowest n a e = by (lowest n a) refl
  where
    by : (o : Option ℕ) → lowest n a ≡ o → (p : ℕ) × (lowest n a ≡ Some p)
    by (Some p) low = (p, low)
    by None low = absurd (let none : any n a ≡ false = no_member n a low in let h : ⊥ = cc in h)

-- one alone is its own lowest
any_lone : (n p : ℕ) → p < n → any n (lone (Some p)) ≡ true
any_lone n p lt = any_at n (lone (Some p)) p lt (eq-eqb p p refl)

lowest_lone : (n p : ℕ) → p < n → lowest n (lone (Some p)) ≡ Some p
lowest_lone n p lt =
    lowest_is n (lone (Some p)) p lt (eq-eqb p p refl)
    (none_all p (lone (Some p)) (λ q l. let ne : q ≢ p = omega (arith, l) in ne_eqb q p ne))

pub and_first : (b d : Bool) → (b && d) ≡ true → b ≡ true
and_first true d e = refl
and_first false d e = absurd (cc)

module _ (w : Setting) (ready : IsSettled w) (spot : Spot) (three : AreThree spot) (i : ℕ) (single : IsUniform w.function.variables i) (all : Mask) (code : ℕ → List Instr)
    (body : Mask → State → Res) (runs : BodyRuns w (spot.slot + 1) code body) (top : ℕ)
    (has : AreAt w.routine.code top (one_code (w.layout.variable Uniform i) spot.slot top code)) where
  abbrev gang : ℕ
  gang = gang_of w

  abbrev k : ℕ
  k = spot.on

  abbrev n : ℕ
  n = spot.slot

  abbrev end : ℕ
  end = top + length (one_code (w.layout.variable Uniform i) n top code)

  -- the machine stands before a turn, with these left
  record BeforeTurn (left : Mask) (s : State) (c : Conf) : Type 0 where
    at : At w c top
    all_is : c.masks k ≡ all
    left_is : c.masks n ≡ left
    stands : Stands w s c
    allowed : (p : ℕ) → left p ≡ true → Allowed w p

  -- a turn, and what follows it for those that are left
  turn_runs : (left : Mask) (p : ℕ) (ps : List ℕ) (s : State) (c : Conf) (q : ℕ) → lowest gang left ≡ Some p → BeforeTurn left s c → q ≤ 32 * s.work
      → ((s1 : State) (c1 : Conf) (z : ℕ) → any gang (without left (lone (Some p))) ≡ true → BeforeTurn (without left (lone (Some p))) s1 c1 → z ≤ 32 * s1.work → StmtRuns w w.turns c1 end spot z (rounds body all (map (round_of_one i) ps) s1))
      → (any gang (without left (lone (Some p))) ≡ false → ps ≡ [])
      → StmtRuns w w.turns c end spot q (rounds body all (map (round_of_one i) (p ∷ ps)) s)
  turn_runs left p ps s c q found b le again last =
      stmt_after w ready w.turns c c3 3 end spot q _ comes3 (variable_spares w ready Uniform i n c2 (One x) single) (λ r lt ne. mask3 r lt) three
      (go_runs w ready w.turns c3 pc2 (body_spot (n + 1)) 1 (3 + q) (body one s3) _ end spot
      (runs one s3 c3 pc1 (1 + (3 + q)) (are_front w.routine.code pc1 (code pc1) (instr.JumpIf jump.On (mask_register n) top ∷ []) rest)
      (record {
        at = at3;
        mask = mask1;
        some = any_lone gang p in_gang;
        inside = λ r e. subst (Allowed w) (sym (eqb-true r p e))
            (b.allowed p (lowest_in gang left p found));
        stands = stands3;
        used = omega (arith, le);
        low = omega arith;
      }))
      (λ s1 g u ct rt e ok. after s1 g ct rt ok))
    where
      in_gang : p < gang
      in_gang = lowest_below gang left p found

      one : Mask
      one = lone (Some p)

      others : Mask
      others = without left one

      c1 : Conf
      c1 = masked w ready c (n + 1) (lone (lowest gang (c.masks n)))

      c2 : Conf
      c2 = masked w ready c1 n (without (c1.masks n) (c1.masks (n + 1)))

      x : ℕ
      x = or_zero (lowest gang (c2.masks (n + 1)))

      c3 : Conf
      c3 = set_at Uniform c2 (w.layout.variable Uniform i) (One x)

      apart : n ≢ n + 1
      apart = omega arith

      apart' : n + 1 ≢ n
      apart' = omega arith

      taken : c1.masks (n + 1) ≡ one
      taken = put_same c.masks (n + 1) (lone (lowest gang (c.masks n))) ∙ ap (λ m. lone (lowest gang m)) b.left_is ∙ ap lone found

      mask1 : c3.masks (n + 1) ≡ one
      mask1 = put_other c1.masks n (without (c1.masks n) (c1.masks (n + 1))) (n + 1) apart' ∙ taken

      mask0 : c3.masks n ≡ others
      mask0 = put_same c1.masks n (without (c1.masks n) (c1.masks (n + 1))) ∙ ap (λ m. without m (c1.masks (n + 1))) (put_other c.masks (n + 1) (lone (lowest gang (c.masks n))) n apart ∙ b.left_is) ∙ ap (without left) taken

      mask3 : (r : ℕ) → r < n → c3.masks r ≡ c.masks r
      mask3 r lt =
          let ne0 : r ≢ n = omega arith in
          let ne1 : r ≢ n + 1 = omega arith in
          put_other c1.masks n (without (c1.masks n) (c1.masks (n + 1))) r ne0 ∙ put_other c.masks (n + 1) (lone (lowest gang (c.masks n))) r ne1

      number : x ≡ p
      number = ap (λ m. or_zero (lowest gang m)) mask1 ∙ ap or_zero (lowest_lone gang p in_gang)

      s3 : State
      s3 = written Uniform i one (One p) (tick s)

      stands3 : Stands w s3 c3
      stands3 = written_stands w ready Uniform i c2 one (One p) (tick s) (One x) b.stands (ap One (sym number)) (tt, single)

      at1 : At w c1 (top + 1)
      at1 = masked_at w ready c top (n + 1) (lone (lowest gang (c.masks n))) b.at

      at2 : At w c2 (top + 1 + 1)
      at2 = masked_at w ready c1 (top + 1) n (without (c1.masks n) (c1.masks (n + 1))) at1

      pc1 : ℕ
      pc1 = top + 3

      at3 : At w c3 pc1
      at3 = at_to w c3 (top + 1 + 1 + 1) pc1 (set_goes w ready Uniform c2 (w.layout.variable Uniform i) (One x) (top + 1 + 1) at2) (omega arith)

      begin : AreAt w.routine.code top (take_code (w.layout.variable Uniform i) n)
      begin = are_front w.routine.code top (take_code (w.layout.variable Uniform i) n) (code pc1 ++ instr.JumpIf jump.On (mask_register n) top ∷ []) has

      rest : AreAt w.routine.code pc1 (code pc1 ++ instr.JumpIf jump.On (mask_register n) top ∷ [])
      rest = are_back w.routine.code top (take_code (w.layout.variable Uniform i) n) (code pc1 ++ instr.JumpIf jump.On (mask_register n) top ∷ []) has

      comes3 : Comes w c 3 c3
      comes3 =
          comes_on w c c2 c3 2 1 (comes_on w c c1 c2 1 1 (step_go w c top (lowest_mask (n + 1) n) c1 ready b.at begin.0 refl) (others_comes w ready c1 (top + 1) n n (n + 1) at1 begin.1.0))
          (set_comes w ready Uniform c2 (w.layout.variable Uniform i) (One x) (top + 1 + 1) (lane_number (w.layout.variable Uniform i) (n + 1)) at2 begin.1.1.0 refl)

      pc2 : ℕ
      pc2 = pc1 + length (code pc1)

      ends : pc2 + 1 ≡ end
      ends = omega (arith, length-append (take_code (w.layout.variable Uniform i) n) (code pc1 ++ instr.JumpIf jump.On (mask_register n) top ∷ []), length-append (code pc1) (instr.JumpIf jump.On (mask_register n) top ∷ []))

      back : AreAt w.routine.code pc2 (instr.JumpIf jump.On (mask_register n) top ∷ [])
      back = are_back w.routine.code pc1 (code pc1) (instr.JumpIf jump.On (mask_register n) top ∷ []) rest

      after : (s1 : State) (g ct rt : Mask) (ok : StmtOk w c3 pc2 (body_spot (n + 1)) (1 + (3 + q)) s1 g ct rt) → StmtRuns w w.turns c3 end spot (3 + q) (rounds body all (map (round_of_one i) ps) s1)
      after s1 g ct rt ok =
          stmt_after w ready w.turns c3 c5 (ok.steps + 1) end spot (3 + q) _
          (comes_on w c3 c4 c5 ok.steps 1 ok.comes (jump_comes w ready c4 pc2 jump.On (mask_register n) top ok.at back.0))
          (spares_less w n (n + 1 + 3) c3 c4 (omega arith) ok.spares) (λ r lt ne. low r (omega arith)) three (go (any gang others) refl)
        where
          c4 : Conf
          c4 = ok.conf

          c5 : Conf
          c5 = jumped w ready c4 jump.On (mask_register n) top

          low : (r : ℕ) → r < n + 1 → c4.masks r ≡ c3.masks r
          low r lt = masks_stay w ready c3 pc2 (n + 1) (1 + (3 + q)) s1 g ct rt ok r lt

          left4 : c4.masks n ≡ others
          left4 = low n (omega arith) ∙ mask0

          jumps_is : (z : Bool) → any gang others ≡ z → jumps w.code w.routine c4 jump.On (mask_register n) ≡ z
          jumps_is z e = ap (any gang) left4 ∙ e

          kn : k < n
          kn = three.low_on

          all4 : c4.masks k ≡ all
          all4 = low k (omega (arith, kn)) ∙ mask3 k kn ∙ b.all_is

          go : (z : Bool) → any gang others ≡ z → StmtRuns w w.turns c5 end spot (ok.steps + 1 + (3 + q)) (rounds body all (map (round_of_one i) ps) s1)
          go true e =
              again s1 c5 (ok.steps + 1 + (3 + q)) e (record {
                at = jump_at w ready c4 pc2 jump.On (mask_register n) top true ok.at (jumps_is true e);
                all_is = all4;
                left_is = left4;
                stands = ok.stands;
                allowed = λ r h. b.allowed r (and_first (left r) _ h);
              })
              (omega (arith, ok.bound))
          go false e =
              subst (λ xs. StmtRuns w w.turns c5 end spot (ok.steps + 1 + (3 + q)) (rounds body all (map (round_of_one i) xs) s1)) (sym (last e))
              (plain_ok w ready c5 c5 0 end spot (ok.steps + 1 + (3 + q)) all s1 (comes_none w c5)
              (at_to w c5 (pc2 + 1) end (jump_at w ready c4 pc2 jump.On (mask_register n) top false ok.at (jumps_is false e)) ends) ok.stands
              (spares_all w n c5) (λ r lt. refl) three all4 (omega (arith, ok.bound)))

  turns_run : (ps : List ℕ) (left : Mask) (s : State) (c : Conf) (q : ℕ) → members gang left ≡ ps → any gang left ≡ true → BeforeTurn left s c → q ≤ 32 * s.work → StmtRuns w w.turns c end spot q (rounds body all (map (round_of_one i) ps) s)
  turns_run [] left s c q e some b le =
      let low = some_lowest gang left some in
      let none : low.0 ∷ members gang (without left (lone (Some low.0))) ≡ [] = sym (lowest_first gang left low.0 low.1) ∙ e in
      absurd (let h : ⊥ = cc in h)
  turns_run (r ∷ ps) left s c q e some b le =
      let low = some_lowest gang left some in
      let p = low.0 in
      let others = without left (lone (Some p)) in
      let both = sym (lowest_first gang left p low.1) ∙ e in
      let rest : members gang others ≡ ps = tail_is p r (members gang others) ps both in
      subst (λ u. StmtRuns w w.turns c end spot q (rounds body all (map (round_of_one i) (u ∷ ps)) s)) (head_is p r (members gang others) ps both)
      (turn_runs left p ps s c q low.1 b le (λ s1 c1 z more b1 le1. turns_run ps others s1 c1 z rest more b1 le1) (λ none. sym rest ∙ none_listed gang others (no_lowest gang others none)))
    where
      head_is : (x y : ℕ) (xs ys : List ℕ) → x ∷ xs ≡ y ∷ ys → x ≡ y
      head_is x y xs ys h = cc

      tail_is : (x y : ℕ) (xs ys : List ℕ) → x ∷ xs ≡ y ∷ ys → xs ≡ ys
      tail_is x y xs ys h = cc

module _ (w : Setting) (ready : IsSettled w) where
  pub active_runs : (i pc : ℕ) (spot : Spot) (q : ℕ) (a : Mask) (s : State) (c : Conf) (code : ℕ → List Instr) (body : Mask → State → Res)
      → IsUniform w.function.variables i → BodyRuns w (spot.slot + 1) code body → AreAt w.routine.code pc (active_code (w.layout.variable Uniform i) pc spot.on spot.slot code)
      → AreThree spot → EntersAt w pc spot a s c q → StmtRuns w w.turns c
      (pc + length (active_code (w.layout.variable Uniform i) pc spot.on spot.slot code)) spot q
      (rounds body a (active_rounds (gang_of w) i a) (tick s))
  active_runs i pc spot q a s c code body single runs has three b =
      let n = spot.slot in
      let c1 = masked w ready c n (c.masks spot.on) in
      let kn : spot.on ≢ n = omega (arith, three.low_on) in
      let ends : pc + 1 + length (one_code (w.layout.variable Uniform i) n (pc + 1) code) ≡ pc + length (active_code (w.layout.variable Uniform i) pc spot.on n code) = omega arith in
      stmt_after w ready w.turns c c1 1 _ spot q _ (step_go w c pc (copy_mask n spot.on) c1 ready b.at has.0 refl) (spares_all w n c) (λ r lt ne. let rn : r ≢ n = omega arith in put_other c.masks n (c.masks spot.on) r rn) three
      (subst (λ z. StmtRuns w w.turns c1 z spot (1 + q) (rounds body a (active_rounds (gang_of w) i a) (tick s))) ends
      (turns_run w ready spot three i single a code body runs (pc + 1) has.1 (members (gang_of w) a) a (tick s) c1 (1 + q) refl b.some
      (record {
        at = masked_at w ready c pc n (c.masks spot.on) b.at;
        all_is = put_other c.masks n (c.masks spot.on) spot.on kn
            ∙ b.mask;
        left_is = put_same c.masks n (c.masks spot.on) ∙ b.mask;
        stands = b.stands;
        allowed = b.inside;
      }) (omega (arith, b.used))))
