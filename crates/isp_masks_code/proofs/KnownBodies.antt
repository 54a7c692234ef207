-- The body of a `foreach` that sets the scalars of its indices knows these.
use Rattle.std.proofs.Common.{◌≡◌, ℕ, ◌+◌, ◌≤◌, List, [], ◌∷◌, ◌++◌, length, Some, Bool, true, false, refl, sym, ap, ◌∙◌, subst, arith, length-append}
use Rattle.std.specs.Prelude.{slice_get}
use Rattle.isp_base.specs.Sets.{Mask}
use Rattle.isp_base.specs.Values.{number}
use Rattle.isp_base.specs.declared.types.Elem.TheVariants.{I32, I64}
use Rattle.isp_base.specs.declared.types.Rate.TheVariants.{Uniform, Varying}
use Rattle.isp_code.specs.Conf.{Conf}
use Rattle.isp_code.specs.declared.instr.Instr.{Instr}
use Rattle.isp_typed.specs.Indices.{foreach_index}
use Rattle.isp_typed.specs.Typed.{TExpr, TRange, TStmt}
use Rattle.isp_meaning.specs.Outcomes.{Res, Went, Trapped, Cut}
use Rattle.isp_meaning.specs.State.{State}
use Rattle.isp_meaning.specs.Statements.{run}
use Rattle.isp_steady.specs.Indices.{indices_of, known_indices}
use Rattle.isp_steady.specs.Known.{Known, is_known}
use Rattle.isp_lower_code.specs.Consecutive.{CountsFrom, RunHolds}
use Rattle.isp_lower_code.specs.Layout.{KnowsNothing, Layout, NoneFixed, within}
use Rattle.isp_lower_code.specs.RowCode.{row_index_asks}
use Rattle.isp_lower_code.specs.RowLayout.{KnownRows, MayKnow, knowing, with_known}
use Rattle.isp_lower_code.specs.Setting.{AreAt, IsKnownIn, IsSettled, MaySet, Setting, Spares, Stands, calls_of, gang_of, is_constant}
use Rattle.isp_lower_code.specs.Tables.{IsTyped}
use Rattle.isp_lower_code.proofs.Lemmas.{are_back, are_front, known_rows, knows_nothing, none_known}
use Rattle.isp_masks_code.specs.Free.{last_index_of}
use Rattle.isp_masks_code.specs.Named.{AreNamed}
use Rattle.isp_masks_code.specs.Ranges.{begun, singles_code}
use Rattle.isp_masks_code.specs.Spots.{Numbers, Spot, body_spot}
use Rattle.isp_masks_code.specs.Statements.{body_layout, last_layout, layout_by, stmt_code, stmt_places, stmt_texts}
use Rattle.isp_masks_code.specs.StmtRuns.{StmtRuns}
use Rattle.isp_masks_code.proofs.Bodies.{InBodySpot, RunBodyRuns, RunEnters, asked_same, last_is, plain_body, run_as, run_begins, run_settled, with_layout, within_is}
use Rattle.isp_masks_code.proofs.Combine.{stmt_after}
use Rattle.isp_masks_code.proofs.Fitting.{index_constant, last_constant}
use Rattle.isp_masks_code.proofs.Indices.{each_index, each_last, known_index}
use Rattle.isp_masks_code.proofs.LoopStmts.{masks_of}
use Rattle.isp_masks_code.proofs.Outers.{no_slots, outer_slots}
use Rattle.isp_masks_code.proofs.Parts.{RangesConstant}
use Rattle.isp_masks_code.proofs.PieceLengths.{singles_long}
use Rattle.isp_masks_code.proofs.Singles.{SinglesSet, singles_set}

-- what is known of the indices
abbrev pub of_indices : List TRange → ℕ → Known
of_indices rs = known_indices (indices_of rs)

-- ---- what code does that knows something, it does

module _ (w : Setting) (known : ℕ → Known) (there : TExpr → ℕ → Bool) (nothing : KnowsNothing w.layout) where
  knowing_back : (turns : ℕ) (c : Conf) (pc : ℕ) (spot : Spot) (q : ℕ) (v : Res) → StmtRuns (knowing w known there) turns c pc spot q v → StmtRuns w turns c pc spot q v
  knowing_back turns c pc spot q (Went s g u ct rt) r =
      let rows : KnownRows = known_rows in
      record {
        conf = r.conf;
        steps = r.steps;
        comes = r.comes;
        at = r.at;
        stands = rows.back w known there s r.conf nothing r.stands;
        spares = record {
          scalars_stay = r.spares.scalars_stay;
          vectors_stay = r.spares.vectors_stay;
          fresh_scalars = r.spares.fresh_scalars;
          fresh_vectors = r.spares.fresh_vectors;
          singles_stay = λ v is. absurd (none_known w.layout nothing v is);
        };
        went = r.went;
        continued = r.continued;
        returned = r.returned;
        masks = r.masks;
        bound = r.bound;
      }
  knowing_back turns c pc spot q (Trapped t s) r = r
  knowing_back turns c pc spot q (Cut s) r = r

module _ (w : Setting) (ready : IsSettled w) (free : NoneFixed w.layout) where
  -- ---- the body of these ranges

  module _ (rs : List TRange) (i m : ℕ) (x : TStmt) (h : ℕ) (z : Numbers) (last : last_index_of rs ≡ Some i) (few : length rs ≤ 3)
      (place_typed : IsTyped w Uniform (w.layout.place Uniform) I64) (typed : IsTyped w Varying (w.layout.variable Varying i) I32)
      (constants : RangesConstant w rs) (sets : w.layout.sets rs ≡ true) where
    may : MaySet w rs
    may = ready.sets rs sets

    unloaded : w.layout.loaded i ≡ false
    unloaded = each_last (λ j. w.layout.loaded j ≡ false) rs i may.unloaded last

    abbrev known : ℕ → Known
    known = of_indices rs

    abbrev there : TExpr → ℕ → Bool
    there = w.layout.there

    abbrev own : List Instr
    own = singles_code w.layout rs m

    -- its layout but for what is known
    abbrev bare : Layout
    bare = run_as w.layout (Some i) true

    within_bare : within w.layout i ≡ bare
    within_bare = within_is w ready free i false unloaded

    last_bare : last_layout w.layout rs ≡ bare
    last_bare = last_is w.layout rs i last ∙ within_bare

    -- for members of a run
    module _ (a : Mask) (b : ℕ) where
      abbrev inner : Setting
      inner = with_layout w bare a b

      settled : IsSettled inner
      settled = run_settled w ready free i a b typed (last_constant w rs i last constants) unloaded

      known_there : (v : ℕ) → is_known (known v) ≡ true → IsKnownIn inner v
      known_there v e =
          let is = known_index rs v e in
          let constant = index_constant w rs v constants is in
          record { varying = (I32, record { constant = true; is = constant }); constant = ap is_constant constant; unloaded = each_index (λ j. w.layout.loaded j ≡ false) rs v may.unloaded is }

      may_know : MayKnow inner known there
      may_know = record {
        rows = λ j n. refl;
        nothing = knows_nothing w.layout free;
        inside = refl;
        variables = known_there;
        registers = λ j n e. asked_same w.routine w.layout w.function.variables (Some i) true (row_index_asks j n) (may.there j n e);
      }

    -- what is shown of it, by its layout but for what is known
    abbrev Law : Layout → Type 0
    Law l = (k : Mask) (b : ℕ) → IsSettled (with_layout w (with_known known there l) k b) → InBodySpot x (with_layout w (with_known known there l) k b) h z

    module _ (a : Mask) (s : State) (c : Conf) (pc q : ℕ) (e : RunEnters w i (outer_slots rs m no_slots) pc h a s c q) (has : AreAt w.routine.code pc own) where
      abbrev place : ℕ
      place = c.scalars (w.layout.place Uniform)

      counts : CountsFrom (number I64 place) a (s.varying i)
      counts = (subst (λ (l : Layout). RunHolds l.run place a place s.varying) within_bare e.counts).1

      set : SinglesSet w ready free rs m pc a s c
      set =
          singles_set w ready free a s i place_typed rs m pc no_slots c last (record { apart = may.apart; constant = constants; typed = may.typed }) has e.at e.stands counts e.outers

      stands_bare : Stands (inner a place) s set.conf
      stands_bare = run_begins w ready free i a place s set.conf set.stands (set.place_is, counts)

      abbrev pc1 : ℕ
      pc1 = pc + length own

      abbrev body : Layout → List Instr
      body l = stmt_code (with_known known there l) w.frame.answer x pc1 z (body_spot h)

      abbrev Does : Layout → Type 0
      Does l =
          AreAt w.routine.code pc1 (body l) → AreNamed w.code z (stmt_places (with_known known there l) x) (stmt_texts x) → Law l
          → StmtRuns (with_layout w l a place) w.turns c (pc + length (own ++ body l)) (body_spot h) q (run (gang_of w) w.frame (calls_of w) w.turns x a s)

      does_bare : Does bare
      does_bare there_is named law =
          stmt_after (inner a place) (settled a place) w.turns c set.conf (length own) (pc + length (own ++ body bare)) (body_spot h) q
          (run (gang_of w) w.frame (calls_of w) w.turns x a s) set.comes spares_bare (λ r lt ne. ap (λ f. f r) set.masks) (masks_of h)
          (subst (λ t. StmtRuns (inner a place) w.turns set.conf t (body_spot h) (length own + q) (run (gang_of w) w.frame (calls_of w) w.turns x a s)) ends
          (knowing_back (inner a place) known there (knows_nothing w.layout free) w.turns set.conf (pc1 + length (body bare)) (body_spot h) (length own + q)
          (run (gang_of w) w.frame (calls_of w) w.turns x a s)
          (law a place (rows.settled (inner a place) known there (settled a place) (may_know a place)) a s set.conf pc1 (length own + q) there_is named
          (record {
            at = set.at;
            mask = ap (λ f. f h) set.masks ∙ e.mask;
            some = e.some;
            inside = λ p k. (e.inside p k, λ _. k);
            stands = rows.stands (inner a place) known there s set.conf stands_bare set.known;
            used = omega (arith, e.used, few, singles_long w.layout rs m);
            low = omega arith;
          }))))
        where
          rows : KnownRows
          rows = known_rows

          ends : pc1 + length (body bare) ≡ pc + length (own ++ body bare)
          ends = omega (arith, length-append own (body bare))

          spares_bare : Spares (inner a place) (h + 3) c set.conf
          spares_bare =
              let sp = set.spares (h + 3) in
              record { scalars_stay = sp.scalars_stay; vectors_stay = sp.vectors_stay; fresh_scalars = sp.fresh_scalars; fresh_vectors = sp.fresh_vectors; singles_stay = sp.singles_stay }

      does : Does (last_layout w.layout rs)
      does = subst Does (sym last_bare) does_bare

    known_body : AreNamed w.code z (stmt_places (with_known known there (last_layout w.layout rs)) x) (stmt_texts x) → Law (last_layout w.layout rs)
        → RunBodyRuns w i (outer_slots rs m no_slots) h (begun true own (λ pc. stmt_code (with_known known there (last_layout w.layout rs)) w.frame.answer x pc z (body_spot h))) (run (gang_of w) w.frame (calls_of w) w.turns x)
    known_body named law a s c pc q has e =
        let place = c.scalars (w.layout.place Uniform) in
        let code = stmt_code (with_known known there (last_layout w.layout rs)) w.frame.answer x (pc + length own) z (body_spot h) in
        subst (λ l. StmtRuns (with_layout w l a place) w.turns c (pc + length (own ++ code)) (body_spot h) q (run (gang_of w) w.frame (calls_of w) w.turns x a s)) (last_is w.layout rs i last)
        (does a s c pc q e (are_front w.routine.code pc own code has) (are_back w.routine.code pc own code has) named law)

  -- ---- of all

  pub foreach_body : (rs : List TRange) (i m : ℕ) (x : TStmt) (h : ℕ) (z : Numbers) → last_index_of rs ≡ Some i → length rs ≤ 3
      → IsTyped w Uniform (w.layout.place Uniform) I64 → IsTyped w Varying (w.layout.variable Varying i) I32 → RangesConstant w rs
      → AreNamed w.code z (stmt_places (body_layout w.layout rs) x) (stmt_texts x)
      → ((k : Mask) (b : ℕ) → IsSettled (with_layout w (body_layout w.layout rs) k b) → InBodySpot x (with_layout w (body_layout w.layout rs) k b) h z)
      → RunBodyRuns w i (outer_slots rs m no_slots) h (begun (w.layout.sets rs) (singles_code w.layout rs m) (λ pc. stmt_code (body_layout w.layout rs) w.frame.answer x pc z (body_spot h))) (run (gang_of w) w.frame (calls_of w) w.turns x)
  foreach_body [] i m x h z last few place_typed typed constants named law = absurd (cc)
  foreach_body (r ∷ ts) i m x h z last few place_typed typed constants named law = go (w.layout.sets (r ∷ ts)) refl named law
    where
      go : (d : Bool) → w.layout.sets (r ∷ ts) ≡ d → AreNamed w.code z (stmt_places (layout_by d w.layout (r ∷ ts)) x) (stmt_texts x)
          → ((k : Mask) (b : ℕ) → IsSettled (with_layout w (layout_by d w.layout (r ∷ ts)) k b) → InBodySpot x (with_layout w (layout_by d w.layout (r ∷ ts)) k b) h z)
          → RunBodyRuns w i (outer_slots (r ∷ ts) m no_slots) h (begun d (singles_code w.layout (r ∷ ts) m) (λ pc. stmt_code (layout_by d w.layout (r ∷ ts)) w.frame.answer x pc z (body_spot h))) (run (gang_of w) w.frame (calls_of w) w.turns x)
      go false e named1 law1 = plain_body w ready free (r ∷ ts) i (outer_slots (r ∷ ts) m no_slots) x h z last typed (last_constant w (r ∷ ts) i last constants) named1 law1
      go true e named1 law1 = known_body (r ∷ ts) i m x h z last few place_typed typed constants e named1 law1
