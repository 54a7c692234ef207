-- A trap names a member: of calls by induction on the levels that are left, then of expressions, statements and whole runs.
use Rattle.std.proofs.Common.{◌≡◌, ℕ, zero, suc, ◌<◌, ◌⊎◌, inl, inr, true, refl, subst, arith}
use Rattle.std.proofs.lemmas.Bool.Decides.{nat_tests}
use Rattle.std.specs.Prelude.{List, Option, Some, None, slice_get}
use Rattle.isp_base.specs.Outcomes.{Outcome, Ends, Traps, GoesOn}
use Rattle.isp_base.specs.Sets.{Mask, any, everyone}
use Rattle.isp_base.specs.Types.{gang_width}
use Rattle.isp_base.specs.declared.signature.Argument.{Argument}
use Rattle.isp_base.specs.declared.types.Elem.{Elem}
use Rattle.isp_base.specs.declared.types.Gang.{Gang}
use Rattle.isp_base.specs.declared.types.Gang.TheVariants.{W4, W8, W16, W32}
use Rattle.isp_base.specs.declared.types.Ty.{Ty}
use Rattle.isp_typed.specs.Typed.{TFunction, Program}
use Rattle.isp_independence.specs.Reaches.{Reaches, itself, by_call, Calls, block_calls}
use Rattle.isp_meaning.specs.Calls.{frame_of, begun, ended, called, calls_at, most_calls}
use Rattle.isp_meaning.specs.Laws.{MaskedBlock}
use Rattle.isp_meaning.specs.Outcomes.{Val, Gives, Fails, Stops, Res, Went, Trapped, Cut}
use Rattle.isp_meaning.specs.Payloads.{Payload}
use Rattle.isp_meaning.specs.Runs.{handed, first_frame, first_state, no_place, outcome_of, run_of}
use Rattle.isp_meaning.specs.State.{State, Frame}
use Rattle.isp_meaning_laws.specs.Members.{FailsIn, TrapsIn, ATrapNamesAMember}
use Rattle.isp_meaning_laws.proofs.MemberSets.{lowest_named, Free, Named, NamedRes}
use Rattle.isp_meaning_laws.proofs.MemberValues.{Each_of, CallsNamed, value_free}
use Rattle.isp_meaning_laws.proofs.MemberRuns.{run_named, block_named}

reaches_from : (fs : List TFunction) (k j i : ℕ) → Calls fs k j → Reaches fs j i → Reaches fs k i
reaches_from fs k j i c itself = by_call k j itself c
reaches_from fs k j i c (by_call n l r d) = by_call n l (reaches_from fs k j n c r) d

module _ (program : Program) (most : ℕ) (m : Mask) where
  abbrev N : ℕ
  N = gang_width program.gang

  abbrev Whole : Type 0
  Whole = (p : ℕ) → p < N → m p ≡ true

  -- all of the gang is in the set, or all that it reaches is masked
  abbrev Ok : ℕ → Type 0
  Ok k = Whole ⊎ ((j : ℕ) (g : TFunction) → Reaches program.functions k j → slice_get program.functions j ≡ Some g → MaskedBlock g.body)

  ended_named : (t : Option Ty) (caller : Frame) (a : Mask) (s : State) (v : Res) → NamedRes N m v → Named N m Free (ended t caller a s v)
  ended_named t caller a s (Went s1 g b c r) h = record { by = tt }
  ended_named t caller a s (Trapped k s1) h = record { by = h.by }
  ended_named t caller a s (Cut s1) h = record { by = tt }

  body_masked : (f : ℕ) (g : TFunction) → slice_get program.functions f ≡ Some g → Ok f → Whole ⊎ MaskedBlock g.body
  body_masked f g e (inl w) = inl w
  body_masked f g e (inr h) = inr (h f g itself e)

  callee_ok : (f : ℕ) (g : TFunction) → slice_get program.functions f ≡ Some g → Ok f → Each_of Ok (block_calls g.body)
  callee_ok f g e (inl w) k c = inl w
  callee_ok f g e (inr h) k c = inr (λ j i r d. h j i (reaches_from program.functions f k j (record { by = (g, e, c) }) r) d)

  calls_named : (left : ℕ) → CallsNamed program most m Ok left
  calls_named zero f ok sp a xs caller s sub e = let low = lowest_named N a e in record { by = (low.0, sub _ low.0 low.1) }
  calls_named (suc left) f ok sp a xs caller s sub e = by (calls_named left) (slice_get program.functions f) refl where
    by : CallsNamed program most m Ok left → (o : Option TFunction) → slice_get program.functions f ≡ o → Named N m Free (called program most (calls_at program most left) o a xs caller s)
    by below None i = record { by = tt }
    by below (Some g) i =
        ended_named g.answer caller a s _ (block_named program most left m Ok below (frame_of g xs caller) g.body (body_masked f g i ok) (callee_ok f g i ok) a (begun g xs caller a s) sub e)

fails_in : (gang : ℕ) (m : Mask) (v : Val Payload) → Named gang m Free v → FailsIn gang m v
fails_in gang m (Gives x s) h = tt
fails_in gang m (Fails t s) h = h.by
fails_in gang m (Stops s) h = tt

traps_in : (gang : ℕ) (m : Mask) (v : Res) → NamedRes gang m v → TrapsIn gang m v
traps_in gang m (Went s g b c r) h = tt
traps_in gang m (Trapped t s) h = h.by
traps_in gang m (Cut s) h = tt

is_below : (n p : ℕ) → p < n → everyone n p ≡ true
is_below n p lt = grind (arith, lt, nat_tests)

any_all : (g : Gang) → any (gang_width g) (everyone (gang_width g)) ≡ true
any_all W4 = refl
any_all W8 = refl
any_all W16 = refl
any_all W32 = refl

-- the trap of an outcome is below n
abbrev Below : ℕ → Outcome → Type 0
Below n (Ends arrays answer out) = Unit {0}
Below n (Traps t arrays out) = t.instance < n
Below n (GoesOn out) = Unit {0}

outcome_below : (n : ℕ) (t : Option Elem) (xs : List Argument) (v : Val Payload) → Named n (everyone n) Free v → Below n (outcome_of t xs v)
outcome_below n t xs (Gives x s) h = tt
outcome_below n t xs (Fails k s) h = h.by.0
outcome_below n t xs (Stops s) h = tt

whole_run : (program : Program) (f most : ℕ) (xs : List Argument) → Below (gang_width program.gang) (run_of program f most xs)
whole_run program f most xs =
    let n = gang_width program.gang in
    outcome_below n _ xs _ (calls_named program most (everyone n) most_calls f (inl (is_below n)) no_place (everyone n) (handed 0 xs) (first_frame xs) (first_state xs) (λ p lt e. e) (any_all program.gang))

pub a_trap_names_a_member : ATrapNamesAMember
a_trap_names_a_member =
    record {
      expression = λ program most levels frame x a s masked some. fails_in _ a _ (value_free program most levels a (Ok program most a) (calls_named program most a levels) frame x (λ k c. inr (λ j g r e. masked k j g c r e)) a s (λ p lt e. e) some);
      statement = λ program most levels frame x a s m masked some. traps_in _ a _ (run_named program most levels a (Ok program most a) (calls_named program most a levels) frame x (inr m) (λ k c. inr (λ j g r e. masked k j g c r e)) a s
          (λ p lt e. e) some);
      any_expression = λ program most levels frame x a s some. let m = everyone (gang_width program.gang) in fails_in _ m _ (value_free program most levels m (Ok program most m) (calls_named program most m levels) frame x
          (λ k c. inl (is_below _)) a s (λ p lt e. is_below _ p lt) some);
      any_statement = λ program most levels frame x a s some. let m = everyone (gang_width program.gang) in traps_in _ m _ (run_named program most levels m (Ok program most m) (calls_named program most m levels) frame x (inl (is_below _))
          (λ k c. inl (is_below _)) a s (λ p lt e. is_below _ p lt) some);
      whole_run = λ program f most xs t arrays out e. subst (λ o. Below (gang_width program.gang) o) e (whole_run program f most xs);
    }
