-- Steps of reading functions and programs, for the code.
use Rattle.std.proofs.Common.{◌≡◌, ℕ, zero, suc, ◌<◌, true, false, List, [], ◌∷◌, ◌++◌, length, drop, Option, Some, None, Result, Ok, Err, refl, sym, ap, ◌∙◌, append_assoc, arith, eqb-true}
use Rattle.std.specs.Prelude.{◌==◌}
use Rattle.std.proofs.lemmas.List.{append-nil}
use Rattle.isp_lex.specs.declared.token.Token.{Token}
use Rattle.isp_grammar.specs.reader.Readers.{◌>>=◌, Fails}
use Rattle.isp_grammar.specs.reader.Choices.{signs_from, signs_at}
use Rattle.isp_grammar.specs.reader.Programs.{linkage_of, linkage_at, linkages_at, function_at, functions_at, program_at}
use Rattle.isp_tree.specs.Tree.{Function}
use Rattle.isp_grammar.specs.declared.stop.Refusal.{Refusal}
use Rattle.isp_grammar.specs.declared.stop.Stop.{Stop}
use Rattle.isp_grammar.specs.declared.stop.Stop.TheVariants as stops
use Rattle.isp_tree.specs.declared.function.Linkage.{Linkage}

-- ---- linkages

-- words read before, and those still to come
abbrev pub words_then : List Linkage → List Linkage × List Token → List Linkage × List Token
words_then front p = (front ++ p.0, p.1)

none_by : (o : Option Linkage) (t : Token) (ts : List Token) → o ≡ None → signs_from (signs_at linkage_of ts) o t ts ≡ ([], t ∷ ts)
none_by None t ts e = refl
none_by (Some l) t ts e = absurd cc

some_by : (o : Option Linkage) (l : Linkage) (t : Token) (ts : List Token) → o ≡ Some l → signs_from (signs_at linkage_of ts) o t ts ≡ (l ∷ (signs_at linkage_of ts).0, (signs_at linkage_of ts).1)
some_by None l t ts e = absurd cc
some_by (Some k) l t ts e = ap (λ (o : Option Linkage). signs_from (signs_at linkage_of ts) o t ts) e

pub linkages_end : (front : List Linkage) (ts : List Token) (total : List Linkage × List Token) → linkage_at ts ≡ None → words_then front (signs_at linkage_of ts) ≡ total → total ≡ (front, ts)
unfolding signs_at
linkages_end front [] total n e = sym e ∙ ap (λ (l : List Linkage). (l, [])) (append-nil front)
linkages_end front (t ∷ ts) total n e = sym e ∙ ap (words_then front) (none_by (linkage_of t.kind) t ts n) ∙ ap (λ (l : List Linkage). (l, t ∷ ts)) (append-nil front)

pub linkages_step : (front : List Linkage) (l : Linkage) (ts : List Token) (total : List Linkage × List Token) → linkage_at ts ≡ Some l → words_then front (signs_at linkage_of ts) ≡ total
    → words_then (front ++ l ∷ []) (signs_at linkage_of (drop 1 ts)) ≡ total
unfolding signs_at
linkages_step front l [] total n e = absurd cc
linkages_step front l (t ∷ ts) total n e =
    let m = signs_at linkage_of ts in
    ap (λ (k : List Linkage). (k, m.1)) (append_assoc front (l ∷ []) m.0) ∙ sym (ap (words_then front) (some_by (linkage_of t.kind) l t ts n)) ∙ e

pub linkages_are : (ts : List Token) → linkages_at ts ≡ Ok (signs_at linkage_of ts)
unfolding linkages_at
linkages_are ts = refl

pub linkage_shorter : (ts : List Token) (l : Linkage) → linkage_at ts ≡ Some l → length (drop 1 ts) < length ts
linkage_shorter [] l e = absurd cc
linkage_shorter (t ∷ ts) l e = omega arith

-- ---- programs

abbrev pub functions_then : List Function → Result (List Function) Refusal → Result (List Function) Refusal
functions_then front r = r >>= λ fs. Ok (front ++ fs)

functions_after : (front : List Function) (x : Function) (r : Result (List Function) Refusal) → functions_then front (r >>= λ xs. Ok (x ∷ xs)) ≡ functions_then (front ++ x ∷ []) r
functions_after front x (Ok xs) = ap Ok (sym (append_assoc front (x ∷ []) xs))
functions_after front x (Err d) = refl

functions_none : (r : Result (List Function) Refusal) → functions_then [] r ≡ r
functions_none (Ok xs) = refl
functions_none (Err d) = refl

pub program_begins : (n : ℕ) (ts : List Token) → functions_then [] (functions_at n (suc (length ts)) ts) ≡ program_at n ts
unfolding program_at
program_begins n ts = functions_none (functions_at n (suc (length ts)) ts)

pub program_fails : (s : Stop) (n f : ℕ) (front : List Function) (ts : List Token) (total : Result (List Function) Refusal) → length ts < f
    → 0 < length ts → Fails s (function_at n ts) → functions_then front (functions_at n f ts) ≡ total → Fails s total
unfolding functions_at
program_fails stops.Memory n f front ts total lt h w e = tt
program_fails (stops.Refused r) n zero front ts total lt h w e = absurd (omega arith)
program_fails (stops.Refused r) n (suc f) front [] total lt h w e = absurd (omega arith)
program_fails (stops.Refused r) n (suc f) front (t ∷ ts) total lt h w e = let p : functions_then front (functions_at n (suc f) (t ∷ ts)) ≡ Err r = rw w refl in sym e ∙ p

pub program_ends : (n f : ℕ) (front : List Function) (ts : List Token) (total : Result (List Function) Refusal) → length ts < f → length ts ≡ 0 → functions_then front (functions_at n f ts) ≡ total → total ≡ Ok front
unfolding functions_at
program_ends n zero front ts total lt h e = absurd (omega arith)
program_ends n (suc f) front [] total lt h e = sym e ∙ ap Ok (append-nil front)
program_ends n (suc f) front (t ∷ ts) total lt h e = absurd (omega arith)

pub program_step : (n f : ℕ) (front : List Function) (ts : List Token) (x : Function) (after : List Token) (total : Result (List Function) Refusal) → length ts < f → 0 < length ts → length after < length ts → function_at n ts ≡ Ok (x, after)
    → functions_then front (functions_at n f ts) ≡ total → (g : ℕ) × (length after < g) × (functions_then (front ++ x ∷ []) (functions_at n g after) ≡ total)
unfolding functions_at
program_step n zero front ts x after total lt h le w e = absurd (omega arith)
program_step n (suc f) front [] x after total lt h le w e = absurd (omega arith)
program_step n (suc f) front (t ∷ ts) x after total lt h le w e =
    let p : functions_then front (functions_at n (suc f) (t ∷ ts)) ≡ functions_then front (functions_at n f after >>= λ xs. Ok (x ∷ xs)) = rw w refl in
    (f, omega arith, sym (functions_after front x (functions_at n f after)) ∙ sym p ∙ e)

-- ---- whether tokens are left

pub some_left : (n : ℕ) → (n == 0) ≡ false → 0 < n
some_left zero e = absurd cc
some_left (suc n) e = omega arith

pub none_left : (n : ℕ) → (n == 0) ≡ true → n ≡ 0
none_left n e = omega (arith, eqb-true _ _ e)
