-- Steps of the parser's loops over lists.
use Rattle.std.proofs.Common.{◌≡◌, ℕ, zero, suc, ◌+◌, ◌<◌, ◌≤◌, true, false, List, [], ◌∷◌, ◌++◌, length, drop, Ok, Err, refl, sym, ap, ◌∙◌, append_assoc, arith}
use Rattle.std.proofs.lemmas.List.{append-nil}
use Rattle.isp_lex.specs.Tokens.{starts_with}
use Rattle.isp_lex.specs.declared.token.Mark.{Mark}
use Rattle.isp_lex.specs.declared.token.Mark.TheVariants as mark
use Rattle.isp_lex.specs.declared.token.Token.{Token}
use Rattle.isp_grammar.proofs.Basics.{drop_shorter}
use Rattle.isp_grammar.specs.reader.Readers.{Read, Reader, ◌>>=◌, Fails, list_at, listed_at, until_at}
use Rattle.isp_grammar.specs.declared.stop.Stop.{Stop}
use Rattle.isp_grammar.specs.declared.stop.Stop.TheVariants as stops

-- what was read before, and what is still read
abbrev pub with_front : {A : Type 0} → List A → Read (List A) → Read (List A)
with_front front read = read >>= λ x. Ok (front ++ x.0, x.1)

after_front : {A : Type 0} (front : List A) (x : A) (read : Read (List A)) → with_front front (read >>= λ xs. Ok (x ∷ xs.0, xs.1)) ≡ with_front (front ++ x ∷ []) read
after_front {A} front x (Ok p) = ap (λ (l : List A). Ok (l, p.1)) (sym (append_assoc front (x ∷ []) p.0))
after_front front x (Err d) = refl

pub list_fails : {A : Type 0} (s : Stop) (one : Reader A) (f : ℕ) (front : List A) (ts : List Token) (total : Read (List A)) → length ts < f → Fails s (one ts) → with_front front (list_at one f ts) ≡ total → Fails s total
unfolding list_at
list_fails stops.Memory one f front ts total lt w e = tt
list_fails (stops.Refused r) one zero front ts total lt w e = absurd (omega arith)
list_fails (stops.Refused r) one (suc f) front ts total lt w e = let p : with_front front (list_at one (suc f) ts) ≡ Err r = rw w refl in sym e ∙ p

pub list_last : {A : Type 0} (one : Reader A) (f : ℕ) (front : List A) (ts : List Token) (x : A) (after : List Token) (total : Read (List A))
    → length ts < f → one ts ≡ Ok (x, after) → starts_with mark.Comma after ≡ false → with_front front (list_at one f ts) ≡ total
    → total ≡ Ok (front ++ x ∷ [], after)
unfolding list_at
list_last one zero front ts x after total lt w c e = absurd (omega arith)
list_last one (suc f) front ts x after total lt w c e = let p : with_front front (list_at one (suc f) ts) ≡ Ok (front ++ x ∷ [], after) = rw (w, c) refl in sym e ∙ p

pub list_step : {A : Type 0} (one : Reader A) (f : ℕ) (front : List A) (ts : List Token) (x : A) (after : List Token) (total : Read (List A)) → length ts < f → length after ≤ length ts → one ts ≡ Ok (x, after) → starts_with mark.Comma after ≡ true
    → with_front front (list_at one f ts) ≡ total → (g : ℕ) × (length (drop 1 after) < g) × (with_front (front ++ x ∷ []) (list_at one g (drop 1 after)) ≡ total)
unfolding list_at
list_step one zero front ts x after total lt le w c e = absurd (omega arith)
list_step one (suc f) front ts x after total lt le w c e =
    let p : with_front front (list_at one (suc f) ts) ≡ with_front front (list_at one f (drop 1 after) >>= λ xs. Ok (x ∷ xs.0, xs.1)) = rw (w, c) refl in
    (f, omega (arith, drop_shorter mark.Comma after c), sym (after_front front x (list_at one f (drop 1 after))) ∙ sym p ∙ e)

pub until_fails : {A : Type 0} (m : Mark) (s : Stop) (one : Reader A) (f : ℕ) (front : List A) (ts : List Token) (total : Read (List A))
    → length ts < f → starts_with m ts ≡ false → Fails s (one ts) → with_front front (until_at m one f ts) ≡ total → Fails s total
unfolding until_at
until_fails m stops.Memory one f front ts total lt c w e = tt
until_fails m (stops.Refused r) one zero front ts total lt c w e = absurd (omega arith)
until_fails m (stops.Refused r) one (suc f) front ts total lt c w e = let p : with_front front (until_at m one (suc f) ts) ≡ Err r = rw (c, w) refl in sym e ∙ p

pub until_end : {A : Type 0} (m : Mark) (one : Reader A) (f : ℕ) (front : List A) (ts : List Token) (total : Read (List A)) → length ts < f → starts_with m ts ≡ true → with_front front (until_at m one f ts) ≡ total → total ≡ Ok (front, ts)
unfolding until_at
until_end m one zero front ts total lt c e = absurd (omega arith)
until_end {A} m one (suc f) front ts total lt c e =
    let p : with_front front (until_at m one (suc f) ts) ≡ Ok (front, ts) = rw c (ap (λ (l : List A). Ok (l, ts)) (append-nil front)) in
    sym e ∙ p

pub until_step : {A : Type 0} (m : Mark) (one : Reader A) (f : ℕ) (front : List A) (ts : List Token) (x : A) (after : List Token) (total : Read (List A)) → length ts < f → length after < length ts → starts_with m ts ≡ false → one ts ≡ Ok (x, after)
    → with_front front (until_at m one f ts) ≡ total → (g : ℕ) × (length after < g) × (with_front (front ++ x ∷ []) (until_at m one g after) ≡ total)
unfolding until_at
until_step m one zero front ts x after total lt le c w e = absurd (omega arith)
until_step m one (suc f) front ts x after total lt le c w e =
    let p : with_front front (until_at m one (suc f) ts) ≡ with_front front (until_at m one f after >>= λ xs. Ok (x ∷ xs.0, xs.1)) = rw (c, w) refl in
    (f, omega arith, sym (after_front front x (until_at m one f after)) ∙ sym p ∙ e)

nothing_before : {A : Type 0} (read : Read (List A)) → with_front [] read ≡ read
nothing_before (Ok p) = refl
nothing_before (Err d) = refl

pub until_begins : {A : Type 0} (m : Mark) (one : Reader A) (f : ℕ) (ts : List Token) → with_front [] (until_at m one f ts) ≡ until_at m one f ts
until_begins m one f ts = nothing_before (until_at m one f ts)

pub list_begins : {A : Type 0} (one : Reader A) (f : ℕ) (ts : List Token) → with_front [] (list_at one f ts) ≡ list_at one f ts
list_begins one f ts = nothing_before (list_at one f ts)

-- a list that may be left out before the mark
pub listed_none : {A : Type 0} (m : Mark) (one : Reader A) (ts : List Token) → starts_with m ts ≡ true → listed_at m one ts ≡ Ok ([], ts)
unfolding listed_at
listed_none m one ts e = rw e refl

pub listed_some : {A : Type 0} (m : Mark) (one : Reader A) (ts : List Token) → starts_with m ts ≡ false → listed_at m one ts ≡ list_at one (length ts + 1) ts
unfolding listed_at
listed_some m one ts e = let s : suc (length ts) ≡ length ts + 1 = omega arith in rw e (ap (λ (f : ℕ). list_at one f ts) s)
