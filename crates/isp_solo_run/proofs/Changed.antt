-- Functions of two numbers that are changed at one place, and arrays of which one is changed.
use Rattle.std.proofs.Common.{◌≡◌, refl, sym, ap, ap₂, ◌∙◌, ℕ, zero, suc, ◌+◌, ◌<◌, ◌≤◌, Bool, true, false, Bor, List, [], ◌∷◌, Option, Some, None, arith, length, get_or, nat_eq, ⊎_elim, eq-eqb, ne_eqb}
use Rattle.std.proofs.Math.Path.{fun_ext}
use Rattle.std.proofs.lemmas.Bool.{cases_eq, cases_lt}
use Rattle.std.specs.Prelude.{if◌then◌else◌, ◌&&◌, slice_index, slice_set}
use Rattle.isp_base.specs.Maps.{put}
use Rattle.isp_base.specs.Rows.{Row}
use Rattle.isp_solo_meaning.specs.Alone.{put_in}
use Rattle.isp_gang_values.proofs.Vectors.{at_past, at_there, written}
use Rattle.isp_solo_run.specs.Arrays.{wrote_at, wrote_in, read_in, wrote_seen, read_seen, bound_seen}
use Rattle.isp_solo_run.specs.declared.arrays.Shared.{Shared}

module _ {A : Type 0} (f : ℕ → A) (n : ℕ) where
  pub put_there : (x : A) → put f n x n ≡ x
  put_there x = ap (λ b. if b then x else f n) (eq-eqb n n refl)

  pub put_apart : (x : A) (p : ℕ) → (p ≡ n → ⊥) → put f n x p ≡ f p
  put_apart x p ne = ap (λ b. if b then x else f p) (ne_eqb p n ne)

  pub put_same : (x : A) → x ≡ f n → put f n x ≡ f
  put_same x e = fun_ext (λ p. ⊎_elim (λ (h : p ≡ n). ap (put f n x) h ∙ put_there x ∙ e ∙ ap f (sym h)) (λ ne. put_apart x p ne) (cases_eq p n))

-- a change of an inner function is a change at two numbers
pub put_inner : {A : Type 0} (f : ℕ → ℕ → A) (b e : ℕ) (x : A) → put f b (put (f b) e x) ≡ put_in f b e x
put_inner f b e x = fun_ext (λ c. fun_ext (λ i. ⊎_elim (λ (h : c ≡ b). at c i h) (λ ne. apart c i ne) (cases_eq c b)))
  where
    at : (c i : ℕ) → c ≡ b → put f b (put (f b) e x) c i ≡ put_in f b e x c i
    at c i h =
        ap (λ t. (if t then put (f b) e x else f c) i) (eq-eqb c b h) ∙ ap (λ k. if nat_eq i e then x else f k i) (sym h)
        ∙ sym (ap (λ t. if t && nat_eq i e then x else f c i) (eq-eqb c b h))

    apart : (c i : ℕ) → (c ≡ b → ⊥) → put f b (put (f b) e x) c i ≡ put_in f b e x c i
    apart c i ne = ap (λ t. (if t then put (f b) e x else f c) i) (ne_eqb c b ne) ∙ sym (ap (λ t. if t && nat_eq i e then x else f c i) (ne_eqb c b ne))

-- ---- arrays that are bound

pub bound_there : (rs : List (Bor Row)) (b e : ℕ) (d : Bor Row) → b < length rs → slice_index (get_or rs b d).now.bits e ≡ bound_seen rs b e
bound_there [] b e d h = absurd (omega (arith, h))
bound_there (r ∷ rs) zero e d h = refl
bound_there (r ∷ rs) (suc b) e d h = bound_there rs b e d (omega (arith, h))

pub bound_past : (rs : List (Bor Row)) (b e : ℕ) → length rs ≤ b → bound_seen rs b e ≡ 0
bound_past [] b e h = refl
bound_past (r ∷ rs) zero e h = absurd (omega (arith, h))
bound_past (r ∷ rs) (suc b) e h = bound_past rs b e (omega (arith, h))

index_past : (xs : List ℕ) (e : ℕ) → length xs ≤ e → slice_index xs e ≡ 0
index_past [] e h = refl
index_past (x ∷ xs) zero h = absurd (omega (arith, h))
index_past (x ∷ xs) (suc e) h = index_past xs e (omega (arith, h))

pub bound_short : (rs : List (Bor Row)) (b e : ℕ) (r : Bor Row) → r ≡ get_or rs b r → b < length rs → length r.now.bits ≤ e → bound_seen rs b e ≡ 0
bound_short rs b e r is h short = sym (bound_there rs b e r h) ∙ ap (λ (k : Bor Row). slice_index k.now.bits e) (sym is) ∙ index_past r.now.bits e short

-- ---- the first arrays are as before a run

pub record Fresh (xs : List Shared) (i : ℕ) : Type 0 where
  pub wrote : (b : ℕ) → b < i → wrote_seen xs b ≡ (λ e. None)
  pub read : (b : ℕ) → b < i → read_seen xs b ≡ (λ e. false)

pub fresh_none : (xs : List Shared) → Fresh xs 0
fresh_none xs = record { wrote = λ b h. absurd (omega (arith, h)); read = λ b h. absurd (omega (arith, h)) }

pub fresh_next : (xs : List Shared) (i : ℕ) (s : Shared) → Fresh xs i → i < length xs → wrote_in s ≡ (λ e. None) → read_in s ≡ (λ e. false) → Fresh (slice_set xs i s) (i + 1)
fresh_next xs i s f lt w r =
    record {
      wrote = λ b h. ap (λ g. g b) (written wrote_in (λ e. None) xs s i lt)
          ∙ ⊎_elim (λ (t : b ≡ i). ap (put (wrote_seen xs) i (wrote_in s)) t ∙ put_there (wrote_seen xs) i (wrote_in s) ∙ w) (λ ne. put_apart (wrote_seen xs) i (wrote_in s) b ne ∙ f.wrote b (omega (arith, ne, h))) (cases_eq b i);
      read = λ b h. ap (λ g. g b) (written read_in (λ e. false) xs s i lt)
          ∙ ⊎_elim (λ (t : b ≡ i). ap (put (read_seen xs) i (read_in s)) t ∙ put_there (read_seen xs) i (read_in s) ∙ r) (λ ne. put_apart (read_seen xs) i (read_in s) b ne ∙ f.read b (omega (arith, ne, h))) (cases_eq b i);
    }

pub fresh_wrote : (xs : List Shared) (n : ℕ) → Fresh xs n → length xs ≤ n → wrote_seen xs ≡ (λ b e. None)
fresh_wrote xs n f h = fun_ext (λ b. ⊎_elim (λ (k : b < n). f.wrote b k) (λ k. at_past wrote_in (λ e. None) xs b (omega (arith, h, k))) (cases_lt b n))

pub fresh_read : (xs : List Shared) (n : ℕ) → Fresh xs n → length xs ≤ n → read_seen xs ≡ (λ b e. false)
fresh_read xs n f h = fun_ext (λ b. ⊎_elim (λ (k : b < n). f.read b k) (λ k. at_past read_in (λ e. false) xs b (omega (arith, h, k))) (cases_lt b n))

-- ---- one array is changed

pub wrote_set : (xs ys : List Shared) (b e : ℕ) (x : Option ℕ) (d s : Shared) → b < length ys → wrote_seen ys ≡ wrote_seen xs → d ≡ get_or ys b d → wrote_in s ≡ put (wrote_in d) e x → wrote_seen (slice_set ys b s) ≡ put_in (wrote_seen xs) b e x
wrote_set xs ys b e x d s lt same is w =
    written wrote_in (λ e. None) ys s b lt
    ∙ ap (λ g. put (wrote_seen ys) b g) (w ∙ ap (λ g. put g e x) (ap wrote_in is ∙ sym (at_there wrote_in (λ e. None) ys b d lt)))
    ∙ put_inner (wrote_seen ys) b e x ∙ ap (λ f. put_in f b e x) same

pub wrote_kept : (xs ys : List Shared) (b : ℕ) (d s : Shared) → b < length ys → wrote_seen ys ≡ wrote_seen xs → d ≡ get_or ys b d → wrote_in s ≡ wrote_in d → wrote_seen (slice_set ys b s) ≡ wrote_seen xs
wrote_kept xs ys b d s lt same is w =
    written wrote_in (λ e. None) ys s b lt ∙ put_same (wrote_seen ys) b (wrote_in s) (w ∙ ap wrote_in is ∙ sym (at_there wrote_in (λ e. None) ys b d lt)) ∙ same

pub read_set : (xs ys : List Shared) (b e : ℕ) (x : Bool) (d s : Shared) → b < length ys → read_seen ys ≡ read_seen xs → d ≡ get_or ys b d → read_in s ≡ put (read_in d) e x → read_seen (slice_set ys b s) ≡ put_in (read_seen xs) b e x
read_set xs ys b e x d s lt same is w =
    written read_in (λ e. false) ys s b lt
    ∙ ap (λ g. put (read_seen ys) b g) (w ∙ ap (λ g. put g e x) (ap read_in is ∙ sym (at_there read_in (λ e. false) ys b d lt)))
    ∙ put_inner (read_seen ys) b e x ∙ ap (λ f. put_in f b e x) same

pub read_kept : (xs ys : List Shared) (b : ℕ) (d s : Shared) → b < length ys → read_seen ys ≡ read_seen xs → d ≡ get_or ys b d → read_in s ≡ read_in d → read_seen (slice_set ys b s) ≡ read_seen xs
read_kept xs ys b d s lt same is w =
    written read_in (λ e. false) ys s b lt ∙ put_same (read_seen ys) b (read_in s) (w ∙ ap read_in is ∙ sym (at_there read_in (λ e. false) ys b d lt)) ∙ same

pub wrote_whole : (xs ys : List Shared) (b : ℕ) (s : Shared) (x : Option ℕ) → b < length ys → wrote_seen ys ≡ wrote_seen xs → wrote_in s ≡ (λ e. x) → wrote_seen (slice_set ys b s) ≡ put (wrote_seen xs) b (λ e. x)
wrote_whole xs ys b s x lt same w = written wrote_in (λ e. None) ys s b lt ∙ ap₂ (λ (f : ℕ → ℕ → Option ℕ) (g : ℕ → Option ℕ). put f b g) same w

-- an element is stored: its mark and its working value
pub stored_at : (f : ℕ → Bool) (g : ℕ → ℕ) (d : Bool) (n x : ℕ) → (λ e. wrote_at (put f n true e) d (put g n x e)) ≡ put (λ e. wrote_at (f e) d (g e)) n (Some x)
stored_at f g d n x = fun_ext (λ e. by (nat_eq e n) e)
  where
    by : (b : Bool) (e : ℕ) → wrote_at (if b then true else f e) d (if b then x else g e) ≡ (if b then Some x else wrote_at (f e) d (g e))
    by true e = refl
    by false e = refl
