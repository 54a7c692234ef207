-- An array of which each lane has its own, where one lane after the other writes its copy.
use Rattle.std.proofs.Common.{◌≡◌, ◌≢◌, ℕ, suc, ◌+◌, ◌-◌, ◌*◌, ◌/◌, ◌%◌, ◌<◌, ◌≤◌, ◌⊎◌, inl, inr, refl, sym, ap, ◌∙◌, arith}
use Rattle.std.specs.Prelude.{nat_lt, if◌then◌else◌}
use Rattle.std.proofs.lemmas.Bool.{cases_eq, cases_lt, lt-ltb, le-ltb, cond-true, cond-false}
use Rattle.isp_base.specs.Maps.{Lanes, put}
use Rattle.isp_code.specs.Conf.{Conf}
use Rattle.isp_wasm.specs.Places.{Setting}
use Rattle.isp_wasm.specs.Standing.{all_of}
use Rattle.isp_wasm.proofs.Frames.{put_same, put_other}
use Rattle.isp_wasm.proofs.Shared.{all_low, all_high, lane_value}

-- array a, of which each lane is to get what f has for it
module _ (w : Setting) (c : Conf) (a : ℕ) (f : ℕ → Lanes) where
  -- the lanes below p have it
  abbrev pub upto : ℕ → ℕ → Lanes
  upto p e r = if nat_lt r p then f e r else c.own a e r

  abbrev pub with_own : (ℕ → Lanes) → Conf
  with_own g = record c { own = put c.own a g }

  abbrev pub copy : ℕ → ℕ
  copy p = suc (w.home.opened + (32 * a + p))

  done : (p e r : ℕ) → r < p → upto p e r ≡ f e r
  done p e r lt = cond-true (nat_lt r p) (f e r) (c.own a e r) (lt-ltb r p lt)

  left : (p e r : ℕ) → p ≤ r → upto p e r ≡ c.own a e r
  left p e r le = cond-false (nat_lt r p) (f e r) (c.own a e r) (le-ltb r p le)

  -- stores are the same where the lanes' copies are
  alike : (o g : ℕ → ℕ → Lanes) (b e : ℕ) → ((i r : ℕ) → b ≡ suc (w.home.opened + (32 * i + r)) → r < 32 → o i e r ≡ g i e r) → all_of w (record c { own = o }) b e ≡ all_of w (record c { own = g }) b e
  alike o g b e h = by (cases_lt w.home.opened b)
    where
      x : Conf
      x = record c { own = o }

      y : Conf
      y = record c { own = g }

      by : (w.home.opened < b) ⊎ (b ≤ w.home.opened) → all_of w (record c { own = o }) b e ≡ all_of w (record c { own = g }) b e
      by (inr le) = ap (λ (z : Lanes). z e) (all_low w x b le) ∙ sym (ap (λ (z : Lanes). z e) (all_low w y b le))
      by (inl gt) =
          ap (λ (z : Lanes). z e) (all_high w x b gt) ∙ h ((b - suc w.home.opened) / 32) ((b - suc w.home.opened) % 32) (omega (arith, gt)) (omega arith)
          ∙ sym (ap (λ (z : Lanes). z e) (all_high w y b gt))

  changed : (g h : ℕ → Lanes) (b e : ℕ) → ((r : ℕ) → b ≡ copy r → r < 32 → g e r ≡ h e r) → all_of w (with_own g) b e ≡ all_of w (with_own h) b e
  changed g h b e same = alike (put c.own a g) (put c.own a h) b e (λ i r at low. by i r at low (cases_eq i a))
    where
      by : (i r : ℕ) → b ≡ suc (w.home.opened + (32 * i + r)) → r < 32 → (i ≡ a) ⊎ (i ≡ a → ⊥) → put c.own a g i e r ≡ put c.own a h i e r
      by i r at low (inl is) =
          ap (λ (z : ℕ → Lanes). z e r) (put_same c.own a g i is) ∙ same r (at ∙ ap (λ n. suc (w.home.opened + (32 * n + r))) is) low
          ∙ sym (ap (λ (z : ℕ → Lanes). z e r) (put_same c.own a h i is))
      by i r at low (inr ne) = ap (λ (z : ℕ → Lanes). z e r) (put_other c.own a g i ne ∙ sym (put_other c.own a h i ne))

  -- before the first, and after the last
  pub none_yet : (b e : ℕ) → all_of w c b e ≡ all_of w (with_own (upto 0)) b e
  none_yet b e = alike c.own (put c.own a (upto 0)) b e (λ i r at low. by i r (cases_eq i a))
    where
      by : (i r : ℕ) → (i ≡ a) ⊎ (i ≡ a → ⊥) → c.own i e r ≡ put c.own a (upto 0) i e r
      by i r (inl is) = ap (λ n. c.own n e r) is ∙ sym (ap (λ (z : ℕ → Lanes). z e r) (put_same c.own a (upto 0) i is) ∙ left 0 e r (omega arith))
      by i r (inr ne) = sym (ap (λ (z : ℕ → Lanes). z e r) (put_other c.own a (upto 0) i ne))

  pub all_have : (n : ℕ) → ((r e : ℕ) → n ≤ r → f e r ≡ c.own a e r) → (b e : ℕ) → all_of w (with_own (upto n)) b e ≡ all_of w (with_own f) b e
  all_have n rest b e = changed (upto n) f b e (λ r at low. by r (cases_lt r n))
    where
      by : (r : ℕ) → (r < n) ⊎ (n ≤ r) → upto n e r ≡ f e r
      by r (inl lt) = done n e r lt
      by r (inr le) = left n e r le ∙ sym (rest r e le)

  same_but : (p e r : ℕ) → (r ≡ p → ⊥) → upto p e r ≡ upto (suc p) e r
  same_but p e r ne = by (cases_lt r p)
    where
      by : (r < p) ⊎ (p ≤ r) → upto p e r ≡ upto (suc p) e r
      by (inl lt) = done p e r lt ∙ sym (done (suc p) e r (omega (arith, lt)))
      by (inr le) = left p e r le ∙ sym (left (suc p) e r (let other : r ≢ p = ne in omega (arith, le, other)))

  -- a lane that keeps what it has
  pub kept_copy : (p : ℕ) → ((e : ℕ) → f e p ≡ c.own a e p) → (b e : ℕ) → all_of w (with_own (upto p)) b e ≡ all_of w (with_own (upto (suc p))) b e
  kept_copy p keeps b e = changed (upto p) (upto (suc p)) b e (λ r at low. by r (cases_eq r p))
    where
      by : (r : ℕ) → (r ≡ p) ⊎ (r ≡ p → ⊥) → upto p e r ≡ upto (suc p) e r
      by r (inl is) = left p e r (omega (arith, is)) ∙ ap (c.own a e) is ∙ sym (ap (upto (suc p) e) is ∙ done (suc p) e p (omega arith) ∙ keeps e)
      by r (inr ne) = same_but p e r ne

  -- what a lane has that is to write
  pub old_copy : (p e : ℕ) → p < 32 → all_of w (with_own (upto p)) (copy p) e ≡ c.own a e p
  old_copy p e low = lane_value w (with_own (upto p)) a e p low ∙ ap (λ (z : ℕ → Lanes). z e p) (put_same c.own a (upto p) a refl) ∙ left p e p (omega arith)

  -- it writes
  pub new_copy : (p : ℕ) → p < 32 → (g : Lanes) → ((e : ℕ) → g e ≡ f e p) → (b e : ℕ) → put (all_of w (with_own (upto p))) (copy p) g b e ≡ all_of w (with_own (upto (suc p))) b e
  new_copy p low g is b e = by (cases_eq b (copy p))
    where
      by : (b ≡ copy p) ⊎ (b ≡ copy p → ⊥) → put (all_of w (with_own (upto p))) (copy p) g b e ≡ all_of w (with_own (upto (suc p))) b e
      by (inl same) =
          ap (λ (z : Lanes). z e) (put_same (all_of w (with_own (upto p))) (copy p) g b same) ∙ is e
          ∙ sym
          (ap (λ n. all_of w (with_own (upto (suc p))) n e) same ∙ lane_value w (with_own (upto (suc p))) a e p low ∙ ap (λ (z : ℕ → Lanes). z e p) (put_same c.own a (upto (suc p)) a refl)
          ∙ done (suc p) e p (omega arith))
      by (inr ne) =
          ap (λ (z : Lanes). z e) (put_other (all_of w (with_own (upto p))) (copy p) g b ne)
          ∙ changed (upto p) (upto (suc p)) b e (λ r at low. same_but p e r (λ same. ne (at ∙ ap copy same)))
