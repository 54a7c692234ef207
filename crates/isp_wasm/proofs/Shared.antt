-- The stores of the machine, and those that are arrays of each lane's own.
use Rattle.std.proofs.Common.{◌≡◌, ℕ, suc, ◌+◌, ◌-◌, ◌*◌, ◌/◌, ◌%◌, ◌^◌, ◌<◌, ◌≤◌, ◌⊎◌, inl, inr, true, false, sym, ap, ap₂, ◌∙◌, subst, arith}
use Rattle.std.specs.Prelude.{nat_lt, if◌then◌else◌}
use Rattle.std.proofs.lemmas.Bool.{cases_eq, cases_lt, lt-ltb, le-ltb, cond-true, cond-false}
use Rattle.isp_base.specs.Maps.{Lanes, put}
use Rattle.isp_base.specs.Values.{width}
use Rattle.isp_code.specs.Conf.{Conf}
use Rattle.isp_code.specs.Registers.{is_per_lane}
use Rattle.isp_wasm_meaning.specs.Meaning.{loaded}
use Rattle.isp_wasm_meaning.proofs.Digits.{packed-same}
use Rattle.isp_wasm.specs.Places.{Setting, bytes_of}
use Rattle.isp_wasm.specs.Lanes.{array_register, store_at}
use Rattle.isp_wasm.specs.Standing.{Keeps, IsBeside, IsSettled, all_of, shared_of}
use Rattle.isp_wasm.proofs.Frames.{put_same, put_other}

pub loaded_same : (n a : ℕ) (f g : ℕ → ℕ) → ((j : ℕ) → j < n → f (a + j) ≡ g (a + j)) → loaded n a f ≡ loaded n a g
loaded_same n a f g h = packed-same 256 n (λ j. f (a + j)) (λ j. g (a + j)) h

module _ (w : Setting) where
  pub all_low : (c : Conf) (b : ℕ) → b ≤ w.home.opened → all_of w c b ≡ c.arrays b
  all_low c b le = cond-true (nat_lt b (suc w.home.opened)) (c.arrays b) (λ e. c.own ((b - suc w.home.opened) / 32) e ((b - suc w.home.opened) % 32)) (lt-ltb b (suc w.home.opened) (omega (arith, le)))

  pub all_high : (c : Conf) (b : ℕ) → w.home.opened < b → all_of w c b ≡ (λ e. c.own ((b - suc w.home.opened) / 32) e ((b - suc w.home.opened) % 32))
  all_high c b lt = cond-false (nat_lt b (suc w.home.opened)) (c.arrays b) (λ e. c.own ((b - suc w.home.opened) / 32) e ((b - suc w.home.opened) % 32)) (le-ltb b (suc w.home.opened) (omega (arith, lt)))

  -- array a in lane p, where all lanes share it, and where each has its own
  pub store_shared : (a p : ℕ) → is_per_lane w.routine (array_register a) ≡ false → store_at w a p ≡ w.home.named a
  store_shared a p e = ap (λ b. if b then suc (w.home.opened + (32 * a + p)) else w.home.named a) e

  pub store_own : (a p : ℕ) → is_per_lane w.routine (array_register a) ≡ true → store_at w a p ≡ suc (w.home.opened + (32 * a + p))
  store_own a p e = ap (λ b. if b then suc (w.home.opened + (32 * a + p)) else w.home.named a) e

  pub lane_number : (a p : ℕ) → p < 32 → (suc (w.home.opened + (32 * a + p)) - suc w.home.opened ≡ 32 * a + p) × ((32 * a + p) / 32 ≡ a) × ((32 * a + p) % 32 ≡ p)
  lane_number a p lt = ((let n = w.home.opened in let m = 32 * a + p in let same : suc (n + m) - suc n ≡ m = omega arith in same), omega (arith, lt), omega (arith, lt))

  pub lane_value : (c : Conf) (a e p : ℕ) → p < 32 → all_of w c (suc (w.home.opened + (32 * a + p))) e ≡ c.own a e p
  lane_value c a e p lt =
      let is = lane_number a p lt in
      ap (λ (g : Lanes). g e) (all_high c (suc (w.home.opened + (32 * a + p))) (let m = 32 * a + p in omega arith))
      ∙ ap (λ n. c.own (n / 32) e (n % 32)) is.0 ∙ ap₂ (λ x y. c.own x e y) is.1 is.2

  -- a store of the machine is set
  pub all_put : (c : Conf) (b : ℕ) → b < w.home.opened → (f : Lanes) (r e : ℕ) → put (all_of w c) b f r e ≡ all_of w (record c { arrays = put c.arrays b f }) r e
  all_put c b low f r e = by (cases_eq r b) (cases_lt w.home.opened r)
    where
      d : Conf
      d = record c { arrays = put c.arrays b f }

      by : (r ≡ b) ⊎ (r ≡ b → ⊥) → (w.home.opened < r) ⊎ (r ≤ w.home.opened) → put (all_of w c) b f r e ≡ all_of w d r e
      by (inl same) h = ap (λ (g : Lanes). g e) (put_same (all_of w c) b f r same) ∙ sym (ap (λ (g : Lanes). g e) (all_low d r (omega (arith, same, low)) ∙ put_same c.arrays b f r same))
      by (inr ne) (inr le) = ap (λ (g : Lanes). g e) (put_other (all_of w c) b f r ne ∙ all_low c r le) ∙ sym (ap (λ (g : Lanes). g e) (all_low d r le ∙ put_other c.arrays b f r ne))
      by (inr ne) (inl gt) = ap (λ (g : Lanes). g e) (put_other (all_of w c) b f r ne ∙ all_high c r gt) ∙ sym (ap (λ (g : Lanes). g e) (all_high d r gt))

module _ (w : Setting) (ready : IsSettled w) where
  pub none_there : (b : ℕ) → w.home.opened ≤ b → w.begins b + w.home.sizes b * bytes_of (w.elems b) ≡ w.begins b
  none_there b le = ap (λ n. w.begins b + n * bytes_of (w.elems b)) (ready.closed b le) ∙ (let n = bytes_of (w.elems b) in let x = w.begins b in let same : x + 0 * n ≡ x = omega arith in same)

  same_end : (b : ℕ) → b ≤ w.home.opened → w.begins b + w.sizes b * bytes_of (w.elems b) ≡ w.begins b + w.home.sizes b * bytes_of (w.elems b)
  same_end b le = ap (λ n. w.begins b + n * bytes_of (w.elems b)) (ready.sizes_are b le)

  -- a byte beside all is one beside those of the machine, and below what the function opens the other way round
  pub beside_shared : (a : ℕ) → IsBeside w a → IsBeside (shared_of w) a
  beside_shared a h = (λ b. by b (cases_lt w.home.opened b), h.1)
    where
      by : (b : ℕ) → (w.home.opened < b) ⊎ (b ≤ w.home.opened) → (a < w.begins b) ⊎ (w.begins b + w.home.sizes b * bytes_of (w.elems b) ≤ a)
      by b (inr le) = subst (λ n. (a < w.begins b) ⊎ (n ≤ a)) (same_end b le) (h.0 b)
      by b (inl lt) = subst (λ n. (a < w.begins b) ⊎ (n ≤ a)) (sym (none_there b (omega (arith, lt)))) (cases_lt a (w.begins b))

  pub beside_all : (a : ℕ) → IsBeside (shared_of w) a → IsBeside w a
  beside_all a h = (λ b. by b (cases_lt w.home.opened b), h.1)
    where
      by : (b : ℕ) → (w.home.opened < b) ⊎ (b ≤ w.home.opened) → (a < w.begins b) ⊎ (w.begins b + w.sizes b * bytes_of (w.elems b) ≤ a)
      by b (inr le) = subst (λ n. (a < w.begins b) ⊎ (n ≤ a)) (sym (same_end b le)) (h.0 b)
      by b (inl lt) = ready.lanes_apart b lt a h.1

  -- the stores of the machine are as it says
  pub forget : (c : Conf) (memory : ℕ → ℕ) (size : ℕ) → Keeps w (all_of w c) memory size → Keeps (shared_of w) c.arrays memory size
  forget c memory size k =
      record {
        bytes_fit = k.bytes_fit;
        elements = λ b e lt. elements b e lt (cases_lt w.home.opened b);
        elements_fit = λ b e lt. fits b e lt (cases_lt w.home.opened b);
        room = λ b. room b (cases_lt w.home.opened b);
        small = k.small;
        whole = k.whole;
        texts = k.texts;
        text_room = k.text_room;
        rest = λ a h. k.rest a (beside_all a h);
      }
    where
      elements : (b e : ℕ) → e < w.home.sizes b → (w.home.opened < b) ⊎ (b ≤ w.home.opened) → loaded (bytes_of (w.elems b)) (w.begins b + e * bytes_of (w.elems b)) memory ≡ c.arrays b e
      elements b e lt (inr le) = k.elements b e (subst (λ n. e < n) (sym (ready.sizes_are b le)) lt) ∙ ap (λ (g : Lanes). g e) (all_low w c b le)
      elements b e lt (inl gt) = absurd (let none = ready.closed b (omega (arith, gt)) in omega (arith, lt, none))

      fits : (b e : ℕ) → e < w.home.sizes b → (w.home.opened < b) ⊎ (b ≤ w.home.opened) → c.arrays b e < 2 ^ width (w.elems b)
      fits b e lt (inr le) = subst (λ n. n < 2 ^ width (w.elems b)) (ap (λ (g : Lanes). g e) (all_low w c b le)) (k.elements_fit b e (subst (λ n. e < n) (sym (ready.sizes_are b le)) lt))
      fits b e lt (inl gt) = absurd (let none = ready.closed b (omega (arith, gt)) in omega (arith, lt, none))

      room : (b : ℕ) → (w.home.opened < b) ⊎ (b ≤ w.home.opened) → w.begins b + w.home.sizes b * bytes_of (w.elems b) ≤ size
      room b (inr le) = subst (λ n. n ≤ size) (same_end b le) (k.room b)
      room b (inl gt) = subst (λ n. n ≤ size) (sym (none_there b (omega (arith, gt)))) (let fit = k.room b in let n = w.sizes b * bytes_of (w.elems b) in omega (arith, fit))
