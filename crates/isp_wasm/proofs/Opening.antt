-- A function begins: its arrays are zeroed, and each gets its place, or there is no room for them.
use Rattle.std.proofs.Common.{◌≡◌, ℕ, zero, suc, ◌+◌, ◌-◌, ◌*◌, ◌%◌, ◌^◌, ◌<◌, ◌≤◌, ◌⊎◌, inl, inr, List, [], ◌∷◌, length, take, Some, None, Bool, true, false, refl, sym, ap, ap₂, ◌∙◌, subst, arith, mod-eq_of_lt}
use Rattle.std.specs.Prelude.{slice_get, nat_le, if◌then◌else◌}
use Rattle.std.proofs.lemmas.Bool.{cases_lt, le-leb, lt-leb, cond-true, cond-false}
use Rattle.std.proofs.lemmas.Nat.{mul-le}
use Rattle.isp_base.specs.Types.{gang_width}
use Rattle.isp_base.specs.declared.types.Gang.{Gang}
use Rattle.isp_base.specs.declared.types.Gang.TheVariants.{W4, W8, W16, W32}
use Rattle.isp_code.specs.Conf.{Home, Conf}
use Rattle.isp_code.specs.Lines.{local_size}
use Rattle.isp_code.specs.Registers.{is_per_instance, passed}
use Rattle.isp_code.specs.declared.function.Local.{Local}
use Rattle.isp_wasm_meaning.specs.Syntax.{Clear, Const32, Local as LocalOf}
use Rattle.isp_wasm_meaning.specs.Meaning.{State, Result, Fell, Trapped, run, inside, set_local, cleared, then_to}
use Rattle.isp_wasm.specs.Places.{Setting, Place, Counter, Base, Count, Top, gang, bytes_of}
use Rattle.isp_wasm.specs.Stack.{none_open, copies, local_bytes, bytes_in, bytes_if, function_bytes, waiting_bytes, open_bytes, start, bottom, opened_memory}
use Rattle.isp_wasm.specs.Standing.{all_of, Holds, Keeps, Stands, IsFull, IsSettled}
use Rattle.isp_wasm.specs.Templates.{arrays_code, begin_code}
use Rattle.isp_wasm.proofs.Regions.{few_bytes}
use Rattle.isp_wasm.proofs.Frames.{there, elsewhere}

-- ---- bytes of an array

pub some_lanes : (g : Gang) → 1 ≤ gang_width g
some_lanes W4 = omega arith
some_lanes W8 = omega arith
some_lanes W16 = omega arith
some_lanes W32 = omega arith

pub some_copies : (lanes : ℕ) (b : Bool) → 1 ≤ lanes → 1 ≤ copies lanes b
some_copies lanes true h = h
some_copies lanes false h = omega arith

pub size_low : (g : Gang) (l : Local) → l.size ≤ local_bytes (gang_width g) l
size_low g l =
    let some = few_bytes l.elem in
    let one : l.size * 1 ≤ l.size * bytes_of l.elem = mul-le l.size 1 l.size (bytes_of l.elem) (omega arith) some.0 in
    let all : 1 * (l.size * bytes_of l.elem) ≤ local_bytes (gang_width g) l = mul-le 1 (l.size * bytes_of l.elem) (copies (gang_width g) (is_per_instance l.sharing)) (l.size * bytes_of l.elem) (some_copies (gang_width g) (is_per_instance l.sharing) (some_lanes g)) (omega arith) in
    omega (arith, one, all)

-- an array that the function opens, or another one
pub which_array : (a p n : ℕ) → ((i : ℕ) × (a ≡ p + i) × (i < n)) ⊎ ((i : ℕ) → i < n → a ≡ p + i → ⊥)
which_array a p n = by (cases_lt a p) (cases_lt a (p + n))
  where
    by : (a < p) ⊎ (p ≤ a) → (a < p + n) ⊎ (p + n ≤ a) → ((i : ℕ) × (a ≡ p + i) × (i < n)) ⊎ ((i : ℕ) → i < n → a ≡ p + i → ⊥)
    by (inl lt) h = inr (λ i low e. omega (arith, lt, e))
    by (inr le) (inl lt) = inl (a - p, (let same : a ≡ p + (a - p) = omega (arith, le) in same), (let low : a - p < n = omega (arith, le, lt) in low))
    by (inr le) (inr ge) = inr (λ i low e. omega (arith, low, ge, e))

module _ (w : Setting) where
  -- another frame, in which arrays from number a on have their places, from an address on
  pub record IsOpen (ls : List Local) (a t : ℕ) (l m : ℕ → ℕ) : Type 0 where
    pub others : (p : Place) → (p ≡ Top → ⊥) → ((i : ℕ) → i < length ls → p ≡ Base (a + i) → ⊥) → ((i : ℕ) → i < length ls → p ≡ Count (a + i) → ⊥) → m (w.local p) ≡ l (w.local p)
    pub bases : (i : ℕ) → i < length ls → m (w.local (Base (a + i))) ≡ t + bytes_in (gang w) (take i ls)
    pub counts : (i : ℕ) → i < length ls → m (w.local (Count (a + i))) ≡ local_size (slice_get ls i)
    pub top_is : m (w.local Top) ≡ t + bytes_in (gang w) ls

  none_opened : (a t : ℕ) (l : ℕ → ℕ) → l (w.local Top) ≡ t → IsOpen [] a t l l
  none_opened a t l top =
      record {
        others = λ p x y z. refl;
        bases = λ i lt. absurd (omega (arith, lt));
        counts = λ i lt. absurd (omega (arith, lt));
        top_is = top ∙ (let same : t ≡ t + 0 = omega arith in same);
      }

module _ (w : Setting) (ready : IsSettled w) where
  -- ---- one array

  module _ (l : Local) (a : ℕ) (s : State) where
    abbrev pub at_base : State
    at_base = set_local (w.local (Base a)) (s.locals (w.local Top)) s

    abbrev pub at_count : State
    at_count = set_local (w.local (Count a)) (l.size % 2 ^ 64) at_base

    abbrev pub at_top : State
    at_top = set_local (w.local Top) ((at_count.locals (w.local Top) + local_bytes (gang w) l % 2 ^ 32) % 2 ^ 32) at_count

    other_got : (p : Place) → (p ≡ Top → ⊥) → (p ≡ Base a → ⊥) → (p ≡ Count a → ⊥) → at_top.locals (w.local p) ≡ s.locals (w.local p)
    other_got p t b c =
        elsewhere w ready Top p ((at_count.locals (w.local Top) + local_bytes (gang w) l % 2 ^ 32) % 2 ^ 32) at_count t
        ∙ elsewhere w ready (Count a) p (l.size % 2 ^ 64) at_base c ∙ elsewhere w ready (Base a) p (s.locals (w.local Top)) s b

    base_got : at_top.locals (w.local (Base a)) ≡ s.locals (w.local Top)
    base_got =
        elsewhere w ready Top (Base a) ((at_count.locals (w.local Top) + local_bytes (gang w) l % 2 ^ 32) % 2 ^ 32) at_count (λ e. cc)
        ∙ elsewhere w ready (Count a) (Base a) (l.size % 2 ^ 64) at_base (λ e. cc) ∙ there w ready (Base a) (s.locals (w.local Top)) s

    count_got : at_top.locals (w.local (Count a)) ≡ l.size % 2 ^ 64
    count_got =
        elsewhere w ready Top (Count a) ((at_count.locals (w.local Top) + local_bytes (gang w) l % 2 ^ 32) % 2 ^ 32) at_count (λ e. cc) ∙ there w ready (Count a) (l.size % 2 ^ 64) at_base

    top_kept : at_count.locals (w.local Top) ≡ s.locals (w.local Top)
    top_kept = elsewhere w ready (Count a) Top (l.size % 2 ^ 64) at_base (λ e. cc) ∙ elsewhere w ready (Base a) Top (s.locals (w.local Top)) s (λ e. cc)

    top_moves : (t : ℕ) → s.locals (w.local Top) ≡ t → t + local_bytes (gang w) l < 2 ^ 32 → at_top.locals (w.local Top) ≡ t + local_bytes (gang w) l
    top_moves t top small =
        there w ready Top ((at_count.locals (w.local Top) + local_bytes (gang w) l % 2 ^ 32) % 2 ^ 32) at_count
        ∙ ap₂ (λ x y. (x + y) % 2 ^ 32) (top_kept ∙ top) (mod-eq_of_lt (omega (arith, small))) ∙ mod-eq_of_lt small

  -- ---- all of them

  pub record Opens (ls : List Local) (a t : ℕ) (s : State) : Type 0 where
    pub state : State
    pub fell : (fuel : ℕ) (call : ℕ → List ℕ → State → Result) → run fuel call (arrays_code w ls a) s ≡ Fell state
    pub memory_is : state.memory ≡ s.memory
    pub size_is : state.size ≡ s.size
    pub out_is : state.out ≡ s.out
    pub opened : IsOpen w ls a t s.locals state.locals

  module _ (l : Local) (ls : List Local) (a t : ℕ) (s : State) (top : s.locals (w.local Top) ≡ t) (small : t + bytes_in (gang w) (l ∷ ls) < 2 ^ 32) (m : ℕ → ℕ)
      (more : IsOpen w ls (suc a) (t + local_bytes (gang w) l) (at_top l a s).locals m) where
    count_fits : l.size < 2 ^ 64
    count_fits = let le = size_low w.code.gang l in omega (arith, le, small)

    first : a ≡ a + 0
    first = omega arith

    further : (i : ℕ) → suc a + i ≡ a + suc i
    further i = omega arith

    bases : (i : ℕ) → i < length (l ∷ ls) → m (w.local (Base (a + i))) ≡ t + bytes_in (gang w) (take i (l ∷ ls))
    bases zero lt =
        subst (λ n. m (w.local (Base n)) ≡ t + 0) first
        (more.others (Base a) (λ e. cc) (λ i lt e. (let same : a ≡ suc a + i = cc in omega (arith, same))) (λ i lt e. cc) ∙ base_got l a s ∙ top ∙ (let same : t ≡ t + 0 = omega arith in same))
    bases (suc i) lt =
        subst (λ n. m (w.local (Base n)) ≡ t + (local_bytes (gang w) l + bytes_in (gang w) (take i ls))) (further i)
        (more.bases i (omega (arith, lt)) ∙ (let x = local_bytes (gang w) l in let y = bytes_in (gang w) (take i ls) in let same : t + x + y ≡ t + (x + y) = omega arith in same))

    counts : (i : ℕ) → i < length (l ∷ ls) → m (w.local (Count (a + i))) ≡ local_size (slice_get (l ∷ ls) i)
    counts zero lt =
        subst (λ n. m (w.local (Count n)) ≡ l.size) first
        (more.others (Count a) (λ e. cc) (λ i lt e. cc) (λ i lt e. (let same : a ≡ suc a + i = cc in omega (arith, same))) ∙ count_got l a s ∙ mod-eq_of_lt count_fits)
    counts (suc i) lt = subst (λ n. m (w.local (Count n)) ≡ local_size (slice_get ls i)) (further i) (more.counts i (omega (arith, lt)))

    is_open : IsOpen w (l ∷ ls) a t s.locals m
    is_open =
        record {
          others = λ p x y z. more.others p x (λ i lt e. y (suc i) (omega (arith, lt)) (e ∙ ap Base (further i))) (λ i lt e. z (suc i) (omega (arith, lt)) (e ∙ ap Count (further i)))
              ∙ other_got l a s p x (λ e. y 0 (omega arith) (e ∙ ap Base first)) (λ e. z 0 (omega arith) (e ∙ ap Count first));
          bases = bases;
          counts = counts;
          top_is = more.top_is ∙ (let x = local_bytes (gang w) l in let y = bytes_in (gang w) ls in let same : t + x + y ≡ t + (x + y) = omega arith in same);
        }

  opens : (ls : List Local) (a t : ℕ) (s : State) → s.locals (w.local Top) ≡ t → t + bytes_in (gang w) ls < 2 ^ 32 → Opens ls a t s
  opens [] a t s top small = record { state = s; fell = λ fuel call. refl; memory_is = refl; size_is = refl; out_is = refl; opened = none_opened w a t s.locals top }
  opens (l ∷ ls) a t s top small =
      let more = opens ls (suc a) (t + local_bytes (gang w) l) (at_top l a s) (top_moves l a s t top (omega (arith, small))) (omega (arith, small)) in
      record { state = more.state; fell = more.fell; memory_is = more.memory_is; size_is = more.size_is; out_is = more.out_is; opened = is_open l ls a t s top small more.state.locals more.opened }

  -- ---- from the beginning

  pub record Begun (ls : List Local) (t : ℕ) (s : State) : Type 0 where
    pub state : State
    pub fell : (fuel : ℕ) (call : ℕ → List ℕ → State → Result) → run fuel call (begin_code w ls) s ≡ Fell state
    pub memory_is : state.memory ≡ opened_memory (gang w) t ls s.memory
    pub size_is : state.size ≡ s.size
    pub out_is : state.out ≡ s.out
    pub room : none_open ls ≡ false → t + bytes_in (gang w) ls < s.size
    pub opened : IsOpen w ls (passed w.routine) t s.locals state.locals

  abbrev pub NoRoom : List Local → ℕ → State → Type 0
  NoRoom ls t s = ((fuel : ℕ) (call : ℕ → List ℕ → State → Result) → run fuel call (begin_code w ls) s ≡ Trapped None s) × (s.size ≤ t + bytes_in (gang w) ls) × (none_open ls ≡ false)

  begins : (ls : List Local) (t : ℕ) (s : State) → s.locals (w.local Top) ≡ t → suc (bytes_in (gang w) ls) < 2 ^ 32 → s.size ≤ 2 ^ 32 → Begun ls t s ⊎ NoRoom ls t s
  begins [] t s top few small = inl (record { state = s; fell = λ fuel call. refl; memory_is = refl; size_is = refl; out_is = refl; room = λ e. absurd cc; opened = none_opened w (passed w.routine) t s.locals top })
  begins (l ∷ ls) t s top few small = by (cases_lt (t + bytes) s.size)
    where
      bytes : ℕ
      bytes = bytes_in (gang w) (l ∷ ls)

      zeroed : State
      zeroed = record s { memory = cleared (suc bytes) t s.memory }

      fill_is : (fuel : ℕ) (call : ℕ → List ℕ → State → Result) → run fuel call (Clear (LocalOf (w.local Top)) (Const32 (suc bytes))) s ≡ (if nat_le (t + suc bytes) s.size then Fell zeroed else Trapped None s)
      fill_is fuel call = ap₂ (λ z b. inside z b s (Fell (record s { memory = cleared z b s.memory }))) (mod-eq_of_lt few) top

      by : (t + bytes < s.size) ⊎ (s.size ≤ t + bytes) → Begun (l ∷ ls) t s ⊎ NoRoom (l ∷ ls) t s
      by (inl lt) =
          let filled : (fuel : ℕ) (call : ℕ → List ℕ → State → Result) → run fuel call (Clear (LocalOf (w.local Top)) (Const32 (suc bytes))) s ≡ Fell zeroed = λ fuel call. fill_is fuel call ∙ cond-true (nat_le (t + suc bytes) s.size) (Fell zeroed) (Trapped None s) (le-leb (t + suc bytes) s.size (omega (arith, lt))) in
          let more = opens (l ∷ ls) (passed w.routine) t zeroed top (omega (arith, lt, small)) in
          inl
          (record {
            state = more.state;
            fell = λ fuel call. ap (λ r. then_to r (run fuel call (arrays_code w (l ∷ ls) (passed w.routine)))) (filled fuel call) ∙ more.fell fuel call;
            memory_is = more.memory_is;
            size_is = more.size_is;
            out_is = more.out_is;
            room = λ e. lt;
            opened = more.opened;
          })
      by (inr le) = inr (
        λ fuel call. ap (λ r. then_to r (run fuel call (arrays_code w (l ∷ ls) (passed w.routine)))) (fill_is fuel call ∙ cond-false (nat_le (t + suc bytes) s.size) (Fell zeroed) (Trapped None s) (lt-leb (t + suc bytes) s.size (omega (arith, le)))),
        le,
        refl,
      )

  -- ---- where a function stands before its first instruction

  pub record IsEntered (c : Conf) (s : State) : Type 0 where
    pub home_is : c.home ≡ w.home
    pub waiting_is : c.waiting ≡ w.waiting
    pub pc_is : c.pc ≡ 0
    pub out_is : s.out ≡ c.out
    pub top_is : s.locals (w.local Top) ≡ bottom w
    pub few : suc (bytes_in (gang w) w.routine.locals) < 2 ^ 32
    pub small : s.size ≤ 2 ^ 32
    pub whole : s.size ≡ w.room
    pub stacked : none_open w.routine.locals ≡ false → (a : ℕ) × (w.stack ≡ Some a)
    pub holds : (m : ℕ → ℕ) → IsOpen w w.routine.locals (passed w.routine) (bottom w) s.locals m → Holds w c.scalars c.vectors c.masks m
    pub keeps : (none_open w.routine.locals ≡ false → bottom w + bytes_in (gang w) w.routine.locals < s.size) → Keeps w (all_of w c) (opened_memory (gang w) (bottom w) w.routine.locals s.memory) s.size

  pub record Starts (c : Conf) (s : State) : Type 0 where
    pub state : State
    pub fell : (fuel : ℕ) (call : ℕ → List ℕ → State → Result) → run fuel call (begin_code w w.routine.locals) s ≡ Fell state
    pub stands : Stands w 0 c state
    pub counter : state.locals (w.local Counter) ≡ s.locals (w.local Counter)

  pub starts : (c : Conf) (s : State) → IsEntered c s → Starts c s ⊎ (((fuel : ℕ) (call : ℕ → List ℕ → State → Result) → run fuel call (begin_code w w.routine.locals) s ≡ Trapped None s) × IsFull w w.forms c)
  starts c s e = by (begins w.routine.locals (bottom w) s e.top_is e.few e.small)
    where
      bytes_are : open_bytes w.code c ≡ waiting_bytes w.code w.waiting + bytes_in (gang w) w.routine.locals
      bytes_are = ap₂ (λ x y. x + y) (ap (waiting_bytes w.code) e.waiting_is) (ap (λ (h : Home). function_bytes w.code h.fn) e.home_is ∙ ap (bytes_if (gang w)) ready.found)

      by : Begun w.routine.locals (bottom w) s ⊎ NoRoom w.routine.locals (bottom w) s → Starts c s ⊎ (((fuel : ℕ) (call : ℕ → List ℕ → State → Result) → run fuel call (begin_code w w.routine.locals) s ≡ Trapped None s) × IsFull w w.forms c)
      by (inl b) =
          inl
          (record {
            state = b.state;
            fell = b.fell;
            stands =
                record {
                  home_is = e.home_is;
                  waiting_is = e.waiting_is;
                  pc_is = e.pc_is;
                  out_is = b.out_is ∙ e.out_is;
                  holds = e.holds b.state.locals b.opened;
                  keeps = subst (λ m. Keeps w (all_of w c) m b.state.size) (sym b.memory_is) (subst (λ n. Keeps w (all_of w c) (opened_memory (gang w) (bottom w) w.routine.locals s.memory) n) (sym b.size_is) (e.keeps b.room));
                };
            counter = b.opened.others Counter (λ e. cc) (λ i lt e. cc) (λ i lt e. cc);
          })
      by (inr (fell, le, some)) =
          let at = e.stacked some in
          inr (fell, record { conf = c; steps = 0; goes = refl; address = at.0; stack_is = at.1; full = (let whole = e.whole in let bytes = bytes_are in let here : start w.stack ≡ at.0 = ap start at.1 in omega (arith, le, whole, bytes, here)) })
