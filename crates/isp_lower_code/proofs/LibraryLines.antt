-- What the instructions of the library's functions do, in the words of the meaning.
use Rattle.std.proofs.Common.{◌≡◌, ◌≢◌, ℕ, List, [], ◌∷◌, Some, None, Bool, true, false, refl, sym, ap, ◌∙◌}
use Rattle.std.specs.Prelude.{if◌then◌else◌, not}
use Rattle.std.proofs.Math.Path.{fun_ext}
use Rattle.isp_base.specs.Cross.{any_of, extract, insert, shuffle, shuffle_two, exclusive_scan}
use Rattle.isp_base.specs.Maps.{Lanes, on, over}
use Rattle.isp_base.specs.Sets.{Mask, nobody}
use Rattle.isp_base.specs.Types.{gang_width}
use Rattle.isp_base.specs.Unary.{unary_bits}
use Rattle.isp_base.specs.Values.{number, number_to, op_bits, wrap_to}
use Rattle.isp_base.specs.declared.operators.BinOp.TheVariants as op
use Rattle.isp_base.specs.declared.operators.UnaryOp.TheVariants as unary_op
use Rattle.isp_base.specs.declared.types.Elem.{Elem}
use Rattle.isp_base.specs.declared.types.Elem.TheVariants.{Bool as Truth, I32}
use Rattle.isp_base.specs.declared.types.Rate.{Rate}
use Rattle.isp_base.specs.declared.types.Rate.TheVariants.{Uniform, Varying}
use Rattle.isp_code.specs.Conf.{Conf, Go}
use Rattle.isp_code.specs.Lines.{act, reduced, exchanged, scan_of, plain_of}
use Rattle.isp_code.specs.Listing.{Listing, Routine}
use Rattle.isp_code.specs.Registers.{elem_of}
use Rattle.isp_code.specs.declared.instr.Exchange.{Exchange}
use Rattle.isp_code.specs.declared.instr.Exchange.TheVariants as exchange
use Rattle.isp_code.specs.declared.instr.Instr.{Instr}
use Rattle.isp_code.specs.declared.instr.Plain.{Plain}
use Rattle.isp_code.specs.declared.instr.Plain.TheVariants as plain
use Rattle.isp_code.specs.declared.instr.Reduction.{Reduction}
use Rattle.isp_code.specs.declared.instr.Reduction.TheVariants as reduction
use Rattle.isp_code.specs.declared.instr.Scan.{Scan}
use Rattle.isp_code.specs.declared.instr.Scan.TheVariants as scan
use Rattle.isp_typed.specs.Library.{library_type, parts}
use Rattle.isp_typed.specs.declared.library.Library.{Library}
use Rattle.isp_typed.specs.declared.library.Library.TheVariants as library
use Rattle.isp_meaning.specs.Library.{argument, chosen_by, chosen_one, library_value}
use Rattle.isp_meaning.specs.Payloads.{Payload, One, Each, bit, is_true, sole, spread, mapped, joined}
use Rattle.isp_lower_code.specs.Instructions.{compute, select, unary}
use Rattle.isp_lower_code.specs.Layout.{register}
use Rattle.isp_lower_code.specs.Library as table
use Rattle.isp_lower_code.specs.Library.{library_code, library_rates, reduce, register_at}
use Rattle.isp_lower_code.specs.Callees.{later}
use Rattle.isp_lower_code.specs.Setting.{Setting, IsSettled, gang_of, at_rate, held_at, Holds}
use Rattle.isp_lower_code.specs.Tables.{IsTyped}
use Rattle.isp_lower_code.proofs.Base.{put_other, put_same}
use Rattle.isp_lower_code.proofs.Combine.{set_holds, set_masks}
use Rattle.isp_lower_code.proofs.InRow.{EachFrom, HoldFrom, TypedFrom}
use Rattle.isp_lower_code.proofs.LibraryTypes.{part_elems}
use Rattle.isp_lower_code.proofs.Lines.{set_at, value_at, compute_line, unary_line}
use Rattle.isp_lower_code.proofs.Rates.{Filled, at_joined, at_mapped, filled_joined, filled_mapped, filled_on}

-- ---- a choice in each instance

chosen_for : (a : Mask) (k : Payload) (x y : Payload) (vx vy : Lanes) → spread a x ≡ on a vx → spread a y ≡ on a vy → spread a (chosen_by a k x y) ≡ (λ p. chosen_one (spread a k p) (on a vx p) (on a vy p))
chosen_for a (Each k) x y vx vy ex ey = ap (λ z p. chosen_one (k p) (z p) (spread a y p)) ex ∙ ap (λ z p. chosen_one (k p) (on a vx p) (z p)) ey
chosen_for a (One k) x y vx vy ex ey = go (is_true k) refl
  where
    at : (b d : Bool) (p : ℕ) → is_true k ≡ b → (if b then (if d then Some (vx p) else None) else (if d then Some (vy p) else None)) ≡ chosen_one (if d then Some k else None) (if d then Some (vx p) else None) (if d then Some (vy p) else None)
    at true true p e = ap (λ z. if z then Some (vx p) else Some (vy p)) (sym e)
    at true false p e = refl
    at false true p e = ap (λ z. if z then Some (vx p) else Some (vy p)) (sym e)
    at false false p e = refl

    go : (b : Bool) → is_true k ≡ b → spread a (if b then x else y) ≡ (λ p. chosen_one (on a (λ q. k) p) (on a vx p) (on a vy p))
    go true e = ex ∙ fun_ext (λ p. at true (a p) p e)
    go false e = ey ∙ fun_ext (λ p. at false (a p) p e)

chosen_is : (a : Mask) (k x y : Payload) (vk vx vy : Lanes) → spread a k ≡ on a vk → spread a x ≡ on a vx → spread a y ≡ on a vy → spread a (chosen_by a k x y) ≡ on a (λ p. if is_true (vk p) then vx p else vy p)
chosen_is a k x y vk vx vy ek ex ey = chosen_for a k x y vx vy ex ey ∙ ap (λ z p. chosen_one (z p) (on a vx p) (on a vy p)) ek ∙ fun_ext (λ p. at (a p) (is_true (vk p)) p refl)
  where
    at : (d b : Bool) (p : ℕ) → is_true (vk p) ≡ b → chosen_one (if d then Some (vk p) else None) (if d then Some (vx p) else None) (if d then Some (vy p) else None) ≡ (if d then Some (if is_true (vk p) then vx p else vy p) else None)
    at true true p e = ap (λ z. if z then Some (vx p) else Some (vy p)) e ∙ sym (ap (λ z. Some (if z then vx p else vy p)) e)
    at true false p e = ap (λ z. if z then Some (vx p) else Some (vy p)) e ∙ sym (ap (λ z. Some (if z then vx p else vy p)) e)
    at false b p e = refl

chosen_one_is : (a : Mask) (k x y : Payload) (vk vx vy : ℕ) → k ≡ One vk → x ≡ One vx → y ≡ One vy → chosen_by a k x y ≡ One (if is_true vk then vx else vy)
chosen_one_is a k x y vk vx vy ek ex ey =
    ap (λ z. chosen_by a z x y) ek ∙ ap (λ z. if is_true vk then z else y) ex ∙ ap (λ z. if is_true vk then One vx else z) ey ∙ go (is_true vk)
  where
    go : (b : Bool) → (if b then One vx else One vy) ≡ One (if b then vx else vy)
    go true = refl
    go false = refl

-- ---- what registers hold

-- a vector holds it, and a scalar
lanes_are : (a : Mask) (m : Payload) (c : Conf) (x : ℕ) → Holds Varying a x m c → spread a m ≡ on a (c.vectors x)
lanes_are a m c x h = ap (spread a) h

bits_are : (a : Mask) (m : Payload) (c : Conf) (x : ℕ) → Holds Uniform a x m c → sole m ≡ c.scalars x
bits_are a m c x h = ap sole h

-- ---- one or two instructions that leave a value in register d, by way of register s

module _ (code : Listing) (h : Routine) where
  abbrev pub gang : ℕ
  gang = gang_width code.gang

  module _ (r : Rate) (d s : ℕ) (y : Payload) where
    abbrev pub Steps : Conf → List Instr → Type 0
    Steps c [] = ⊥
    Steps c (i ∷ []) = act code h c i ≡ Go (set_at r c d y)
    Steps c (i ∷ j ∷ []) =
        (z : Payload) × (act code h c i ≡ Go (set_at r c s z)) × (act code h (set_at r c s z) j ≡ Go (set_at r (set_at r c s z) d y))
    Steps c (i ∷ j ∷ k ∷ is) = ⊥

  pub record Makes (r : Rate) (d s : ℕ) (a : Mask) (m : Payload) (c : Conf) (is : List Instr) : Type 0 where
    pub value : Payload
    pub same : at_rate r a m ≡ value
    pub filled : Filled r a value
    pub steps : Steps r d s value c is

  -- ---- each instruction

  module _ (c : Conf) (a : Mask) (k : ℕ) (em : c.masks k ≡ a) where
    reduce_line : (o : Reduction) (t : Elem) (d x : ℕ) (m : Payload) → elem_of h (register Varying x) ≡ t → Holds Varying a x m c → act code h c (reduce o d x k) ≡ Go (set_at Uniform c d (One (reduced o t gang (spread a m))))
    reduce_line o t d x m et hx =
        ap (λ u. Go (set_at Uniform c d (One (reduced o u gang (on (c.masks k) (c.vectors x)))))) et
        ∙ ap (λ b. Go (set_at Uniform c d (One (reduced o t gang (on b (c.vectors x)))))) em
        ∙ ap (λ z. Go (set_at Uniform c d (One (reduced o t gang z)))) (sym (lanes_are a m c x hx))

    reduces : (o : Reduction) (t : Elem) (d s x : ℕ) (m : Payload) → elem_of h (register Varying x) ≡ t → Holds Varying a x m c → Makes Uniform d s a (One (reduced o t gang (spread a m))) c (reduce o d x k ∷ [])
    reduces o t d s x m et hx = record { value = One (reduced o t gang (spread a m)); same = refl; filled = refl; steps = reduce_line o t d x m et hx }

    extracts : (d s x i : ℕ) (m z : Payload) → Holds Varying a x m c → Holds Uniform a i z c → Makes Uniform d s a (One (extract gang (spread a m) (number I32 (sole z)))) c (table.extract d x i k ∷ [])
    extracts d s x i m z hx hi = record {
      value = One (extract gang (spread a m) (number I32 (sole z)));
      same = refl;
      filled = refl;
      steps =
          ap (λ b. Go (set_at Uniform c d (One (extract gang (on b (c.vectors x)) (number I32 (c.scalars i)))))) em
          ∙ ap (λ v. Go (set_at Uniform c d (One (extract gang v (number I32 (c.scalars i)))))) (sym (lanes_are a m c x hx))
          ∙ ap (λ v. Go (set_at Uniform c d (One (extract gang (spread a m) (number I32 v))))) (sym (bits_are a z c i hi));
    }

    -- a value in each lane
    lanes_made : (d s : ℕ) (f : Lanes) (i : Instr) → act code h c i ≡ Go (set_at Varying c d (Each (on a f))) → Makes Varying d s a (Each (on a f)) c (i ∷ [])
    lanes_made d s f i is = record { value = Each (on a f); same = refl; filled = λ old. ap Each (filled_on a f old); steps = is }

    scans : (o : Scan) (t : Elem) (d s x : ℕ) (m : Payload) → elem_of h (register Varying d) ≡ t → Holds Varying a x m c → Makes Varying d s a (Each (on a (exclusive_scan (scan_of o) t (spread a m)))) c (table.scan_of o d x k ∷ [])
    scans o t d s x m et hx =
        lanes_made d s (exclusive_scan (scan_of o) t (spread a m)) (table.scan_of o d x k)
        (ap (λ u. Go (set_at Varying c d (Each (on (c.masks k) (exclusive_scan (scan_of o) u (on (c.masks k) (c.vectors x))))))) et
        ∙ ap (λ b. Go (set_at Varying c d (Each (on b (exclusive_scan (scan_of o) t (on b (c.vectors x))))))) em
        ∙ ap (λ v. Go (set_at Varying c d (Each (on a (exclusive_scan (scan_of o) t v))))) (sym (lanes_are a m c x hx)))

    exchanges : (o : Exchange) (d s x i : ℕ) (m z : Payload) → Holds Varying a x m c → Holds Uniform a i z c → Makes Varying d s a (Each (on a (exchanged o gang (spread a m) (number I32 (sole z))))) c (table.exchange_of o d x i k ∷ [])
    exchanges o d s x i m z hx hi =
        lanes_made d s (exchanged o gang (spread a m) (number I32 (sole z))) (table.exchange_of o d x i k)
        (ap (λ b. Go (set_at Varying c d (Each (on b (exchanged o gang (on b (c.vectors x)) (number I32 (c.scalars i))))))) em
        ∙ ap (λ v. Go (set_at Varying c d (Each (on a (exchanged o gang v (number I32 (c.scalars i))))))) (sym (lanes_are a m c x hx))
        ∙ ap (λ v. Go (set_at Varying c d (Each (on a (exchanged o gang (spread a m) (number I32 v)))))) (sym (bits_are a z c i hi)))

    shuffles : (d s x i : ℕ) (m z : Payload) → Holds Varying a x m c → Holds Varying a i z c → Makes Varying d s a (Each (on a (shuffle gang (spread a m) (spread a z)))) c (table.shuffle d x i k ∷ [])
    shuffles d s x i m z hx hi =
        lanes_made d s (shuffle gang (spread a m) (spread a z)) (table.shuffle d x i k)
        (ap (λ b. Go (set_at Varying c d (Each (on b (shuffle gang (on b (c.vectors x)) (on b (c.vectors i))))))) em
        ∙ ap (λ v. Go (set_at Varying c d (Each (on a (shuffle gang v (on a (c.vectors i))))))) (sym (lanes_are a m c x hx))
        ∙ ap (λ v. Go (set_at Varying c d (Each (on a (shuffle gang (spread a m) v))))) (sym (lanes_are a z c i hi)))

    shuffles_two : (d s x y i : ℕ) (m n z : Payload) → Holds Varying a x m c → Holds Varying a y n c → Holds Varying a i z c
        → Makes Varying d s a (Each (on a (shuffle_two gang (spread a m) (spread a n) (spread a z)))) c (table.shuffle_two d x y i k ∷ [])
    shuffles_two d s x y i m n z hx hy hi =
        lanes_made d s (shuffle_two gang (spread a m) (spread a n) (spread a z)) (table.shuffle_two d x y i k)
        (ap (λ b. Go (set_at Varying c d (Each (on b (shuffle_two gang (on b (c.vectors x)) (on b (c.vectors y)) (on b (c.vectors i))))))) em
        ∙ ap (λ v. Go (set_at Varying c d (Each (on a (shuffle_two gang v (on a (c.vectors y)) (on a (c.vectors i))))))) (sym (lanes_are a m c x hx))
        ∙ ap (λ v. Go (set_at Varying c d (Each (on a (shuffle_two gang (spread a m) v (on a (c.vectors i))))))) (sym (lanes_are a n c y hy))
        ∙ ap (λ v. Go (set_at Varying c d (Each (on a (shuffle_two gang (spread a m) (spread a n) v))))) (sym (lanes_are a z c i hi)))

    inserts : (d s x i y : ℕ) (m z n : Payload) → Holds Varying a x m c → Holds Uniform a i z c → Holds Uniform a y n c → Makes Varying d s a (Each (on a (insert gang (spread a m) (number I32 (sole z)) (sole n)))) c (table.insert d x i y k ∷ [])
    inserts d s x i y m z n hx hi hy =
        lanes_made d s (insert gang (spread a m) (number I32 (sole z)) (sole n)) (table.insert d x i y k)
        (ap (λ b. Go (set_at Varying c d (Each (on b (insert gang (on b (c.vectors x)) (number I32 (c.scalars i)) (c.scalars y)))))) em
        ∙ ap (λ v. Go (set_at Varying c d (Each (on a (insert gang v (number I32 (c.scalars i)) (c.scalars y)))))) (sym (lanes_are a m c x hx))
        ∙ ap (λ v. Go (set_at Varying c d (Each (on a (insert gang (spread a m) (number I32 v) (c.scalars y)))))) (sym (bits_are a z c i hi))
        ∙ ap (λ v. Go (set_at Varying c d (Each (on a (insert gang (spread a m) (number I32 (sole z)) v))))) (sym (bits_are a n c y hy)))

    -- ---- at a rate

    plain_line : (r : Rate) (o : Plain) (t : Elem) (d x y : ℕ) → elem_of h (register r d) ≡ t
        → act code h c (compute r o d x y k) ≡ Go (set_at r c d
        (joined (op_bits (plain_of o) t) a (held_at r c.scalars c.vectors a x) (held_at r c.scalars c.vectors a y)))
    plain_line r o t d x y et =
        compute_line code h c r o d x y k
        ∙ ap (λ u. Go (set_at r c d (joined (op_bits (plain_of o) u) (c.masks k) (value_at r c k x) (value_at r c k y)))) et
        ∙ ap (λ b. Go (set_at r c d (joined (op_bits (plain_of o) t) b (held_at r c.scalars c.vectors b x) (held_at r c.scalars c.vectors b y)))) em

    joins : (r : Rate) (f : ℕ → ℕ → ℕ) (x y : ℕ) (m n : Payload) → Holds r a x m c → Holds r a y n c → at_rate r a (joined f a m n) ≡ joined f a (held_at r c.scalars c.vectors a x) (held_at r c.scalars c.vectors a y)
    joins r f x y m n hx hy = at_joined r a f m n ∙ ap (λ z. joined f a z (at_rate r a n)) hx ∙ ap (joined f a (held_at r c.scalars c.vectors a x)) hy

    computes : (r : Rate) (o : Plain) (t : Elem) (d s x y : ℕ) (m n : Payload) → elem_of h (register r d) ≡ t → Holds r a x m c → Holds r a y n c → Makes r d s a (joined (op_bits (plain_of o) t) a m n) c (compute r o d x y k ∷ [])
    computes r o t d s x y m n et hx hy = record {
      value = joined (op_bits (plain_of o) t) a (held_at r c.scalars c.vectors a x) (held_at r c.scalars c.vectors a y);
      same = joins r (op_bits (plain_of o) t) x y m n hx hy;
      filled = filled_joined r a (op_bits (plain_of o) t) c.scalars c.vectors x y;
      steps = plain_line r o t d x y et;
    }

    absolutes : (r : Rate) (t : Elem) (d s x : ℕ) (m : Payload) → elem_of h (register r d) ≡ t → Holds r a x m c → Makes r d s a (mapped (unary_bits unary_op.Absolute t) m) c (unary r unary_op.Absolute d x k ∷ [])
    absolutes r t d s x m et hx = record {
      value = mapped (unary_bits unary_op.Absolute t) (held_at r c.scalars c.vectors a x);
      same = at_mapped r a (unary_bits unary_op.Absolute t) m ∙ ap (mapped (unary_bits unary_op.Absolute t)) hx;
      filled = filled_mapped r a (unary_bits unary_op.Absolute t) c.scalars c.vectors x;
      steps =
          unary_line code h c r unary_op.Absolute d x k
          ∙ ap (λ u. Go (set_at r c d (mapped (unary_bits unary_op.Absolute u) (value_at r c k x)))) et
          ∙ ap (λ b. Go (set_at r c d (mapped (unary_bits unary_op.Absolute t) (held_at r c.scalars c.vectors b x)))) em;
    }

    selects : (r : Rate) (d s x y z : ℕ) (k0 m n : Payload) → Holds r a x k0 c → Holds r a y m c → Holds r a z n c → Makes r d s a (chosen_by a k0 m n) c (select r d x y z k ∷ [])
    selects Uniform d s x y z k0 m n hx hy hz = record {
      value = One (if is_true (c.scalars x) then c.scalars y else c.scalars z);
      same = chosen_one_is a k0 m n (c.scalars x) (c.scalars y) (c.scalars z) hx hy hz;
      filled = refl;
      steps = refl;
    }
    selects Varying d s x y z k0 m n hx hy hz = record {
      value = Each (on a (λ p. if is_true (c.vectors x p) then c.vectors y p else c.vectors z p));
      same = ap Each (chosen_is a k0 m n (c.vectors x) (c.vectors y) (c.vectors z) (lanes_are a k0 c x hx) (lanes_are a m c y hy) (lanes_are a n c z hz));
      filled = λ old. ap Each (filled_on a (λ p. if is_true (c.vectors x p) then c.vectors y p else c.vectors z p) old);
      steps = ap (λ b. Go (set_at Varying c d (Each (on b (λ p. if is_true (c.vectors x p) then c.vectors y p else c.vectors z p))))) em;
    }

-- ---- two instructions

module _ (w : Setting) (ready : IsSettled w) (a : Mask) (k : ℕ) where
  -- what another register holds stays
  others_hold : (r : Rate) (c : Conf) (s x : ℕ) (z : Payload) → x ≢ s → held_at r (set_at r c s z).scalars (set_at r c s z).vectors a x ≡ held_at r c.scalars c.vectors a x
  others_hold Uniform c s x z ne = ap One (put_other c.scalars s (sole z) x ne)
  others_hold Varying c s x z ne = ap (λ v. Each (on a v)) (put_other c.vectors s (over (spread nobody z) (c.vectors s)) x ne)

  clamps : (r : Rate) (t : Elem) (d s x y z : ℕ) (m n p : Payload) (c : Conf) → c.masks k ≡ a → elem_of w.routine (register r d) ≡ t
      → elem_of w.routine (register r s) ≡ t → z ≢ s → Holds r a x m c → Holds r a y n c → Holds r a z p c
      → Makes w.code w.routine r d s a (joined (op_bits op.Min t) a (joined (op_bits op.Max t) a m n) p) c
      (compute r plain.Max s x y k ∷ compute r plain.Min d s z k ∷ [])
  clamps r t d s x y z m n p c em et es ne hx hy hz =
      let v = joined (op_bits op.Max t) a (held_at r c.scalars c.vectors a x) (held_at r c.scalars c.vectors a y) in
      let c1 = set_at r c s v in
      let e1 : c1.masks k ≡ a = set_masks w ready r c s v k ∙ em in
      let held : v ≡ held_at r c1.scalars c1.vectors a s = set_holds w ready r c s a v (filled_joined r a (op_bits op.Max t) c.scalars c.vectors x y) in
      record {
        value = joined (op_bits op.Min t) a (held_at r c1.scalars c1.vectors a s) (held_at r c1.scalars c1.vectors a z);
        same =
            at_joined r a (op_bits op.Min t) (joined (op_bits op.Max t) a m n) p
            ∙ ap (λ u. joined (op_bits op.Min t) a u (at_rate r a p)) (joins w.code w.routine c a k em r (op_bits op.Max t) x y m n hx hy ∙ held)
            ∙ ap (joined (op_bits op.Min t) a (held_at r c1.scalars c1.vectors a s)) (hz ∙ sym (others_hold r c s z v ne));
        filled = filled_joined r a (op_bits op.Min t) c1.scalars c1.vectors s z;
        steps = (v, plain_line w.code w.routine c a k em r plain.Max t s x y es, plain_line w.code w.routine c1 a k e1 r plain.Min t d s z et);
      }

  none_is : (b : Bool) → unary_bits unary_op.Not Truth (if b then 1 else 0) ≡ bit (not b)
  unfolding wrap_to number_to
  none_is true = refl
  none_is false = refl

  nones : (d s x : ℕ) (m : Payload) (c : Conf) → c.masks k ≡ a → elem_of w.routine (register Uniform d) ≡ Truth
      → elem_of w.routine (register Varying x) ≡ Truth → Holds Varying a x m c
      → Makes w.code w.routine Uniform d s a (One (bit (not (any_of is_true (gang_of w) (spread a m))))) c
      (reduce reduction.Any s x k ∷ unary Uniform unary_op.Not d s k ∷ [])
  nones d s x m c em et ex hx =
      let b = any_of is_true (gang_of w) (spread a m) in
      let v = if b then 1 else 0 in
      let c1 = set_at Uniform c s (One v) in
      record {
        value = One (bit (not b));
        same = refl;
        filled = refl;
        steps = (
          One v,
          reduce_line w.code w.routine c a k em reduction.Any Truth s x m ex hx,
          ap (λ u. Go (set_at Uniform c1 d (One (unary_bits unary_op.Not u (c1.scalars s))))) et
              ∙ ap (λ u. Go (set_at Uniform c1 d (One (unary_bits unary_op.Not Truth u)))) (put_same c.scalars s v)
              ∙ ap (λ u. Go (set_at Uniform c1 d (One u))) (none_is b),
        );
      }

  -- ---- the table

  pub library_makes : (spare : Rate → Elem → ℕ) (f : Library) (e : Elem) (r : Rate) (d : ℕ) (xs : List ℕ) (ms : List Payload) (c : Conf)
      → c.masks k ≡ a → IsTyped w (library_type f e r).rate d (library_type f e r).elem
      → IsTyped w (library_type f e r).rate (spare (library_type f e r).rate (library_type f e r).elem) (library_type f e r).elem
      → TypedFrom w (library_rates f (library_type f e r).rate) (part_elems e (parts f)) xs
      → EachFrom (λ j q x. (u : Elem) → x ≢ spare q u) (later (library_rates f (library_type f e r).rate)) 1 xs
      → HoldFrom (library_rates f (library_type f e r).rate) a xs ms c
      → Makes w.code w.routine (library_type f e r).rate d (spare (library_type f e r).rate (library_type f e r).elem) a
      (library_value (gang_of w) e a f (argument ms 0) (argument ms 1) (argument ms 2)) c
      (library_code f (library_type f e r).rate d (spare (library_type f e r).rate (library_type f e r).elem) xs k)
  library_makes spare library.ReduceAdd e r d xs ms c em td ts tx away h = reduces w.code w.routine c a k em reduction.Add e d _ (register_at xs 0) (argument ms 0) tx.0 h.0
  library_makes spare library.ReduceMin e r d xs ms c em td ts tx away h = reduces w.code w.routine c a k em reduction.Min e d _ (register_at xs 0) (argument ms 0) tx.0 h.0
  library_makes spare library.ReduceMax e r d xs ms c em td ts tx away h = reduces w.code w.routine c a k em reduction.Max e d _ (register_at xs 0) (argument ms 0) tx.0 h.0
  library_makes spare library.ReduceEqual e r d xs ms c em td ts tx away h = reduces w.code w.routine c a k em reduction.Equal e d _ (register_at xs 0) (argument ms 0) tx.0 h.0
  library_makes spare library.Any e r d xs ms c em td ts tx away h = reduces w.code w.routine c a k em reduction.Any Truth d _ (register_at xs 0) (argument ms 0) tx.0 h.0
  library_makes spare library.All e r d xs ms c em td ts tx away h = reduces w.code w.routine c a k em reduction.All Truth d _ (register_at xs 0) (argument ms 0) tx.0 h.0
  library_makes spare library.None e r d xs ms c em td ts tx away h = nones d _ (register_at xs 0) (argument ms 0) c em td tx.0 h.0
  library_makes spare library.ScanAdd e r d xs ms c em td ts tx away h = scans w.code w.routine c a k em scan.Add e d _ (register_at xs 0) (argument ms 0) td h.0
  library_makes spare library.ScanAnd e r d xs ms c em td ts tx away h = scans w.code w.routine c a k em scan.And e d _ (register_at xs 0) (argument ms 0) td h.0
  library_makes spare library.ScanOr e r d xs ms c em td ts tx away h = scans w.code w.routine c a k em scan.Or e d _ (register_at xs 0) (argument ms 0) td h.0
  library_makes spare library.Broadcast e r d xs ms c em td ts tx away h = exchanges w.code w.routine c a k em exchange.Broadcast d _ (register_at xs 0) (register_at xs 1) (argument ms 0) (argument ms 1) h.0 h.1.0
  library_makes spare library.Rotate e r d xs ms c em td ts tx away h = exchanges w.code w.routine c a k em exchange.Rotate d _ (register_at xs 0) (register_at xs 1) (argument ms 0) (argument ms 1) h.0 h.1.0
  library_makes spare library.Shift e r d xs ms c em td ts tx away h = exchanges w.code w.routine c a k em exchange.Shift d _ (register_at xs 0) (register_at xs 1) (argument ms 0) (argument ms 1) h.0 h.1.0
  library_makes spare library.Shuffle e r d xs ms c em td ts tx away h = shuffles w.code w.routine c a k em d _ (register_at xs 0) (register_at xs 1) (argument ms 0) (argument ms 1) h.0 h.1.0
  library_makes spare library.ShuffleTwo e r d xs ms c em td ts tx away h = shuffles_two w.code w.routine c a k em d _ (register_at xs 0) (register_at xs 1) (register_at xs 2) (argument ms 0) (argument ms 1) (argument ms 2) h.0 h.1.0 h.1.1.0
  library_makes spare library.Extract e r d xs ms c em td ts tx away h = extracts w.code w.routine c a k em d _ (register_at xs 0) (register_at xs 1) (argument ms 0) (argument ms 1) h.0 h.1.0
  library_makes spare library.Insert e r d xs ms c em td ts tx away h = inserts w.code w.routine c a k em d _ (register_at xs 0) (register_at xs 1) (register_at xs 2) (argument ms 0) (argument ms 1) (argument ms 2) h.0 h.1.0 h.1.1.0
  library_makes spare library.Min e r d xs ms c em td ts tx away h = computes w.code w.routine c a k em r plain.Min e d _ (register_at xs 0) (register_at xs 1) (argument ms 0) (argument ms 1) td h.0 h.1.0
  library_makes spare library.Max e r d xs ms c em td ts tx away h = computes w.code w.routine c a k em r plain.Max e d _ (register_at xs 0) (register_at xs 1) (argument ms 0) (argument ms 1) td h.0 h.1.0
  library_makes spare library.Clamp e r d xs ms c em td ts tx away h = clamps r e d (spare r e) (register_at xs 0) (register_at xs 1) (register_at xs 2) (argument ms 0) (argument ms 1) (argument ms 2) c em td ts (away.1.0 e) h.0 h.1.0 h.1.1.0
  library_makes spare library.Abs e r d xs ms c em td ts tx away h = absolutes w.code w.routine c a k em r e d _ (register_at xs 0) (argument ms 0) td h.0
  library_makes spare library.Select e r d xs ms c em td ts tx away h = selects w.code w.routine c a k em r d _ (register_at xs 0) (register_at xs 1) (register_at xs 2) (argument ms 0) (argument ms 1) (argument ms 2) h.0 h.1.0 h.1.1.0
