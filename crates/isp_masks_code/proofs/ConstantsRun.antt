-- The code with which a function begins leaves each constant that is kept in its register, and all else as it was.
use Rattle.std.proofs.Common.{◌≡◌, ◌≢◌, ◌<◌, ℕ, ◌+◌, ◌%◌, ◌^◌, inl, inr, List, [], ◌∷◌, ◌++◌, length, Some, None, Bool, true, false, refl, sym, ap, ◌∙◌, subst, arith, length-append, eqb-true}
use Rattle.std.specs.Prelude.{slice_get, nat_eq, nat_lt, if◌then◌else◌}
use Rattle.std.proofs.Math.Path.{fun_ext}
use Rattle.isp_base.specs.Maps.{Lanes, on, or_old, over, put}
use Rattle.isp_base.specs.Sets.{everyone, nobody}
use Rattle.isp_base.specs.Values.{width, number, wrap}
use Rattle.isp_base.specs.declared.types.Elem.{Elem}
use Rattle.isp_base.specs.declared.types.Rate.{Rate}
use Rattle.isp_base.specs.declared.types.Rate.TheVariants.{Uniform, Varying}
use Rattle.isp_code.specs.Conf.{Conf, Go}
use Rattle.isp_meaning.specs.Payloads.{Payload, One, Each, spread}
use Rattle.isp_meaning.specs.State.{State}
use Rattle.isp_lower_code.specs.Held.{HasBits, everywhere}
use Rattle.isp_lower_code.specs.Instructions.{constant, splat}
use Rattle.isp_lower_code.specs.Runs.{Comes}
use Rattle.isp_lower_code.specs.Setting.{Setting, IsSettled, StandsFor, Stands, gang_of, AreAt, At, Spares}
use Rattle.isp_lower_code.specs.Tables.{IsTyped}
use Rattle.isp_lower_code.proofs.Lemmas.{are_front, are_back, at_to, comes_none, comes_on, known_put, masked, masked_at, put_other, put_same, run_place, set_at, set_comes, spares_all, spares_on, set_goes, step_go, wrap_bits}
use Rattle.isp_lower_code.specs.declared.constant.Constant.{Constant}
use Rattle.isp_masks_code.specs.Keeping.{IsIn, constants_code, keep_at, keep_code}
use Rattle.isp_masks_code.specs.Rounds.{fill_mask}

-- what holds of what is written, and of what was there, holds of each register
put_has : {A : Type 0} (P : A → Type 0) (f : ℕ → A) (d : ℕ) (v : A) (r : ℕ) → (r ≡ d → P v) → P (f r) → P (put f d v r)
put_has P f d v r new old = go (nat_eq r d) refl
  where
    go : (b : Bool) → nat_eq r d ≡ b → P (put f d v r)
    go true e = subst P (sym (ap (λ (b : Bool). if b then v else f r) e)) (new (eqb-true r d e))
    go false e = subst P (sym (ap (λ (b : Bool). if b then v else f r) e)) old

-- one constant has the same bits
bits_same : (t u : Elem) (b c : ℕ) → (u ≡ t) × (c ≡ b) → b % 2 ^ width t ≡ c % 2 ^ width u
bits_same t u b c e = ap (λ z. z % 2 ^ width t) (sym e.1) ∙ ap (λ y. c % 2 ^ width y) (sym e.0)

-- all lanes of the gang get some bits, and the others have none
all_filled : (gang k : ℕ) (old : Lanes) → ((p : ℕ) → nat_lt p gang ≡ false → old p ≡ 0) → over (on (everyone gang) (λ p. k)) old ≡ everywhere gang k
all_filled gang k old none = fun_ext (λ p. at p (nat_lt p gang) refl)
  where
    at : (p : ℕ) (b : Bool) → nat_lt p gang ≡ b → or_old (if nat_lt p gang then Some k else None) (old p) ≡ or_old (if nat_lt p gang then Some k else None) 0
    at p true e = ap (λ (b : Bool). or_old (if b then Some k else None) (old p)) e ∙ sym (ap (λ (b : Bool). or_old (if b then Some k else None) 0) e)
    at p false e = ap (λ (b : Bool). or_old (if b then Some k else None) (old p)) e ∙ none p e ∙ sym (ap (λ (b : Bool). or_old (if b then Some k else None) 0) e)

-- outside the gang it has none
outside_none : (gang k p : ℕ) → nat_lt p gang ≡ false → everywhere gang k p ≡ 0
outside_none gang k p e = ap (λ (b : Bool). or_old (if b then Some k else None) 0) e

module _ (w : Setting) where
  -- the machine stands for a state, whatever the registers of constants hold
  abbrev pub Bare : State → Conf → Type 0
  Bare s c =
      StandsFor w.function.variables (record w.layout { kept = λ r t b. false }) (gang_of w) w.start w.members s.uniforms s.varying s.own s.result s.results s.arrays s.out c.scalars c.vectors c.own c.arrays c.out

  -- the vectors of constants have nothing outside the gang
  abbrev pub NoneOutside : Conf → Type 0
  NoneOutside c = (t : Elem) (b p : ℕ) → w.layout.kept Varying t b ≡ true → nat_lt p (gang_of w) ≡ false → c.vectors (w.layout.constant Varying t b) p ≡ 0

module _ (w : Setting) (ready : IsSettled w) (n : ℕ) where
  abbrev IsKept : Constant → Type 0
  IsKept x = w.layout.kept x.rate x.elem x.bits ≡ true

  abbrev HasIt : Conf → Constant → Type 0
  HasIt c x = HasBits x.rate (gang_of w) c.scalars c.vectors (w.layout.constant x.rate x.elem x.bits) (x.bits % 2 ^ width x.elem)

  -- from one configuration to another one, in which all that was kept still is
  record Goes (c c' : Conf) (steps pc : ℕ) (s : State) : Type 0 where
    pub comes : Comes w c steps c'
    pub at : At w c' pc
    pub bare : Bare w s c'
    pub spares : Spares w n c c'
    pub masks : (i : ℕ) → c'.masks i ≡ c.masks i
    pub none : NoneOutside w c'
    pub still : (x : Constant) → IsKept x → HasIt c x → HasIt c' x

  goes_on : (c c1 c2 : Conf) (k m pc1 pc2 : ℕ) (s : State) → Goes c c1 k pc1 s → Goes c1 c2 m pc2 s → Goes c c2 (k + m) pc2 s
  goes_on c c1 c2 k m pc1 pc2 s g h = record {
    comes = comes_on w c c1 c2 k m g.comes h.comes;
    at = h.at;
    bare = h.bare;
    spares = spares_on w n c c1 c2 g.spares h.spares;
    masks = λ i. h.masks i ∙ g.masks i;
    none = h.none;
    still = λ x kept has. h.still x kept (g.still x kept has);
  }

  -- one scalar is written, which is none of a variable
  scalar_goes : (d v pc : ℕ) (t : Elem) (s : State) (c : Conf) → IsTyped w Uniform d t → ((u : ℕ) → w.layout.variable Uniform u ≢ d) → w.layout.result Uniform ≢ d → w.layout.place Uniform ≢ d
      → ((u : Elem) (j : ℕ) → j < n → w.layout.spare Uniform u j ≢ d) → ((j : ℕ) → w.layout.fresh Uniform j ≢ d)
      → ((u : Elem) (b : ℕ) → w.layout.kept Uniform u b ≡ true → w.layout.constant Uniform u b ≡ d → v % 2 ^ width t ≡ b % 2 ^ width u)
      → At w c pc → slice_get w.routine.code pc ≡ Some (constant d t v) → Bare w s c → NoneOutside w c → Goes c (set_at Uniform c d (One (v % 2 ^ width t))) 1 (pc + 1) s
  scalar_goes d v pc t s c ty variables result place lower fresh same at has st none =
      let z = v % 2 ^ width t in
      record {
        comes = set_comes w ready Uniform c d (One z) pc (constant d t v) at has (ap (λ u. Go (set_at Uniform c d (One (wrap u (number t v))))) ty ∙ ap (λ y. Go (set_at Uniform c d (One y))) (wrap_bits t v));
        at = set_goes w ready Uniform c d (One z) pc at;
        bare = record {
          uniforms = λ u is. put_other c.scalars d z (w.layout.variable Uniform u) (variables u) ∙ st.uniforms u is;
          varying = st.varying;
          result = put_other c.scalars d z (w.layout.result Uniform) result ∙ st.result;
          results = st.results;
          own_arrays = st.own_arrays;
          arrays_are = st.arrays_are;
          out_is = st.out_is;
          run = run_place w.layout.run w.start w.members (c.scalars (w.layout.place Uniform)) (put c.scalars d z (w.layout.place Uniform)) s.varying (sym (put_other c.scalars d z (w.layout.place Uniform) place)) st.run;
          known = known_put w.function.variables w.layout w.members c.scalars d z s.varying (λ u k. variables u) st.known;
          constants = λ r u b e. absurd (cc);
        };
        spares =
            record {
              scalars_stay = λ u j lt. put_other c.scalars d z (w.layout.spare Uniform u j) (lower u j lt);
              vectors_stay = λ u j lt. refl;
              fresh_scalars = λ j. put_other c.scalars d z (w.layout.fresh Uniform j) (fresh j);
              fresh_vectors = λ j. refl;
              singles_stay = λ u is. put_other c.scalars d z (w.layout.variable Uniform u) (variables u);
            };
        masks = λ i. refl;
        none = none;
        still = λ x kept has. stays x.rate x.elem x.bits kept has;
      }
    where
      stays : (r : Rate) (u : Elem) (b : ℕ) → w.layout.kept r u b ≡ true
          → HasBits r (gang_of w) c.scalars c.vectors (w.layout.constant r u b) (b % 2 ^ width u)
          → HasBits r (gang_of w) (put c.scalars d (v % 2 ^ width t)) c.vectors (w.layout.constant r u b) (b % 2 ^ width u)
      stays Uniform u b kept has = put_has (λ y. y ≡ b % 2 ^ width u) c.scalars d (v % 2 ^ width t) (w.layout.constant Uniform u b) (same u b kept) has
      stays Varying u b kept has = has

  -- the vector of a constant is written
  vector_goes : (t : Elem) (b f pc : ℕ) (s : State) (c : Conf) → w.layout.kept Varying t b ≡ true → c.scalars f ≡ b % 2 ^ width t
      → c.masks n ≡ everyone (gang_of w) → At w c pc → slice_get w.routine.code pc ≡ Some (splat (w.layout.constant Varying t b) f n) → Bare w s c
      → NoneOutside w c
      → (c' : Conf) × Goes c c' 1 (pc + 1) s × (c'.vectors (w.layout.constant Varying t b) ≡ everywhere (gang_of w) (b % 2 ^ width t))
  vector_goes t b f pc s c kept ef em at has st none = (
    set_at Varying c d x,
    record {
      comes = set_comes w ready Varying c d x pc (splat d f n) at has (ap (λ m. Go (set_at Varying c d (Each (on m (λ p. c.scalars f))))) em ∙ ap (λ k. Go (set_at Varying c d (Each (on (everyone (gang_of w)) (λ p. k))))) ef);
      at = set_goes w ready Varying c d x pc at;
      bare = record {
        uniforms = st.uniforms;
        varying = λ u. put_other c.vectors d y (w.layout.variable Varying u) (λ e. ready.apart.kept_variable Varying t b u kept (sym e)) ∙ st.varying u;
        result = st.result;
        results = put_other c.vectors d y (w.layout.result Varying) (λ e. ready.apart.kept_result Varying t b kept (sym e)) ∙ st.results;
        own_arrays = st.own_arrays;
        arrays_are = st.arrays_are;
        out_is = st.out_is;
        run = st.run;
        known = st.known;
        constants = λ r u v e. absurd (cc);
      };
      spares =
          record {
            scalars_stay = λ u j lt. refl;
            vectors_stay = λ u j lt. put_other c.vectors d y (w.layout.spare Varying u j) (λ e. ready.apart.kept_spare Varying t b u j kept (sym e));
            fresh_scalars = λ j. refl;
            fresh_vectors = λ j. put_other c.vectors d y (w.layout.fresh Varying j) (λ e. ready.apart.kept_fresh Varying t b j kept (sym e));
            singles_stay = λ u is. refl;
          };
      masks = λ i. refl;
      none = λ u v p kept1 out. put_has (λ g. g p ≡ 0) c.vectors d y (w.layout.constant Varying u v) (λ e. ap (λ g. g p) filled ∙ outside_none (gang_of w) k p out) (none u v p kept1 out);
      still = λ x1 kept1 has1. stays x1.rate x1.elem x1.bits kept1 has1;
    },
    put_same c.vectors d y ∙ filled,
  )
    where
      d : ℕ
      d = w.layout.constant Varying t b

      k : ℕ
      k = b % 2 ^ width t

      x : Payload
      x = Each (on (everyone (gang_of w)) (λ p. k))

      y : Lanes
      y = over (spread nobody x) (c.vectors d)

      filled : y ≡ everywhere (gang_of w) k
      filled = all_filled (gang_of w) k (c.vectors d) (λ p out. none t b p kept out)

      stays : (r : Rate) (u : Elem) (v : ℕ) → w.layout.kept r u v ≡ true
          → HasBits r (gang_of w) c.scalars c.vectors (w.layout.constant r u v) (v % 2 ^ width u)
          → HasBits r (gang_of w) c.scalars (put c.vectors d y) (w.layout.constant r u v) (v % 2 ^ width u)
      stays Uniform u v kept1 has1 = has1
      stays Varying u v kept1 has1 =
          put_has (λ g. g ≡ everywhere (gang_of w) (v % 2 ^ width u)) c.vectors d y (w.layout.constant Varying u v) (λ e. filled ∙ ap (everywhere (gang_of w)) (bits_same t u b v (ready.apart.constants Varying u t v b e))) has1

  -- one constant, whose spare register has its type
  abbrev pub KeepFits : Constant → Type 0
  KeepFits x = IsKept x × IsTyped w Uniform (w.layout.spare Uniform x.elem n) x.elem

  abbrev pub KeepAll : List Constant → Type 0
  KeepAll [] = Unit {0}
  KeepAll (x ∷ xs) = KeepFits x × KeepAll xs

  keep_one : (r : Rate) (t : Elem) (b pc : ℕ) (s : State) (c : Conf) → w.layout.kept r t b ≡ true → IsTyped w Uniform (w.layout.spare Uniform t n) t
      → At w c pc → AreAt w.routine.code pc (keep_at w.layout n r t b) → c.masks n ≡ everyone (gang_of w) → Bare w s c → NoneOutside w c
      → (c' : Conf) × Goes c c' (length (keep_at w.layout n r t b)) (pc + length (keep_at w.layout n r t b)) s × HasBits r (gang_of w) c'.scalars c'.vectors (w.layout.constant r t b) (b % 2 ^ width t)
  keep_one Uniform t b pc s c kept ty at has em st none =
      let d = w.layout.constant Uniform t b in (
        set_at Uniform c d (One (b % 2 ^ width t)),
        scalar_goes d b pc t s c (ready.constants Uniform t b kept) (λ u e. ready.apart.kept_variable Uniform t b u kept (sym e))
            (λ e. ready.apart.kept_result Uniform t b kept (sym e)) (λ e. ready.apart.kept_place Uniform t b kept (sym e))
            (λ u j lt e. ready.apart.kept_spare Uniform t b u j kept (sym e)) (λ j e. ready.apart.kept_fresh Uniform t b j kept (sym e))
            (λ u v kept1 e. bits_same t u b v (ready.apart.constants Uniform u t v b e)) at has.0 st none,
        put_same c.scalars d (b % 2 ^ width t),
      )
  keep_one Varying t b pc s c kept ty at has em st none =
      let f = w.layout.spare Uniform t n in
      let k = b % 2 ^ width t in
      let c1 = set_at Uniform c f (One k) in
      let g : Goes c c1 1 (pc + 1) s = scalar_goes f b pc t s c ty (λ u. ready.apart.variable_spare Uniform t u n)
      (ready.apart.result_spare Uniform t n) (ready.apart.place_spare Uniform t n)
      (λ u j lt. let ne : j ≢ n = omega arith in ready.apart.spares Uniform u t j n ne) (λ j e. ready.apart.spare_fresh Uniform t n j (sym e))
      (λ u v kept1 e. absurd (ready.apart.kept_spare Uniform u v t n kept1 e)) at has.0 st none in
      let h = vector_goes t b f (pc + 1) s c1 kept (put_same c.scalars f k) em g.at has.1.0 g.bare g.none in
      let to : pc + 1 + 1 ≡ pc + 2 = omega arith in
      (h.0, subst (λ e. Goes c h.0 2 e s) to (goes_on c c1 h.0 1 1 (pc + 1) (pc + 1 + 1) s g h.1), h.2)

  -- each of some constants
  abbrev pub AllHave : Conf → List Constant → Type 0
  AllHave c [] = Unit {0}
  AllHave c (x ∷ xs) = HasIt c x × AllHave c xs

  keep_all : (xs : List Constant) (pc : ℕ) (s : State) (c : Conf) → KeepAll xs → At w c pc → AreAt w.routine.code pc (keep_code w.layout n xs)
      → c.masks n ≡ everyone (gang_of w) → Bare w s c → NoneOutside w c
      → (c' : Conf) × Goes c c' (length (keep_code w.layout n xs)) (pc + length (keep_code w.layout n xs)) s × AllHave c' xs
  keep_all [] pc s c fit at has em st none =
      (c, record { comes = comes_none w c; at = at_to w c pc (pc + 0) at (omega arith); bare = st; spares = spares_all w n c; masks = λ i. refl; none = none; still = λ x kept h. h }, tt)
  keep_all (x ∷ xs) pc s c fit at has em st none =
      let a = keep_at w.layout n x.rate x.elem x.bits in
      let b = keep_code w.layout n xs in
      let g = keep_one x.rate x.elem x.bits pc s c fit.0.0 fit.0.1 at (are_front w.routine.code pc a b has) em st none in
      let h = keep_all xs (pc + length a) s g.0 fit.1 g.1.at (are_back w.routine.code pc a b has) (g.1.masks n ∙ em) g.1.bare g.1.none in
      let steps : length a + length b ≡ length (a ++ b) = sym (length-append a b) in
      let to : pc + length a + length b ≡ pc + length (a ++ b) = omega (arith, length-append a b) in (
        h.0,
        subst (λ m. Goes c h.0 m (pc + length (a ++ b)) s) steps
            (subst (λ e. Goes c h.0 (length a + length b) e s) to
            (goes_on c g.0 h.0 (length a) (length b) (pc + length a) (pc + length a + length b) s g.1 h.1)),
        (h.1.still x fit.0.0 g.2, h.2),
      )

  all_have : (xs : List Constant) (c : Conf) (x : Constant) → AllHave c xs → IsIn xs x → HasIt c x
  all_have [] c x h is = absurd is
  all_have (y ∷ ys) c x h (inl e) = subst (HasIt c) e h.0
  all_have (y ∷ ys) c x h (inr is) = all_have ys c x h.1 is

  -- From a machine that stands for a state but for the constants, it comes to one that stands for it with them. No mask but the one of slot n
  -- is another one.
  pub record Kept (c : Conf) (steps pc : ℕ) (s : State) : Type 0 where
    pub conf : Conf
    pub comes : Comes w c steps conf
    pub at : At w conf pc
    pub stands : Stands w s conf
    pub spares : Spares w n c conf
    pub masks : (i : ℕ) → i ≢ n → conf.masks i ≡ c.masks i

  stands_with : (s : State) (c : Conf) → Bare w s c → ((r : Rate) (t : Elem) (b : ℕ) → w.layout.kept r t b ≡ true → HasBits r (gang_of w) c.scalars c.vectors (w.layout.constant r t b) (b % 2 ^ width t)) → Stands w s c
  stands_with s c st all = record { uniforms = st.uniforms; varying = st.varying; result = st.result; results = st.results; own_arrays = st.own_arrays; arrays_are = st.arrays_are; out_is = st.out_is; run = st.run; known = st.known; constants = all }

  pub constants_run : (xs : List Constant) (pc : ℕ) (s : State) (c : Conf) → KeepAll xs
      → ((r : Rate) (t : Elem) (b : ℕ) → w.layout.kept r t b ≡ true → IsIn xs (record { rate = r; elem = t; bits = b })) → At w c pc
      → AreAt w.routine.code pc (constants_code w.layout n xs) → Bare w s c → NoneOutside w c
      → Kept c (length (constants_code w.layout n xs)) (pc + length (constants_code w.layout n xs)) s
  constants_run [] pc s c fit whole at has st none = record {
    conf = c;
    comes = comes_none w c;
    at = at_to w c pc (pc + 0) at (omega arith);
    stands = stands_with s c st (λ r t b kept. absurd (whole r t b kept));
    spares = spares_all w n c;
    masks = λ i ne. refl;
  }
  constants_run (x ∷ xs) pc s c fit whole at has st none =
      let all = everyone (gang_of w) in
      let c1 = masked w ready c n all in
      let code = keep_code w.layout n (x ∷ xs) in
      let one : Comes w c 1 c1 = step_go w c pc (fill_mask n) c1 ready at has.0 refl in
      let g = keep_all (x ∷ xs) (pc + 1) s c1 fit (masked_at w ready c pc n all at) has.1 (put_same c.masks n all) st none in
      let to : pc + 1 + length code ≡ pc + length (fill_mask n ∷ code) = omega arith in
      let steps : 1 + length code ≡ length (fill_mask n ∷ code) = omega arith in
      record {
        conf = g.0;
        comes = subst (λ m. Comes w c m g.0) steps (comes_on w c c1 g.0 1 (length code) one g.1.comes);
        at = at_to w g.0 (pc + 1 + length code) (pc + length (fill_mask n ∷ code)) g.1.at to;
        stands = stands_with s g.0 g.1.bare (λ r t b kept. all_have (x ∷ xs) g.0 (record { rate = r; elem = t; bits = b }) g.2 (whole r t b kept));
        spares = spares_on w n c c1 g.0 (spares_all w n c) g.1.spares;
        masks = λ i ne. g.1.masks i ∙ put_other c.masks n all i ne;
      }
