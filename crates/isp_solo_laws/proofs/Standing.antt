-- Where the parts of a statement stand: branches, loops, and what nobody may assign there.
use Rattle.std.proofs.Common.{◌≡◌, ℕ, ◌<◌, ◌⊎◌, inl, inr, Bool, true, false, refl, sym, ap, ◌∙◌, true≢false}
use Rattle.std.specs.Prelude.{◌≤◌, Option, Some, None, not, ◌&&◌, ◌||◌, nat_lt, if◌then◌else◌, option_map}
use Rattle.isp_base.specs.Sets.{Mask}
use Rattle.isp_base.specs.declared.types.Rate.{Rate}
use Rattle.isp_base.specs.declared.types.Rate.TheVariants.{Uniform, Varying}
use Rattle.isp_typed.specs.Scoped.{Scope}
use Rattle.isp_typed.specs.Typed.{TExpr, rate_of}
use Rattle.isp_rates.specs.declared.exits.Within.{Within as Around}
use Rattle.isp_independence.specs.declared.control.Control.{Control}
use Rattle.isp_independence.specs.Control.{parted, branch}
use Rattle.isp_independence.specs.Exits.{by_rate, tests_varying}
use Rattle.isp_meaning.specs.State.{State, tick}
use Rattle.isp_meaning.specs.Payloads.{Payload, One, Each, is_true}
use Rattle.isp_meaning.specs.Outcomes.{Val, Res, Done}
use Rattle.isp_meaning.specs.Statements.{branches}
use Rattle.isp_solo_meaning.specs.Alone.{Alone}
use Rattle.isp_solo_meaning.specs.Answers.{Answer, How, Going, Broke, Continued, Returned, End, choose}
use Rattle.isp_solo_laws.specs.Stands.{World, Same, AreSome}
use Rattle.isp_solo_laws.specs.Values.{Agrees, Sim, Stand}
use Rattle.isp_solo_laws.specs.Statements.{Ways, no_ways, ways_of, parted_ways, is_broke, is_continued, may_leave, Here, Acts, ActSim, Leaves, StmtSim}
use Rattle.isp_solo_laws.specs.Acts.{closed_in}
use Rattle.isp_solo_laws.proofs.Lanes.{or_left, or_right}
use Rattle.isp_solo_laws.proofs.Branches.{varying_sides}
use Rattle.isp_solo_laws.proofs.Stmts.{uniform_sides}
use Rattle.isp_solo_laws.specs.Bodies.{joint_of, all_there, here_of, Stood, Quiet}
use Rattle.isp_solo_laws.proofs.Scopes.{lt_of, of_lt, up_to, either_true, or_second, or_first, and_first, Below}

module _ (w : World) where
  pub later_stood : (c : Control) (o : Around) (v v1 : Scope) (n m : ℕ) → n ≤ m → Below v1 m → Stood w c o v n → Stood w c o v1 m
  later_stood c o v v1 n m h b s = record { below = b; before = λ k i. up_to k n m (s.before k i) h; together = s.together; returns = s.returns; everyone = s.everyone }

  pub parted_before : (c : Control) (n m : ℕ) → n ≤ m → ((k : ℕ) → closed_in c k ≡ true → k < n) → (k : ℕ) → closed_in (parted n c) k ≡ true → k < m
  parted_before c n m h b k i = up_to k n m (go (either_true (nat_lt k n) (nat_lt k c.turned) i)) h where
    go : (nat_lt k n ≡ true) ⊎ (nat_lt k c.turned ≡ true) → k < n
    go (inl e) = lt_of k n e
    go (inr e) = b k (or_second (nat_lt k c.outside) (nat_lt k c.turned) e)

  pub branch_stood : (r : Rate) (c : Control) (o : Around) (v : Scope) (n m : ℕ) → n ≤ m → Stood w c o v n → Stood w (branch r n c) o v m
  branch_stood Varying c o v n m h s = record { below = λ k i. up_to k n m (s.below k i) h; before = parted_before c n m h s.before; together = s.together; returns = s.returns; everyone = s.everyone }
  branch_stood Uniform c o v n m h s = record { below = λ k i. up_to k n m (s.below k i) h; before = λ k i. up_to k n m (s.before k i) h; together = s.together; returns = s.returns; everyone = s.everyone }

  -- ---- branches

  pub sides : (r : Rate) (c : Control) (o : Around) (v v1 v2 : Scope) (n : ℕ) (x y : Ways) (a : Mask) (first second : Mask → State → Res)
      (own own2 : ℕ → Alone → End) → ((k : ℕ) → v k ≡ true → k < n) → ((k : ℕ) → closed_in c k ≡ true → k < n) → AreSome w.gang a
      → ((k : ℕ) → v k ≡ true → v1 k ≡ true) → ((k : ℕ) → v k ≡ true → v2 k ≡ true)
      → ((k : Mask) → AreSome w.gang k → StmtSim w (here_of (branch r n c) o) v v1 x k (first k) own) → ((k : Mask) → AreSome w.gang k → StmtSim w (here_of (branch r n c) o) v v2 y k (second k) own2)
      → (m : Payload) (val : ℕ → ℕ) → Stand w.gang a r m val → StmtSim w (here_of c o) v v (by_rate r (parted_ways x y) (ways_of x y)) a (branches w.gang a first second m) (λ p s. choose (is_true (val p)) (own p) (own2 p) s)
  sides Varying c o v v1 v2 n x y a first second own own2 below before some wider1 wider2 sim sim2 m val h = record {
    go = λ s σ st sa top ends.
        varying_sides w (here_of c o) (closed_in (parted n c)) v v1 v2 x y a some
        (λ k i. or_first (nat_lt k n) (nat_lt k c.turned) (of_lt k n (below k i)))
        (λ k i. or_first (nat_lt k n) (nat_lt k c.turned) (of_lt k n (before k i))) first second own own2 sim sim2 Varying m val h s σ st sa ends;
  }
  sides Uniform c o v v1 v2 n x y a first second own own2 below before some wider1 wider2 sim sim2 (One z) val h =
      uniform_sides w (here_of c o) v a v1 v2 x y (first a) (second a) own own2 some wider1 wider2 (sim a some) (sim2 a some) z val h
  sides Uniform c o v v1 v2 n x y a first second own own2 below before some wider1 wider2 sim sim2 (Each z) val h = absurd (h.one some.some refl)

  pub or_none : (b : Bool) → (b || false) ≡ b
  or_none true = refl
  or_none false = refl

  pub ways_is : (x : Ways) → record { breaks = x.breaks || false; continues = x.continues || false; some_break = x.some_break || false; some_continue = x.some_continue || false } ≡ x
  ways_is x =
      ap (λ z. record { breaks = z; continues = x.continues || false; some_break = x.some_break || false; some_continue = x.some_continue || false }) (or_none x.breaks)
      ∙ ap (λ z. record { breaks = x.breaks; continues = z; some_break = x.some_break || false; some_continue = x.some_continue || false }) (or_none x.continues)
      ∙ ap (λ z. record { breaks = x.breaks; continues = x.continues; some_break = z; some_continue = x.some_continue || false }) (or_none x.some_break)
      ∙ ap (λ z. record { breaks = x.breaks; continues = x.continues; some_break = x.some_break; some_continue = z }) (or_none x.some_continue)

  -- the ways of an `if`
  abbrev pub if_ways : Rate → Ways → Ways
  if_ways r x = record { breaks = x.breaks; continues = x.continues; some_break = by_rate r x.breaks x.some_break; some_continue = by_rate r x.continues x.some_continue }

  pub one_side : (r : Rate) (x : Ways) → by_rate r (parted_ways x no_ways) (ways_of x no_ways) ≡ if_ways r x
  one_side Varying x = ways_is (record { breaks = x.breaks; continues = x.continues; some_break = x.breaks; some_continue = x.continues })
  one_side Uniform x = ways_is x

  pub two_sides : (r : Rate) (x y : Ways) → by_rate r (parted_ways x y) (ways_of x y)
      ≡ record {
        breaks = x.breaks || y.breaks;
        continues = x.continues || y.continues;
        some_break = by_rate r (x.breaks || y.breaks)
            (x.some_break || y.some_break);
        some_continue = by_rate r (x.continues || y.continues) (x.some_continue || y.some_continue);
      }
  two_sides Varying x y = refl
  two_sides Uniform x y = refl

  -- ---- parts that act

  pub stmt_tick : (here : Here) (v v1 : Scope) (x : Ways) (a : Mask) (f : State → Res) (own : ℕ → Alone → End) → StmtSim w here v v1 x a f own → StmtSim w here v v1 x a (λ s. f (tick s)) own
  stmt_tick here v v1 x a f own sim = record { go = λ s σ st sa top ends. sim.go (tick s) σ st sa top ends }

  -- what is checked, and then nothing more
  pub act_checked : (closed : ℕ → Bool) (v : Scope) (a : Mask) (R : Done → (ℕ → Done) → Type 0) (f : State → Val Done) (own : ℕ → Alone → Answer Done) → Sim w v a R f own → ActSim w closed v v a f own
  act_checked closed v a R f own x = record { go = λ s σ st sa ends. acts s σ sa (x.go s σ st sa ends) } where
    acts : (s : State) (σ : ℕ → Alone) → Same v a s.uniforms σ → Agrees w a R (λ p. own p (σ p)) σ (f s) s.uniforms → Acts w closed v a (λ p. own p (σ p)) σ (f s) s.uniforms
    acts s σ sa ok = record {
      s = ok.s;
      after = ok.after;
      is = ok.is;
      alone = ok.alone;
      quiet = λ k i. ap (λ g. g k) ok.uniforms;
      own_quiet = λ p k i. ap (λ g. g k) (ok.own_uniforms p);
      same = λ p k i j. ap (λ g. g k) (ok.own_uniforms p) ∙ sa p k i j ∙ sym (ap (λ g. g k) ok.uniforms);
      stands = ok.stands;
    }

  -- what assigns less may be said to close less
  pub act_less : (closed less : ℕ → Bool) (v v1 : Scope) (a : Mask) (f : State → Val Done) (own : ℕ → Alone → Answer Done) → ((k : ℕ) → less k ≡ true → closed k ≡ true) → ActSim w closed v v1 a f own → ActSim w less v v1 a f own
  act_less closed less v v1 a f own sub x = record { go = λ s σ st sa ends. acts s σ (x.go s σ st sa ends) } where
    acts : (s : State) (σ : ℕ → Alone) → Acts w closed v1 a (λ p. own p (σ p)) σ (f s) s.uniforms → Acts w less v1 a (λ p. own p (σ p)) σ (f s) s.uniforms
    acts s σ ok = record { s = ok.s; after = ok.after; is = ok.is; alone = ok.alone; quiet = λ k i. ok.quiet k (sub k i); own_quiet = λ p k i. ok.own_quiet p k (sub k i); same = ok.same; stands = ok.stands }

-- ---- where the parts of a loop stand

-- the control of a loop, and of its body
abbrev pub looped : Bool → ℕ → Control → Control
looped p n c = if p then parted n c else c

abbrev pub turned : Bool → ℕ → Control → Control
turned t m c = if t then record { incomplete = c.incomplete; together = c.together; varying = true; outside = c.outside; turned = m } else c

pub loop_together : (p t : Bool) (n m : ℕ) (c : Control) → (turned t m (looped p n c)).together ≡ c.together
loop_together true true n m c = refl
loop_together true false n m c = refl
loop_together false true n m c = refl
loop_together false false n m c = refl

pub loop_joint : (p t : Bool) (n m : ℕ) (c : Control) → joint_of (turned t m (looped p n c)) ≡ joint_of c
loop_joint true true n m c = refl
loop_joint true false n m c = refl
loop_joint false true n m c = refl
loop_joint false false n m c = refl

pub loop_incomplete : (p t : Bool) (n m : ℕ) (c : Control) → (turned t m (looped p n c)).incomplete ≡ c.incomplete
loop_incomplete true true n m c = refl
loop_incomplete true false n m c = refl
loop_incomplete false true n m c = refl
loop_incomplete false false n m c = refl

pub branch_incomplete : (r : Rate) (n : ℕ) (c : Control) → (branch r n c).incomplete ≡ c.incomplete
branch_incomplete Varying n c = refl
branch_incomplete Uniform n c = refl

pub loop_there : (p t : Bool) (n m : ℕ) (c : Control) (o : Around) → all_there (turned t m (looped p n c)) o ≡ true → (p ≡ false) × (t ≡ false) × (all_there c o ≡ true)
loop_there true true n m c o e = absurd (true≢false (sym e))
loop_there true false n m c o e = absurd (true≢false (sym e))
loop_there false true n m c o e = absurd (true≢false (sym e))
loop_there false false n m c o e = (refl, refl, e)

-- what the loop closes in addition was declared before it
pub loop_shut : (p : Bool) (n : ℕ) (c : Control) → p ≡ true → (k : ℕ) → k < n → closed_in (looped p n c) k ≡ true
loop_shut true n c e k lt = or_first (nat_lt k n) (nat_lt k c.turned) (of_lt k n lt)
loop_shut false n c e k lt = absurd (true≢false (sym e))

pub loop_closed : (p : Bool) (n : ℕ) (c : Control) → ((k : ℕ) → closed_in c k ≡ true → k < n) → (k : ℕ) → closed_in c k ≡ true → closed_in (looped p n c) k ≡ true
loop_closed true n c b k e = or_first (nat_lt k n) (nat_lt k c.turned) (of_lt k n (b k e))
loop_closed false n c b k e = e

pub loop_before : (p : Bool) (n : ℕ) (c : Control) → ((k : ℕ) → closed_in c k ≡ true → k < n) → (k : ℕ) → closed_in (looped p n c) k ≡ true → k < n
loop_before true n c b k e = go (either_true (nat_lt k n) (nat_lt k c.turned) e) where
  go : (nat_lt k n ≡ true) ⊎ (nat_lt k c.turned ≡ true) → k < n
  go (inl i) = lt_of k n i
  go (inr i) = b k (or_second (nat_lt k c.outside) (nat_lt k c.turned) i)
loop_before false n c b k e = b k e

pub turn_shut : (t : Bool) (m : ℕ) (c : Control) → t ≡ true → (k : ℕ) → k < m → closed_in (turned t m c) k ≡ true
turn_shut true m c e k lt = or_second (nat_lt k c.outside) (nat_lt k m) (of_lt k m lt)
turn_shut false m c e k lt = absurd (true≢false (sym e))

pub turn_closed : (t : Bool) (m : ℕ) (c : Control) → ((k : ℕ) → closed_in c k ≡ true → k < m) → (k : ℕ) → closed_in c k ≡ true → closed_in (turned t m c) k ≡ true
turn_closed true m c b k e = or_second (nat_lt k c.outside) (nat_lt k m) (of_lt k m (b k e))
turn_closed false m c b k e = e

pub turn_before : (t : Bool) (m : ℕ) (c : Control) → ((k : ℕ) → closed_in c k ≡ true → k < m) → (k : ℕ) → closed_in (turned t m c) k ≡ true → k < m
turn_before true m c b k e = go (either_true (nat_lt k c.outside) (nat_lt k m) e) where
  go : (nat_lt k c.outside ≡ true) ⊎ (nat_lt k m ≡ true) → k < m
  go (inl i) = b k (or_first (nat_lt k c.outside) (nat_lt k c.turned) i)
  go (inr i) = lt_of k m i
turn_before false m c b k e = b k e

-- a test that is left out is uniform
abbrev pub test_rate : Option TExpr → Rate
test_rate None = Uniform
test_rate (Some e) = rate_of e

pub test_uniform : (e : Option TExpr) → tests_varying (option_map rate_of e) ≡ false → test_rate e ≡ Uniform
test_uniform None h = refl
test_uniform (Some e) h = go (rate_of e) h where
  go : (r : Rate) → by_rate r true false ≡ false → r ≡ Uniform
  go Uniform h = refl
  go Varying h = absurd (true≢false h)

pub not_both : (x y : Bool) → (x && y) ≡ false → (x ≡ false) ⊎ (y ≡ false)
not_both true y e = inr e
not_both false y e = inl refl

-- who stands after a loop did not break out of it
pub from_wider : (w : World) (here : Here) (v v1 : Scope) (a : Mask) (own : ℕ → End) (σ : ℕ → Alone) (res : Res) (u : ℕ → ℕ) → Leaves w here v v no_ways a own σ res u → Leaves w here v1 v no_ways a own σ res u
from_wider w here v v1 a own σ res u ok = record {
  s = ok.s;
  went = ok.went;
  broke = ok.broke;
  continued = ok.continued;
  returned = ok.returned;
  after = ok.after;
  how = ok.how;
  way = ok.way;
  is = ok.is;
  alone = ok.alone;
  went_is = ok.went_is;
  broke_is = ok.broke_is;
  continued_is = ok.continued_is;
  returned_is = ok.returned_is;
  may = ok.may;
  one_way = ok.one_way;
  no_return = ok.no_return;
  quiet = ok.quiet;
  own_quiet = ok.own_quiet;
  same = ok.same;
  same_broke = λ i p k j l. no_broke p (ok.how p) (ok.broke p) j (ok.broke_is p) (ok.may p);
  same_continued = λ i p k j l. no_continued p (ok.how p) (ok.continued p) j (ok.continued_is p) (ok.may p);
  stands = ok.stands;
} where
  no_broke : {A : Type 0} (p : ℕ) (h : How) (b : Bool) → b ≡ true → b ≡ (a p && is_broke h) → (a p ≡ true → may_leave no_ways h ≡ true) → A
  no_broke p h b e d m = find h (a p) (sym d ∙ e) m where
    find : {A : Type 0} (h : How) (t : Bool) → (t && is_broke h) ≡ true → (t ≡ true → may_leave no_ways h ≡ true) → A
    find Broke true e m = absurd (true≢false (sym (m refl)))
    find Going true e m = absurd (true≢false (sym e))
    find Continued true e m = absurd (true≢false (sym e))
    find Returned true e m = absurd (true≢false (sym e))
    find h false e m = absurd (true≢false (sym e))

  no_continued : {A : Type 0} (p : ℕ) (h : How) (b : Bool) → b ≡ true → b ≡ (a p && is_continued h) → (a p ≡ true → may_leave no_ways h ≡ true) → A
  no_continued p h b e d m = find h (a p) (sym d ∙ e) m where
    find : {A : Type 0} (h : How) (t : Bool) → (t && is_continued h) ≡ true → (t ≡ true → may_leave no_ways h ≡ true) → A
    find Continued true e m = absurd (true≢false (sym (m refl)))
    find Going true e m = absurd (true≢false (sym e))
    find Broke true e m = absurd (true≢false (sym e))
    find Returned true e m = absurd (true≢false (sym e))
    find h false e m = absurd (true≢false (sym e))

-- ---- quiet: where all are there nobody breaks or continues alone

pub quiet_branch : (r : Rate) (n : ℕ) (c : Control) (o : Around) (x1 y1 x2 y2 : Bool) → Quiet c o (by_rate r x1 x2) (by_rate r y1 y2) → Quiet (branch r n c) o x2 y2
quiet_branch Varying n c o x1 y1 x2 y2 q e = absurd (true≢false (sym e))
quiet_branch Uniform n c o x1 y1 x2 y2 q e = q e

pub quiet_left : (c : Control) (o : Around) (x1 y1 x2 y2 : Bool) → Quiet c o (x1 || x2) (y1 || y2) → Quiet c o x1 y1
quiet_left c o x1 y1 x2 y2 q e = (or_left x1 x2 (q e).0, or_left y1 y2 (q e).1)

pub quiet_right : (c : Control) (o : Around) (x1 y1 x2 y2 : Bool) → Quiet c o (x1 || x2) (y1 || y2) → Quiet c o x2 y2
quiet_right c o x1 y1 x2 y2 q e = (or_right x1 x2 (q e).0, or_right y1 y2 (q e).1)

pub is_joint : (c : Control) (o : Around) → all_there c o ≡ true → joint_of c ≡ true
is_joint c o e = and_first (joint_of c) (not o.in_foreach) (second (not c.varying) _ e) where
  second : (x y : Bool) → (x && y) ≡ true → y ≡ true
  second true y e = e
  second false y e = absurd (true≢false (sym e))
