-- A machine that runs for so many instructions, and then for so many more: what it did, and what it added to its output.
use Rattle.std.proofs.Common.{take, Result, Ok, Err, IfOk, OnErr, append-nil, length-append, false, ◌≡◌, ◌++◌, ◌+◌, ◌-◌, ◌≤◌, ◌<◌, ℕ, zero, suc, List, [], Bool, Option, refl, sym, ap, ◌∙◌, subst, append_assoc, length, drop, arith}
use Rattle.isp_base.specs.Outcomes.{out_of}
use Rattle.isp_base.specs.Prefixes.{IsPrefix}
use Rattle.isp_base.specs.Rows.{Row}
use Rattle.isp_code.specs.Conf.{Conf, State, Runs as Going, Trapped as Fell, Ended as Over}
use Rattle.isp_code.specs.Listing.{Listing}
use Rattle.isp_code.specs.Machine.{after, advance, outcome}
use Rattle.isp_code.proofs.Steps.{after-sum}
use Rattle.isp_machine.specs.Kept.{Kept, state}
use Rattle.isp_machine.specs.Runs.{Made, RunGives, conf, IsTrapped, IsEnded}
use Rattle.isp_machine.specs.declared.stop.Stop.{Stop}
use Rattle.isp_machine.specs.declared.stop.Stop.TheVariants.{Running, Trapped, Ended, Memory}
use Rattle.isp_masks_code.proofs.Lemmas.{grows}
use Rattle.isp_output.specs.Stops.{Adds, MadeSome, out_now}
use Rattle.isp_output.proofs.Written.{adds_nil, rest_is, took_both, took_later}
use Rattle.std.proofs.lemmas.Grind.{common_steps}
use Rattle.isp_output.specs.declared.sink.SinkFault.{SinkFault}
use Rattle.isp_output.specs.Sinks.{TookAll, TookSome}

-- ---- so many instructions and then so many more

pub made_on : (m n : ℕ) (a b c : Kept) → Made m a b → Made n b c → Made (m + n) a c
made_on m n a b c p q = record {
  state_is =
      q.state_is ∙ ap (λ k. after k n (state b)) p.code_same ∙ ap (after a.code n) p.state_is ∙ sym (after-sum a.code n m (state a))
      ∙ (let e : n + m ≡ m + n = omega arith in ap (λ k. after a.code k (state a)) e);
  code_same = q.code_same ∙ p.code_same;
  given_same = q.given_same ∙ p.given_same;
}

pub gives_on : (m n : ℕ) (a b c : Kept) (stop : Stop) → Made m a b → RunGives n b c stop → RunGives (m + n) a c stop
gives_on m n a b c Running p g = (made_on m n a b c p g.0, g.1)
gives_on m n a b c (Trapped t) p g = (made_on m n a b c p g.0, g.1)
gives_on m n a b c Ended p g = (made_on m n a b c p g.0, g.1)
gives_on m n a b c Memory p g = (m + g.0, (let h : g.0 < n = g.1 in omega arith), made_on m g.0 a b c p g.2, g.3)

pub some_on : (m n : ℕ) (a b c : Kept) → Made m a b → MadeSome n b c → MadeSome (m + n) a c
some_on m n a b c p g = (m + g.0, (let h : g.0 ≤ n = g.1 in omega arith), made_on m g.0 a b c p g.2)

pub some_made : (n : ℕ) (a b : Kept) (stop : Stop) → RunGives n a b stop → MadeSome n a b
some_made n a b Running g = (n, omega arith, g.0)
some_made n a b (Trapped t) g = (n, omega arith, g.0)
some_made n a b Ended g = (n, omega arith, g.0)
some_made n a b Memory g = (g.0, (let h : g.0 < n = g.1 in omega arith), g.2)

-- ---- an end stays

module _ (code : Listing) where
  fell_stays : (d : ℕ) (t : _) (c : Conf) → after code d (Fell t c) ≡ Fell t c
  fell_stays zero t c = refl
  fell_stays (suc d) t c = ap (advance code) (fell_stays d t c)

  over_stays : (d : ℕ) (x : _) (c : Conf) → after code d (Over x c) ≡ Over x c
  over_stays zero x c = refl
  over_stays (suc d) x c = ap (advance code) (over_stays d x c)

  trapped_stays : (d : ℕ) (t : _) (z : State) → IsTrapped t z → after code d z ≡ z
  trapped_stays d t (Going c) h = absurd h
  trapped_stays d t (Fell u c) h = fell_stays d u c
  trapped_stays d t (Over x c) h = absurd h

  ended_stays : (d : ℕ) (z : State) → IsEnded z → after code d z ≡ z
  ended_stays d (Going c) h = absurd h
  ended_stays d (Fell u c) h = absurd h
  ended_stays d (Over x c) h = over_stays d x c

made_longer : (n b : ℕ) (old now : Kept) → n ≤ b → Made n old now → after old.code (b - n) (state now) ≡ state now → Made b old now
made_longer n b old now le p stays = record {
  state_is =
      sym stays ∙ ap (after old.code (b - n)) p.state_is ∙ sym (after-sum old.code (b - n) n (state old))
      ∙ (let e : b - n + n ≡ b = omega arith in ap (λ k. after old.code k (state old)) e);
  code_same = p.code_same;
  given_same = p.given_same;
}

pub gives_longer : (n b : ℕ) (old now : Kept) (stop : Stop) → n ≤ b → RunGives n old now stop → (stop ≡ Running → ⊥) → RunGives b old now stop
gives_longer n b old now Running le g ne = absurd (ne refl)
gives_longer n b old now (Trapped t) le g ne = (made_longer n b old now le g.0 (trapped_stays old.code (b - n) t (state now) g.1), g.1)
gives_longer n b old now Ended le g ne = (made_longer n b old now le g.0 (ended_stays old.code (b - n) (state now) g.1), g.1)
gives_longer n b old now Memory le g ne = (g.0, (let h : g.0 < n = g.1 in omega arith), g.2, g.3)

-- ---- the output

pub conf_out : (rs : List Row) (z : State) → out_of (outcome rs z) ≡ (conf z).out
conf_out rs (Going c) = refl
conf_out rs (Fell t c) = refl
conf_out rs (Over x c) = refl

pub output_grows : (n : ℕ) (old now : Kept) → MadeSome n old now → IsPrefix (out_now old) (out_now now)
output_grows n old now s =
    let m = s.0 in
    let g : IsPrefix (out_of (outcome [] (state old))) (out_of (outcome [] (after old.code m (state old)))) = grows old.code [] 0 m (state old) (omega arith) in
    let first : out_of (outcome [] (state old)) ≡ out_now old = conf_out [] (state old) in
    let last : out_of (outcome [] (after old.code m (state old))) ≡ out_now now = ap (λ z. out_of (outcome [] z)) (sym s.2.state_is) ∙ conf_out [] (state now) in
    (g.0, ap (λ z. z ++ g.0) (sym first) ∙ g.1 ∙ last)

pub adds_all : (a b c : Kept) (o p q : Option (List ℕ)) (f g : Bool) → Adds a b (λ xs. TookAll xs o p f) → Adds b c (λ ys. TookAll ys p q g) → Adds a c (λ zs. TookAll zs o q g)
adds_all a b c o p q f g x y =
    record {
      bytes = x.bytes ++ y.bytes;
      added = y.added ∙ ap (λ z. z ++ y.bytes) x.added ∙ append_assoc (out_now a) x.bytes y.bytes;
      are = took_both x.bytes y.bytes o p q f g x.are y.are;
    }

pub adds_some : (a b c : Kept) (o p q : Option (List ℕ)) (f g : Bool) → Adds a b (λ xs. TookAll xs o p f) → Adds b c (λ ys. TookSome ys p q g) → Adds a c (λ zs. TookSome zs o q g)
adds_some a b c o p q f g x y =
    record {
      bytes = x.bytes ++ y.bytes;
      added = y.added ∙ ap (λ z. z ++ y.bytes) x.added ∙ append_assoc (out_now a) x.bytes y.bytes;
      are = took_later x.bytes y.bytes o p q f g x.are y.are;
    }

-- ---- one stretch

pub told_within : (n : ℕ) (old now : Kept) (stop : Stop) → RunGives n old now stop → length (out_now old) ≤ length (out_now now)
told_within n old now stop g =
    let p : IsPrefix (out_now old) (out_now now) = output_grows n old now (some_made n old now stop g) in
    let e : length (out_now old ++ p.0) ≡ length (out_now now) = ap length p.1 in
    omega (arith, length-append (out_now old) p.0)

-- what it adds is what is written, be it in whole or in part
pub wrote : (n : ℕ) (old now : Kept) (stop : Stop) → RunGives n old now stop → (told output : List ℕ) → told ≡ out_now old → output ≡ out_now now
    → (such : List ℕ → Type 0) → such (take (length output - length told) (drop (length told) output)) → Adds old now such
wrote n old now stop g told output was is such h =
    let p : IsPrefix (out_now old) (out_now now) = output_grows n old now (some_made n old now stop g) in
    let e : drop (length told) output ≡ p.0 = ap (λ z. drop (length z) output) was ∙ ap (drop (length (out_now old))) (is ∙ sym p.1) ∙ behind (out_now old) p.0 in
    record { bytes = p.0; added = sym p.1; are = subst such (rest_is output (length told) ∙ e) h }
  where
    behind : (xs ys : List ℕ) → drop (length xs) (xs ++ ys) ≡ ys
    behind xs ys = grind (arith, common_steps)

-- ---- stretches one after the other

pub started : (b : ℕ) (a : Kept) → Made (b - b) a a
started b a = let e : b - b ≡ 0 = omega arith in rw e (record { state_is = refl; code_same = refl; given_same = refl })

pub adds_none : (a : Kept) (o : Option (List ℕ)) (f : Bool) → f ≡ false → Adds a a (λ xs. TookAll xs o o f)
adds_none a o f e = record { bytes = []; added = sym (append-nil (out_now a)); are = (sym (adds_nil o), e) }

pub gives_through : (b m n : ℕ) (x y z : Kept) (stop : Stop) → m + n ≡ b → Made m x y → RunGives n y z stop → RunGives b x z stop
gives_through b m n x y z stop e p g = subst (λ k. RunGives k x z stop) e (gives_on m n x y z stop p g)

pub gives_early : (b m n : ℕ) (x y z : Kept) (stop : Stop) → m + n ≤ b → Made m x y → RunGives n y z stop → (stop ≡ Running → ⊥) → RunGives b x z stop
gives_early b m n x y z stop le p g ne = gives_longer (m + n) b x z stop le (gives_on m n x y z stop p g) ne

pub some_through : (b m n : ℕ) (x y z : Kept) → m + n ≤ b → Made m x y → MadeSome n y z → MadeSome b x z
some_through b m n x y z le p g =
    let q : MadeSome (m + n) x z = some_on m n x y z p g in
    (q.0, (let h : q.0 ≤ m + n = q.1 in omega arith), q.2)

pub made_more : (b left n : ℕ) (x y z : Kept) → n ≤ left → left ≤ b → Made (b - left) x y → Made n y z → Made (b - (left - n)) x z
made_more b left n x y z le within p q =
    let e : b - left + n ≡ b - (left - n) = omega arith in
    subst (λ k. Made k x z) e (made_on (b - left) n x y z p q)

-- ---- the last stretch

module _ (b left : ℕ) (x y z : Kept) (within : left ≤ b) (made : Made (b - left) x y) where
  pub last_ran : (r : Result Stop SinkFault) → IfOk r (RunGives left y z) → IfOk r (RunGives b x z)
  last_ran (Ok stop) h = gives_through b (b - left) left x y z stop (omega arith) made h
  last_ran (Err e) h = tt

  pub last_cut : (r : Result Stop SinkFault) → OnErr r (MadeSome left y z) → OnErr r (MadeSome b x z)
  last_cut (Ok stop) h = tt
  last_cut (Err e) h = some_through b (b - left) left x y z (omega arith) made h

pub last_some : (x y z : Kept) (o p q : Option (List ℕ)) (f g : Bool) → Adds x y (λ xs. TookAll xs o p f) → (r : Result Stop SinkFault) → OnErr r (Adds y z (λ ys. TookSome ys p q g)) → OnErr r (Adds x z (λ zs. TookSome zs o q g))
last_some x y z o p q f g h (Ok stop) k = tt
last_some x y z o p q f g h (Err e) k = adds_some x y z o p q f g h k
