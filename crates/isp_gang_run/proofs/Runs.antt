-- Laws of statements: where members left, and what comes after a statement or a value.
use Rattle.std.proofs.Common.{◌≡◌, refl, sym, ap, ℕ, Bool, true, false, ◌||◌}
use Rattle.std.proofs.Math.Path.{fun_ext}
use Rattle.isp_base.specs.Sets.{Mask, nobody, union}
use Rattle.isp_meaning.specs.State.{State, Frame}
use Rattle.isp_meaning.specs.Payloads.{Payload, One}
use Rattle.isp_meaning.specs.Outcomes as Outcomes
use Rattle.isp_meaning.specs.Outcomes.{Val, Gives, Fails, Stops, Res, Went, Done, go_on, with_value}
use Rattle.isp_gang_run.specs.Tasks.{Store, Parts, Goes, go, given, ran, done}

-- ---- sets

or_false : (b : Bool) → b || false ≡ b
or_false true = refl
or_false false = refl

or_assoc : (a b c : Bool) → a || (b || c) ≡ (a || b) || c
or_assoc true b c = refl
or_assoc false b c = refl

pub union_nobody : (a : Mask) → union a nobody ≡ a
union_nobody a = fun_ext (λ p. or_false (a p))

pub union_assoc : (a b c : Mask) → union a (union b c) ≡ union (union a b) c
union_assoc a b c = fun_ext (λ p. or_assoc (a p) (b p) (c p))

-- ---- a statement, and what comes after it

pub reran : (r : Store) (s : State) (m : Payload) (p : Parts) (v : Res) → ran (record r { state = s; value = m; parts = p }) v ≡ ran r v
reran r s m p (Went s1 g b c q) = refl
reran r s m p (Outcomes.Trapped t s1) = refl
reran r s m p (Outcomes.Cut s1) = refl

pub then_ran : (r : Store) (v : Res) (f : Frame → ℕ → State → Parts → Res) (next : Store → Goes)
    → go (ran r (go_on v (λ s g b c q. f r.frame r.left s (record { went = g; broke = b; continued = c; returned = q })))) next ≡ go (ran r v) (λ q. go (ran q (f q.frame q.left q.state q.parts)) next)
then_ran r (Went s g b c q) f next = ap (λ x. go x next) (sym (reran r s (One 0) (record { went = g; broke = b; continued = c; returned = q }) (f r.frame r.left s (record { went = g; broke = b; continued = c; returned = q }))))
then_ran r (Outcomes.Trapped t s) f next = refl
then_ran r (Outcomes.Cut s) f next = refl

pub value_ran : (r : Store) (v : Val Payload) (f : Frame → ℕ → Payload → State → Res) (next : Store → Goes)
    → go (ran r (with_value v (f r.frame r.left))) next ≡ go (given r v) (λ q. go (ran q (f q.frame q.left q.value q.state)) next)
value_ran r (Gives m s) f next = ap (λ x. go x next) (sym (reran r s m r.parts (f r.frame r.left m s)))
value_ran r (Fails t s) f next = refl
value_ran r (Stops s) f next = refl

pub done_ran : (r : Store) (v : Val Done) (f : Frame → ℕ → State → Res) (next : Store → Goes)
    → go (ran r (with_value v (λ _ s. f r.frame r.left s))) next ≡ go (done r v) (λ q. go (ran q (f q.frame q.left q.state)) next)
done_ran r (Gives m s) f next = ap (λ x. go x next) (sym (reran r s (One 0) r.parts (f r.frame r.left s)))
done_ran r (Fails t s) f next = refl
done_ran r (Stops s) f next = refl
