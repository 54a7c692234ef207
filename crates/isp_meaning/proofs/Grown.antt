-- Two outcomes, the second with more turns: it keeps what was printed before, it is the first where that is over, and it
-- prints on where the first was cut.
use Rattle.std.specs.Prelude.{◌≡◌, ℕ, List, [], ◌++◌, Option, Some, None, Bool, true, false}
use Rattle.std.proofs.Common.{refl, sym, ap, ◌∙◌, subst, append_assoc, append-nil}
use Rattle.isp_base.specs.Prefixes.{IsPrefix}
use Rattle.isp_base.specs.Sets.{Mask, any}
use Rattle.isp_base.specs.declared.types.Span.{Span}
use Rattle.isp_base.specs.declared.trap.TrapKind.{TrapKind}
use Rattle.isp_meaning.specs.State.{State}
use Rattle.isp_meaning.specs.Payloads.{Payload, nothing}
use Rattle.isp_meaning.specs.Outcomes.{Val, Gives, Fails, Stops, Res, Went, Trapped, Cut, bind, with_value, checked, go_on, went_all, if_so, unless_empty, value_unless_empty}

pub prefix_self : (a : List ℕ) → IsPrefix a a
prefix_self a = ([], append-nil a)

pub prefix_on : (a b c : List ℕ) → IsPrefix a b → IsPrefix b c → IsPrefix a c
prefix_on a b c p q = (p.0 ++ q.0, sym (append_assoc a p.0 q.0) ∙ ap (λ z. z ++ q.0) p.1 ∙ q.1)

abbrev pub out_val : {A : Type 0} → Val A → List ℕ
out_val (Gives x s) = s.out
out_val (Fails t s) = s.out
out_val (Stops s) = s.out

abbrev pub out_res : Res → List ℕ
out_res (Went s g b c r) = s.out
out_res (Trapped t s) = s.out
out_res (Cut s) = s.out

abbrev pub LaterVal : {A : Type 0} → Val A → Val A → Type 0
LaterVal (Gives x s) v = v ≡ Gives x s
LaterVal (Fails t s) v = v ≡ Fails t s
LaterVal (Stops s) v = IsPrefix s.out (out_val v)

abbrev pub LaterRes : Res → Res → Type 0
LaterRes (Went s g b c r) v = v ≡ Went s g b c r
LaterRes (Trapped t s) v = v ≡ Trapped t s
LaterRes (Cut s) v = IsPrefix s.out (out_res v)

pub record Grown {A : Type 0} (o : List ℕ) (v v' : Val A) : Type 0 where
  pub from : IsPrefix o (out_val v')
  pub later : LaterVal v v'

pub record GrownRes (o : List ℕ) (v v' : Res) : Type 0 where
  pub from : IsPrefix o (out_res v')
  pub later : LaterRes v v'

-- ---- what is the same in both

later_self : {A : Type 0} (v : Val A) → LaterVal v v
later_self (Gives x s) = refl
later_self (Fails t s) = refl
later_self (Stops s) = prefix_self s.out

pub gives_grown : {A : Type 0} (x : A) (s : State) → Grown s.out (Gives x s) (Gives x s)
gives_grown x s = record { from = prefix_self s.out; later = refl }

pub checked_grown : {A : Type 0} (o : Option ℕ) (k : TrapKind) (p : Span) (s : State) (x : A) → Grown s.out (checked o k p s x) (checked o k p s x)
checked_grown None k p s x = record { from = prefix_self s.out; later = refl }
checked_grown (Some i) k p s x = record { from = prefix_self s.out; later = refl }

pub went_grown : (s : State) (g b c r : Mask) → GrownRes s.out (Went s g b c r) (Went s g b c r)
went_grown s g b c r = record { from = prefix_self s.out; later = refl }

-- ---- one after the other

pub bind_from : {A B : Type 0} (o : List ℕ) (v : Val A) (go : A → State → Val B) → IsPrefix o (out_val v) → ((x : A) (s : State) → IsPrefix s.out (out_val (go x s))) → IsPrefix o (out_val (bind v go))
bind_from o (Gives x s) go p f = prefix_on o s.out _ p (f x s)
bind_from o (Fails t s) go p f = p
bind_from o (Stops s) go p f = p

bind_later : {A B : Type 0} (v v' : Val A) (go go' : A → State → Val B) → LaterVal v v' → ((x : A) (s : State) → Grown s.out (go x s) (go' x s)) → LaterVal (bind v go) (bind v' go')
bind_later (Gives x s) v' go go' l f = subst (λ z. LaterVal (go x s) (bind z go')) (sym l) (f x s).later
bind_later (Fails t s) v' go go' l f = ap (λ z. bind z go') l
bind_later (Stops s) v' go go' l f = bind_from s.out v' go' l (λ x s1. (f x s1).from)

pub bind_grown : {A B : Type 0} (o : List ℕ) (v v' : Val A) (go go' : A → State → Val B) → Grown o v v' → ((x : A) (s : State) → Grown s.out (go x s) (go' x s)) → Grown o (bind v go) (bind v' go')
bind_grown o v v' go go' l f = record { from = bind_from o v' go' l.from (λ x s. (f x s).from); later = bind_later v v' go go' l.later f }

pub with_from : {A : Type 0} (o : List ℕ) (v : Val A) (go : A → State → Res) → IsPrefix o (out_val v) → ((x : A) (s : State) → IsPrefix s.out (out_res (go x s))) → IsPrefix o (out_res (with_value v go))
with_from o (Gives x s) go p f = prefix_on o s.out _ p (f x s)
with_from o (Fails t s) go p f = p
with_from o (Stops s) go p f = p

with_later : {A : Type 0} (v v' : Val A) (go go' : A → State → Res) → LaterVal v v' → ((x : A) (s : State) → GrownRes s.out (go x s) (go' x s)) → LaterRes (with_value v go) (with_value v' go')
with_later (Gives x s) v' go go' l f = subst (λ z. LaterRes (go x s) (with_value z go')) (sym l) (f x s).later
with_later (Fails t s) v' go go' l f = ap (λ z. with_value z go') l
with_later (Stops s) v' go go' l f = with_from s.out v' go' l (λ x s1. (f x s1).from)

pub with_grown : {A : Type 0} (o : List ℕ) (v v' : Val A) (go go' : A → State → Res) → Grown o v v' → ((x : A) (s : State) → GrownRes s.out (go x s) (go' x s)) → GrownRes o (with_value v go) (with_value v' go')
with_grown o v v' go go' l f = record { from = with_from o v' go' l.from (λ x s. (f x s).from); later = with_later v v' go go' l.later f }

pub go_from : (o : List ℕ) (v : Res) (go : State → Mask → Mask → Mask → Mask → Res) → IsPrefix o (out_res v) → ((s : State) (g b c r : Mask) → IsPrefix s.out (out_res (go s g b c r))) → IsPrefix o (out_res (go_on v go))
go_from o (Went s g b c r) go p f = prefix_on o s.out _ p (f s g b c r)
go_from o (Trapped t s) go p f = p
go_from o (Cut s) go p f = p

go_later : (v v' : Res) (go go' : State → Mask → Mask → Mask → Mask → Res) → LaterRes v v' → ((s : State) (g b c r : Mask) → GrownRes s.out (go s g b c r) (go' s g b c r)) → LaterRes (go_on v go) (go_on v' go')
go_later (Went s g b c r) v' go go' l f = subst (λ z. LaterRes (go s g b c r) (go_on z go')) (sym l) (f s g b c r).later
go_later (Trapped t s) v' go go' l f = ap (λ z. go_on z go') l
go_later (Cut s) v' go go' l f = go_from s.out v' go' l (λ s1 g b c r. (f s1 g b c r).from)

pub go_grown : (o : List ℕ) (v v' : Res) (go go' : State → Mask → Mask → Mask → Mask → Res) → GrownRes o v v' → ((s : State) (g b c r : Mask) → GrownRes s.out (go s g b c r) (go' s g b c r)) → GrownRes o (go_on v go) (go_on v' go')
go_grown o v v' go go' l f = record { from = go_from o v' go' l.from (λ s g b c r. (f s g b c r).from); later = go_later v v' go go' l.later f }

-- ---- choices

pub if_grown : {A : Type 0} (o : List ℕ) (t : Bool) (m m' n n' : State → Val A) (s : State) → Grown o (m s) (m' s) → Grown o (n s) (n' s) → Grown o (if_so t m n s) (if_so t m' n' s)
if_grown o true m m' n n' s p q = p
if_grown o false m m' n n' s p q = q

pub if_res_grown : (o : List ℕ) (t : Bool) (m m' n n' : State → Res) (s : State) → GrownRes o (m s) (m' s) → GrownRes o (n s) (n' s) → GrownRes o (if_so t m n s) (if_so t m' n' s)
if_res_grown o true m m' n n' s p q = p
if_res_grown o false m m' n n' s p q = q

pub unless_grown : (gang : ℕ) (a : Mask) (s : State) (f f' : Mask → State → Res) → ((b : Mask) (t : State) → GrownRes t.out (f b t) (f' b t)) → GrownRes s.out (unless_empty gang a s f) (unless_empty gang a s f')
unless_grown gang a s f f' p = if_res_grown s.out (any gang a) (f a) (f' a) (went_all a) (went_all a) s (p a s) (went_grown s a _ _ _)

pub value_unless_grown : (gang : ℕ) (a : Mask) (s : State) (f f' : Mask → State → Val Payload) → ((b : Mask) (t : State) → Grown t.out (f b t) (f' b t)) → Grown s.out (value_unless_empty gang a s f) (value_unless_empty gang a s f')
value_unless_grown gang a s f f' p = if_grown s.out (any gang a) (f a) (f' a) (Gives nothing) (Gives nothing) s (p a s) (gives_grown nothing s)
