-- When a statement over a set does in each member what it does there alone.
--     closed   the uniform variables that nobody may assign here, by number
--     joint    nobody returns from the function before others do
--     top      all that made the call are here
use Rattle.std.specs.Prelude.{◌≡◌, ◌⊎◌, ℕ, Bool, true, false, ◌&&◌, ◌||◌, not}
use Rattle.isp_base.specs.Sets.{Mask, nobody, without}
use Rattle.isp_typed.specs.Scoped.{Scope}
use Rattle.isp_meaning.specs.State.{State}
use Rattle.isp_meaning.specs.Outcomes.{Val, Gives, Done, Res, Went}
use Rattle.isp_solo_meaning.specs.Alone.{Alone}
use Rattle.isp_solo_meaning.specs.Answers.{Answer, How, Going, Broke, Continued, Returned, End, Does, Dies, Lasts}
use Rattle.isp_solo_laws.specs.Stands.{World, Within, Stands, Same, IfIn, EndsWithin}
use Rattle.isp_solo_laws.specs.Values.{AnswersAlone}

-- ---- how a statement is left

abbrev pub is_going : How → Bool
is_going Going = true
is_going Broke = false
is_going Continued = false
is_going Returned = false

abbrev pub is_broke : How → Bool
is_broke Going = false
is_broke Broke = true
is_broke Continued = false
is_broke Returned = false

abbrev pub is_continued : How → Bool
is_continued Going = false
is_continued Broke = false
is_continued Continued = true
is_continued Returned = false

abbrev pub is_returned : How → Bool
is_returned Going = false
is_returned Broke = false
is_returned Continued = false
is_returned Returned = true

-- the jumps of the loop around that stand in a statement, and those in a varying branch of it, by which some leave alone
pub record Ways : Type 0 where
  pub breaks : Bool
  pub continues : Bool
  pub some_break : Bool
  pub some_continue : Bool

-- an instance may leave so
abbrev pub may_leave : Ways → How → Bool
may_leave ways Going = true
may_leave ways Broke = ways.breaks
may_leave ways Continued = ways.continues
may_leave ways Returned = true

-- and others another way
abbrev pub may_part : Bool → Ways → How → Bool
may_part joint ways Going = false
may_part joint ways Broke = ways.some_break
may_part joint ways Continued = ways.some_continue
may_part joint ways Returned = not joint

-- no jump; the jumps of two parts; those of two branches that only some take, who may leave alone
abbrev pub no_ways : Ways
no_ways = record { breaks = false; continues = false; some_break = false; some_continue = false }

abbrev pub ways_of : Ways → Ways → Ways
ways_of x y =
    record { breaks = x.breaks || y.breaks; continues = x.continues || y.continues; some_break = x.some_break || y.some_break; some_continue = x.some_continue || y.some_continue }

abbrev pub parted_ways : Ways → Ways → Ways
parted_ways x y =
    record { breaks = x.breaks || y.breaks; continues = x.continues || y.continues; some_break = x.breaks || y.breaks; some_continue = x.continues || y.continues }

-- ---- where a statement stands

pub record Here : Type 0 where
  pub closed : ℕ → Bool
  pub joint : Bool
  pub top : Bool

-- all that made the call are in the set
abbrev pub HasAll : World → Mask → Type 0
HasAll w a = (p : ℕ) → w.callers p ≡ true → a p ≡ true

-- ---- statements that all leave by going on

-- it ends, and has touched no more than the whole run
abbrev pub LeavesWithin : Alone → End → Type 0
LeavesWithin last (Does s how) = Within last s
LeavesWithin last (Dies t s) = ⊥
LeavesWithin last (Lasts s) = ⊥

-- Uniforms may be assigned, not the closed ones; after it the members have the gang's again, those in scope v1.
pub record Acts (w : World) (closed : ℕ → Bool) (v1 : Scope) (a : Mask) (own : ℕ → Answer Done) (σ : ℕ → Alone) (f : Val Done) (u : ℕ → ℕ) : Type 0 where
  pub s : State
  pub after : ℕ → Alone
  pub is : f ≡ Gives tt s
  pub alone : (p : ℕ) → AnswersAlone (a p) (own p) (σ p) tt (after p)
  pub quiet : (k : ℕ) → closed k ≡ true → s.uniforms k ≡ u k
  pub own_quiet : (p k : ℕ) → closed k ≡ true → (after p).uniforms k ≡ (σ p).uniforms k
  pub same : Same v1 a s.uniforms after
  pub stands : Stands w s after

pub record ActSim (w : World) (closed : ℕ → Bool) (v v1 : Scope) (a : Mask) (f : State → Val Done) (own : ℕ → Alone → Answer Done) : Type 0 where
  pub go : (s : State) (σ : ℕ → Alone) → Stands w s σ → Same v a s.uniforms σ → ((p : ℕ) → IfIn (a p) (EndsWithin (w.last p) (own p (σ p)))) → Acts w closed v1 a (λ p. own p (σ p)) σ (f s) s.uniforms

-- ---- statements

-- off, an instance stays as it is; on, its run alone is left in this way, with the state s1
abbrev pub LeavesAlone : Bool → End → Alone → How → Alone → Type 0
LeavesAlone true r s0 how s1 = r ≡ Does s1 how
LeavesAlone false r s0 how s1 = s1 ≡ s0

-- Each member leaves as it does alone, and is in the set of its way. All leave one way, but those who leave by something varying.
-- Those that go on have the gang's uniforms, and so have those that break or continue where none does so alone.
pub record Leaves (w : World) (here : Here) (v v1 : Scope) (ways : Ways) (a : Mask) (own : ℕ → End) (σ : ℕ → Alone) (res : Res) (u : ℕ → ℕ) : Type 0 where
  pub s : State
  pub went : Mask
  pub broke : Mask
  pub continued : Mask
  pub returned : Mask
  pub after : ℕ → Alone
  pub how : ℕ → How
  pub way : How
  pub is : res ≡ Went s went broke continued returned
  pub alone : (p : ℕ) → LeavesAlone (a p) (own p) (σ p) (how p) (after p)
  pub went_is : (p : ℕ) → went p ≡ (a p && is_going (how p))
  pub broke_is : (p : ℕ) → broke p ≡ (a p && is_broke (how p))
  pub continued_is : (p : ℕ) → continued p ≡ (a p && is_continued (how p))
  pub returned_is : (p : ℕ) → returned p ≡ (a p && is_returned (how p))
  pub may : (p : ℕ) → a p ≡ true → may_leave ways (how p) ≡ true
  pub one_way : (p : ℕ) → a p ≡ true → (how p ≡ way) ⊎ (may_part here.joint ways (how p) ≡ true)
  pub no_return : here.joint ≡ true → here.top ≡ false → (p : ℕ) → a p ≡ true → is_returned (how p) ≡ false
  pub quiet : (k : ℕ) → here.closed k ≡ true → s.uniforms k ≡ u k
  pub own_quiet : (p k : ℕ) → here.closed k ≡ true → (after p).uniforms k ≡ (σ p).uniforms k
  pub same : Same v1 went s.uniforms after
  pub same_broke : ways.some_break ≡ false → Same v broke s.uniforms after
  pub same_continued : ways.some_continue ≡ false → Same v continued s.uniforms after
  pub stands : Stands w s after

pub record StmtSim (w : World) (here : Here) (v v1 : Scope) (ways : Ways) (a : Mask) (f : State → Res) (own : ℕ → Alone → End) : Type 0 where
  pub go : (s : State) (σ : ℕ → Alone) → Stands w s σ → Same v a s.uniforms σ → (here.top ≡ true → HasAll w a) → ((p : ℕ) → IfIn (a p) (LeavesWithin (w.last p) (own p (σ p))))
      → Leaves w here v v1 ways a (λ p. own p (σ p)) σ (f s) s.uniforms

-- ---- loops: the instances that make a turn now, and those that returned before

-- a loop is left by going on or by a return
abbrev pub is_over : How → Bool
is_over Going = true
is_over Broke = false
is_over Continued = false
is_over Returned = true

-- Each ends the loop as it does alone. Where instances do not part in the loop, those that go on have the gang's uniforms. Where
-- all made each turn together they end it one way.
pub record LoopLeaves (w : World) (closed : ℕ → Bool) (v : Scope) (parts joint top : Bool) (a returned all : Mask) (own : ℕ → End) (σ : ℕ → Alone) (res : Res) (u : ℕ → ℕ) : Type 0 where
  pub s : State
  pub back : Mask
  pub after : ℕ → Alone
  pub how : ℕ → How
  pub way : How
  pub is : res ≡ Went s (without all back) nobody nobody back
  pub alone : (p : ℕ) → LeavesAlone (a p) (own p) (σ p) (how p) (after p)
  pub back_is : (p : ℕ) → back p ≡ (returned p || (a p && is_returned (how p)))
  pub over : (p : ℕ) → a p ≡ true → is_over (how p) ≡ true
  pub one_way : top ≡ true → (p : ℕ) → a p ≡ true → how p ≡ way
  pub no_return : joint ≡ true → top ≡ false → (p : ℕ) → a p ≡ true → how p ≡ Going
  pub quiet : (k : ℕ) → closed k ≡ true → s.uniforms k ≡ u k
  pub own_quiet : (p k : ℕ) → closed k ≡ true → (after p).uniforms k ≡ (σ p).uniforms k
  pub same : parts ≡ false → (p k : ℕ) → a p ≡ true → how p ≡ Going → v k ≡ true → (after p).uniforms k ≡ s.uniforms k
  pub stands : Stands w s after
