-- What assignments and declarations leave to be done.
use Rattle.std.proofs.Common.{◌≡◌, refl, sym, ap, subst, ◌∙◌, ◌++◌, ℕ, List, [], ◌∷◌, Bool, true, false, Bor, Result, Ok, Err}
use Rattle.isp_base.specs.Access.{is_zero, element}
use Rattle.isp_base.specs.Traps.{trap}
use Rattle.isp_base.specs.Values.{op_bits}
use Rattle.isp_base.specs.declared.operators.BinOp.{BinOp}
use Rattle.isp_base.specs.declared.trap.TrapKind.TheVariants.{Divide, Index}
use Rattle.isp_base.specs.declared.types.Elem.{Elem}
use Rattle.isp_base.specs.declared.types.Span.{Span}
use Rattle.isp_base.specs.declared.types.Ty.{Ty}
use Rattle.isp_typed.specs.declared.expr.TypedExpr.{TypedExpr}
use Rattle.isp_typed.specs.declared.expr.TypedPlace.{TypedPlace}
use Rattle.isp_typed.specs.declared.stmt.TypedItem.{TypedItem}
use Rattle.isp_typed.specs.declared.variable.ArrayVariable.{ArrayVariable}
use Rattle.isp_typed.specs.Typed.{TPlace, t_element, t_place, t_with_value, place_type, place_span, elem_of}
use Rattle.isp_typed.specs.Views.{expr_of, place_of, item_of, items_of, simple_of}
use Rattle.isp_meaning.specs.Payloads.{converted}
use Rattle.isp_solo_meaning.specs.Alone.{Alone, written}
use Rattle.isp_solo_meaning.specs.Answers.{How, Going, Answer, Has, Bad, Long, and_then, unless, choose}
use Rattle.isp_solo_meaning.specs.Places.{Spot, AnElement, outside, kept}
use Rattle.isp_solo_meaning.specs.Values.{found, held, spot}
use Rattle.isp_solo_meaning.specs.Steps.{item, items, simple, update}
use Rattle.isp_solo_run.specs.Seen.{frame_seen, spot_seen}
use Rattle.isp_typed.specs.declared.stmt.TypedSimple.{TypedSimple}
use Rattle.isp_solo_run.specs.Due.{simple_due, item_due, items_due}
use Rattle.isp_solo_run.specs.Tasks.{DoesTask, Declares}
use Rattle.isp_solo_run.specs.Tasks.{Store, Goes, Trapped, go, given, done, gives, goes, finds, loads, writes, targets, updates, declares, write, does_task, does_both}
use Rattle.isp_solo_run.specs.Tasks.{rest, store_seen, state_seen, value_at, bound_in, calls_in, Tells, Finds, HasFound, Changes}
use Rattle.isp_solo_run.specs.declared.places.Place.{Place}
use Rattle.isp_solo_run.specs.declared.places.Place.TheVariants as place
use Rattle.isp_solo_run.specs.declared.places.Writing.{Writing}
use Rattle.isp_solo_run.specs.declared.places.Writing.TheVariants as writing
use Rattle.isp_solo_run.specs.declared.state.Single.{Single}
use Rattle.isp_solo_run.specs.declared.state.Stop.{Stop}
use Rattle.isp_solo_run.specs.declared.state.Stop.TheVariants as stop
use Rattle.isp_solo_run.specs.declared.tasks.Task.TheVariants as task
use Rattle.isp_solo_run.proofs.Steps.{done_then, done_done, tells_by, tells_from, then_tells, changed_tells}

-- what is held becomes the value, or stops the run
pub held_tells : (q : Result (Unit {0}) Stop) (old mid new : Single) (sp : Span) (k : Spot) (x : ℕ) → Finds (Ok x) old mid sp k → Tells q mid new (gives x) 0 → Tells q old new (loads old sp k) 0
held_tells q old mid new sp k x f h =
    tells_from old (record old { arrays = mid.arrays }) mid new (loads old sp k) (λ e. gives x) (λ e. 0) (λ e. e.left) f.1
    (ap (given (store_seen old)) f.0 ∙ ap (λ (e : Single). given (record (store_seen old) { frame = frame_seen e.here; left = e.left }) (Has x (state_seen mid))) (sym f.1))
    refl q h

pub held_stops : (n : ℕ) (e : Stop) (old new : Single) (sp : Span) (k : Spot) → Finds (Err e) old new sp k → Tells (Err e) old new (loads old sp k) n
held_stops n stop.Memory old new sp k f = tt
held_stops n (stop.Trapped t) old new sp k f = ap (given (store_seen old)) f
held_stops n stop.Cut old new sp k f = absurd f

module _ (old : Single) (r : Store) where
  pub place_node : (a : ArrayVariable) (y : Bor TypedExpr) (from : Elem) (t : Ty) (sp : Span) → from ≡ elem_of (expr_of y.now) → finds old (t_place (t_element a (expr_of y.now) t sp)) r ≡ does_both old (task.Value y) (task.Load a from sp) r
  place_node a y from t sp typed = by (value_at old.setting r (expr_of y.now) r.state) ∙ ap (λ k. does_both old (task.Value y) (task.Load a k sp) r) (sym typed)
    where
      by : (v : Answer ℕ) → given r (and_then (and_then v (λ j s1. Has (AnElement a (elem_of (expr_of y.now)) j) s1))
          (λ k s1. held (bound_in old.setting) old.setting.instance r.frame sp k s1))
          ≡ go (given r v) (does_task old (task.Load a (elem_of (expr_of y.now)) sp))
      by (Has i s) = refl
      by (Bad t s) = refl
      by (Long s) = refl

  -- what is written looks at the frame and the level alone
  writing_same : (w : Writing) (q : TPlace) (k : Spot) (s : Alone) (i : ℕ) (h : How) → done r (write old.setting w q k r s) ≡ done r (write old.setting w q k (record r { state = s; value = i; how = h }) s)
  writing_same (writing.Assign x) q k s i h = refl
  writing_same (writing.Update op e x z) q k s i h = refl
  writing_same (writing.Step op e z) q k s i h = refl

  -- the index of a target goes first
  pub target_node : (a : ArrayVariable) (p : Bor TypedPlace) (y : Bor TypedExpr) (from : Elem) (t : Ty) (sp : Span) (w : Writing) → from ≡ elem_of (expr_of y.now) → place_of p.now ≡ t_element a (expr_of y.now) t sp
      → targets old w (place_of p.now) r ≡ does_both old (task.Value y) (task.Indexed p a from w) r
  target_node a p y from t sp w typed is =
      ap (λ k. done r (and_then (spot_in k) (λ z s. write old.setting w (place_of p.now) z r s))) is
      ∙ by (value_at old.setting r (expr_of y.now) r.state) ∙ ap (λ k. does_both old (task.Value y) (task.Indexed p a k w) r) (sym typed)
    where
      spot_in : TPlace → Answer Spot
      spot_in k = spot (bound_in old.setting) old.setting.instance r.frame (calls_in old.setting r.left) k r.state

      by : (v : Answer ℕ) → done r (and_then (and_then v (λ j s1. Has (AnElement a (elem_of (expr_of y.now)) j) s1)) (λ z s. write old.setting w (place_of p.now) z r s)) ≡ go (given r v) (does_task old (task.Indexed p a (elem_of (expr_of y.now)) w))
      by (Has i s) = writing_same w (place_of p.now) (AnElement a (elem_of (expr_of y.now)) i) s i Going
      by (Bad t s) = refl
      by (Long s) = refl

  -- the right side comes next
  pub assign_node : (x : Bor TypedExpr) (q : TPlace) (k : Place) (sp : Span) → sp ≡ place_span q → writes old (writing.Assign x) q (spot_seen k) r ≡ does_both old (task.Value x) (task.Assign k sp) r
  assign_node x q k sp is =
      done_then r (value_at old.setting r (expr_of x.now) r.state) (λ fr l i s. and_then (unless (outside fr (spot_seen k)) Index (place_span q) old.setting.instance s i) (λ j s1. Has tt (kept fr (spot_seen k) j s1)))
      ∙ ap (λ z. does_both old (task.Value x) (task.Assign k z) r) (sym is)

  pub update_node : (op : BinOp) (t : Elem) (x : Bor TypedExpr) (p : Bor TypedPlace) (k : Place) (sp : Span) → writes old (writing.Update op t x sp) (place_of p.now) (spot_seen k) r ≡ does_both old (task.Value x) (task.Update op t k p sp) r
  update_node op t x p k sp =
      done_then r (value_at old.setting r (expr_of x.now) r.state) (λ fr l j s. update (bound_in old.setting) old.setting.instance fr (calls_in old.setting l) op t (place_of p.now) (spot_seen k) j sp s)

  -- ---- declared items

  pub no_items : (xs : List TypedItem) → xs ≡ [] → done r (items (bound_in old.setting) old.setting.instance r.frame (calls_in old.setting r.left) (items_of xs) r.state) ≡ goes r
  no_items xs none = ap (λ ys. done r (items (bound_in old.setting) old.setting.instance r.frame (calls_in old.setting r.left) (items_of ys) r.state)) none

  pub one_item : (xs : List TypedItem) (y : TypedItem) (ys : Bor (List TypedItem)) → xs ≡ y ∷ ys.now
      → done r (items (bound_in old.setting) old.setting.instance r.frame (calls_in old.setting r.left) (items_of xs) r.state)
      ≡ go (declares old (item_of y) r) (does_task old (task.Items ys))
  one_item xs y ys is =
      ap (λ zs. done r (items (bound_in old.setting) old.setting.instance r.frame (calls_in old.setting r.left) (items_of zs) r.state)) is
      ∙ done_done r (item (bound_in old.setting) old.setting.instance r.frame (calls_in old.setting r.left) (item_of y) r.state) (λ fr l s. items (bound_in old.setting) old.setting.instance fr (calls_in old.setting l) (items_of ys.now) s)

  pub item_value : (v : ℕ) (t : Ty) (x : Bor TypedExpr) (sp : Span) → declares old (t_with_value v t (expr_of x.now) sp) r ≡ does_both old (task.Value x) (task.Declared v t) r
  item_value v t x sp = done_then r (value_at old.setting r (expr_of x.now) r.state) (λ fr l i s. Has tt (written t.rate v i s))

-- ---- a place is written

module _ (old : Single) (k : Place) (sp : Span) where
  pub assign_outside : (b : Bool) → b ≡ outside (frame_seen old.here) (spot_seen k) → b ≡ true → does_task old (task.Assign k sp) (store_seen old) ≡ Trapped (trap Index sp old.setting.instance) (state_seen old)
  assign_outside b is t = ap (λ z. done (store_seen old) (and_then (unless z Index sp old.setting.instance (state_seen old) old.value) (λ j s. Has tt (kept (frame_seen old.here) (spot_seen k) j s)))) (sym is ∙ t)

  pub assign_kept : (b : Bool) → b ≡ outside (frame_seen old.here) (spot_seen k) → b ≡ false → does_task old (task.Assign k sp) (store_seen old) ≡ done (store_seen old) (Has tt (kept (frame_seen old.here) (spot_seen k) old.value (state_seen old)))
  assign_kept b is t = ap (λ z. done (store_seen old) (and_then (unless z Index sp old.setting.instance (state_seen old) old.value) (λ j s. Has tt (kept (frame_seen old.here) (spot_seen k) j s)))) (sym is ∙ t)

module _ (old mid : Single) (op : BinOp) (t : Elem) (q : TPlace) (k : Spot) (right x : ℕ) (sp : Span) (f : Finds (Ok x) old mid (place_span q) k) where
  -- the place was read
  updating : updates old op t q k right sp (store_seen old)
      ≡ done (store_seen old) (and_then (unless (is_zero op t right) Divide sp old.setting.instance (state_seen mid)
      (op_bits op t (converted (place_type q).elem t x) right))
      (λ n s2. Has tt (kept (frame_seen old.here) k (converted t (place_type q).elem n) s2)))
  updating =
      ap (λ v. done (store_seen old) (and_then v (λ i s1. and_then
      (unless (is_zero op t right) Divide sp old.setting.instance s1 (op_bits op t (converted (place_type q).elem t i) right))
      (λ n s2. Has tt (kept (frame_seen old.here) k (converted t (place_type q).elem n) s2))))) f.0

  pub update_zero : (b : Bool) → b ≡ is_zero op t right → b ≡ true → updates old op t q k right sp (store_seen old) ≡ Trapped (trap Divide sp old.setting.instance) (state_seen mid)
  update_zero b is h =
      updating
      ∙ ap (λ z. done (store_seen old) (and_then (unless z Divide sp old.setting.instance (state_seen mid)
      (op_bits op t (converted (place_type q).elem t x) right))
      (λ n s2. Has tt (kept (frame_seen old.here) k (converted t (place_type q).elem n) s2)))) (sym is ∙ h)

  pub update_kept : (b : Bool) (y : ℕ) → b ≡ is_zero op t right → b ≡ false → y ≡ converted t (place_type q).elem (op_bits op t (converted (place_type q).elem t x) right)
      → updates old op t q k right sp (store_seen old) ≡ done (store_seen old) (Has tt (kept (frame_seen old.here) k y (state_seen mid)))
  update_kept b y is h value =
      updating
      ∙ ap (λ z. done (store_seen old) (and_then (unless z Divide sp old.setting.instance (state_seen mid)
      (op_bits op t (converted (place_type q).elem t x) right))
      (λ n s2. Has tt (kept (frame_seen old.here) k (converted t (place_type q).elem n) s2)))) (sym is ∙ h)
      ∙ ap (λ n. done (store_seen old) (Has tt (kept (frame_seen old.here) k n (state_seen mid)))) (sym value)

  pub update_traps : (e : Stop) (b : Bool) → e ≡ stop.Trapped (trap Divide sp mid.setting.instance) → b ≡ is_zero op t right → b ≡ true → Tells (Err e) old mid (updates old op t q k right sp) 0
  update_traps e b at is h =
      subst (λ (z : Stop). Tells (Err z) old mid (updates old op t q k right sp) 0) (sym (at ∙ ap (λ (u : Single). stop.Trapped (trap Divide sp u.setting.instance)) f.1)) (update_zero b is h)

  pub update_tells : (r : Result (Unit {0}) Stop) (next new : Single) (b : Bool) (y : ℕ) → b ≡ is_zero op t right → b ≡ false → y ≡ converted t (place_type q).elem (op_bits op t (converted (place_type q).elem t x) right)
      → Changes mid next (kept (frame_seen mid.here) k y) → Tells r next new goes 0 → Tells r old new (updates old op t q k right sp) 0
  update_tells r next new b y is h value c g =
      let writing : Store → Goes = λ z. done z (Has tt (kept z.frame k y z.state)) in
      tells_from old (record old { arrays = mid.arrays }) mid new (updates old op t q k right sp) (λ e. writing) (λ e. 0) (λ e. e.left) f.1
      (update_kept b y is h value ∙ ap (λ (u : Single). done (record (store_seen old) { frame = frame_seen u.here; left = u.left }) (Has tt (kept (frame_seen u.here) k y (state_seen mid)))) (sym f.1))
      refl r
      (changed_tells r mid next new writing (kept (frame_seen mid.here) k y) c refl g)

pub update_stops : (n : ℕ) (e : Stop) (old new : Single) (op : BinOp) (t : Elem) (q : TPlace) (k : Spot) (right : ℕ) (sp : Span) → Finds (Err e) old new (place_span q) k → Tells (Err e) old new (updates old op t q k right sp) n
update_stops n stop.Memory old new op t q k right sp f = tt
update_stops n (stop.Trapped u) old new op t q k right sp f =
    ap (λ v. done (store_seen old) (and_then v (λ i s1. and_then
    (unless (is_zero op t right) Divide sp old.setting.instance s1 (op_bits op t (converted (place_type q).elem t i) right))
    (λ n s2. Has tt (kept (frame_seen old.here) k (converted t (place_type q).elem n) s2))))) f
update_stops n stop.Cut old new op t q k right sp f = absurd f

-- ---- what is held at a place

module _ (old : Single) (k : Place) (sp : Span) (b : ArrayVariable) (t : Elem) (i : ℕ) where
  abbrev held_by : Bool → Answer ℕ
  held_by z = choose z (Bad (trap Index sp old.setting.instance)) (found (bound_in old.setting) old.setting.instance (frame_seen old.here) b.ty.rate b (element t i)) (state_seen old)

  held_is : (z : Bool) → k ≡ place.Element b t i → outside (frame_seen old.here) (spot_seen k) ≡ z → held (bound_in old.setting) old.setting.instance (frame_seen old.here) sp (spot_seen k) (state_seen old) ≡ held_by z
  held_is z is out =
      ap (λ (p : Place). held (bound_in old.setting) old.setting.instance (frame_seen old.here) sp (spot_seen p) (state_seen old)) is
      ∙ ap held_by (sym (ap (λ (p : Place). outside (frame_seen old.here) (spot_seen p)) is) ∙ out)

  pub held_outside : (e : Stop) → k ≡ place.Element b t i → e ≡ stop.Trapped (trap Index sp old.setting.instance) → outside (frame_seen old.here) (spot_seen k) ≡ true → Finds (Err e) old old sp (spot_seen k)
  held_outside e is at out = subst (λ (z : Stop). Finds (Err z) old old sp (spot_seen k)) (sym at) (held_is true is out)

  pub found_finds : (new : Single) (n : ℕ) (q : Result ℕ Stop) → k ≡ place.Element b t i → n ≡ element t i → outside (frame_seen old.here) (spot_seen k) ≡ false → HasFound q old new b n → Finds q old new sp (spot_seen k)
  found_finds new n (Ok x) is at out f = (held_is false is out ∙ ap (λ m. found (bound_in old.setting) old.setting.instance (frame_seen old.here) b.ty.rate b m (state_seen old)) (sym at) ∙ f.0, f.1)
  found_finds new n (Err stop.Memory) is at out f = tt
  found_finds new n (Err (stop.Trapped u)) is at out f = absurd f
  found_finds new n (Err stop.Cut) is at out f = absurd f

-- ---- how much is left

module _ (q : Result (Unit {0}) Stop) (old new : Single) where
  -- what stands before a semicolon, where it is known
  pub simple_by : (x : Bor TypedSimple) (k : TypedSimple) (g : Store → Goes) → x.now ≡ k
      → done (store_seen old) (simple (bound_in old.setting) old.setting.instance (frame_seen old.here) (calls_in old.setting old.left) (simple_of k) (state_seen old)) ≡ g (store_seen old)
      → Tells q old new g (simple_due old.setting old.left (simple_of k)) → DoesTask q old new (task.Simple x)
  simple_by x k g is e h =
      subst (λ (z : TypedSimple). Tells q old new (λ r. done r (simple (bound_in old.setting) old.setting.instance r.frame (calls_in old.setting r.left) (simple_of z) r.state)) (simple_due old.setting old.left (simple_of z))) (sym is)
      (tells_by (simple_due old.setting old.left (simple_of k)) q old new (λ r. done r (simple (bound_in old.setting) old.setting.instance r.frame (calls_in old.setting r.left) (simple_of k) r.state)) g e h)

  pub no_items_tells : (xs : Bor (List TypedItem)) → xs.now ≡ [] → Tells q old new goes 0 → DoesTask q old new (task.Items xs)
  no_items_tells xs none h =
      subst (λ ys. Tells q old new (λ r. done r (items (bound_in old.setting) old.setting.instance r.frame (calls_in old.setting r.left) (items_of ys) r.state)) (items_due old.setting old.left (items_of ys))) (sym none)
      (tells_by 0 q old new _ goes (no_items old (store_seen old) [] refl) h)

pub one_item_tells : (q : Result (Unit {0}) Stop) (old mid new : Single) (xs : Bor (List TypedItem)) (y : TypedItem) (ys : Bor (List TypedItem)) → xs.now ≡ y ∷ ys.now
    → mid.tasks.items ≡ old.tasks.items ++ task.Items ys ∷ [] → mid ≡ record old { tasks = mid.tasks } → Declares q mid new (item_of y) → DoesTask q old new (task.Items xs)
one_item_tells q old mid new xs y ys is more same h =
    subst (λ zs. Tells q old new (λ r. done r (items (bound_in old.setting) old.setting.instance r.frame (calls_in old.setting r.left) (items_of zs) r.state)) (items_due old.setting old.left (items_of zs))) (sym is)
    (tells_by (items_due old.setting old.left (items_of (y ∷ ys.now))) q old new (λ r. done r (items (bound_in old.setting) old.setting.instance r.frame (calls_in old.setting r.left) (items_of (y ∷ ys.now)) r.state)) (λ r. go (declares old (item_of y) r) (does_task old (task.Items ys))) (one_item old (store_seen old) (y ∷ ys.now) y ys refl)
    (then_tells old mid (task.Items ys) more same q new (λ e. declares e (item_of y)) (λ e. item_due e.setting e.left (item_of y)) (λ e. e.left) h))
