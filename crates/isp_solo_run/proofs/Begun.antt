-- What a call begins with, place by place.
use Rattle.std.proofs.Common.{◌≡◌, ◌≢◌, refl, sym, ap, ap₂, ◌∙◌, ⊎_elim, ℕ, zero, suc, ◌+◌, ◌-◌, ◌<◌, ◌≤◌, Bool, true, false, List, [], ◌∷◌, ◌++◌, Some, Bor, Vec, Global, arith, length, get_or, take, nat_lt, append_assoc}
use Rattle.std.specs.Prelude.{slice_get, slice_index, if◌then◌else◌}
use Rattle.std.proofs.Math.Path.{fun_ext}
use Rattle.std.proofs.lemmas.Bool.{cases_eq, cases_lt, lt-ltb, ltb-true}
use Rattle.std.proofs.lemmas.List.{append-nil, length-append, take_all}
use Rattle.std.proofs.lemmas.Option.{slice_get_past}
use Rattle.isp_base.specs.declared.types.Rate.{Rate}
use Rattle.isp_base.specs.declared.types.Rate.TheVariants.{Uniform, Varying}
use Rattle.isp_typed.specs.Views.{function_of}
use Rattle.isp_typed.specs.declared.function.TypedFunction.{TypedFunction}
use Rattle.isp_typed.specs.declared.variable.Holds.{Holds}
use Rattle.isp_typed.specs.declared.variable.Holds.TheVariants.{Value as AValue, Given, Local}
use Rattle.isp_typed.specs.declared.variable.Variable.{Variable}
use Rattle.isp_meaning.specs.Calls.{shared_sizes, size_of, size_at, store_or, frame_of}
use Rattle.isp_meaning.specs.Expressions.{Passed}
use Rattle.isp_meaning.specs.State.{Frame}
use Rattle.isp_solo_meaning.specs.Alone.{Alone}
use Rattle.isp_solo_meaning.specs.Calls.{begun, value_passed}
use Rattle.isp_gang_values.specs.Growing.{at_each, values_of}
use Rattle.isp_gang_values.proofs.Vectors.{at_past, at_there, longer}
use Rattle.isp_solo_run.specs.Entering.{named_at, passed_at, opened_by}
use Rattle.isp_solo_run.specs.Seen.{answer_in, frame_seen, sizes_in, own_of}
use Rattle.isp_solo_run.specs.declared.activation.Activation.{Activation}

is_below : (m n : ℕ) → m < n → nat_lt m n ≡ true
is_below m n h = lt-ltb m n h

not_below : (m n : ℕ) → n ≤ m → nat_lt m n ≡ false
not_below m n h = by (nat_lt m n) refl
  where
    by : (t : Bool) → nat_lt m n ≡ t → nat_lt m n ≡ false
    by true e = absurd (omega (arith, ltb-true m n e, h))
    by false e = e

-- ---- a list that is made from its front

pub record Listed {A B : Type 0} (see : A → B) (none : B) (f : ℕ → B) (xs : List A) (i : ℕ) : Type 0 where
  pub long : length xs ≡ i
  pub done : (v : ℕ) → v < i → at_each see none xs v ≡ f v

module _ {A B : Type 0} (see : A → B) (none : B) where
  before_last : (xs : List A) (x : A) (v : ℕ) → v < length xs → at_each see none (xs ++ x ∷ []) v ≡ at_each see none xs v
  before_last [] x v h = absurd (omega (arith, h))
  before_last (y ∷ xs) x zero h = refl
  before_last (y ∷ xs) x (suc v) h = before_last xs x v (omega (arith, h))

  at_last : (xs : List A) (x : A) → at_each see none (xs ++ x ∷ []) (length xs) ≡ see x
  at_last [] x = refl
  at_last (y ∷ xs) x = at_last xs x

  pub listed_none : (f : ℕ → B) → Listed see none f [] 0
  listed_none f = record { long = refl; done = λ v h. absurd (omega (arith, h)) }

  pub listed_more : (f : ℕ → B) (xs : List A) (x : A) (i : ℕ) → Listed see none f xs i → see x ≡ f i → Listed see none f (xs ++ x ∷ []) (i + 1)
  listed_more f xs x i l is =
      record {
        long = longer xs x i l.long;
        done = λ v h. ⊎_elim (λ (e : v ≡ i). ap (at_each see none (xs ++ x ∷ [])) (e ∙ sym l.long) ∙ at_last xs x ∙ is ∙ ap f (sym e))
            (λ (ne : v ≢ i). let lt : v < i = omega (arith, ne, h) in before_last xs x v (omega (arith, lt, l.long)) ∙ l.done v lt) (cases_eq v i);
      }

  pub listed_all : (f : ℕ → B) (xs : List A) (n : ℕ) → Listed see none f xs n → ((v : ℕ) → n ≤ v → f v ≡ none) → at_each see none xs ≡ f
  listed_all f xs n l past =
      fun_ext (λ v. ⊎_elim (λ (h : v < n). l.done v h) (λ (h : n ≤ v). at_past see none xs v (omega (arith, h, l.long)) ∙ sym (past v h)) (cases_lt v n))

pub all_passed : (r : Rate) (vs : List Variable) (ps : List Passed) (xs : List ℕ) (n : ℕ) → Listed (λ x. x) 0 (passed_at r vs ps) xs n → length vs ≤ n → values_of xs ≡ passed_at r vs ps
all_passed r vs ps xs n l h = listed_all (λ x. x) 0 (passed_at r vs ps) xs n l (λ v k. ap (λ o. value_passed r o (slice_get ps v)) (slice_get_past vs v (omega (arith, h, k))))

-- ---- stores

size_more : (h : Holds) (xs ys : List ℕ) → size_of h xs ++ ys ≡ size_of h (xs ++ ys)
size_more (AValue t) xs ys = refl
size_more (Given t) xs ys = refl
size_more (Local t n) xs ys = by t.rate
  where
    by : (r : Rate) → size_at r n xs ++ ys ≡ size_at r n (xs ++ ys)
    by Uniform = refl
    by Varying = refl

shared_next : (vs : List Variable) (i : ℕ) → shared_sizes (take (suc i) vs) ≡ shared_sizes (take i vs) ++ opened_by (slice_get vs i)
shared_next [] zero = refl
shared_next [] (suc i) = refl
shared_next (v ∷ vs) zero = refl
shared_next (v ∷ vs) (suc i) = ap (size_of v.holds) (shared_next vs i) ∙ sym (size_more v.holds (shared_sizes (take i vs)) (opened_by (slice_get vs i)))

pub record Opening (vs : List Variable) (ps : List Passed) (start sizes names : List ℕ) (i : ℕ) : Type 0 where
  pub sized : sizes ≡ start ++ shared_sizes (take i vs)
  pub named : Listed (λ x. x) 0 (named_at vs ps (length start)) names i

pub opening_begins : (vs : List Variable) (ps : List Passed) (start : List ℕ) → Opening vs ps start start [] 0
opening_begins vs ps start = record { sized = sym (append-nil start); named = listed_none (λ x. x) 0 (named_at vs ps (length start)) }

pub opening_next : (vs : List Variable) (ps : List Passed) (start sizes more names : List ℕ) (x i : ℕ) → Opening vs ps start sizes names i
    → x ≡ store_or (slice_get ps i) (length sizes) → more ≡ sizes ++ opened_by (slice_get vs i) → Opening vs ps start more (names ++ x ∷ []) (i + 1)
opening_next vs ps start sizes more names x i o is e =
    record {
      sized = e ∙ ap (λ xs. xs ++ opened_by (slice_get vs i)) o.sized ∙ append_assoc start (shared_sizes (take i vs)) (opened_by (slice_get vs i))
          ∙ ap (λ xs. start ++ xs) (sym (shared_next vs i)) ∙ (let e : suc i ≡ i + 1 = omega arith in ap (λ k. start ++ shared_sizes (take k vs)) e);
      named = listed_more (λ x. x) 0 (named_at vs ps (length start)) names x i o.named (is ∙ ap (store_or (slice_get ps i)) (ap length o.sized ∙ length-append start (shared_sizes (take i vs))));
    }

pub opening_sizes : (vs : List Variable) (ps : List Passed) (start sizes names : List ℕ) (n : ℕ) → Opening vs ps start sizes names n → length vs ≤ n → sizes ≡ start ++ shared_sizes vs
opening_sizes vs ps start sizes names n o h = o.sized ∙ ap (λ xs. start ++ shared_sizes xs) (take_all n vs h)

pub opening_names : (vs : List Variable) (ps : List Passed) (start sizes names : List ℕ) (n : ℕ) → Opening vs ps start sizes names n → length vs ≤ n → length ps ≤ n → (v : ℕ) → get_or names v (length sizes) ≡ named_at vs ps (length start) v
opening_names vs ps start sizes names n o h k v =
    ⊎_elim (λ (lt : v < n). sym (at_there (λ x. x) 0 names v (length sizes) (omega (arith, lt, o.named.long))) ∙ o.named.done v lt)
    (λ (le : n ≤ v). get_or_past names v (length sizes) (omega (arith, le, o.named.long)) ∙ ap length (opening_sizes vs ps start sizes names n o h) ∙ length-append start (shared_sizes vs)
    ∙ sym (ap₂ (λ q xs. store_or q (length start + length (shared_sizes xs))) (slice_get_past ps v (omega (arith, k, le))) (take_all v vs (omega (arith, h, le)))))
    (cases_lt v n)
  where
    get_or_past : (xs : List ℕ) (v d : ℕ) → length xs ≤ v → get_or xs v d ≡ d
    get_or_past [] v d h = refl
    get_or_past (x ∷ xs) zero d h = absurd (omega (arith, h))
    get_or_past (x ∷ xs) (suc v) d h = get_or_past xs v d (omega (arith, h))

-- the sizes of the stores that were open, and of the new ones after them
pub sizes_after : (start more : List ℕ) (b : ℕ) → values_of (start ++ more) b ≡ (if nat_lt b (length start) then values_of start b else slice_index more (b - length start))
sizes_after start more b = ⊎_elim (λ (h : b < length start). within start b h ∙ sym (ap (λ t. if t then values_of start b else slice_index more (b - length start)) (is_below b (length start) h)))
    (λ (h : length start ≤ b). behind start b h ∙ sym (ap (λ t. if t then values_of start b else slice_index more (b - length start)) (not_below b (length start) h))) (cases_lt b (length start))
  where
    within : (xs : List ℕ) (b : ℕ) → b < length xs → values_of (xs ++ more) b ≡ values_of xs b
    within [] b h = absurd (omega (arith, h))
    within (x ∷ xs) zero h = refl
    within (x ∷ xs) (suc b) h = within xs b (omega (arith, h))

    at_index : (ys : List ℕ) (b : ℕ) → values_of ys b ≡ slice_index ys b
    at_index [] b = refl
    at_index (y ∷ ys) zero = refl
    at_index (y ∷ ys) (suc b) = at_index ys b

    behind : (xs : List ℕ) (b : ℕ) → length xs ≤ b → values_of (xs ++ more) b ≡ slice_index more (b - length xs)
    behind [] b h = at_index more b ∙ (let e : b ≡ b - 0 = omega arith in ap (slice_index more) e)
    behind (x ∷ xs) zero h = absurd (omega (arith, h))
    behind (x ∷ xs) (suc b) h = behind xs b (omega (arith, h)) ∙ (let e : b - length xs ≡ suc b - length (x ∷ xs) = omega arith in ap (slice_index more) e)

-- ---- the frame and the state with which a call begins

abbrev pub frame_with : Bor TypedFunction → (ℕ → ℕ) → (ℕ → ℕ) → ℕ → Frame
frame_with g n s o = record { named = n; sizes = s; opened = o; own_sizes = sizes_in (Some g); answer = answer_in (Some g) }

pub frame_begun : (g : Bor TypedFunction) (ps : List Passed) (caller : Activation) (vs : List Variable) (start names sizes : List ℕ) → vs ≡ g.now.variables.items → start ≡ caller.sizes.items → sizes ≡ start ++ shared_sizes vs
    → ((v : ℕ) → get_or names v (length sizes) ≡ named_at vs ps (length start) v) → frame_with g (λ v. get_or names v (length sizes)) (values_of sizes) (length sizes) ≡ frame_of (function_of g.now) ps (frame_seen caller)
frame_begun g ps caller vs start names sizes ev es sized named =
    let old = caller.sizes.items in
    let more = shared_sizes g.now.variables.items in
    let long : sizes ≡ old ++ more = sized ∙ ap₂ (λ (x : List ℕ) (y : List Variable). x ++ shared_sizes y) es ev in
    ap (λ (n : ℕ → ℕ). frame_with g n (values_of sizes) (length sizes)) (fun_ext (λ v. named v ∙ ap₂ (λ (x : List ℕ) (y : List Variable). named_at y ps (length x) v) es ev))
    ∙ ap₂ (λ (s : ℕ → ℕ) (o : ℕ). frame_with g (named_at g.now.variables.items ps (length old)) s o) (ap values_of long ∙ fun_ext (sizes_after old more)) (ap length long ∙ length-append old more)

abbrev state_as : (ℕ → ℕ) → (ℕ → ℕ) → (ℕ → ℕ → ℕ) → Alone → Alone
state_as u v o s = record { uniforms = u; varying = v; own = o; result = 0; wrote = s.wrote; read = s.read }

pub state_begun : (g : TypedFunction) (ps : List Passed) (s : Alone) (vs : List Variable) (us ws : List ℕ) (os : List (Vec ℕ Global)) → vs ≡ g.variables.items → values_of us ≡ passed_at Uniform vs ps → values_of ws ≡ passed_at Varying vs ps → os ≡ []
    → state_as (values_of us) (values_of ws) (own_of os) s ≡ begun (function_of g) ps s
state_begun g ps s vs us ws os ev eu ew eo =
    ap₂ (λ (u v : ℕ → ℕ). state_as u v (own_of os) s) (eu ∙ ap (λ (y : List Variable). passed_at Uniform y ps) ev) (ew ∙ ap (λ (y : List Variable). passed_at Varying y ps) ev)
    ∙ ap (λ (x : List (Vec ℕ Global)). state_as (passed_at Uniform g.variables.items ps) (passed_at Varying g.variables.items ps) (own_of x) s) eo
