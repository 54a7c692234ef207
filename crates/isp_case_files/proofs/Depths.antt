-- Parts of a value are no deeper than the value.
use Rattle.std.proofs.Common.{◌≡◌, ℕ, zero, suc, ◌<◌, ◌≤◌, List, [], ◌∷◌, length, get_or, Option, Some, None, Ordering, Less, Equal, Greater, subst, arith}
use Rattle.std.specs.Ordering.{match_ordering}
use Rattle.serde_json.specs.Data.{Data, null, boolean, number, string, array, object, Items, Members, no_members, member, depth, items_depth, members_depth}
use Rattle.serde_json.specs.Find.{as_array, get, get_member}
use Rattle.serde_json.specs.View.{items_view, view}
use Rattle.serde_json.specs.declared.value.Value.{Value}

-- ---- items

pub items_within : (d : Data) (ds : Items) (m : ℕ) → as_array d ≡ Some ds → depth d ≤ m → items_depth ds < m
items_within null ds m e h = absurd (let x : ⊥ = cc in x)
items_within (boolean b) ds m e h = absurd (let x : ⊥ = cc in x)
items_within (number n) ds m e h = absurd (let x : ⊥ = cc in x)
items_within (string s) ds m e h = absurd (let x : ⊥ = cc in x)
items_within (array es) ds m e h = let same : es ≡ ds = cc in subst (λ (xs : Items). items_depth xs < m) same (omega arith)
items_within (object ms) ds m e h = absurd (let x : ⊥ = cc in x)

pub value_within : (vs : List Value) (i : ℕ) (d : Value) (m : ℕ) → i < length vs → items_depth (items_view vs) < m → depth (view (get_or vs i d)) ≤ m
value_within [] i d m less h = absurd (omega arith)
value_within (v ∷ vs) zero d m less h = omega arith
value_within (v ∷ vs) (suc i) d m less h = value_within vs i d m (omega arith) (omega arith)

-- ---- members

abbrev IsWithin : ℕ → Option Data → Type 0
IsWithin m None = Unit {0}
IsWithin m (Some d) = depth d ≤ m

one_within : (o : Ordering) (a b c : Option Data) (m : ℕ) → IsWithin m a → IsWithin m b → IsWithin m c → IsWithin m (match_ordering o a b c)
one_within Less a b c m p q r = p
one_within Equal a b c m p q r = q
one_within Greater a b c m p q r = r

member_within : (k : List ℕ) (ms : Members) (m : ℕ) → members_depth ms ≤ m → IsWithin m (get_member k ms)
member_within k no_members m h = tt
member_within k (member l e ms) m h =
    let later : IsWithin m (get_member k ms) = member_within k ms m (omega arith) in
    one_within _ (get_member k ms) (Some e) (get_member k ms) m later (omega arith) later

any_within : (k : List ℕ) (d : Data) (m : ℕ) → depth d ≤ m → IsWithin m (get k d)
any_within k null m h = tt
any_within k (boolean b) m h = tt
any_within k (number n) m h = tt
any_within k (string s) m h = tt
any_within k (array ds) m h = tt
any_within k (object ms) m h = member_within k ms m (omega arith)

pub got_within : (k : List ℕ) (d e : Data) (m : ℕ) → get k d ≡ Some e → depth d ≤ m → depth e ≤ m
got_within k d e m is h = subst (IsWithin m) is (any_within k d m h)
