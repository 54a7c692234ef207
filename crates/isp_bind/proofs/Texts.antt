-- The text of an answer, in the parts that are written one after another.
use Rattle.std.proofs.Common.{◌≡◌, ◌≤◌, ℕ, ℤ, pos, negsuc, length, List, [], ◌∷◌, ◌++◌, Bool, true, false, not, ◌==◌, Ordering, Less, Equal, Greater, nat_cmp, Bor, map, drop, refl, sym, ap, ◌∙◌, append_assoc}
use Rattle.std.specs.Prelude.{codes}
use Rattle.std.specs.BTreeMap.{insert_entry}
use Rattle.std.specs.Cmp.Lexicographic.{slice_cmp}
use Rattle.std.specs.Fmt.{signed_decimal}
use Rattle.std.specs.Ordering.{match_ordering}
use Rattle.std.proofs.Math.ListN.{drop_of_length-le}
use Rattle.serde_json.proofs.OnLiterals.{serde_json_on_literals}
use Rattle.serde_json.specs.Data.{Data, boolean, object, Members, no_members, member, put}
use Rattle.serde_json.specs.Find.{of_integer}
use Rattle.serde_json.specs.View.{items_of}
use Rattle.serde_json.specs.Written.{compact_text, number_text, items_text, members_text}
use Rattle.isp_base.specs.Rows.{Row}
use Rattle.isp_base.specs.Values.{number}
use Rattle.isp_base.specs.declared.types.Elem.{Elem}
use Rattle.isp_bind.specs.Binding.{is_bool}
use Rattle.isp_bind.specs.Answering.{shown_bits, shown_array}
use Rattle.isp_bind.specs.Entries.{entries_members}

-- ---- one element

number_shown : (z : ℤ) → number_text (of_integer z) ≡ signed_decimal z
number_shown (pos n) = refl
number_shown (negsuc n) = refl

pub whole_text : (t : Elem) (b : ℕ) → is_bool t ≡ false → compact_text (shown_bits t b) ≡ signed_decimal (number t b)
whole_text t b e = rw e (number_shown (number t b))

pub truth_text : (t : Elem) (b : ℕ) → is_bool t ≡ true → compact_text (shown_bits t b) ≡ compact_text (boolean (not (b == 0)))
truth_text t b e = rw e refl

-- ---- an array, once all elements are written

pub array_closed : (t : Elem) (bits : List ℕ) (place : ℕ) (later : Bool) (old first text new : List ℕ) → length bits ≤ place → first ≡ old ++ 91 ∷ []
    → text ++ items_text later (items_of (map (shown_bits t) (drop place bits))) ≡ first ++ items_text false (items_of (map (shown_bits t) bits))
    → new ≡ text ++ 93 ∷ [] → new ≡ old ++ compact_text (shown_array (record { elem = t; bits = bits }))
array_closed t bits place later old first text new long begun so_far end =
    let all : List ℕ = items_text false (items_of (map (shown_bits t) bits)) in
    end
    ∙ sym (ap (λ xs. text ++ items_text later (items_of (map (shown_bits t) xs))) (drop_of_length-le bits long))
    ∙ so_far
    ∙ ap (λ z. z ++ all) begun
    ∙ append_assoc old (91 ∷ []) all

-- ---- the arrays by name

abbrev Entry : Type 0
Entry = Bor (List ℕ) × Bor Row

entries_choice : (o : Ordering) (a b c : List Entry) → entries_members (match_ordering o a b c) ≡ match_ordering o (entries_members a) (entries_members b) (entries_members c)
entries_choice Less a b c = refl
entries_choice Equal a b c = refl
entries_choice Greater a b c = refl

pub entries_put : (es : List Entry) (k : Bor (List ℕ)) (v : Bor Row) → entries_members (insert_entry (λ x y. slice_cmp nat_cmp x.now y.now) es k v) ≡ put k.now (shown_array v.now) (entries_members es)
entries_put [] k v = refl
entries_put (e ∷ es) k v = entries_choice (slice_cmp nat_cmp k.now e.0.now) _ _ _ ∙ rw (entries_put es k v)

-- ---- the whole

pub whole_answer : (arrays : Members) (result : Data) (t0 t1 t2 t3 t4 : List ℕ) → t0 ≡ codes "{\"arrays\":{" → t1 ≡ t0 ++ members_text false arrays
    → t2 ≡ t1 ++ codes ",\"result\":" → t3 ≡ t2 ++ compact_text result → t4 ≡ t3 ++ codes "}"
    → t4 ≡ compact_text (object (member (codes "arrays") (object arrays) (member (codes "result") result no_members)))
unfolding serde_json_on_literals
whole_answer arrays result t0 t1 t2 t3 t4 e0 e1 e2 e3 e4 =
    let a : List ℕ = members_text false arrays in
    let r : List ℕ = compact_text result in
    let begun : List ℕ = codes "{\"arrays\":{" in
    let middle : List ℕ = codes ",\"result\":" in
    e4
    ∙ ap (λ z. z ++ codes "}") (e3 ∙ ap (λ z. z ++ r) (e2 ∙ ap (λ z. z ++ middle) (e1 ∙ ap (λ z. z ++ a) e0)))
    ∙ append_assoc ((begun ++ a) ++ middle) r (codes "}")
    ∙ append_assoc (begun ++ a) middle (r ++ codes "}")
    ∙ append_assoc begun a (middle ++ (r ++ codes "}"))
