-- Members of a line of JSON, one by one.
use Rattle.std.proofs.Common.{◌≡◌, refl, sym, ap, ◌∙◌, subst, ℕ, suc, ◌+◌, ◌<◌, ◌≤◌, Bool, true, false, List, [], ◌++◌, length, map, get_or, arith}
use Rattle.std.proofs.lemmas.Bool.{le-ltb, lt-ltb}
use Rattle.std.proofs.lemmas.List.{get_or-map, length-map}
use Rattle.std.specs.Prelude.{if◌then◌else◌}
use Rattle.isp_code.specs.Listing.{routine_of}
use Rattle.isp_code.specs.declared.function.Function.{Function}
use Rattle.isp_traces.specs.Tallies.{nothing}
use Rattle.isp_traces.specs.Texts.{busy_before, busy_text, is_busy, line_text, member_text, members_text, routine_name}
use Rattle.isp_traces.specs.declared.tallies.Tally.{Tally}
use Rattle.isp_traces.proofs.Words.{one_more}

pub members_more : (n k : ℕ) (names : List (List ℕ)) (ts : List Tally) (name : List ℕ) (t : Tally) (old text more : List ℕ) → text ≡ old ++ members_text n names ts k → more ≡ text ++ member_text n k name t
    → name ≡ get_or names k [] → t ≡ get_or ts k nothing → more ≡ old ++ members_text n names ts (k + 1)
members_more n k names ts name t old text more e is same_name same_tally =
    let z : suc k ≡ k + 1 = omega arith in
    one_more old (members_text n names ts k) text more (member_text n k name t) e is
    ∙ ap (λ (w : List ℕ). old ++ (members_text n names ts k ++ member_text n k w t)) same_name
    ∙ ap (λ (u : Tally). old ++ (members_text n names ts k ++ member_text n k (get_or names k []) u)) same_tally
    ∙ ap (λ (j : ℕ). old ++ members_text n names ts j) z

pub name_at : (fs : List Function) (i : ℕ) (f : Function) → i < length fs → f ≡ get_or fs i f → f.name ≡ get_or (map routine_name (map routine_of fs)) i []
name_at fs i f low is =
    let there : i < length (map routine_of fs) = subst (λ (n : ℕ). i < n) (sym (length-map fs routine_of)) low in
    ap (λ (g : Function). g.name) is
    ∙ sym (ap routine_name (get_or-map routine_of fs i f (routine_of f) low))
    ∙ sym (get_or-map routine_name (map routine_of fs) i (routine_of f) [] there)

-- ---- members of busy lines

module _ (k busy : ℕ) (ts : List Tally) (t : Tally) (same_busy : busy ≡ busy_before ts k) (same_tally : t ≡ get_or ts k nothing) where
  so_many : (b : Bool) (more : ℕ) → is_busy t ≡ b → busy + more ≡ busy + (if b then 1 else 0) → busy + more ≡ busy_before ts (k + 1)
  so_many b more is e =
      let z : suc k ≡ k + 1 = omega arith in
      e
      ∙ ap (λ (n : ℕ). n + (if b then 1 else 0)) same_busy
      ∙ ap (λ (d : Bool). busy_before ts k + (if d then 1 else 0)) (sym is ∙ ap is_busy same_tally)
      ∙ ap (busy_before ts) z

  pub one_busy : 0 < t.instructions → busy + 1 ≡ busy_before ts (k + 1)
  one_busy lt = so_many true 1 (lt-ltb 0 t.instructions lt) refl

  pub none_busy : t.instructions ≤ 0 → busy ≡ busy_before ts (k + 1)
  none_busy le = let z : busy ≡ busy + 0 = omega arith in z ∙ so_many false 0 (le-ltb 0 t.instructions le) refl

  pub lines_more : (n : ℕ) (old text more : List ℕ) → text ≡ old ++ busy_text n ts k → more ≡ text ++ line_text n busy k t → more ≡ old ++ busy_text n ts (k + 1)
  lines_more n old text more e is =
      let z : suc k ≡ k + 1 = omega arith in
      one_more old (busy_text n ts k) text more (line_text n busy k t) e is
      ∙ ap (λ (b : ℕ). old ++ (busy_text n ts k ++ line_text n b k t)) same_busy
      ∙ ap (λ (u : Tally). old ++ (busy_text n ts k ++ line_text n (busy_before ts k) k u)) same_tally
      ∙ ap (λ (j : ℕ). old ++ busy_text n ts j) z
