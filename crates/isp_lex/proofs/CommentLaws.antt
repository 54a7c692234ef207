-- Comments.
use Rattle.std.proofs.Common.{◌≡◌, ℕ, suc, ◌+◌, ◌<◌, ◌≤◌, Bool, true, false, cond, List, [], ◌∷◌, ◌++◌, length, get_or, take, drop, Option, Some, None, refl, sym, ap, subst, ◌∙◌, arith, length-append, length-drop, length-take, append_assoc, inr}
use Rattle.std.specs.Prelude.{◌==◌, ◌&&◌, not, codes, option_map}
use Rattle.std.proofs.lemmas.Bool.{false≢true, eqb-true}
use Rattle.std.proofs.lemmas.List.{drop-drop, drop_at, get_or-drop, take-append-drop}
use Rattle.std.specs.Str.{IsUtf8, IsCharBoundary}
use Rattle.std.specs.Str.Pattern.{FindsText, LacksTextAt}
use Rattle.std.proofs.lemmas.Str.{IsCharBoundary-end, IsCharBoundary-after_ascii, IsCharBoundary-before_ascii, IsCharBoundary-from_rest}
use Rattle.isp_lex.specs.declared.fault.Rule.TheVariants.{OpenComment}
use Rattle.isp_lex.specs.Bytes.{begins, is_line_byte, next_is}
use Rattle.isp_lex.specs.Faults.{fault}
use Rattle.isp_lex.specs.Lexing.{line, closed, IsFault, open_comment, IsOpen}
use Rattle.isp_lex.specs.reader.Pieces.{Skips}
use Rattle.isp_lex.specs.reader.Runs.{run}
use Rattle.isp_lex.proofs.Runs.{and_both, run_all, run_ends, run_le}

-- how many bytes there are up to the first `*/`, with it
abbrev closes : ℕ → List ℕ → Bool
closes b [] = false
closes b (c ∷ cs) = b == 42 && c == 47

abbrev pub close : List ℕ → Option ℕ
close [] = None
close (b ∷ bs) = cond (closes b bs) (Some 2) (option_map (λ n. suc n) (close bs))

open_tail : (b : ℕ) (bs : List ℕ) → IsOpen (b ∷ bs) → IsOpen bs
open_tail b bs h front rest e = h (b ∷ front) rest (ap (λ (l : List ℕ). b ∷ l) e)

-- a comment that is open is not closed at its first bytes
open_first : (b : ℕ) (bs : List ℕ) → IsOpen (b ∷ bs) → (t : Bool) → closes b bs ≡ t → t ≡ false
open_first b [] h true e = absurd (false≢true e)
open_first b (c ∷ cs) h true e =
    let q = and_both (b == 42) (c == 47) e in
    absurd (h [] cs (ap (λ (x : ℕ). x ∷ c ∷ cs) (eqb-true b 42 q.0) ∙ ap (λ (x : ℕ). 42 ∷ x ∷ cs) (eqb-true c 47 q.1)))
open_first b bs h false e = refl

pub open_none : (text : List ℕ) → IsOpen text → close text ≡ None
open_none [] h = refl
open_none (b ∷ bs) h = rw (open_first b bs h (closes b bs) refl, open_none bs (open_tail b bs h)) refl

-- nor is what is open up to the `*`, with more after it
closed_first : (b : ℕ) (body rest : List ℕ) → IsOpen (b ∷ (body ++ 42 ∷ [])) → (t : Bool) → closes b (body ++ 42 ∷ 47 ∷ rest) ≡ t → t ≡ false
closed_first b [] rest h true e = absurd (false≢true (and_both (b == 42) false e).1)
closed_first b (c ∷ cs) rest h true e = open_first b (c ∷ (cs ++ 42 ∷ [])) h true e
closed_first b body rest h false e = refl

pub closed_some : (body rest : List ℕ) → IsOpen (body ++ 42 ∷ []) → close (body ++ 42 ∷ 47 ∷ rest) ≡ Some (suc (suc (length body)))
closed_some [] rest h = refl
closed_some (b ∷ body) rest h =
    rw (closed_first b body rest h (closes b (body ++ 42 ∷ 47 ∷ rest)) refl, closed_some body rest (open_tail b (body ++ 42 ∷ []) h)) refl

-- what the code finds

pub two_split : (c d : ℕ) (text : List ℕ) → next_is c text ≡ true → next_is d (drop 1 text) ≡ true → text ≡ c ∷ d ∷ drop 2 text
two_split c d [] e f = absurd (false≢true e)
two_split c d (a ∷ []) e f = absurd (false≢true f)
two_split c d (a ∷ b ∷ bs) e f = ap (λ (x : ℕ). x ∷ b ∷ bs) (eqb-true a c e) ∙ ap (λ (x : ℕ). c ∷ x ∷ bs) (eqb-true b d f)

line_feed_at : (b : ℕ) (t : Bool) → (b == 10) ≡ t → not t ≡ false → b ≡ 10
line_feed_at b true e h = eqb-true b 10 e
line_feed_at b false e h = absurd (false≢true (sym h))

-- a text may be cut where a line ends
pub line_cut : (text : List ℕ) (at : ℕ) (rest : List ℕ) → at ≤ length text → drop at text ≡ rest → begins is_line_byte rest ≡ false → IsCharBoundary text at
line_cut text at [] l e h =
    let n : length text ≡ at = omega (arith, ap length e, length-drop at text) in
    subst (IsCharBoundary text) n (IsCharBoundary-end text)
line_cut text at (b ∷ bs) l e h =
    let q : get_or text at 0 ≡ b =
    let k : at + 0 ≡ at = omega arith in
    ap (λ (n : ℕ). get_or text n 0) (sym k) ∙ sym (get_or-drop at text 0 0) ∙ ap (λ (x : List ℕ). get_or x 0 0) e in
    let f : b ≡ 10 = line_feed_at b (b == 10) refl h in
    IsCharBoundary-before_ascii text at (omega (arith, ap length e, length-drop at text)) (omega arith)

-- a comment to the end of the line
pub line_front : (text : List ℕ) → next_is 47 text ≡ true → next_is 47 (drop 1 text) ≡ true → Skips text (2 + run is_line_byte (drop 2 text))
line_front text e f =
    let s = two_split 47 47 text e f in
    let more = drop 2 text in
    let n = run is_line_byte more in
    let t = take-append-drop n more in
    let le = run_le is_line_byte more in
    let l : length (take n more) ≡ n = omega (arith, length-take n more) in
    let after : drop (2 + n) text ≡ drop n more = sym (drop-drop n 2 text) in
    record {
      text = 47 ∷ 47 ∷ take n more;
      after = drop n more;
      split = s ∙ ap (λ (x : List ℕ). 47 ∷ 47 ∷ x) (sym t);
      size = omega arith;
      some = omega arith;
      cut = λ u. line_cut text (2 + n) (drop n more) (omega (arith, length-drop 2 text, ap length s)) after (run_ends is_line_byte more);
      passes = inr (line (take n more) (drop n more) (run_all is_line_byte more) (run_ends is_line_byte more));
    }

-- `*/` stands nowhere
lacks_open : (text : List ℕ) → ((i : ℕ) → i ≤ length text → LacksTextAt (codes "*/") text i) → IsOpen text
lacks_open text h front rest e =
    h (length front) (omega (arith, ap length e, length-append front (42 ∷ 47 ∷ rest))) rest (ap (drop (length front)) e ∙ drop_at front (42 ∷ 47 ∷ rest) (length front) refl)

-- nor before the place where it was found
lacks_before : (body rest : List ℕ) → ((i : ℕ) → i < length body → LacksTextAt (codes "*/") (body ++ (42 ∷ 47 ∷ rest)) i) → IsOpen (body ++ 42 ∷ [])
lacks_before body rest h front more e =
    let l : length front < length body = omega (arith, ap length e, length-append front (42 ∷ 47 ∷ more), length-append body (42 ∷ [])) in
    let w : body ++ 42 ∷ 47 ∷ rest ≡ front ++ (42 ∷ 47 ∷ (more ++ 47 ∷ rest)) =
    sym (append_assoc body (42 ∷ []) (47 ∷ rest)) ∙ ap (λ (x : List ℕ). x ++ 47 ∷ rest) e ∙ append_assoc front (42 ∷ 47 ∷ more) (47 ∷ rest) in
    h (length front) l (more ++ 47 ∷ rest) (ap (drop (length front)) w ∙ drop_at front (42 ∷ 47 ∷ (more ++ 47 ∷ rest)) (length front) refl)

-- a comment that is closed
pub closed_front : (text more : List ℕ) (i j : ℕ) → text ≡ 47 ∷ 42 ∷ more → FindsText (codes "*/") more (Some (i, j)) → IsCharBoundary more j → Skips text (i + 4)
closed_front text more i j s h b =
    let at = h.1 in
    let low : i ≤ length more = omega (arith, b.0, at.ends) in
    let l : length (take i more) ≡ i = omega (arith, length-take i more) in
    let w : more ≡ take i more ++ 42 ∷ 47 ∷ drop j more = sym (take-append-drop i more) ∙ ap (λ (x : List ℕ). take i more ++ x) at.split in
    let open_at : IsOpen (take i more ++ 42 ∷ []) =
    lacks_before (take i more) (drop j more) (λ k lt. subst (λ (x : List ℕ). LacksTextAt (codes "*/") x k) w (h.0 k (omega arith))) in
    record {
      text = 47 ∷ 42 ∷ (take i more ++ 42 ∷ 47 ∷ []);
      after = drop j more;
      split = s ∙ ap (λ (x : List ℕ). 47 ∷ 42 ∷ x) w ∙ ap (λ (x : List ℕ). 47 ∷ 42 ∷ x) (sym (append_assoc (take i more) (42 ∷ 47 ∷ []) (drop j more)));
      size = omega (arith, length-append (take i more) (42 ∷ 47 ∷ []));
      some = omega arith;
      cut = λ u.
          let c : IsCharBoundary text (2 + j) = IsCharBoundary-from_rest text 2 j (omega (arith, ap length s)) (subst (λ (x : List ℕ). IsCharBoundary x j) (sym (ap (drop 2) s)) b) in
          let n : 2 + j ≡ i + 4 = omega (arith, at.ends) in
          subst (IsCharBoundary text) n c;
      passes = inr (closed (take i more) (drop j more) open_at);
    }

-- a comment that is not
pub open_fault : (place : ℕ) (text more : List ℕ) → text ≡ 47 ∷ 42 ∷ more → FindsText (codes "*/") more None → IsFault place text (fault OpenComment (record { start = place; end = place + length text }))
open_fault place text more s h =
    subst (λ (x : List ℕ). IsFault place x (fault OpenComment (record { start = place; end = place + length x }))) (sym s) (open_comment place more (lacks_open more h))

-- a text may be cut after the first two bytes of a comment
pub open_cut : (text : List ℕ) → IsUtf8 text → next_is 47 text ≡ true → next_is 42 (drop 1 text) ≡ true → IsCharBoundary text 2
open_cut text u e f =
    let s = two_split 47 42 text e f in
    let q : get_or text 1 0 ≡ 42 = ap (λ (x : List ℕ). get_or x 1 0) s in
    IsCharBoundary-after_ascii text 1 u (omega (arith, ap length s)) (omega arith)
