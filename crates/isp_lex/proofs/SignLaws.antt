-- The sign that is found stands there, and is the longest.
use Rattle.std.proofs.Common.{◌≡◌, ℕ, ◌≤◌, Bool, true, false, cond, List, [], ◌∷◌, ◌++◌, length, Option, Some, None, refl, sym, ap, subst, ◌∙◌, arith, length-append, append_assoc}
use Rattle.std.specs.Prelude.{◌==◌, ◌&&◌, ◌||◌}
use Rattle.std.proofs.lemmas.Bool.{false≢true, eqb-true}
use Rattle.isp_lex.specs.declared.token.Mark.{Mark}
use Rattle.isp_lex.specs.declared.token.Mark.TheVariants as mark
use Rattle.isp_lex.specs.Bytes.{begins, is_word_byte, next_is}
use Rattle.isp_lex.specs.Lexing.{IsWhole, opens}
use Rattle.isp_lex.specs.reader.Signs.{assigned, dots, doubled, of_one, shifted, sign_of, single}
use Rattle.isp_lex.specs.Spelling.{spelling}
use Rattle.isp_lex.proofs.Spellings.{mark_begins, mark_some}

-- the mark stands at the front of the text, and is so long
pub record Stands (s : Mark × ℕ) (text : List ℕ) : Type 0 where
  pub after : List ℕ
  pub split : text ≡ spelling s.0 ++ after
  pub size : length (spelling s.0) ≡ s.1

stands : (m : Mark) (n : ℕ) (text front after : List ℕ) → spelling m ≡ front → text ≡ front ++ after → length front ≡ n → Stands (m, n) text
stands m n text front after s e l = record { after = after; split = e ∙ ap (λ (f : List ℕ). f ++ after) (sym s); size = ap length s ∙ l }

assigned_at : (b c : ℕ) (cs : List ℕ) (short long : Mark) → spelling short ≡ b ∷ [] → spelling long ≡ b ∷ 61 ∷ [] → (t : Bool) → (c == 61) ≡ t → Stands (cond t (long, 2) (short, 1)) (b ∷ c ∷ cs)
assigned_at b c cs short long s l true e = stands long 2 (b ∷ c ∷ cs) (b ∷ 61 ∷ []) cs l (ap (λ (d : ℕ). b ∷ d ∷ cs) (eqb-true c 61 e)) refl
assigned_at b c cs short long s l false e = stands short 1 (b ∷ c ∷ cs) (b ∷ []) (c ∷ cs) s refl refl

assigned_stands : (b : ℕ) (rest : List ℕ) (short long : Mark) → spelling short ≡ b ∷ [] → spelling long ≡ b ∷ 61 ∷ [] → Stands (assigned rest short long) (b ∷ rest)
assigned_stands b [] short long s l = stands short 1 (b ∷ []) (b ∷ []) [] s refl refl
assigned_stands b (c ∷ cs) short long s l = assigned_at b c cs short long s l (c == 61) refl

doubled_at : (b c : ℕ) (cs : List ℕ) (short long double : Mark) → spelling short ≡ b ∷ [] → spelling long ≡ b ∷ 61 ∷ [] → spelling double ≡ b ∷ b ∷ [] → (t : Bool) → (c == b) ≡ t
    → Stands (cond t (double, 2) (assigned (c ∷ cs) short long)) (b ∷ c ∷ cs)
doubled_at b c cs short long double s l d true e = stands double 2 (b ∷ c ∷ cs) (b ∷ b ∷ []) cs d (ap (λ (d : ℕ). b ∷ d ∷ cs) (eqb-true c b e)) refl
doubled_at b c cs short long double s l d false e = assigned_stands b (c ∷ cs) short long s l

doubled_stands : (b : ℕ) (rest : List ℕ) (short long double : Mark) → spelling short ≡ b ∷ [] → spelling long ≡ b ∷ 61 ∷ [] → spelling double ≡ b ∷ b ∷ [] → Stands (doubled b rest short long double) (b ∷ rest)
doubled_stands b [] short long double s l d = stands short 1 (b ∷ []) (b ∷ []) [] s refl refl
doubled_stands b (c ∷ cs) short long double s l d = doubled_at b c cs short long double s l d (c == b) refl

twice_at : (b c d : ℕ) (cs : List ℕ) (double longest : Mark) → c ≡ b → spelling double ≡ b ∷ b ∷ [] → spelling longest ≡ b ∷ b ∷ 61 ∷ [] → (t : Bool) → (d == 61) ≡ t → Stands (cond t (longest, 3) (double, 2)) (b ∷ c ∷ d ∷ cs)
twice_at b c d cs double longest q s l true e =
    stands longest 3 (b ∷ c ∷ d ∷ cs) (b ∷ b ∷ 61 ∷ []) cs l (ap (λ (x : ℕ). b ∷ x ∷ d ∷ cs) q ∙ ap (λ (x : ℕ). b ∷ b ∷ x ∷ cs) (eqb-true d 61 e)) refl
twice_at b c d cs double longest q s l false e = stands double 2 (b ∷ c ∷ d ∷ cs) (b ∷ b ∷ []) (d ∷ cs) s (ap (λ (x : ℕ). b ∷ x ∷ d ∷ cs) q) refl

twice_stands : (b c : ℕ) (cs : List ℕ) (double longest : Mark) → c ≡ b → spelling double ≡ b ∷ b ∷ [] → spelling longest ≡ b ∷ b ∷ 61 ∷ [] → Stands (cond (next_is 61 cs) (longest, 3) (double, 2)) (b ∷ c ∷ cs)
twice_stands b c [] double longest q s l = stands double 2 (b ∷ c ∷ []) (b ∷ b ∷ []) [] s (ap (λ (x : ℕ). b ∷ x ∷ []) q) refl
twice_stands b c (d ∷ cs) double longest q s l = twice_at b c d cs double longest q s l (d == 61) refl

shifted_at : (b c : ℕ) (cs : List ℕ) (short long double longest : Mark) → spelling short ≡ b ∷ [] → spelling long ≡ b ∷ 61 ∷ [] → spelling double ≡ b ∷ b ∷ [] → spelling longest ≡ b ∷ b ∷ 61 ∷ [] → (t : Bool) → (c == b) ≡ t
    → Stands (cond t (cond (next_is 61 cs) (longest, 3) (double, 2)) (assigned (c ∷ cs) short long)) (b ∷ c ∷ cs)
shifted_at b c cs short long double longest s l d g true e = twice_stands b c cs double longest (eqb-true c b e) d g
shifted_at b c cs short long double longest s l d g false e = assigned_stands b (c ∷ cs) short long s l

shifted_stands : (b : ℕ) (rest : List ℕ) (short long double longest : Mark) → spelling short ≡ b ∷ [] → spelling long ≡ b ∷ 61 ∷ [] → spelling double ≡ b ∷ b ∷ [] → spelling longest ≡ b ∷ b ∷ 61 ∷ []
    → Stands (shifted b rest short long double longest) (b ∷ rest)
shifted_stands b [] short long double longest s l d g = stands short 1 (b ∷ []) (b ∷ []) [] s refl refl
shifted_stands b (c ∷ cs) short long double longest s l d g = shifted_at b c cs short long double longest s l d g (c == b) refl

dots_at : (c d : ℕ) (ds : List ℕ) (s : Mark × ℕ) (t u : Bool) → (c == 46) ≡ t → (d == 46) ≡ u → cond (t && u) (Some (mark.Ellipsis, 3)) None ≡ Some s → Stands s (46 ∷ c ∷ d ∷ ds)
dots_at c d ds s true true e f h =
    let i : (mark.Ellipsis, 3) ≡ s = cc in
    subst (λ (x : Mark × ℕ). Stands x (46 ∷ c ∷ d ∷ ds)) i
    (stands mark.Ellipsis 3 (46 ∷ c ∷ d ∷ ds) (46 ∷ 46 ∷ 46 ∷ []) ds refl (ap (λ (x : ℕ). 46 ∷ x ∷ d ∷ ds) (eqb-true c 46 e) ∙ ap (λ (x : ℕ). 46 ∷ 46 ∷ x ∷ ds) (eqb-true d 46 f)) refl)
dots_at c d ds s true false e f h = absurd cc
dots_at c d ds s false u e f h = absurd cc

one_dot : (t : Bool) (s : Mark × ℕ) → cond (t && false) (Some (mark.Ellipsis, 3)) None ≡ Some s → ⊥
one_dot true s e = cc
one_dot false s e = cc

dots_stands : (rest : List ℕ) (s : Mark × ℕ) → dots rest ≡ Some s → Stands s (46 ∷ rest)
dots_stands [] s e = absurd cc
dots_stands (c ∷ []) s e = absurd (one_dot (c == 46) s e)
dots_stands (c ∷ d ∷ ds) s e = dots_at c d ds s (c == 46) (d == 46) refl refl e

-- a sign of one byte
one_at : (b c : ℕ) (n m : Mark) (next : Option Mark) → spelling n ≡ c ∷ [] → (next ≡ Some m → spelling m ≡ b ∷ []) → (t : Bool) → (b == c) ≡ t → cond t (Some n) next ≡ Some m → spelling m ≡ b ∷ []
one_at b c n m next s h true f e =
    let i : n ≡ m = cc in
    subst (λ (k : Mark). spelling k ≡ b ∷ []) i (s ∙ ap (λ (d : ℕ). d ∷ []) (sym (eqb-true b c f)))
one_at b c n m next s h false f e = h e

single_sound : (b : ℕ) (m : Mark) → single b ≡ Some m → spelling m ≡ b ∷ []
single_sound b m =
    one_at b 40 mark.ParenOpen m _ refl (
    one_at b 41 mark.ParenClose m _ refl (
    one_at b 123 mark.BraceOpen m _ refl (
    one_at b 125 mark.BraceClose m _ refl (
    one_at b 91 mark.BracketOpen m _ refl (
    one_at b 93 mark.BracketClose m _ refl (
    one_at b 59 mark.Semicolon m _ refl (
    one_at b 44 mark.Comma m _ refl (
    one_at b 63 mark.Question m _ refl (
    one_at b 58 mark.Colon m _ refl (
    one_at b 126 mark.Inverse m _ refl (λ e. absurd cc) (b == 126) refl) (b == 58) refl) (b == 63) refl) (b == 44) refl) (b == 59) refl) (b == 93) refl) (b == 91) refl) (b == 125) refl) (b == 123) refl) (b == 41) refl) (b == 40) refl

single_stands : (b : ℕ) (rest : List ℕ) (s : Mark × ℕ) (o : Option Mark) → single b ≡ o → of_one o ≡ Some s → Stands s (b ∷ rest)
single_stands b rest s None e h = absurd cc
single_stands b rest s (Some m) e h =
    let i : (m, 1) ≡ s = cc in
    subst (λ (x : Mark × ℕ). Stands x (b ∷ rest)) i (stands m 1 (b ∷ rest) (b ∷ []) rest (single_sound b m e) refl refl)

dots_chain : (b : ℕ) (rest : List ℕ) (s : Mark × ℕ) (t : Bool) → (b == 46) ≡ t → cond t (dots rest) (of_one (single b)) ≡ Some s → Stands s (b ∷ rest)
dots_chain b rest s true e h = subst (λ (c : ℕ). Stands s (c ∷ rest)) (sym (eqb-true b 46 e)) (dots_stands rest s h)
dots_chain b rest s false e h = single_stands b rest s (single b) refl h

chain : (b c : ℕ) (rest : List ℕ) (x : Mark × ℕ) (next : Option (Mark × ℕ)) (s : Mark × ℕ) → Stands x (c ∷ rest) → (next ≡ Some s → Stands s (b ∷ rest)) → (t : Bool) → (b == c) ≡ t → cond t (Some x) next ≡ Some s → Stands s (b ∷ rest)
chain b c rest x next s k h true f e =
    let i : x ≡ s = cc in
    subst (λ (y : Mark × ℕ). Stands y (b ∷ rest)) i (subst (λ (d : ℕ). Stands x (d ∷ rest)) (sym (eqb-true b c f)) k)
chain b c rest x next s k h false f e = h e

-- a sign that is found stands there
pub sign_sound : (b : ℕ) (rest : List ℕ) (s : Mark × ℕ) → sign_of b rest ≡ Some s → Stands s (b ∷ rest)
sign_sound b rest s =
    chain b 61 rest _ _ s (assigned_stands 61 rest mark.Assign mark.Equal refl refl) (
    chain b 33 rest _ _ s (assigned_stands 33 rest mark.Not mark.NotEqual refl refl) (
    chain b 42 rest _ _ s (assigned_stands 42 rest mark.Star mark.StarAssign refl refl) (
    chain b 47 rest _ _ s (assigned_stands 47 rest mark.Slash mark.SlashAssign refl refl) (
    chain b 37 rest _ _ s (assigned_stands 37 rest mark.Percent mark.PercentAssign refl refl) (
    chain b 94 rest _ _ s (assigned_stands 94 rest mark.Xor mark.XorAssign refl refl) (
    chain b 43 rest _ _ s (doubled_stands 43 rest mark.Plus mark.PlusAssign mark.Increment refl refl refl) (
    chain b 45 rest _ _ s (doubled_stands 45 rest mark.Minus mark.MinusAssign mark.Decrement refl refl refl) (
    chain b 38 rest _ _ s (doubled_stands 38 rest mark.And mark.AndAssign mark.AndAnd refl refl refl) (
    chain b 124 rest _ _ s (doubled_stands 124 rest mark.Or mark.OrAssign mark.OrOr refl refl refl) (
    chain b 60 rest _ _ s (shifted_stands 60 rest mark.Less mark.LessEqual mark.ShiftLeft mark.ShiftLeftAssign refl refl refl refl) (
    chain b 62 rest _ _ s (shifted_stands 62 rest mark.Greater mark.GreaterEqual mark.ShiftRight mark.ShiftRightAssign refl refl refl refl) (
    dots_chain b rest s (b == 46) refl) (b == 62) refl) (b == 60) refl) (b == 124) refl) (b == 38) refl) (b == 45) refl) (b == 43) refl) (b == 94) refl) (b == 37) refl) (b == 47) refl) (b == 42) refl) (b == 33) refl) (b == 61) refl

-- the sign that a text begins with
abbrev pub sign_at : List ℕ → Option (Mark × ℕ)
sign_at [] = None
sign_at (b ∷ rest) = sign_of b rest

sign_some : (b : ℕ) (rest : List ℕ) (s : Mark × ℕ) → sign_of b rest ≡ Some s → 1 ≤ s.1
sign_some b rest s e = let i = sign_sound b rest s e in omega (arith, i.size, mark_some s.0)

exactly : (m : Mark) (n : ℕ) (s : Mark × ℕ) → Some (m, n) ≡ Some s → n ≤ s.1
exactly m n s e = let i : n ≡ s.1 = cc in omega arith

two_or : (m n : Mark) (s : Mark × ℕ) (t : Bool) → Some (cond t (m, 3) (n, 2)) ≡ Some s → 2 ≤ s.1
two_or m n s true e = let i : 3 ≡ s.1 = cc in omega arith
two_or m n s false e = let i : 2 ≡ s.1 = cc in omega arith

-- where a sign stands, one that is as long is found
at_least : (m : Mark) (rest : List ℕ) (s : Mark × ℕ) → begins is_word_byte (spelling m) ≡ false → sign_at (spelling m ++ rest) ≡ Some s → length (spelling m) ≤ s.1
at_least mark.ParenOpen rest s w e = sign_some 40 rest s e
at_least mark.ParenClose rest s w e = sign_some 41 rest s e
at_least mark.BraceOpen rest s w e = sign_some 123 rest s e
at_least mark.BraceClose rest s w e = sign_some 125 rest s e
at_least mark.BracketOpen rest s w e = sign_some 91 rest s e
at_least mark.BracketClose rest s w e = sign_some 93 rest s e
at_least mark.Semicolon rest s w e = sign_some 59 rest s e
at_least mark.Comma rest s w e = sign_some 44 rest s e
at_least mark.Question rest s w e = sign_some 63 rest s e
at_least mark.Colon rest s w e = sign_some 58 rest s e
at_least mark.Assign rest s w e = sign_some 61 rest s e
at_least mark.Less rest s w e = sign_some 60 rest s e
at_least mark.Greater rest s w e = sign_some 62 rest s e
at_least mark.Plus rest s w e = sign_some 43 rest s e
at_least mark.Minus rest s w e = sign_some 45 rest s e
at_least mark.Star rest s w e = sign_some 42 rest s e
at_least mark.Slash rest s w e = sign_some 47 rest s e
at_least mark.Percent rest s w e = sign_some 37 rest s e
at_least mark.And rest s w e = sign_some 38 rest s e
at_least mark.Or rest s w e = sign_some 124 rest s e
at_least mark.Xor rest s w e = sign_some 94 rest s e
at_least mark.Inverse rest s w e = sign_some 126 rest s e
at_least mark.Not rest s w e = sign_some 33 rest s e
at_least mark.Equal rest s w e = exactly mark.Equal 2 s e
at_least mark.NotEqual rest s w e = exactly mark.NotEqual 2 s e
at_least mark.LessEqual rest s w e = exactly mark.LessEqual 2 s e
at_least mark.GreaterEqual rest s w e = exactly mark.GreaterEqual 2 s e
at_least mark.ShiftLeft rest s w e = two_or mark.ShiftLeftAssign mark.ShiftLeft s (next_is 61 rest) e
at_least mark.ShiftRight rest s w e = two_or mark.ShiftRightAssign mark.ShiftRight s (next_is 61 rest) e
at_least mark.Increment rest s w e = exactly mark.Increment 2 s e
at_least mark.PlusAssign rest s w e = exactly mark.PlusAssign 2 s e
at_least mark.Decrement rest s w e = exactly mark.Decrement 2 s e
at_least mark.MinusAssign rest s w e = exactly mark.MinusAssign 2 s e
at_least mark.StarAssign rest s w e = exactly mark.StarAssign 2 s e
at_least mark.SlashAssign rest s w e = exactly mark.SlashAssign 2 s e
at_least mark.PercentAssign rest s w e = exactly mark.PercentAssign 2 s e
at_least mark.AndAnd rest s w e = exactly mark.AndAnd 2 s e
at_least mark.AndAssign rest s w e = exactly mark.AndAssign 2 s e
at_least mark.OrOr rest s w e = exactly mark.OrOr 2 s e
at_least mark.OrAssign rest s w e = exactly mark.OrAssign 2 s e
at_least mark.XorAssign rest s w e = exactly mark.XorAssign 2 s e
at_least mark.Ellipsis rest s w e = exactly mark.Ellipsis 3 s e
at_least mark.ShiftLeftAssign rest s w e = exactly mark.ShiftLeftAssign 3 s e
at_least mark.ShiftRightAssign rest s w e = exactly mark.ShiftRightAssign 3 s e
at_least m rest s w e = absurd (false≢true (sym w))

abbrev is_found : Option (Mark × ℕ) → Bool
is_found None = false
is_found (Some s) = true

some_found : (m : Mark) (rest : List ℕ) → (begins is_word_byte (spelling m) || is_found (sign_at (spelling m ++ rest))) ≡ true
some_found mark.ParenOpen rest = refl
some_found m rest = refl

not_found_at : (s t : Bool) (o : Option (Mark × ℕ)) → s ≡ false → o ≡ None → (s || is_found o) ≡ true → ⊥
not_found_at s t o e f h = let g : (s || is_found o) ≡ false = rw (e, f) refl in false≢true (sym g ∙ h)

same_sign : (b : ℕ) (rest after : List ℕ) (m : Mark) → b ∷ rest ≡ spelling m ++ after → sign_at (spelling m ++ after) ≡ sign_of b rest
same_sign b rest after m e = ap sign_at (sym e)

first_word : (b : ℕ) (rest after : List ℕ) (m : Mark) → b ∷ rest ≡ spelling m ++ after → is_word_byte b ≡ begins is_word_byte (spelling m)
first_word b rest after m e = mark_begins is_word_byte m (b ∷ rest) after e

-- where none is found, none stands
pub no_sign : (b : ℕ) (rest : List ℕ) → is_word_byte b ≡ false → sign_of b rest ≡ None → (m : Mark) (after : List ℕ) → b ∷ rest ≡ spelling m ++ after → ⊥
no_sign b rest w n m after e =
    not_found_at (begins is_word_byte (spelling m)) true (sign_at (spelling m ++ after)) (sym (first_word b rest after m e) ∙ w) (same_sign b rest after m e ∙ n) (some_found m after)

same_head : (b c : ℕ) (bs cs : List ℕ) → b ∷ bs ≡ c ∷ cs → (b ≡ c) × (bs ≡ cs)
same_head b c bs cs e = (cc, cc)

-- a sign that is found is whole, where no comment begins
pub sign_whole : (b : ℕ) (rest : List ℕ) (s : Mark × ℕ) → sign_of b rest ≡ Some s → is_word_byte b ≡ false → (b ≡ 47 → begins opens rest ≡ false) → (i : Stands s (b ∷ rest)) → IsWhole (spelling s.0) i.after
sign_whole b rest s e w c i = record {
  ended = λ h. absurd (false≢true (sym w ∙ first_word b rest i.after s.0 i.split ∙ h));
  longest = λ m after f.
      let g : b ∷ rest ≡ spelling m ++ after = i.split ∙ f in
      let l = at_least m after s (sym (first_word b rest after m g) ∙ w) (same_sign b rest after m g ∙ e) in
      omega (arith, i.size);
  alone = λ f.
      let q = same_head b 47 rest i.after (i.split ∙ ap (λ (l : List ℕ). l ++ i.after) f) in
      subst (λ (l : List ℕ). begins opens l ≡ false) q.1 (c q.0);
}

append_one : (a : List ℕ) (c : ℕ) (ds : List ℕ) → (a ++ c ∷ []) ++ ds ≡ a ++ c ∷ ds
append_one a c ds = append_assoc a (c ∷ []) ds

not_next_at : (m n : Mark) (c d : ℕ) (ds : List ℕ) → IsWhole (spelling m) (d ∷ ds) → spelling n ≡ spelling m ++ c ∷ [] → (t : Bool) → (d == c) ≡ t → t ≡ false
not_next_at m n c d ds w s true e =
    let q : spelling m ++ d ∷ ds ≡ spelling n ++ ds = ap (λ (x : ℕ). spelling m ++ x ∷ ds) (eqb-true d c e) ∙ sym (append_one (spelling m) c ds) ∙ ap (λ (l : List ℕ). l ++ ds) (sym s) in
    let l = w.longest n ds q in
    absurd (omega (arith, ap length s, length-append (spelling m) (c ∷ [])))
not_next_at m n c d ds w s false e = refl

-- what would make it longer does not follow
not_next : (m n : Mark) (c : ℕ) (after : List ℕ) → IsWhole (spelling m) after → spelling n ≡ spelling m ++ c ∷ [] → next_is c after ≡ false
not_next m n c [] w s = refl
not_next m n c (d ∷ ds) w s = not_next_at m n c d ds w s (d == c) refl

-- a whole sign is found
pub sign_complete : (m : Mark) (after : List ℕ) → begins is_word_byte (spelling m) ≡ false → IsWhole (spelling m) after → sign_at (spelling m ++ after) ≡ Some (m, length (spelling m))
sign_complete mark.ParenOpen after g w = refl
sign_complete mark.ParenClose after g w = refl
sign_complete mark.BraceOpen after g w = refl
sign_complete mark.BraceClose after g w = refl
sign_complete mark.BracketOpen after g w = refl
sign_complete mark.BracketClose after g w = refl
sign_complete mark.Semicolon after g w = refl
sign_complete mark.Comma after g w = refl
sign_complete mark.Question after g w = refl
sign_complete mark.Colon after g w = refl
sign_complete mark.Ellipsis after g w = refl
sign_complete mark.Assign after g w = rw (not_next mark.Assign mark.Equal 61 after w refl) refl
sign_complete mark.Equal after g w = refl
sign_complete mark.NotEqual after g w = refl
sign_complete mark.Less after g w = rw (not_next mark.Less mark.ShiftLeft 60 after w refl, not_next mark.Less mark.LessEqual 61 after w refl) refl
sign_complete mark.LessEqual after g w = refl
sign_complete mark.Greater after g w = rw (not_next mark.Greater mark.ShiftRight 62 after w refl, not_next mark.Greater mark.GreaterEqual 61 after w refl) refl
sign_complete mark.GreaterEqual after g w = refl
sign_complete mark.ShiftLeft after g w = rw (not_next mark.ShiftLeft mark.ShiftLeftAssign 61 after w refl) refl
sign_complete mark.ShiftRight after g w = rw (not_next mark.ShiftRight mark.ShiftRightAssign 61 after w refl) refl
sign_complete mark.ShiftLeftAssign after g w = refl
sign_complete mark.ShiftRightAssign after g w = refl
sign_complete mark.Plus after g w = rw (not_next mark.Plus mark.Increment 43 after w refl, not_next mark.Plus mark.PlusAssign 61 after w refl) refl
sign_complete mark.Increment after g w = refl
sign_complete mark.PlusAssign after g w = refl
sign_complete mark.Minus after g w = rw (not_next mark.Minus mark.Decrement 45 after w refl, not_next mark.Minus mark.MinusAssign 61 after w refl) refl
sign_complete mark.Decrement after g w = refl
sign_complete mark.MinusAssign after g w = refl
sign_complete mark.Star after g w = rw (not_next mark.Star mark.StarAssign 61 after w refl) refl
sign_complete mark.StarAssign after g w = refl
sign_complete mark.Slash after g w = rw (not_next mark.Slash mark.SlashAssign 61 after w refl) refl
sign_complete mark.SlashAssign after g w = refl
sign_complete mark.Percent after g w = rw (not_next mark.Percent mark.PercentAssign 61 after w refl) refl
sign_complete mark.PercentAssign after g w = refl
sign_complete mark.And after g w = rw (not_next mark.And mark.AndAnd 38 after w refl, not_next mark.And mark.AndAssign 61 after w refl) refl
sign_complete mark.AndAnd after g w = refl
sign_complete mark.AndAssign after g w = refl
sign_complete mark.Or after g w = rw (not_next mark.Or mark.OrOr 124 after w refl, not_next mark.Or mark.OrAssign 61 after w refl) refl
sign_complete mark.OrOr after g w = refl
sign_complete mark.OrAssign after g w = refl
sign_complete mark.Xor after g w = rw (not_next mark.Xor mark.XorAssign 61 after w refl) refl
sign_complete mark.XorAssign after g w = refl
sign_complete mark.Inverse after g w = refl
sign_complete mark.Not after g w = rw (not_next mark.Not mark.NotEqual 61 after w refl) refl
sign_complete m after g w = absurd (false≢true (sym g))
