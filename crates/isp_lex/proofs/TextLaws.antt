-- Texts in quotes.
use Rattle.std.proofs.Common.{◌≡◌, ℕ, suc, ◌+◌, Bool, true, false, cond, List, [], ◌∷◌, ◌++◌, length, Option, Some, None, refl, sym, ap, subst, ◌∙◌, arith, append_assoc}
use Rattle.std.specs.Prelude.{◌==◌, ◌||◌}
use Rattle.std.proofs.lemmas.Bool.{false≢true, eqb-true}
use Rattle.std.proofs.lemmas.Bool.Decides.{nat_tests}
use Rattle.std.proofs.lemmas.List.{append-nil}
use Rattle.isp_lex.specs.Bytes.{begins}
use Rattle.isp_lex.specs.Texts.{Decodes, nothing, plain, escape, escaped, is_plain}
use Rattle.isp_lex.specs.reader.Quotes.{goes_on, is_escape, is_some}

-- what a text says from a place on, where it is closed, and how many bytes there are up to its end with it; a backslash
-- may stand before the place
abbrev put : ℕ → ℕ → Option (List ℕ × ℕ) → Option (List ℕ × ℕ)
put b n None = None
put b n (Some r) = Some (b ∷ r.0, n + r.1)

abbrev put_escaped : Option ℕ → Option (List ℕ × ℕ) → Option (List ℕ × ℕ)
put_escaped None o = None
put_escaped (Some b) o = put b 2 o

abbrev pub text_at : Bool → List ℕ → Option (List ℕ × ℕ)
text_at true [] = None
text_at true (e ∷ bs) = put_escaped (escaped e) (text_at false bs)
text_at false [] = None
text_at false (b ∷ bs) = cond (b == 34) (Some ([], 1)) (cond (b == 92) (text_at true bs) (cond (is_plain b) (put b 1 (text_at false bs)) None))

abbrev over : List ℕ → ℕ → Option (List ℕ × ℕ) → Option (List ℕ × ℕ)
over bytes n None = None
over bytes n (Some r) = Some (bytes ++ r.0, n + r.1)

over_nil : (o : Option (List ℕ × ℕ)) → o ≡ over [] 0 o
over_nil None = refl
over_nil (Some r) = let e : r.1 ≡ 0 + r.1 = omega arith in ap (λ (n : ℕ). Some (r.0, n)) e

over_more : (b n k : ℕ) (bytes : List ℕ) (o : Option (List ℕ × ℕ)) → put b n (over bytes k o) ≡ over (b ∷ bytes) (n + k) o
over_more b n k bytes None = refl
over_more b n k bytes (Some r) = let e : n + (k + r.1) ≡ n + k + r.1 = omega arith in ap (λ (m : ℕ). Some (b ∷ (bytes ++ r.0), m)) e

plain_quote : (b : ℕ) → is_plain b ≡ true → (b == 34) ≡ false
plain_quote b e = grind (arith, nat_tests)

plain_back : (b : ℕ) → is_plain b ≡ true → (b == 92) ≡ false
plain_back b e = grind (arith, nat_tests)

sum_one : (n : ℕ) → 1 + n ≡ suc n
sum_one n = omega arith

sum_two : (n : ℕ) → 2 + n ≡ suc (suc n)
sum_two n = omega arith

-- what follows is read after what is said before it
text_over : {body bytes : List ℕ} → Decodes body bytes → (rest : List ℕ) → text_at false (body ++ rest) ≡ over bytes (length body) (text_at false rest)
text_over nothing rest = over_nil (text_at false rest)
text_over (plain b body bytes h d) rest =
    rw (h, plain_quote b h, plain_back b h, text_over d rest)
    (over_more b 1 (length body) bytes (text_at false rest) ∙ ap (λ (n : ℕ). over (b ∷ bytes) n (text_at false rest)) (sum_one (length body)))
text_over (escape e b body bytes h d) rest =
    rw (h, text_over d rest)
    (over_more b 2 (length body) bytes (text_at false rest) ∙ ap (λ (n : ℕ). over (b ∷ bytes) n (text_at false rest)) (sum_two (length body)))

-- a text that is closed
pub text_whole : {body bytes : List ℕ} → Decodes body bytes → (rest : List ℕ) → text_at false (body ++ 34 ∷ rest) ≡ Some (bytes, length body + 1)
text_whole {body} {bytes} d rest = text_over d (34 ∷ rest) ∙ ap (λ (l : List ℕ). Some (l, length body + 1)) (append-nil bytes)

pub or_false : (a b : Bool) → (a || b) ≡ false → (a ≡ false) × (b ≡ false)
or_false true b e = absurd (false≢true (sym e))
or_false false b e = (refl, e)

stopped : (rest : List ℕ) → begins goes_on rest ≡ false → text_at false rest ≡ None
stopped [] e = refl
stopped (b ∷ bs) e =
    let p = or_false (is_plain b) (b == 34 || b == 92) e in
    let q = or_false (b == 34) (b == 92) p.1 in
    rw (p.0, q.0, q.1) refl

no_escape : (o : Option ℕ) (r : Option (List ℕ × ℕ)) → is_some o ≡ false → put_escaped o r ≡ None
no_escape None r e = refl
no_escape (Some b) r e = absurd (false≢true (sym e))

stopped_escape : (rest : List ℕ) → begins is_escape rest ≡ false → text_at false (92 ∷ rest) ≡ None
stopped_escape [] e = refl
stopped_escape (b ∷ bs) e = no_escape (escaped b) (text_at false bs) e

-- a text that does not go on
pub text_stops : {body bytes : List ℕ} → Decodes body bytes → (rest : List ℕ) → begins goes_on rest ≡ false → text_at false (body ++ rest) ≡ None
text_stops {body} {bytes} d rest e = text_over d rest ∙ ap (over bytes (length body)) (stopped rest e)

pub text_stops_escape : {body bytes : List ℕ} → Decodes body bytes → (rest : List ℕ) → begins is_escape rest ≡ false → text_at false (body ++ 92 ∷ rest) ≡ None
text_stops_escape {body} {bytes} d rest e = text_over d (92 ∷ rest) ∙ ap (over bytes (length body)) (stopped_escape rest e)

-- what is said bit by bit

pub decodes_more : {a x : List ℕ} → Decodes a x → (b y : List ℕ) → Decodes b y → Decodes (a ++ b) (x ++ y)
decodes_more nothing b y e = e
decodes_more (plain c a x h d) b y e = plain c (a ++ b) (x ++ y) h (decodes_more d b y e)
decodes_more (escape c s a x h d) b y e = escape c s (a ++ b) (x ++ y) h (decodes_more d b y e)

-- a text that is found is there

abbrev said_of : Option (List ℕ × ℕ) → List ℕ
said_of None = []
said_of (Some r) = r.0

pub record Closed (text bytes : List ℕ) : Type 0 where
  pub body : List ℕ
  pub after : List ℕ
  pub split : text ≡ body ++ 34 ∷ after
  pub decoded : Decodes body bytes

-- from what a later part gives
abbrev Sound : List ℕ → Type 0
Sound text = (bytes : List ℕ) (n : ℕ) → text_at false text ≡ Some (bytes, n) → Closed text bytes

put_sound : (b n : ℕ) (front text : List ℕ) (o : Option (List ℕ × ℕ)) → text_at false text ≡ o → Sound text
    → ((body bytes : List ℕ) → Decodes body bytes → Decodes (front ++ body) (b ∷ bytes))
    → (bytes : List ℕ) (size : ℕ) → put b n o ≡ Some (bytes, size) → Closed (front ++ text) bytes
put_sound b n front text None q s more bytes size e = absurd cc
put_sound b n front text (Some r) q s more bytes size e =
    let c = s r.0 r.1 q in
    let i : b ∷ r.0 ≡ bytes = ap said_of e in
    subst (λ (l : List ℕ). Closed (front ++ text) l) i (record {
      body = front ++ c.body;
      after = c.after;
      split = ap (λ (l : List ℕ). front ++ l) c.split ∙ sym (append_assoc front c.body (34 ∷ c.after));
      decoded = more c.body r.0 c.decoded;
    })

escape_sound : (e : ℕ) (es : List ℕ) (o : Option ℕ) → escaped e ≡ o → Sound es → (bytes : List ℕ) (n : ℕ) → put_escaped o (text_at false es) ≡ Some (bytes, n) → Closed (92 ∷ e ∷ es) bytes
escape_sound e es None h s bytes n q = absurd cc
escape_sound e es (Some b) h s bytes n q = put_sound b 2 (92 ∷ e ∷ []) es (text_at false es) refl s (λ body said d. escape e b body said h d) bytes n q

plain_sound : (b : ℕ) (bs : List ℕ) (t : Bool) → is_plain b ≡ t → Sound bs → (bytes : List ℕ) (n : ℕ) → cond t (put b 1 (text_at false bs)) None ≡ Some (bytes, n) → Closed (b ∷ bs) bytes
plain_sound b bs true h s bytes n q = put_sound b 1 (b ∷ []) bs (text_at false bs) refl s (λ body said d. plain b body said h d) bytes n q
plain_sound b bs false h s bytes n q = absurd cc

back_sound : (b : ℕ) (bs : List ℕ) (t : Bool) → (b == 92) ≡ t → ((bytes : List ℕ) (n : ℕ) → text_at true bs ≡ Some (bytes, n) → Closed (92 ∷ bs) bytes) → Sound bs
    → (bytes : List ℕ) (n : ℕ) → cond t (text_at true bs) (cond (is_plain b) (put b 1 (text_at false bs)) None) ≡ Some (bytes, n) → Closed (b ∷ bs) bytes
back_sound b bs true h back s bytes n q = subst (λ (x : ℕ). Closed (x ∷ bs) bytes) (sym (eqb-true b 92 h)) (back bytes n q)
back_sound b bs false h back s bytes n q = plain_sound b bs (is_plain b) refl s bytes n q

quote_sound : (b : ℕ) (bs : List ℕ) (t : Bool) → (b == 34) ≡ t → ((bytes : List ℕ) (n : ℕ) → text_at true bs ≡ Some (bytes, n) → Closed (92 ∷ bs) bytes) → Sound bs
    → (bytes : List ℕ) (n : ℕ) → cond t (Some ([], 1)) (cond (b == 92) (text_at true bs) (cond (is_plain b) (put b 1 (text_at false bs)) None)) ≡ Some (bytes, n) → Closed (b ∷ bs) bytes
quote_sound b bs true h back s bytes n q =
    let i : [] ≡ bytes = ap said_of q in
    subst (λ (l : List ℕ). Closed (b ∷ bs) l) i (record { body = []; after = bs; split = ap (λ (x : ℕ). x ∷ bs) (eqb-true b 34 h); decoded = nothing })
quote_sound b bs false h back s bytes n q = back_sound b bs (b == 92) refl back s bytes n q

pub text_sound : (text : List ℕ) → Sound text
text_sound [] bytes n q = absurd cc
text_sound (b ∷ []) bytes n q = quote_sound b [] (b == 34) refl (λ more k p. absurd cc) (text_sound []) bytes n q
text_sound (b ∷ e ∷ es) bytes n q =
    quote_sound b (e ∷ es) (b == 34) refl (λ more k p. escape_sound e es (escaped e) refl (text_sound es) more k p) (text_sound (e ∷ es)) bytes n q
