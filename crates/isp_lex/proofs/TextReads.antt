-- What the loop over a text in quotes finds.
use Rattle.std.proofs.Common.{◌≡◌, ℕ, suc, ◌+◌, ◌<◌, ◌≤◌, Bool, true, false, cond, List, [], ◌∷◌, ◌++◌, length, get_or, drop, Option, Some, None, refl, sym, ap, subst, ◌∙◌, arith, length-append, length-drop, append_assoc}
use Rattle.std.specs.Prelude.{◌==◌}
use Rattle.std.proofs.lemmas.Bool.{false≢true, eqb-true}
use Rattle.std.proofs.lemmas.List.{drop-drop, get_or-drop}
use Rattle.std.proofs.lemmas.Str.{IsCharBoundary-after_ascii}
use Rattle.isp_lex.specs.declared.fault.Rule.TheVariants.{BadText}
use Rattle.isp_lex.specs.declared.quotes.Said.TheVariants as said
use Rattle.isp_lex.specs.declared.token.TokenKind.TheVariants as kind
use Rattle.isp_lex.specs.Bytes.{begins, next_is}
use Rattle.isp_lex.specs.Faults.{fault}
use Rattle.isp_lex.specs.Lexing.{IsFault, bad_text, IsWhole, span}
use Rattle.isp_lex.specs.reader.Pieces.{Front}
use Rattle.isp_lex.specs.reader.Quotes.{Says, escape_at, escape_of, said_at}
use Rattle.isp_lex.specs.Texts.{Decodes, nothing, plain, escape, escaped, is_plain}
use Rattle.isp_lex.specs.reader.Quotes.{goes_on, is_escape, is_some}
use Rattle.isp_lex.proofs.Spellings.{mark_begins, mark_quote}
use Rattle.isp_lex.proofs.TextLaws.{decodes_more}
use Rattle.isp_lex.proofs.TextStops.{bad_stops, escape_stops}

-- so many bytes say this byte
record Unit_of (rest : List ℕ) (b n : ℕ) : Type 0 where
  front : List ℕ
  split : rest ≡ front ++ drop n rest
  size : length front ≡ n
  decoded : Decodes front (b ∷ [])

escape_unit : (e b n : ℕ) (es : List ℕ) (o : Option ℕ) → escaped e ≡ o → escape_of o ≡ said.Byte b n → Unit_of (92 ∷ e ∷ es) b n
escape_unit e b n es None h q = absurd cc
escape_unit e b n es (Some d) h q =
    let i : d ≡ b = cc in
    let j : 2 ≡ n = cc in
    subst (λ (m : ℕ). Unit_of (92 ∷ e ∷ es) b m) j
    (record { front = 92 ∷ e ∷ []; split = refl; size = refl; decoded = escape e b [] [] (h ∙ ap (λ (x : ℕ). Some x) i) nothing })

back_unit : (b n : ℕ) (cs : List ℕ) → escape_at cs ≡ said.Byte b n → Unit_of (92 ∷ cs) b n
back_unit b n [] q = absurd cc
back_unit b n (e ∷ es) q = escape_unit e b n es (escaped e) refl q

plain_unit : (c b n : ℕ) (cs : List ℕ) (t : Bool) → is_plain c ≡ t → cond t (said.Byte c 1) (said.Stops 0) ≡ said.Byte b n → Unit_of (c ∷ cs) b n
plain_unit c b n cs true h q =
    let i : c ≡ b = cc in
    let j : 1 ≡ n = cc in
    subst (λ (m : ℕ). Unit_of (c ∷ cs) b m) j
    (subst (λ (x : ℕ). Unit_of (c ∷ cs) x 1) i (record { front = c ∷ []; split = refl; size = refl; decoded = plain c [] [] h nothing }))
plain_unit c b n cs false h q = absurd cc

unit_at : (c b n : ℕ) (cs : List ℕ) (t : Bool) → (c == 92) ≡ t → cond t (escape_at cs) (cond (is_plain c) (said.Byte c 1) (said.Stops 0)) ≡ said.Byte b n → Unit_of (c ∷ cs) b n
unit_at c b n cs true h q = subst (λ (x : ℕ). Unit_of (x ∷ cs) b n) (sym (eqb-true c 92 h)) (back_unit b n cs q)
unit_at c b n cs false h q = plain_unit c b n cs (is_plain c) refl q

said_unit : (rest : List ℕ) (b n : ℕ) → said_at rest ≡ said.Byte b n → Unit_of rest b n
said_unit [] b n q = absurd cc
said_unit (c ∷ cs) b n q = unit_at c b n cs (c == 92) refl q

-- the quote
pub says_start : (text : List ℕ) → next_is 34 text ≡ true → Says text 1 []
says_start [] e = absurd (false≢true e)
says_start (b ∷ bs) e = record { body = []; split = ap (λ (x : ℕ). x ∷ bs) (eqb-true b 34 e); size = refl; decoded = nothing }

-- one more
pub says_more : (text : List ℕ) (at : ℕ) (bytes : List ℕ) (b n : ℕ) → Says text at bytes → said_at (drop at text) ≡ said.Byte b n → Says text (at + n) (bytes ++ b ∷ [])
says_more text at bytes b n s q =
    let w = said_unit (drop at text) b n q in
    let e : drop at text ≡ w.front ++ drop (at + n) text = w.split ∙ ap (λ (l : List ℕ). w.front ++ l) (drop-drop n at text) in
    record {
      body = s.body ++ w.front;
      split = s.split ∙ ap (λ (l : List ℕ). 34 ∷ (s.body ++ l)) e ∙ ap (λ (l : List ℕ). 34 ∷ l) (sym (append_assoc s.body w.front (drop (at + n) text)));
      size = omega (arith, s.size, w.size, length-append s.body w.front);
      decoded = decodes_more s.decoded w.front (b ∷ []) w.decoded;
    }

pub says_within : (text : List ℕ) (at : ℕ) (bytes : List ℕ) → Says text at bytes → at ≤ length text
says_within text at bytes s = omega (arith, s.size, ap length s.split, length-append s.body (drop at text))

goes_not : (b : ℕ) (t u v : Bool) → is_plain b ≡ t → (b == 34) ≡ u → (b == 92) ≡ v → t ≡ false → u ≡ false → v ≡ false → goes_on b ≡ false
goes_not b t u v e f g h i j = rw (e ∙ h, f ∙ i, g ∙ j) refl

none_is : (o : Option ℕ) → o ≡ None → is_some o ≡ false
none_is o e = ap is_some e

-- the fault that stands there
bad_here : (place : ℕ) (body bytes rest : List ℕ) → Decodes body bytes → begins goes_on rest ≡ false → IsFault place (34 ∷ (body ++ rest)) (fault BadText (span place (suc (length body + 0))))
bad_here place body bytes rest d e =
    let n : suc (length body) ≡ suc (length body + 0) = omega arith in
    subst (λ (k : ℕ). IsFault place (34 ∷ (body ++ rest)) (fault BadText (span place k))) n (bad_text place (34 ∷ body) rest (bad_stops body bytes rest d e))

escape_here : (place : ℕ) (body bytes rest : List ℕ) → Decodes body bytes → begins is_escape rest ≡ false → IsFault place (34 ∷ (body ++ 92 ∷ rest)) (fault BadText (span place (suc (length body + 1))))
escape_here place body bytes rest d e =
    let n : suc (length (body ++ 92 ∷ [])) ≡ suc (length body + 1) = omega (arith, length-append body (92 ∷ [])) in
    subst (λ (l : List ℕ). IsFault place (34 ∷ l) (fault BadText (span place (suc (length body + 1))))) (append_assoc body (92 ∷ []) rest)
    (subst (λ (k : ℕ). IsFault place (34 ∷ ((body ++ 92 ∷ []) ++ rest)) (fault BadText (span place k))) n (bad_text place (34 ∷ (body ++ 92 ∷ [])) rest (escape_stops body bytes rest d e)))

-- how far a text goes on
abbrev pub Ends : List ℕ → ℕ → Type 0
Ends rest n = (place : ℕ) (body bytes : List ℕ) → Decodes body bytes → IsFault place (34 ∷ (body ++ rest)) (fault BadText (span place (suc (length body + n))))

ends_here : (rest : List ℕ) (n : ℕ) → 0 ≡ n → begins goes_on rest ≡ false → Ends rest n
ends_here rest n e h place body bytes d =
    subst (λ (k : ℕ). IsFault place (34 ∷ (body ++ rest)) (fault BadText (span place (suc (length body + k))))) e (bad_here place body bytes rest d h)

ends_escape : (rest : List ℕ) (n : ℕ) → 1 ≡ n → begins is_escape rest ≡ false → Ends (92 ∷ rest) n
ends_escape rest n e h place body bytes d =
    subst (λ (k : ℕ). IsFault place (34 ∷ (body ++ 92 ∷ rest)) (fault BadText (span place (suc (length body + k))))) e (escape_here place body bytes rest d h)

ends_escaped : (e n : ℕ) (es : List ℕ) (o : Option ℕ) → escaped e ≡ o → escape_of o ≡ said.Stops n → Ends (92 ∷ e ∷ es) n
ends_escaped e n es None h q = let i : 1 ≡ n = cc in ends_escape (e ∷ es) n i (none_is (escaped e) h)
ends_escaped e n es (Some d) h q = absurd cc

ends_back : (n : ℕ) (cs : List ℕ) → escape_at cs ≡ said.Stops n → Ends (92 ∷ cs) n
ends_back n [] q = let i : 1 ≡ n = cc in ends_escape [] n i refl
ends_back n (e ∷ es) q = ends_escaped e n es (escaped e) refl q

ends_plain : (c n : ℕ) (cs : List ℕ) (t : Bool) → is_plain c ≡ t → (c == 34) ≡ false → (c == 92) ≡ false → cond t (said.Byte c 1) (said.Stops 0) ≡ said.Stops n → Ends (c ∷ cs) n
ends_plain c n cs true h i j q = absurd cc
ends_plain c n cs false h i j q = let k : 0 ≡ n = cc in ends_here (c ∷ cs) n k (goes_not c false false false h i j refl refl refl)

ends_at : (c n : ℕ) (cs : List ℕ) (t : Bool) → (c == 92) ≡ t → (c == 34) ≡ false → cond t (escape_at cs) (cond (is_plain c) (said.Byte c 1) (said.Stops 0)) ≡ said.Stops n → Ends (c ∷ cs) n
ends_at c n cs true h i q = subst (λ (x : ℕ). Ends (x ∷ cs) n) (sym (eqb-true c 92 h)) (ends_back n cs q)
ends_at c n cs false h i q = ends_plain c n cs (is_plain c) refl i h q

said_ends : (rest : List ℕ) (n : ℕ) → next_is 34 rest ≡ false → said_at rest ≡ said.Stops n → Ends rest n
said_ends [] n h q = let i : 0 ≡ n = cc in ends_here [] n i refl
said_ends (c ∷ cs) n h q = ends_at c n cs (c == 92) refl h q

-- the fault of a text that stops
pub says_stops : (text : List ℕ) (at : ℕ) (bytes : List ℕ) (n place : ℕ) → Says text at bytes → next_is 34 (drop at text) ≡ false
    → said_at (drop at text) ≡ said.Stops n → IsFault place text (fault BadText (record { start = place; end = place + at + n }))
says_stops text at bytes n place s h q =
    let f = said_ends (drop at text) n h q place s.body bytes s.decoded in
    let e : place + suc (length s.body + n) ≡ place + at + n = omega (arith, s.size) in
    subst (λ (k : ℕ). IsFault place text (fault BadText (record { start = place; end = k }))) e
    (subst (λ (l : List ℕ). IsFault place l (fault BadText (span place (suc (length s.body + n))))) (sym s.split) f)

-- how far it goes on is within the text
escape_within : (n : ℕ) (o : Option ℕ) (k : ℕ) → escape_of o ≡ said.Stops n → n ≤ suc (suc k)
escape_within n None k q = let i : 1 ≡ n = cc in omega arith
escape_within n (Some d) k q = absurd cc

stops_within_at : (c n : ℕ) (cs : List ℕ) (t u : Bool) → cond t (escape_at cs) (cond u (said.Byte c 1) (said.Stops 0)) ≡ said.Stops n → n ≤ suc (length cs)
stops_within_at c n [] true u q = let i : 1 ≡ n = cc in omega arith
stops_within_at c n (e ∷ es) true u q = escape_within n (escaped e) (length es) q
stops_within_at c n cs false true q = absurd cc
stops_within_at c n cs false false q = let i : 0 ≡ n = cc in omega arith

pub stops_within : (rest : List ℕ) (n : ℕ) → said_at rest ≡ said.Stops n → n ≤ length rest
stops_within [] n q = let i : 0 ≡ n = cc in omega arith
stops_within (c ∷ cs) n q = stops_within_at c n cs (c == 92) (is_plain c) q

pub says_length : (text : List ℕ) (at n : ℕ) → at ≤ length text → n ≤ length (drop at text) → at + n ≤ length text
says_length text at n h i = omega (arith, length-drop at text)

-- a byte that is said stands within the text
pub unit_within : (rest : List ℕ) (b n : ℕ) → said_at rest ≡ said.Byte b n → n ≤ length rest
unit_within rest b n q = let w = said_unit rest b n q in omega (arith, w.size, ap length w.split, length-append w.front (drop n rest))

decodes_some : {body : List ℕ} {b : ℕ} {bytes : List ℕ} → Decodes body (b ∷ bytes) → 0 < length body
decodes_some (plain b body bytes h d) = omega arith
decodes_some (escape e b body bytes h d) = omega arith

pub unit_some : (rest : List ℕ) (b n : ℕ) → said_at rest ≡ said.Byte b n → 0 < n
unit_some rest b n q = let w = said_unit rest b n q in omega (arith, w.size, decodes_some w.decoded)

quote_split : (rest : List ℕ) → next_is 34 rest ≡ true → rest ≡ 34 ∷ drop 1 rest
quote_split [] e = absurd (false≢true e)
quote_split (b ∷ bs) e = ap (λ (x : ℕ). x ∷ bs) (eqb-true b 34 e)

no_slash : (body : List ℕ) → 34 ∷ body ≡ 47 ∷ [] → ⊥
no_slash body e = cc

first_at : (text : List ℕ) (at : ℕ) (rest : List ℕ) → drop at text ≡ 34 ∷ rest → get_or text at 0 ≡ 34
first_at text at rest e = let g : get_or (drop at text) 0 0 ≡ 34 = ap (λ (l : List ℕ). get_or l 0 0) e in let h = get_or-drop at text 0 0 in let k : at + 0 ≡ at = omega arith in ap (λ (n : ℕ). get_or text n 0) (sym k) ∙ sym h ∙ g

-- a text in quotes is whole
pub quoted_whole : (body after : List ℕ) → IsWhole (34 ∷ body) after
quoted_whole body after = record {
  ended = λ e. absurd (false≢true e);
  longest = λ m rest e. let q : next_is 34 (34 ∷ (body ++ after)) ≡ false = mark_begins (λ b. b == 34) m (34 ∷ (body ++ after)) rest e ∙ mark_quote m in absurd (false≢true (sym q));
  alone = λ e. absurd (no_slash body e);
}

-- the text that is closed stands at the front
pub says_closed : (text : List ℕ) (at : ℕ) (bytes : List ℕ) → Says text at bytes → next_is 34 (drop at text) ≡ true → Front text (record { token = Some (kind.Text bytes); len = at + 1 })
says_closed text at bytes s e =
    let q : drop at text ≡ 34 ∷ drop (at + 1) text = quote_split (drop at text) e ∙ ap (λ (l : List ℕ). 34 ∷ l) (drop-drop 1 at text) in
    let w : text ≡ (34 ∷ (s.body ++ 34 ∷ [])) ++ drop (at + 1) text =
    s.split ∙ ap (λ (l : List ℕ). 34 ∷ (s.body ++ l)) q ∙ ap (λ (l : List ℕ). 34 ∷ l) (sym (append_assoc s.body (34 ∷ []) (drop (at + 1) text))) in
    let first : get_or text at 0 ≡ 34 = first_at text at (drop (at + 1) text) q in
    let low : at < length text = omega (arith, s.size, ap length w, length-append (34 ∷ (s.body ++ 34 ∷ [])) (drop (at + 1) text), length-append s.body (34 ∷ [])) in
    record {
      text = 34 ∷ (s.body ++ 34 ∷ []);
      after = drop (at + 1) text;
      split = w;
      size = omega (arith, s.size, length-append s.body (34 ∷ []));
      some = omega arith;
      cut = λ i. IsCharBoundary-after_ascii text at i low (omega (arith, first));
      passes = ((s.body, refl, s.decoded), quoted_whole (s.body ++ 34 ∷ []) (drop (at + 1) text));
    }
