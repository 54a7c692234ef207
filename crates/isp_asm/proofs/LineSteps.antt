-- A line of a text, as it is taken; and the lines after it.
use Rattle.std.specs.Prelude.{◌≡◌, ◌≢◌, ℕ, suc, ◌+◌, ◌<◌, ◌≤◌, Bool, true, false, not, ◌&&◌, ◌==◌, cond, length, get_or, List, [], ◌∷◌, ◌++◌, Option, Some, None, MatchOption, Result, Ok, Err, IfOk}
use Rattle.std.specs.Borrow.{Bor}
use Rattle.std.specs.List.{list_all, slice_split, onto_first}
use Rattle.std.proofs.Common.{refl, sym, ap, ◌∙◌, arith, append_assoc, add-one, ne_eqb}
use Rattle.std.proofs.lemmas.Bool.{and_parts, false≢true, true≢false}
use Rattle.std.proofs.lemmas.Bool.Decides.{nat_tests}
use Rattle.std.proofs.lemmas.List.{append-nil, length-append}
use Rattle.std.proofs.lemmas.Str.Pattern.{IsSplitOnceResult, split_parts}
use Rattle.std.proofs.lemmas.List.Concat.{flat_map-append}
use Rattle.isp_code.specs.Listing.{Listing}
use Rattle.isp_code.specs.Writable.{IsWritable}
use Rattle.isp_asm.specs.declared.fault.AsmFault.{AsmFault}
use Rattle.isp_asm.specs.declared.fault.AsmFault.TheVariants.{Memory, Refused}
use Rattle.isp_asm.specs.declared.fault.Fault.{Fault}
use Rattle.isp_asm.specs.declared.fault.Rule.{Rule}
use Rattle.isp_asm.specs.declared.fault.Rule.TheVariants.{BadLine}
use Rattle.isp_asm.specs.declared.fault.LineFault.{LineFault}
use Rattle.isp_asm.specs.declared.fault.LineFault.TheVariants as bad
use Rattle.isp_asm.specs.declared.head.Head.{Head}
use Rattle.isp_asm.specs.declared.line.Line as read
use Rattle.isp_asm.specs.declared.order.Kind.{Kind}
use Rattle.isp_asm.specs.Faults.{Seen, at, is_feed, is_space, line_fault, after_line, fault_from, fault_of, has_room, takes}
use Rattle.isp_asm.specs.Heads.{head_of, head_word}
use Rattle.isp_asm.specs.Order.{kind_of, may_end, may_follow}
use Rattle.isp_asm.specs.Forms.{is_empty}
use Rattle.isp_asm.specs.Spelling.{Line, line_words, line_text, lines_of, lines_text, text_of}
use Rattle.isp_asm.specs.reader.Drafting.{Drafted, AddsLine, IsDraft, drafted_lines, lines_by, seen_of, taken}
use Rattle.isp_asm.specs.reader.Reading.{Reads, Stands, fault_at, line_fits, line_head, said}
use Rattle.isp_asm.proofs.Drafts.{each, no, lines_taken, draft_taken, seen_taken}
use Rattle.isp_asm.proofs.HeadLaws.{head_found, head_spelled}
use Rattle.isp_asm.proofs.LineRights.{line_right, spelled_after, spelled_fine}
use Rattle.isp_asm.proofs.Splits.{line_body, line_text_is, split_at, split_none}
use Rattle.isp_asm.proofs.Steps.{HasPart, has_part, fault_from_step}
use Rattle.isp_asm.proofs.TextLaws.{faultless, one_text}

-- the words of a line, put together again, are the line
joined_at : (x : ℕ) (t : Bool) (parts : List (List ℕ)) → HasPart parts → (x == 32) ≡ t → line_body (cond t ([] ∷ parts) (onto_first x parts)) ≡ x ∷ line_body parts
joined_at x true parts h e =
    let i : x ≡ 32 = is_space_at x e in
    rw (h.is, i) refl
  where
    is_space_at : (x : ℕ) → (x == 32) ≡ true → x ≡ 32
    is_space_at x e = grind (arith, nat_tests)
joined_at x false parts h e = rw h.is refl

line_joined : (bs : List ℕ) → line_body (slice_split is_space bs) ≡ bs
line_joined [] = refl
line_joined (x ∷ xs) = joined_at x (x == 32) (slice_split is_space xs) (has_part is_space xs) refl ∙ ap (λ ys. x ∷ ys) (line_joined xs)

line_is : (l : Line) (text : List ℕ) → line_words l ≡ slice_split is_space text → line_text (line_words l) ≡ text ++ 10 ∷ []
line_is l text e = line_text_is (line_words l) ∙ ap (λ ws. line_body ws ++ 10 ∷ []) e ∙ ap (λ bs. bs ++ 10 ∷ []) (line_joined text)

lines_and : (ls : List Line) (l : Line) → lines_text (ls ++ l ∷ []) ≡ lines_text ls ++ line_text (line_words l)
lines_and ls l = flat_map-append (λ l. line_text (line_words l)) ls (l ∷ []) ∙ ap (λ bs. lines_text ls ++ bs) (append-nil (line_text (line_words l)))

-- the words after a first word are read as a line that may stand there
line_stands : (s : Seen) (ws : List (List ℕ)) (h : Head) (l : Line) → takes s (kind_of h) ≡ true → line_words l ≡ head_word h ∷ ws → line_fits l ≡ true → Stands s l
line_stands s ws h l stands words fits =
    let r = line_right l fits in
    let e : head_word (line_head l) ∷ r.operands ≡ head_word h ∷ ws = sym r.is ∙ words in
    let f : head_word (line_head l) ≡ head_word h = cc in
    let g : Some (line_head l) ≡ Some h = sym (head_found (line_head l)) ∙ ap head_of f ∙ head_found h in
    let i : line_head l ≡ h = cc in
    let q = and_parts (may_follow s.last (kind_of h)) (has_room s (kind_of h)) stands in
    record { fits = fits; follows = rw i q.0; room = rw i q.1 }

pub ok_stands : (s : Seen) (ws : List (List ℕ)) (h : Head) (r : Result read.Line LineFault) → takes s (kind_of h) ≡ true
    → IfOk r (λ l. line_words (said l) ≡ head_word h ∷ ws) → IfOk r (λ l. line_fits (said l) ≡ true) → IfOk r (λ l. Stands s (said l))
ok_stands s ws h (Ok l) stands words fits = line_stands s ws h (said l) stands words fits
ok_stands s ws h (Err e) stands words fits = tt

pub ok_words : (w : List ℕ) (ws : List (List ℕ)) (h : Head) (r : Result read.Line LineFault) → head_of w ≡ Some h → IfOk r (λ l. line_words (said l) ≡ head_word h ∷ ws) → IfOk r (λ l. line_words (said l) ≡ w ∷ ws)
ok_words w ws h (Ok l) is words = words ∙ ap (λ v. v ∷ ws) (head_spelled w h is)
ok_words w ws h (Err e) is words = tt

-- a line that reads is taken
pub line_added : (l : Line) (d : Drafted) (text : List ℕ) → IsDraft d → Reads (seen_of d) text l → AddsLine d (taken l d) text
line_added l d text i r =
    let s = line_right l r.stands.fits in
    record {
      draft = draft_taken l d i r.stands.follows r.stands.fits;
      lines = ap lines_text (lines_taken l d i r.stands.follows r.stands.fits) ∙ lines_and (drafted_lines d) l ∙ ap (λ bs. lines_text (drafted_lines d) ++ bs) (line_is l text r.words);
      seen = seen_taken l d i r.stands.follows ∙ sym (spelled_after (seen_of d) (line_head l) (line_words l) s) ∙ (rw r.words refl);
      fine = (rw (sym r.words) refl) ∙ spelled_fine (seen_of d) (line_head l) (line_words l) s r.stands.follows r.stands.room;
    }

-- ---- the lines of a text

no_feed : (xs : List ℕ) → ((i : ℕ) → i < length xs → get_or xs i 0 ≢ 10) → list_all (λ x. not (is_feed x)) xs ≡ true
no_feed [] h = refl
no_feed (x ∷ xs) h =
    let k : (i : ℕ) → i < length xs → get_or xs i 0 ≢ 10 = λ i l. h (suc i) (omega (arith, l)) in
    rw (ne_eqb x 10 (h 0 (omega arith)), no_feed xs k) refl

-- where the text is cut at its first line feed
pub feed_split : (rest : List ℕ) (r : Option (Bor (List ℕ) × Bor (List ℕ))) → IsSplitOnceResult 10 rest r
    → MatchOption r (slice_split is_feed rest ≡ rest ∷ [])
    (λ x. (rest ≡ x.0.now ++ (10 ∷ x.1.now)) × (slice_split is_feed rest ≡ x.0.now ∷ slice_split is_feed x.1.now))
feed_split rest None e =
    let p = split_parts 10 rest None e (omega arith) in
    ap (slice_split is_feed) (sym (append-nil rest)) ∙ split_none is_feed rest (no_feed rest p)
feed_split rest (Some x) e =
    let p = split_parts 10 rest (Some x) e (omega arith) in
    (p.0, ap (slice_split is_feed) p.0 ∙ split_at is_feed x.0.now 10 x.1.now (no_feed x.0.now p.1) refl)

-- a line without a fault leaves the fault to those after it
pub line_step : (s : Seen) (n : ℕ) (rest line behind : List ℕ) (f : Option Fault) → slice_split is_feed rest ≡ line ∷ slice_split is_feed behind
    → line_fault s line ≡ None → fault_from s n (slice_split is_feed rest) ≡ f
    → fault_from (after_line s line) (n + 1) (slice_split is_feed behind) ≡ f
line_step s n rest line behind f e none h =
    ap (λ m. fault_from (after_line s line) m (slice_split is_feed behind)) (add-one n)
    ∙ ap (λ (r : Option Rule). at n r (fault_from (after_line s line) (suc n) (slice_split is_feed behind))) (sym none)
    ∙ sym (fault_from_step is_feed s n line behind)
    ∙ ap (fault_from s n) (sym e)
    ∙ h

-- a line with a fault is the text's
pub line_wrong : (s : Seen) (n : ℕ) (rest line behind : List ℕ) (f : Option Fault) (r : Rule)
    → slice_split is_feed rest ≡ line ∷ slice_split is_feed behind → line_fault s line ≡ Some r → fault_from s n (slice_split is_feed rest) ≡ f
    → f ≡ Some (record { rule = r; line = n })
line_wrong s n rest line behind f r e wrong h =
    sym h
    ∙ ap (fault_from s n) e
    ∙ fault_from_step is_feed s n line behind
    ∙ ap (λ (q : Option Rule). at n q (fault_from (after_line s line) (suc n) (slice_split is_feed behind))) wrong

-- the text stops where it may not
pub end_wrong : (s : Seen) (n : ℕ) (rest : List ℕ) (f : Option Fault) → slice_split is_feed rest ≡ rest ∷ [] → (is_empty rest && may_end s.last) ≡ false → fault_from s n (slice_split is_feed rest) ≡ f → f ≡ Some (record { rule = BadLine; line = n })
end_wrong s n rest f e t h = sym h ∙ ap (fault_from s n) e ∙ (rw t refl)

-- ---- the code of a text

pub drafted_end : (d : Drafted) → may_end d.last ≡ true → drafted_lines d ≡ lines_of d.code
drafted_end d m = by d.last m
  where
    by : (k : Kind) → may_end k ≡ true → lines_by k d.code d.begun ≡ lines_of d.code
    by = each (λ k. may_end k ≡ true → lines_by k d.code d.begun ≡ lines_of d.code) no (λ m. refl) (λ m. refl) (λ m. refl) no no no no no no no (λ m. refl)

-- no other code has the text
pub only_code : (text : List ℕ) (d : Listing) → IsWritable d → text_of d ≡ text → (c : Listing) → IsWritable c → text_of c ≡ text → d ≡ c
only_code text d w e c v i = one_text d c w v (e ∙ sym i)

-- and it has no fault
pub only_memory : (text : List ℕ) (e : AsmFault) → ((f : Fault) → e ≡ Refused f → fault_of text ≡ Some f) → (c : Listing) → IsWritable c → text_of c ≡ text → e ≡ Memory
only_memory text Memory h c v i = refl
only_memory text (Refused f) h c v i =
    let none : fault_of text ≡ None = ap fault_of (sym i) ∙ faultless c v in
    let some : fault_of text ≡ Some f = h f refl in
    absurd cc

-- ---- the loop over the lines

-- what is read and what is left are the text
pub text_step : (a b line behind rest t : List ℕ) → b ≡ a ++ (line ++ 10 ∷ []) → rest ≡ line ++ (10 ∷ behind) → a ++ rest ≡ t → b ++ behind ≡ t
text_step a b line behind rest t e r h =
    ap (λ x. x ++ behind) e
    ∙ append_assoc a (line ++ 10 ∷ []) behind
    ∙ ap (λ x. a ++ x) (append_assoc line (10 ∷ []) behind)
    ∙ ap (λ x. a ++ x) (sym r)
    ∙ h

-- a line has a byte, its line feed
pub number_step : (n k : ℕ) (line behind rest : List ℕ) → rest ≡ line ++ (10 ∷ behind) → n + length rest ≤ k → n + 1 + length behind ≤ k
number_step n k line behind rest r h =
    let l : length rest ≡ length line + suc (length behind) = ap length r ∙ length-append line (10 ∷ behind) in
    omega (arith, l, h)

pub at_refused : (s : Seen) (n : ℕ) (rest line behind : List ℕ) (g : Option Fault) (e : LineFault) (a : AsmFault)
    → slice_split is_feed rest ≡ line ∷ slice_split is_feed behind → fault_from s n (slice_split is_feed rest) ≡ g
    → ((r : Rule) → e ≡ bad.Refused r → line_fault s line ≡ Some r) → a ≡ fault_at n e → (f : Fault) → a ≡ Refused f → g ≡ Some f
at_refused s n rest line behind g bad.Memory a split h wrong is f e = let none : ⊥ = cc in absurd none
at_refused s n rest line behind g (bad.Refused r) a split h wrong is f e =
    let i : record { rule = r; line = n } ≡ f = cc in
    line_wrong s n rest line behind g r split (wrong r refl) h ∙ ap (λ (f : Fault). Some f) i

pub end_found : (d : Drafted) (rest t : List ℕ) → lines_text (drafted_lines d) ++ rest ≡ t → rest ≡ [] → may_end d.last ≡ true → text_of d.code ≡ t
end_found d rest t h e m =
    sym (append-nil (text_of d.code))
    ∙ ap (λ ls. lines_text ls ++ []) (sym (drafted_end d m))
    ∙ ap (λ r. lines_text (drafted_lines d) ++ r) (sym e)
    ∙ h

pub no_end : (rest : List ℕ) (k : Kind) → may_end k ≡ false → (is_empty rest && may_end k) ≡ false
no_end [] k e = e
no_end (b ∷ bs) k e = refl

pub more_left : (rest : List ℕ) (k : Kind) → rest ≢ [] → (is_empty rest && may_end k) ≡ false
more_left [] k h = absurd (h refl)
more_left (b ∷ bs) k h = refl

pub end_refused : (s : Seen) (n : ℕ) (rest : List ℕ) (g : Option Fault) → slice_split is_feed rest ≡ rest ∷ []
    → (is_empty rest && may_end s.last) ≡ false → fault_from s n (slice_split is_feed rest) ≡ g → (f : Fault)
    → Refused (record { rule = BadLine; line = n }) ≡ Refused f → g ≡ Some f
end_refused s n rest g e t h f i =
    let j : record { rule = BadLine; line = n } ≡ f = cc in
    end_wrong s n rest g e t h ∙ ap (λ (f : Fault). Some f) j

pub empty_list : (bs : List ℕ) (t : Bool) → t ≡ (length bs == 0) → t ≡ true → bs ≡ []
empty_list [] t e f = refl
empty_list (b ∷ bs) t e f = absurd (false≢true (sym (ne_eqb (suc (length bs)) 0 (λ i. omega (arith, i))) ∙ sym e ∙ f))

pub some_list : (bs : List ℕ) (t : Bool) → t ≡ (length bs == 0) → t ≡ false → bs ≢ []
some_list [] t e f h = true≢false (sym e ∙ f)
some_list (b ∷ bs) t e f h = let none : ⊥ = cc in none
